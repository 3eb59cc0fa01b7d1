use Rattle.opening.proofs.Blank.{zeros_laid}
use Rattle.opening.proofs.put_zeros.Goals as goal

pub returns : goal.returns
returns c =
    let a = c.args in
    zeros_laid a.s.now _ a.from a.end c.requires.0 c.requires.1 (c.fill.ensures.after (λ y e. e))
