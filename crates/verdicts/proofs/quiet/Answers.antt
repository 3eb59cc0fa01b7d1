use mathlib.Core.Path.{ap, ◌∙◌}
use Rattle.rules.specs.declared.Core.{Core}
use Rattle.rules.specs.Checks.{quietly}
use Rattle.changes.specs.declared.Change.{Change}
use Rattle.changes.specs.Changes.{affected, changed, EffectFits}
use Rattle.verdicts.proofs.quiet.Goals as goal

pub returns : goal.returns
unfolding affected EffectFits
returns c =
    λ (k : Core). (c.with_change.ensures.0 k ∙ ap (λ (change : Change). quietly (changed k change) c.args.name) c.change_by.ensures, rw (c.with_change.ensures.1, c.change_by.ensures) tt)
