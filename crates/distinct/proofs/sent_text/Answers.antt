use mathlib.Core.Path.{sym, ◌∙◌}
use Rattle.distinct.proofs.InPlace.{name_used, name_text}
use Rattle.distinct.proofs.sent_text.Goals as goal

pub returns : goal.returns
returns c =
    let b = c.args.b.now in
    let p = c.args.p in
    c.front.ensures ∙ sym (rw (name_used b p, name_text b p c.requires, ← c.from.ensures))
