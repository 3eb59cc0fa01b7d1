use mathlib.Core.Path.{ap, ◌∙◌}
use Rattle.octets.specs.Octets.{same}
use Rattle.records.specs.Places.{numbers_in}
use Rattle.instances.proofs.InPlace.{sent_read, made_read}
use Rattle.instances.proofs.is_name.Goals as goal

pub returns-then-made-eq0 : goal.returns-then-made-eq0
returns-then-made-eq0 c =
    let a = c.args in
    let b = a.b.now in
    c.same_bytes.ensures ∙ ap (same a.uid.now) (c.front.ensures ∙ sent_read b a.p (numbers_in b) _ c.u32_at-made.ensures.0 c.requires.0 c.if-made-eq0.true _ c.from.ensures)

pub returns : goal.returns
returns c =
    let a = c.args in
    let b = a.b.now in
    made_read b a.p (numbers_in b) _ c.u32_at-made.ensures.0 a.uid.now a.serial c.requires.1 c.if-made-eq0.false c.u32_at-made.ensures.1
