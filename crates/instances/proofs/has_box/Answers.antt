use mathlib.Core.Path.{sym, ap, ◌∙◌}
use borrow.Author.Tests.{lt-leb}
use Rattle.rules.specs.Records.{box_count}
use Rattle.rules.specs.Layout.{film_format}
use Rattle.instances.proofs.Serials.{box_below, box_within}
use Rattle.instances.proofs.InPlace.{film_layout}
use Rattle.instances.proofs.has_box.Goals as goal

pub returns-then-first-serial : goal.returns-then-first-serial
returns-then-first-serial c =
    let a = c.args in
    let count = c.box_count_at.ensures.0 ∙ ap box_count (sym (film_layout a.b.now a.p)) in
    box_within (film_format.read a.b.now a.p) a.serial _ c.first_at-first.ensures.0 c.if-first-serial.true _ count

pub returns-else-first-serial : goal.returns-else-first-serial
returns-else-first-serial c =
    let a = c.args in
    lt-leb _ _ c.if-first-serial.false ∙ box_below (film_format.read a.b.now a.p) a.serial _ c.first_at-first.ensures.0 c.if-first-serial.false
