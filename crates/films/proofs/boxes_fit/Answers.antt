use mathlib.Core.Path.{sym, ◌∙◌}
use Rattle.names.proofs.Tests.{and_passed}
use Rattle.films.proofs.Boxes.{others_blank}
use Rattle.films.proofs.boxes_fit.Goals as goal

pub returns-then-boxes_sound : goal.returns-then-boxes_sound
returns-then-boxes_sound c =
    let a = c.args in
    and_passed _ c.boxes_sound.ensures c.if-boxes_sound.true (c.zeros_in.ensures ∙ sym (others_blank a.b.now a.p a.boxes c.requires.1 c.requires.0))
