use Prim.Native.Nat.{◌+◌}
use mathlib.Core.Path.{◌≡◌, refl, ◌∙◌}
use Rattle.choice.specs.Pick.{both}
use Rattle.octets.specs.Octets.{part, same}
use Rattle.rules.specs.Values.{trimmed, label_allowed}
use Rattle.rules.specs.Sound.{zeros}
use Rattle.names.proofs.Tests.{and_passed, and_failed}
use Rattle.sessions.proofs.InPlace.{label_long, label_told}
use Rattle.sessions.proofs.label_sound.Goals as goal
use Rattle.sessions.proofs.label_sound.Goals.{then-label_allowed, else-label_allowed}

pub returns-then-used-gt-TEXT : goal.returns-then-used-gt-TEXT
returns-then-used-gt-TEXT c = label_long c.args.b.now c.args.at c.requires _ c.from-used.ensures c.if-used-gt-TEXT.true

pub returns-then-is_trimmed : goal.returns-then-is_trimmed
returns-then-is_trimmed c =
    let label = part c.args.b.now (c.args.at + 1) (c.args.at + 1 + c.from-used.result) in
    let text : c.if-label_allowed.value ≡ both (label_allowed label) (same (trimmed label) label) =
    elim c.if-label_allowed.branch [
      | then-label_allowed w ↦ and_passed _ c.label_allowed.ensures w.if-label_allowed.true (w.value-is ∙ w.is_trimmed.ensures)
      | else-label_allowed w ↦ and_failed _ c.label_allowed.ensures w.if-label_allowed.false w.value-is
    ] in
    label_told c.args.b.now c.args.at c.requires _ c.from-used.ensures _ c.if-used-gt-TEXT.false (and_passed _ text c.if-is_trimmed.true c.zeros_in.ensures)

pub returns-else-is_trimmed : goal.returns-else-is_trimmed
returns-else-is_trimmed c =
    let start = c.args.at + 1 in
    let label = part c.args.b.now start (start + c.from-used.result) in
    let text : c.if-label_allowed.value ≡ both (label_allowed label) (same (trimmed label) label) =
    elim c.if-label_allowed.branch [
      | then-label_allowed w ↦ and_passed _ c.label_allowed.ensures w.if-label_allowed.true (w.value-is ∙ w.is_trimmed.ensures)
      | else-label_allowed w ↦ and_failed _ c.label_allowed.ensures w.if-label_allowed.false w.value-is
    ] in
    label_told c.args.b.now c.args.at c.requires _ c.from-used.ensures _ c.if-used-gt-TEXT.false
    (and_failed (zeros (part c.args.b.now (start + c.from-used.result) (start + 64))) text c.if-is_trimmed.false refl)
