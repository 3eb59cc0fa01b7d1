use mathlib.Core.Path.{refl, ap, subst}
use mathlib.Core.Logic.{inl, inr}
use native.Mathlib.Omega.{arith}
use lib.ListN.{length}
use Rattle.rules.specs.Attributes.{is_fill}
use Rattle.finding.specs.Gathered.{ascending}
use Rattle.boxes.specs.Images.{ImageWithin}
use Rattle.boxes.proofs.Laws.{keeps_read, item_read}
use Rattle.boxes.proofs.item_gathered.Goals as goal

pub gathered-requires : goal.gathered-requires
unfolding ascending
gathered-requires c =
    let w = subst (ImageWithin (length c.args.d.now)) c.in-Fills.is c.requires in
    (omega arith, (omega arith, (w.0, w.1, refl)))

pub returns-in-Keeps : goal.returns-in-Keeps
returns-in-Keeps c =
    let d = c.args.d.now in
    let read = keeps_read d c.args.syntax c.args.image in
    elim c.in-Keeps.is [ inl e ↦ read (ap is_fill e) | inr f ↦ elim f [ inl e ↦ read (ap is_fill e) | inr e ↦ read (ap is_fill e) ] ]

pub returns-in-Fills : goal.returns-in-Fills
returns-in-Fills c =
    item_read _ _ _ _ _ c.requires c.in-Fills.is c.gathered.ensures
