use Prim.Native.Nat.{◌+◌}
use mathlib.Core.Path.{◌≡◌, refl, ◌∙◌}
use mathlib.Core.Bool.{true, false}
use borrow.Author.Rules.{rules}
use Rattle.choice.specs.Pick.{both, not}
use Rattle.choice.proofs.Picks.{nots}
use Rattle.octets.specs.Octets.{part}
use Rattle.uids.specs.Uids.{is_uid, begins_with}
use Rattle.rules.specs.Records.{root_of}
use Rattle.records.specs.Places.{numbers_in}
use Rattle.rules.specs.Sound.{between, zeros}
use Rattle.names.proofs.InPlace.{sent_unfit, sent_told}
use Rattle.names.proofs.Tests.{and_passed, and_failed}
use Rattle.names.proofs.sent_sound.Goals as goal
use Rattle.names.proofs.sent_sound.Goals.{then-is_uid, else-is_uid}

pub returns-then-not-contains : goal.returns-then-not-contains
returns-then-not-contains c =
    let unfit : between 1 64 c.from-used.result ≡ false = search rules in
    sent_unfit (numbers_in c.args.b.now) c.args.b.now c.args.p c.requires.1 (rw (← c.from-used.ensures) unfit)

pub returns-then-not-begins_with : goal.returns-then-not-begins_with
returns-then-not-begins_with c =
    let b = c.args.b.now in
    let text = c.args.p + 4 + 1 in
    let uid = part b text (text + c.from-used.result) in
    let fit : between 1 64 c.from-used.result ≡ true = search rules in
    let unrooted : c.if-is_uid.value ≡ both (is_uid uid) (not (begins_with (root_of (numbers_in b)) uid)) =
    elim c.if-is_uid.branch [
      | then-is_uid w ↦ and_passed _ c.is_uid.ensures w.if-is_uid.true (w.value-is ∙ rw (w.begins_with.ensures, w.root_in.ensures) (nots _))
      | else-is_uid w ↦ and_failed _ c.is_uid.ensures w.if-is_uid.false w.value-is
    ] in
    sent_told (numbers_in b) b c.args.p c.requires.1 _ (rw (← c.from-used.ensures) fit)
    (rw (← c.from-used.ensures) (and_passed _ unrooted c.if-not-begins_with.true c.zeros_in.ensures))

pub returns-else-not-begins_with : goal.returns-else-not-begins_with
returns-else-not-begins_with c =
    let b = c.args.b.now in
    let text = c.args.p + 4 + 1 in
    let uid = part b text (text + c.from-used.result) in
    let fit : between 1 64 c.from-used.result ≡ true = search rules in
    let unrooted : c.if-is_uid.value ≡ both (is_uid uid) (not (begins_with (root_of (numbers_in b)) uid)) =
    elim c.if-is_uid.branch [
      | then-is_uid w ↦ and_passed _ c.is_uid.ensures w.if-is_uid.true (w.value-is ∙ rw (w.begins_with.ensures, w.root_in.ensures) (nots _))
      | else-is_uid w ↦ and_failed _ c.is_uid.ensures w.if-is_uid.false w.value-is
    ] in
    sent_told (numbers_in b) b c.args.p c.requires.1 _ (rw (← c.from-used.ensures) fit)
    (rw (← c.from-used.ensures) (and_failed (zeros (part b (text + c.from-used.result) (text + 64))) unrooted c.if-not-begins_with.false refl))
