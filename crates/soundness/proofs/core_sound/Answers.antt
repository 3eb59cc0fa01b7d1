use Rattle.names.proofs.Tests.{first_passes, last_told, told_is, tests}
use Rattle.soundness.proofs.InPlace.{core_told}
use Rattle.soundness.proofs.core_sound.Goals as goal

pub returns-then-not-numbers_sound : goal.returns-then-not-numbers_sound
returns-then-not-numbers_sound c = core_told c.args.b.now (search tests depth 10)

pub returns-then-not-session_place_sound : goal.returns-then-not-session_place_sound
returns-then-not-session_place_sound c = core_told c.args.b.now (search tests depth 10)

pub returns-then-not-shelf_sound : goal.returns-then-not-shelf_sound
returns-then-not-shelf_sound c = core_told c.args.b.now (search tests depth 10)

pub returns-then-not-queue_sound : goal.returns-then-not-queue_sound
returns-then-not-queue_sound c = core_told c.args.b.now (search tests depth 10)

pub returns-then-not-uids_apart : goal.returns-then-not-uids_apart
returns-then-not-uids_apart c = core_told c.args.b.now (search tests depth 10)

pub returns : goal.returns
returns c =
    core_told c.args.b.now
    (first_passes _ _ _ _ (told_is _ _ c.numbers_sound.ensures c.if-not-numbers_sound.false)
    (first_passes _ _ _ _ (told_is _ _ c.session_place_sound.ensures c.if-not-session_place_sound.false)
    (first_passes _ _ _ _ (told_is _ _ c.shelf_sound.ensures c.if-not-shelf_sound.false)
    (first_passes _ _ _ _ (told_is _ _ c.queue_sound.ensures c.if-not-queue_sound.false)
    (first_passes _ _ _ _ (told_is _ _ c.uids_apart.ensures c.if-not-uids_apart.false) (last_told _ _ _ c.opened_sound.ensures))))))
