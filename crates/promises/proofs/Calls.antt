-- Calls that are not refused keep the rules of the records: start, open, close and take. So does a session deleted, since close deletes it.
-- Assumes nothing.
use Prim.Native.Nat.{ℕ, ◌%◌, ◌≤◌, ◌<◌}
use mathlib.Core.Path.{◌≡◌, refl, ap, ◌∙◌}
use mathlib.Core.Bool.{Bool, true, false}
use mathlib.Core.List.{List, [], ◌∷◌}
use native.Mathlib.Omega.{arith}
use native.Mathlib.Nat.{mod-lt}
use lib.Dec.{eqb, leb, ltb}
use lib.ListN.{length, drop, length-drop}
use borrow.Author.Tests.{leb-false, le-leb, ltb-false, eqb-true, eqb-false, eq-eqb}
use Rattle.choice.specs.Pick.{both, either, not}
use Rattle.choice.proofs.Picks.{Kept, either_false, not_false, clash}
use Rattle.uids.specs.Uids.{is_uid, components, component}
use Rattle.rules.specs.Bounds.{least_room, most_room, most_entries, root_limit, none_left}
use Rattle.rules.specs.declared.Entry.{Entry}
use Rattle.rules.specs.declared.Numbers.{Numbers}
use Rattle.rules.specs.declared.Opened.{Opened}
use Rattle.rules.specs.declared.Core.{Core}
use Rattle.rules.specs.Lists.{every, apart, filled_to}
use Rattle.rules.specs.Records.{root_of, films_of, entries_of, shelved, no_session, not_open, no_sessions, with_sessions, with_session, with_films}
use Rattle.rules.specs.Effects.{session_deleted}
use Rattle.rules.specs.Sound.{between, numbers_sound, serials_of, uids_apart, entry_sound, film_sound, opened_sound, core_sound, session_place_sound, has_session}
use Rattle.rules.specs.Calls.{opened, Starting, Opening, bad_root, bad_number, bad_context, bad_syntax, message_wrong, start_rules, open_rules, with_opened, started, closed, taken}
use Rattle.promises.proofs.ListLaws.{all_holds, take_filled, behind_filled, every_nil, every_drop, films_shelved, every_one}
use Rattle.promises.proofs.Facts.{between_holds, core_facts, core_sound_lem, numbers_sound_lem, queue_facts, entries_few, shelved_sound, queued_sound}
use Rattle.promises.proofs.Places.{films_beside}

-- Nothing live.

blank_session : (n : Numbers) → session_place_sound n no_session ≡ true
unfolding every
blank_session n = refl

nobody_apart : uids_apart no_sessions [] ≡ true
unfolding uids_apart apart serials_of every
nobody_apart = refl

shelf_apart : uids_apart no_sessions (films_of (shelved [])) ≡ true
shelf_apart = ap (uids_apart no_sessions) (films_shelved []) ∙ nobody_apart

not_open_lem : opened_sound not_open ≡ true
unfolding opened_sound every
not_open_lem = refl

-- A session deleted, and close.

nothing_left : (k : Core) → core_sound k ≡ true → core_sound (with_sessions no_sessions (with_films [] k)) ≡ true
nothing_left k e =
    let f = core_facts k e in
    core_sound_lem (with_sessions no_sessions (with_films [] k)) record {
      numbers = f.numbers;
      sessions = every_one (session_place_sound k.numbers) no_session (blank_session k.numbers);
      shelf = shelved_sound k.numbers no_sessions [] (omega arith) (every_nil (has_session no_sessions)) (every_nil (film_sound k.numbers));
      queue = f.queue;
      uids = shelf_apart;
      opened = f.opened;
    }

-- while there is one place, nothing is left beside its session
pub session_deleted_sound : (k : Core) → core_sound k ≡ true → core_sound (session_deleted k 0) ≡ true
unfolding session_deleted
session_deleted_sound k e = ap (λ films. core_sound (with_session 0 no_session (with_films films k))) (films_beside k e) ∙ nothing_left k e

with_opened_lem : (k : Core) (o : Opened) → core_sound k ≡ true → opened_sound o ≡ true → core_sound (with_opened o k) ≡ true
with_opened_lem k o e h =
    let f = core_facts k e in
    core_sound_lem (with_opened o k) record { numbers = f.numbers; sessions = f.sessions; shelf = f.shelf; queue = f.queue; uids = f.uids; opened = h }

pub closed_sound : (k : Core) → core_sound k ≡ true → core_sound (closed k) ≡ true
unfolding closed
closed_sound k e = with_opened_lem (with_sessions no_sessions (with_films [] k)) not_open (nothing_left k e) not_open_lem

-- Take.

fewer_entries : (es : List Entry) → length es ≤ most_entries → length (drop 1 es) ≤ most_entries
fewer_entries es h = simp length-drop (omega arith)

-- where the queue is empty, it stays so
pub taken_sound : (k : Core) → core_sound k ≡ true → core_sound (taken k).0 ≡ true
unfolding taken
taken_sound k e =
    let f = core_facts k e in
    core_sound_lem (taken k).0 record {
      numbers = f.numbers;
      sessions = f.sessions;
      shelf = f.shelf;
      queue =
          queued_sound k.numbers (drop 1 (entries_of k.queue))
          (fewer_entries (entries_of k.queue) (entries_few k.numbers k.queue f.queue))
          (every_drop (entry_sound k.numbers) 1 (entries_of k.queue) (queue_facts k.numbers k.queue f.queue).entries);
      uids = f.uids;
      opened = f.opened;
    }

-- Start.

-- a UID has a character
uid_length : (u : List ℕ) → is_uid u ≡ true → 1 ≤ length u
unfolding is_uid components component
uid_length [] e = absurd (clash refl e)
uid_length (c ∷ u) e = omega arith

good_number : (n : ℕ) → bad_number n ≡ false → between 1 none_left n ≡ true
good_number n e =
    let t = either_false (eqb n 0) (leb none_left n) e in
    let some : n ≡ 0 → ⊥ = eqb-false n 0 t.0 in
    let h : n < none_left = leb-false none_left n t.1 in
    between_holds 1 none_left n (omega arith) (omega arith)

abbrev start_numbers : List ℕ → ℕ → ℕ → Numbers
start_numbers root serial picture = record { used = length root; root = filled_to root_limit 0 root; serial = serial; picture = picture; ticket = 0 }

start_numbers_lem : (root : List ℕ) (serial picture : ℕ) → bad_root root ≡ false → bad_number serial ≡ false → bad_number picture ≡ false → numbers_sound (start_numbers root serial picture) ≡ true
unfolding root_of
start_numbers_lem root serial picture e f g =
    let t = either_false (not (is_uid root)) (ltb root_limit (length root)) e in
    let uid : is_uid root ≡ true = not_false (is_uid root) t.0 in
    numbers_sound_lem (start_numbers root serial picture) record {
      used = between_holds 1 root_limit (length root) (uid_length root uid) (ltb-false root_limit (length root) t.1);
      root = ap is_uid (take_filled root_limit 0 root (length root) refl) ∙ uid;
      behind = behind_filled root_limit 0 root (λ b. eqb b 0) refl;
      serial = good_number serial f;
      picture = good_number picture g;
    }

pub started_sound : (h : Starting) → Kept (start_rules h) → core_sound (started h) ≡ true
unfolding started
started_sound h r =
    let t = either_false (bad_number h.serial) (bad_number h.picture) r.1.0 in
    let n = start_numbers h.root h.serial h.picture in
    core_sound_lem (started h) record {
      numbers = start_numbers_lem h.root h.serial h.picture r.0 t.0 t.1;
      sessions = every_one (session_place_sound n) no_session (blank_session n);
      shelf = shelved_sound n no_sessions [] (omega arith) (every_nil (has_session no_sessions)) (every_nil (film_sound n));
      queue = queued_sound n [] (omega arith) (every_nil (entry_sound n));
      uids = shelf_apart;
      opened = not_open_lem;
    }

-- Open.

good_context : (n : ℕ) → bad_context n ≡ false → (eqb (n % 2) 1 ≡ true) × (leb n 255 ≡ true)
good_context n e =
    let t = either_false (eqb (n % 2) 0) (ltb 255 n) e in
    let odd : n % 2 ≡ 0 → ⊥ = eqb-false (n % 2) 0 t.0 in
    let small : n % 2 < 2 = mod-lt n (omega arith) in
    (eq-eqb (n % 2) 1 (omega arith), le-leb n 255 (ltb-false 255 n t.1))

two_syntaxes : (n : ℕ) (one two : Bool) → eqb n 1 ≡ one → eqb n 2 ≡ two → not (either one two) ≡ false → between 1 2 n ≡ true
two_syntaxes n true two e f g = let h : n ≡ 1 = eqb-true n 1 e in between_holds 1 2 n (omega arith) (omega arith)
two_syntaxes n false true e f g = let h : n ≡ 2 = eqb-true n 2 f in between_holds 1 2 n (omega arith) (omega arith)
two_syntaxes n false false e f g = absurd (clash g refl)

good_room : (k : Core) (room : ℕ) → message_wrong k room ≡ false → between least_room most_room room ≡ true
good_room k room e =
    let t = either_false (either (ltb room least_room) (ltb most_room room)) (both (not (eqb k.opened.live 0)) (not (eqb room k.opened.room))) e in
    let u = either_false (ltb room least_room) (ltb most_room room) t.0 in
    between_holds least_room most_room room (ltb-false room least_room u.0) (ltb-false most_room room u.1)

pub opened_sound_lem : (k : Core) (h : Opening) → core_sound k ≡ true → Kept (open_rules k h) → core_sound (opened k h) ≡ true
unfolding opened opened_sound
opened_sound_lem k h e r =
    let t = either_false (bad_context h.context) (bad_syntax h.syntax) r.1.0 in
    let context = good_context h.context t.0 in
    with_opened_lem k _ e (all_holds _ (context.0, (context.1, (two_syntaxes h.syntax (eqb h.syntax 1) (eqb h.syntax 2) refl refl t.1, (good_room k h.message r.0, tt)))))
