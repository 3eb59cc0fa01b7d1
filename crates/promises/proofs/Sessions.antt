-- A session set keeps the rules of the records.
-- Assumes nothing.
use Prim.Native.Nat.{ℕ, ◌≤◌, zero, suc}
use mathlib.Core.Path.{◌≡◌, refl, ap, ◌∙◌}
use mathlib.Core.Bool.{Bool, true, false}
use mathlib.Core.List.{List, [], ◌∷◌}
use native.Mathlib.Omega.{arith}
use lib.Dec.{eqb, leb}
use lib.ListN.{length, get_or}
use borrow.Author.Tests.{leb-true, eqb-false}
use Rattle.choice.specs.Pick.{pick, both, not}
use Rattle.choice.proofs.Picks.{Kept, pick_cases, both_true, not_true, both_holds}
use Rattle.octets.specs.Octets.{same}
use Rattle.octets.proofs.Same.{same_self}
use Rattle.uids.specs.Uids.{digits}
use Rattle.rules.specs.declared.Session.{Session}
use Rattle.rules.specs.declared.Shelf.{Shelf}
use Rattle.rules.specs.declared.Numbers.{Numbers}
use Rattle.rules.specs.declared.Core.{Core}
use Rattle.rules.specs.Lists.{every, filled_to}
use Rattle.rules.specs.Values.{without_leading, without_trailing, unless_space, trimmed, no_bytes, blank, unsigned, decimal_value, count_in, code_in, priorities, media, destinations, label_byte, label_allowed}
use Rattle.rules.specs.Records.{is_live, films_of, the_session, no_session}
use Rattle.rules.specs.Attributes.{Listing, look, value_of, attribute_rules, given, code_allowed, session_standings, session_with}
use Rattle.rules.specs.Effects.{session_set}
use Rattle.rules.specs.Sound.{between, name_sound, session_sound, session_blank, shelf_sound, uids_apart, core_sound, session_place_sound, has_session, flag}
use Rattle.promises.proofs.ListLaws.{take_filled, behind_filled, every_one, every_so}
use Rattle.promises.proofs.Facts.{between_holds, core_facts, core_sound_lem, LabelFacts, ValueFacts, session_sound_lem, live_facts, the-place, shelf_facts, shelf_sound_lem}
use Rattle.promises.proofs.Standings.{kept_fine, given_allowed, or_kept_lem, code_given}

-- A text trimmed is not trimmed further.

lead_kept : (c : ℕ) (t : List ℕ) → eqb c 0x20 ≡ false → without_leading (unless_space c t) ≡ unless_space c t
unfolding without_leading
lead_kept c [] e = rw e (rw e refl)
lead_kept c (d ∷ t) e = rw e

lead_trail : (v : List ℕ) → without_leading (without_trailing (without_leading v)) ≡ without_trailing (without_leading v)
unfolding without_leading without_trailing
lead_trail [] = refl
lead_trail (c ∷ s) =
    pick_cases (λ u. without_leading (without_trailing u) ≡ without_trailing u) (eqb c 0x20) (without_leading s) (c ∷ s)
    (λ e. lead_trail s)
    (λ e. lead_kept c (without_trailing s) e)

trail_kept : (c : ℕ) (t : List ℕ) → without_trailing t ≡ t → without_trailing (unless_space c t) ≡ unless_space c t
unfolding without_trailing
trail_kept c [] h = pick_cases (λ u. without_trailing u ≡ u) (eqb c 0x20) [] (c ∷ []) (λ e. refl) (λ e. rw e)
trail_kept c (d ∷ t) h = ap (unless_space c) h

trail_trail : (s : List ℕ) → without_trailing (without_trailing s) ≡ without_trailing s
unfolding without_trailing
trail_trail [] = refl
trail_trail (c ∷ s) = trail_kept c (without_trailing s) (trail_trail s)

pub trimmed_trimmed : (v : List ℕ) → trimmed (trimmed v) ≡ trimmed v
unfolding trimmed
trimmed_trimmed v = ap without_trailing (lead_trail v) ∙ trail_trail (without_leading v)

-- What is given.

count_most : (most : ℕ) (v : List ℕ) → count_in most v ≤ most
unfolding count_in
count_most most v =
    pick_cases (λ n. n ≤ most)
    (both (leb (length (trimmed v)) 12) (both (not (no_bytes (unsigned v))) (both (digits (unsigned v)) (leb (decimal_value 0 (unsigned v)) most))))
    (decimal_value 0 (unsigned v)) 0
    (λ e.
    let t = both_true (leb (length (trimmed v)) 12) (both (not (no_bytes (unsigned v))) (both (digits (unsigned v)) (leb (decimal_value 0 (unsigned v)) most))) e in
    let u = both_true (not (no_bytes (unsigned v))) (both (digits (unsigned v)) (leb (decimal_value 0 (unsigned v)) most)) t.1 in
    leb-true (decimal_value 0 (unsigned v)) most (both_true (digits (unsigned v)) (leb (decimal_value 0 (unsigned v)) most) u.1).1)
    (λ e. omega arith)

copies_given : (v : List ℕ) → not (eqb (count_in 99 v) 0) ≡ true → between 1 99 (count_in 99 v) ≡ true
copies_given v e =
    let some : count_in 99 v ≡ 0 → ⊥ = eqb-false (count_in 99 v) 0 (not_true (eqb (count_in 99 v) 0) e) in
    let h = count_most 99 v in
    between_holds 1 99 (count_in 99 v) (omega arith) h

-- The label.

label_text : (t : List ℕ) → leb (length t) 64 ≡ true → label_allowed t ≡ true → same (trimmed t) t ≡ true → LabelFacts (length t) (filled_to 64 0 t)
label_text t e f g =
    let front = take_filled 64 0 t (length t) refl in
    record {
      short = e;
      allowed = ap label_allowed front ∙ f;
      bare = ap (λ u. same (trimmed u) u) front ∙ g;
      behind = behind_filled 64 0 t (λ b. eqb b 0) refl;
    }

label_given : (v : List ℕ) → label_allowed v ≡ true → LabelFacts (length (trimmed v)) (filled_to 64 0 (trimmed v))
unfolding label_allowed
label_given v e =
    label_text (trimmed v)
    (both_true (leb (length (trimmed v)) 64) (every label_byte (trimmed v)) e).0
    (rw (trimmed_trimmed v) e)
    (rw (trimmed_trimmed v) (same_self (trimmed v)))

label_kept : (is-given : Bool) (newUsed used : ℕ) (newLabel label : List ℕ) → (is-given ≡ true → LabelFacts newUsed newLabel) → LabelFacts used label → LabelFacts (pick is-given newUsed used) (pick is-given newLabel label)
label_kept true newUsed used newLabel label f h = f refl
label_kept false newUsed used newLabel label f h = h

-- The session.

-- a session with what the data set gives has allowed values
pub values_with : (l : Listing) (s : Session) → Kept (attribute_rules (session_standings l)) → ValueFacts s → ValueFacts (session_with l s)
unfolding session_with session_standings
values_with l s r f =
    let t = kept_fine (session_standings l) r in
    record {
      copies = or_kept_lem (λ n. between 1 99 n ≡ true) (λ v. not (eqb (count_in 99 v) 0)) l 0x2000_0010 (count_in 99) s.copies t.0 copies_given f.copies;
      priority = or_kept_lem (λ n. leb n 2 ≡ true) (code_allowed priorities) l 0x2000_0020 (code_in priorities) s.priority t.1.0 (code_given priorities 2 (omega arith)) f.priority;
      medium = or_kept_lem (λ n. leb n 2 ≡ true) (code_allowed media) l 0x2000_0030 (code_in media) s.medium t.1.1.0 (code_given media 2 (omega arith)) f.medium;
      destination = or_kept_lem (λ n. leb n 1 ≡ true) (code_allowed destinations) l 0x2000_0040 (code_in destinations) s.destination t.1.1.1.0 (code_given destinations 1 (omega arith)) f.destination;
      label =
          label_kept (given blank l (look l 0x2000_0050))
          (length (trimmed (value_of l 0x2000_0050))) s.used (filled_to 64 0 (trimmed (value_of l 0x2000_0050))) s.label
          (λ g. label_given (value_of l 0x2000_0050) (given_allowed blank label_allowed l (look l 0x2000_0050) t.1.1.1.1.0 g))
          f.label;
    }

session_with_lem : (n : Numbers) (l : Listing) (s : Session) → Kept (attribute_rules (session_standings l)) → (name_sound n s.name ≡ true) × ValueFacts s → session_sound n (session_with l s) ≡ true
unfolding session_with
session_with_lem n l s r f = session_sound_lem n (session_with l s) f.0 (values_with l s r f.1)

-- a session set is live as it was
owned_with : (l : Listing) (s : Session) (i : ℕ) → is_live (get_or (s ∷ []) i no_session) ≡ true → is_live (get_or (session_with l s ∷ []) i no_session) ≡ true
unfolding session_with
owned_with l s zero e = e
owned_with l s (suc i) e = e

-- and its films are told by that
shelf_live : (n : Numbers) (l : Listing) (s : Session) (shelf : Shelf) → shelf_sound n (s ∷ []) shelf ≡ true → shelf_sound n (session_with l s ∷ []) shelf ≡ true
shelf_live n l s shelf e =
    let f = shelf_facts n (s ∷ []) shelf e in
    shelf_sound_lem n (session_with l s ∷ []) shelf record {
      count = f.count;
      owned = every_so (has_session (s ∷ [])) (has_session (session_with l s ∷ [])) (λ x o. owned_with l s x.session o) (films_of shelf) f.owned;
      films = f.films;
      behind = f.behind;
    }

uids_named : (l : Listing) (s : Session) (shelf : Shelf) → uids_apart (s ∷ []) (films_of shelf) ≡ true → uids_apart (session_with l s ∷ []) (films_of shelf) ≡ true
unfolding uids_apart session_with
uids_named l s shelf e = e

-- a place that is live, with a session that keeps its rules
pub place_live : (n : Numbers) (s : Session) → flag s.live ≡ true → is_live s ≡ true → session_sound n s ≡ true → session_place_sound n s ≡ true
place_live n s f live e = both_holds (flag s.live) (pick (is_live s) (session_sound n s) (session_blank s)) f (rw live e)

set_place : (n : Numbers) (l : Listing) (s : Session) → session_place_sound n s ≡ true → is_live s ≡ true → session_sound n (session_with l s) ≡ true → session_place_sound n (session_with l s) ≡ true
unfolding session_with
set_place n l s e live h = place_live n (session_with l s) (both_true (flag s.live) (pick (is_live s) (session_sound n s) (session_blank s)) e).0 live h

pub session_set_sound : (k : Core) (l : Listing) → core_sound k ≡ true → is_live (the_session k) ≡ true → Kept (attribute_rules (session_standings l)) → core_sound (session_set k 0 l) ≡ true
unfolding session_set
session_set_sound k l e live r =
    let f = core_facts k e in
    let s = the_session k in
    let here = the-place k f in
    core_sound_lem (session_set k 0 l) record {
      numbers = f.numbers;
      sessions = every_one (session_place_sound k.numbers) (session_with l s) (set_place k.numbers l s here live (session_with_lem k.numbers l s r (live_facts k.numbers s here live)));
      shelf = shelf_live k.numbers l s k.shelf f.shelf;
      queue = f.queue;
      uids = uids_named l s k.shelf f.uids;
      opened = f.opened;
    }
