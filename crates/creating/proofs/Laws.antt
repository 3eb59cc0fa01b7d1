-- What checks 8 and 9 leave, and what the creation of a session or a film means.
-- Assumes nothing.
use Prim.Native.Nat.{ℕ, ◌+◌, ◌-◌, ◌<◌, ◌≤◌}
use mathlib.Core.Path.{◌≡◌, refl, sym, ap, subst, ◌∙◌}
use mathlib.Core.Bool.{Bool, true, false}
use mathlib.Core.List.{List, [], ◌∷◌, ◌++◌}
use native.Mathlib.Omega.{arith}
use lib.Dec.{eqb}
use lib.ListN.{length, get_or, replicate}
use lib.Seq.{take-append_seam}
use borrow.Author.Tests.{eq-eqb, ne_eqb, eqb-true, eqb-false, ltb-false}
use Rattle.std.specs.Prelude.{Ok}
use Rattle.choice.specs.Pick.{pick, not}
use Rattle.choice.specs.Rules.{Rule, ◌⇒◌, first_broken}
use Rattle.choice.proofs.Picks.{first_kept, not_true}
use Rattle.choice.proofs.Broken.{broken_append}
use Rattle.octets.specs.Octets.{number_at}
use Rattle.headers.specs.declared.Part.{Part}
use Rattle.uids.specs.Uids.{unpadded}
use Rattle.rules.specs.declared.Layout.{Layout}
use Rattle.rules.specs.declared.Film.{Film}
use Rattle.rules.specs.declared.Numbers.{Numbers}
use Rattle.rules.specs.declared.Shelf.{Shelf}
use Rattle.rules.specs.declared.Session.{Session}
use Rattle.rules.specs.declared.Core.{Core}
use Rattle.rules.specs.declared.Failure.{Failure}
use Rattle.rules.specs.Failures.{status_of}
use Rattle.rules.specs.Bounds.{most_films, most_boxes, none_left}
use Rattle.rules.specs.Lists.{every}
use Rattle.rules.specs.Values.{blank, kind_in, counts_in}
use Rattle.rules.specs.Records.{box_count, films_of, shelved, is_live, sessions_of, the_session}
use Rattle.rules.specs.Layout.{numbers_size, core_format, numbers_format, session_format, shelf_format}
use Rattle.rules.specs.Commands.{size, bytes_of, uid_at}
use Rattle.rules.specs.Attributes.{Listing, Standing, fine, look, value_of, attribute_rules, session_standings, reference, session_in, optional_film, film_create_standings, film_with, layout_from, layout_in}
use Rattle.rules.specs.Effects.{own_serials, too_few_serials, name_from, session_created, new_film, film_serials, film_created}
use Rattle.rules.specs.declared.Class.TheVariants.{Sessions, Films}
use Rattle.rules.specs.Checks.{create_rules, new_session_rules, new_film_rules, quietly, sent_uid, create_plan}
use Rattle.rules.specs.Sound.{core_sound}
use Rattle.promises.proofs.ListLaws.{each_parts}
use Rattle.promises.proofs.Facts.{core_facts, numbers_facts, between_true}
use Rattle.promises.proofs.Places.{place_there}
use Rattle.promises.proofs.Tidy.{shelf_few}
use Rattle.promises.proofs.Standings.{kept_fine, mandatory_fine, reference_live}
use Rattle.promises.proofs.Layouts.{Lines, counts_lines, sum_between, layout_few}
use Rattle.promises.proofs.NewNames.{sendable, sent_short}
use Rattle.choice.proofs.Broken.{none_broken}
use Rattle.records.specs.Places.{shelf_place, core_in}
use Rattle.records.proofs.Parts.{core_session, core_shelf}
use Rattle.changes.specs.declared.Effect.TheVariants.{SessionCreated}
use Rattle.changes.specs.declared.Change.{Change}
use Rattle.changes.specs.declared.Decision.{Decision}
use Rattle.changes.specs.Changes.{affected, changed, change_with_session, verdict_of, EffectFits, Fits}
use Rattle.verdicts.specs.Decided.{Follows}
use Rattle.verdicts.proofs.Plans.{status_some, own_stands}
use Rattle.creating.specs.Creating.{session_made, with_new_film}

-- What stands in the records' bytes.

module _ (b : List ℕ) where
  pub serial_read : number_at 5 b 41 ≡ (core_in b).numbers.serial
  unfolding core_format numbers_format
  serial_read = refl

  pub live_read : get_or b numbers_size 0 ≡ (the_session (core_in b)).live
  unfolding session_format
  live_read = sym (ap (λ (s : Session). s.live) (core_session b))

  pub count_read : get_or b shelf_place 0 ≡ (core_in b).shelf.count
  unfolding shelf_format
  count_read = sym (ap (λ (s : Shelf). s.count) (core_shelf b))

-- Check 8 before check 9.

abbrev pub session_rows : Core → List ℕ → List Rule
session_rows k sent = (every is_live (sessions_of k) ⇒ 0x0213) ∷ (too_few_serials k.numbers (own_serials sent) ⇒ 0x0213) ∷ []

abbrev pub film_rows : Core → List ℕ → Listing → List Rule
film_rows k sent l = (eqb (length (films_of k.shelf)) most_films ⇒ 0x0213) ∷ (too_few_serials k.numbers (film_serials sent l) ⇒ 0x0213) ∷ []

module _ (standings : List Standing) (others : List Rule) where
  pub attributes_broken : (failure : Failure) → status_of failure ≡ first_broken (attribute_rules standings) → status_of failure ≡ first_broken (attribute_rules standings ++ others)
  attributes_broken failure e = sym (broken_append (attribute_rules standings) others refl ∙ rw (sym e, status_some failure))

  pub attributes_kept : 0 ≡ first_broken (attribute_rules standings) → {m : ℕ} → m ≡ first_broken others → m ≡ first_broken (attribute_rules standings ++ others)
  attributes_kept e f = f ∙ sym (broken_append (attribute_rules standings) others refl ∙ rw (sym e))

-- a UID that check 6 passed is short
pub passed_short : (k : Core) (c : List ℕ) (sent : Part) → first_broken (create_rules k c sent) ≡ 0 → length (sent_uid c sent) ≤ 64
unfolding create_rules
passed_short k c sent e = sent_short k (sent_uid c sent) (sendable k c sent (none_broken (create_rules k c sent) refl e))

none_at : (c : List ℕ) (p : Part) → size p ≡ 0 → uid_at c p ≡ []
unfolding uid_at bytes_of unpadded
none_at c p e = rw e

-- the UID at the place is the one sent, empty where none was
pub sent_at : (c : List ℕ) (sent : Part) → uid_at c sent ≡ sent_uid c sent
sent_at c sent = at (eqb (size sent) 0) refl
  where
    at : (t : Bool) → eqb (size sent) 0 ≡ t → uid_at c sent ≡ pick (not t) (uid_at c sent) []
    at true e = none_at c sent (eqb-true (size sent) 0 e)
    at false e = refl

-- Serials and names.

pub serials_known : (k : Core) → core_sound k ≡ true → (1 ≤ k.numbers.serial) × (k.numbers.serial ≤ none_left)
serials_known k e = between_true 1 none_left k.numbers.serial (numbers_facts k.numbers (core_facts k e).numbers).serial

-- where no UID was sent, the next serial is left
pub serial_left : (n : Numbers) (sent : List ℕ) → n.serial + own_serials sent ≤ none_left → length sent ≡ 0 → n.serial < none_left
serial_left n sent h e = let o : own_serials sent ≡ 1 = rw (eq-eqb (length sent) 0 e) in omega arith

-- so where the serials of boxes are left too
pub own_left : (a b c : ℕ) → a + (b + c) ≤ none_left → a + b ≤ none_left
own_left a b c h = omega arith

-- the first of the boxes' serials has 32 bits
pub first_fits : (a b c m n : ℕ) → a + (b + c) ≤ none_left → 1 ≤ c → m ≡ a → n ≡ b → m + n < none_left
first_fits a b c m n h g d e = omega arith

-- the serials of a film with the layout that the data set gives
pub serials_told : (sent : List ℕ) (l : Listing) {layout : Layout} {n : ℕ} → layout ≡ layout_in l → n ≡ own_serials sent + box_count layout → n ≡ film_serials sent l
serials_told sent l e z = z ∙ ap (λ (x : Layout). own_serials sent + box_count x) e

-- Sessions.

pub session_kept : (k : Core) (sent : List ℕ) (l : Listing) → first_broken (new_session_rules k sent l) ≡ 0
    → (first_broken (attribute_rules (session_standings l)) ≡ 0) × (k.numbers.serial + own_serials sent ≤ none_left)
session_kept k sent l e =
    let h = none_broken (new_session_rules k sent l) refl e in (
      first_kept (λ (n : ℕ). n) (attribute_rules (session_standings l)) 0 (h.0, (h.1.0, (h.1.1.0, tt))),
      ltb-false none_left (k.numbers.serial + own_serials sent) h.1.1.1.1.0,
    )

-- the only place, by what the code reads there
module _ (k : Core) (live : ℕ) (here : live ≡ (the_session k).live) where
  pub place_taken : (live ≡ 0 → ⊥) → every is_live (sessions_of k) ≡ true
  unfolding every
  place_taken h = rw (← here, ne_eqb live 0 h)

  pub place_blank : live ≡ 0 → every is_live (sessions_of k) ≡ false
  unfolding every
  place_blank h = rw (← here, eq-eqb live 0 h)

-- the change that creates it
module _ (k : Core) (sent : List ℕ) (l : Listing) (session : Session) (serials : ℕ) (change : Change)
    (made : session ≡ session_made k.numbers sent l) (own : serials ≡ own_serials sent) (e : change ≡ change_with_session (SessionCreated serials) session) where
  pub session_created_lem : quietly (changed k change) session.name ≡ quietly (session_created k sent l) (name_from k.numbers sent)
  unfolding affected session_created
  session_created_lem = rw (e, own, made)

  pub session_fits : k.numbers.serial + own_serials sent ≤ none_left → Fits k change
  unfolding EffectFits
  session_fits h = rw (e, own) h

-- Films.

lines_some : (kind : ℕ) (counts : List ℕ) → Lines counts → 1 ≤ box_count (layout_from kind counts)
unfolding box_count
lines_some kind counts g =
    rw (take-append_seam counts (replicate (6 - length counts) 0)) (omega (arith, g.some, (sum_between counts g.each).0))

pub record FilmKept (k : Core) (sent : List ℕ) (l : Listing) : Type 0 where
  pub own : session_in k l ≡ 0
  pub room : length (films_of k.shelf) ≡ 8 → ⊥
  pub serials : k.numbers.serial + (own_serials sent + box_count (layout_in l)) ≤ none_left
  pub some : 1 ≤ box_count (layout_in l)

pub film_kept : (k : Core) (sent : List ℕ) (l : Listing) → first_broken (new_film_rules k sent l) ≡ 0 → FilmKept k sent l
unfolding layout_in film_create_standings
film_kept k sent l e =
    let h = none_broken (new_film_rules k sent l) refl e in
    let v = value_of l 0x2010_0010 in
    let f = kept_fine (film_create_standings k l) (h.0, (h.1.0, (h.1.1.0, tt))) in
    let a = not_true (eqb (length (counts_in v)) 0) (mandatory_fine blank (λ v. not (eqb (length (counts_in v)) 0)) l (look l 0x2010_0010) f.0) in
    let refers = reference k l (look l 0x2010_0500) in
    let named = (each_parts (λ (s : Standing). s ≡ fine) refers (optional_film l) f.1).0 in
    let place = place_there (sessions_of k) (session_in k l) (reference_live k l named) in
    record {
      own = omega (arith, place);
      room = eqb-false (length (films_of k.shelf)) 8 h.1.1.1.0;
      serials = ltb-false none_left (k.numbers.serial + film_serials sent l) h.1.1.1.1.0;
      some = lines_some (kind_in v) (counts_in v) (counts_lines v (eqb-false (length (counts_in v)) 0 a));
    }

-- as many films as the shelf counts
pub films_counted : (shelf : Shelf) → shelved (films_of shelf) ≡ shelf → length (films_of shelf) ≡ shelf.count
unfolding shelved
films_counted shelf e = ap (λ (s : Shelf). s.count) e

-- there is room for one more film
pub room_left : (k : Core) (sent : List ℕ) (l : Listing) → core_sound k ≡ true → shelved (films_of k.shelf) ≡ k.shelf → FilmKept k sent l → k.shelf.count < 8
room_left k sent l e h f =
    let n = films_counted k.shelf h in
    let m = shelf_few k e in
    let d : k.shelf.count ≡ 8 → ⊥ = λ z. f.room (n ∙ z) in
    omega arith

pub new_few : (k : Core) (sent : List ℕ) (l : Listing) → box_count (new_film k sent l).layout ≤ most_boxes
unfolding new_film film_with
new_few k sent l = layout_few l

-- What decides the plans.

module _ (k : Core) (sent : List ℕ) (l : Listing) where
  pub session_stands : (d : Decision) → 0 ≡ first_broken (new_session_rules k sent l) → verdict_of k d ≡ quietly (session_created k sent l) (name_from k.numbers sent) → Fits k d.change → Follows k (create_plan k Sessions sent l) (Ok d)
  unfolding create_plan
  session_stands d e f fits = own_stands k (create_plan k Sessions sent l) refl d e (f, fits)

  film_verdict : verdict_of k (with_new_film (film_serials sent l) (new_film k sent l)) ≡ (create_plan k Films sent l).verdict
  unfolding create_plan new_film film_with affected film_created
  film_verdict = refl

  module _ (d : Decision) (film : Film) (serials : ℕ) (f : film ≡ new_film k sent l) (s : serials ≡ film_serials sent l) (e : d ≡ with_new_film serials film) where
    decision_made : d ≡ with_new_film (film_serials sent l) (new_film k sent l)
    decision_made = e ∙ rw (s, f)

    film_fits : k.shelf.count < most_films → k.numbers.serial + film_serials sent l ≤ none_left → Fits k d.change
    unfolding EffectFits
    film_fits room left = subst (λ (x : Decision). Fits k x.change) (sym decision_made) (room, left)

    pub film_stands : 0 ≡ first_broken (new_film_rules k sent l) → k.shelf.count < most_films → k.numbers.serial + film_serials sent l ≤ none_left → Follows k (create_plan k Films sent l) (Ok d)
    unfolding create_plan
    film_stands kept room left =
        own_stands k (create_plan k Films sent l) refl d kept (ap (λ (x : Decision). verdict_of k x) decision_made ∙ film_verdict, film_fits room left)
