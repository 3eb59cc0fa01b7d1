use Prim.Native.Nat.{ℕ, ◌+◌, ◌*◌, ◌-◌, ◌≤◌, ◌<◌}
use mathlib.Core.Path.{◌≡◌, sym, ap, subst, ◌∙◌}
use native.Mathlib.Omega.{arith}
use mathlib.Core.Bool.{true}
use mathlib.Core.List.{List}
use lib.ListN.{length, get_or}
use Rattle.rules.specs.declared.Shelf.{Shelf}
use Rattle.rules.specs.declared.Film.{Film}
use Rattle.rules.specs.declared.Instance.TheVariants.{TheBox}
use Rattle.rules.specs.Bounds.{most_films}
use Rattle.rules.specs.Sound.{core_sound}
use Rattle.rules.specs.Layout.{film_format}
use Rattle.rules.specs.Records.{no_film, films_of, film_named}
use Rattle.records.specs.Places.{numbers_in, session_in, shelf_in, core_in}
use Rattle.records.proofs.Parts.{core_numbers, core_session, core_shelf}
use Rattle.instances.specs.Serials.{box_serial}
use Rattle.instances.specs.There.{AllFit}
use Rattle.instances.proofs.InPlace.{films_counted, film_there}
use Rattle.instances.proofs.Places.{found, missed}
use Rattle.instances.proofs.Naming.{names_session, names_film, names_nobody, names_box, box_from, box_there}
use Rattle.instances.proofs.Soundness.{films_few, films_fit}
use Rattle.instances.proofs.named_in.Goals as goal

few : (b : List ℕ) → core_sound (core_in b) ≡ true → (shelf_in b).count ≤ most_films
few b sound = subst (λ (s : Shelf). s.count ≤ most_films) (core_shelf b) (films_few _ sound)

fit : (b : List ℕ) → core_sound (core_in b) ≡ true → AllFit (films_of (shelf_in b))
fit b sound = subst (λ (s : Shelf). AllFit (films_of s)) (core_shelf b) (films_fit _ sound)

-- a film has one of the places
among : (b : List ℕ) → core_sound (core_in b) ≡ true → (i : ℕ) → i < length (films_of (shelf_in b)) → i < most_films
among b sound i h = omega (arith, few b sound, films_counted b (few b sound))

-- the first serial is that of the film with the box
first_here : (b : List ℕ) → core_sound (core_in b) ≡ true → (i first : ℕ) → i < length (films_of (shelf_in b))
    → first ≡ (film_format.read b (193 + i * 300)).first.0 → first ≡ (get_or (films_of (shelf_in b)) i no_film).first.0
first_here b sound i first h d =
    d ∙ ap (λ (f : Film). f.first.0) (sym (film_there b (few b sound) i no_film (omega (arith, films_counted b (few b sound), h))))

pub returns-then-is_session : goal.returns-then-is_session
returns-then-is_session c =
    let b = c.args.b.now in
    (names_session (core_in b) (numbers_in b) (session_in b) (shelf_in b) (core_numbers b) (core_session b) (core_shelf b) c.args.uid.now (sym c.is_session.ensures ∙ c.if-is_session.true), tt)

pub film_named-requires : goal.film_named-requires
film_named-requires c = (few c.args.b.now c.requires, c.made_serial-serial.ensures)

pub returns-in-Some : goal.returns-in-Some
returns-in-Some c =
    let b = c.args.b.now in
    let other = sym c.is_session.ensures ∙ c.if-is_session.false in
    let at = found (film_named (numbers_in b) c.args.uid.now) (films_of (shelf_in b)) c.in-Some.film (sym c.in-Some.is ∙ c.film_named.ensures) in
    (names_film (core_in b) (numbers_in b) (session_in b) (shelf_in b) (core_numbers b) (core_session b) (core_shelf b) c.args.uid.now other _ at.0 at.1, rw (core_shelf b) at.1)

pub film_with_box-requires : goal.film_with_box-requires
film_with_box-requires c = few c.args.b.now c.requires

pub returns-in_default-film_with_box : goal.returns-in_default-film_with_box
returns-in_default-film_with_box c =
    let b = c.args.b.now in
    let other = sym c.is_session.ensures ∙ c.if-is_session.false in
    let unnamed = missed (film_named (numbers_in b) c.args.uid.now) (films_of (shelf_in b)) (sym c.in_default.is ∙ c.film_named.ensures) in
    let none = missed (box_serial c.made_serial-serial.result) (films_of (shelf_in b)) (sym c.in_default-film_with_box.is ∙ c.film_with_box.ensures) in
    (names_nobody (core_in b) (numbers_in b) (session_in b) (shelf_in b) (core_numbers b) (core_session b) (core_shelf b) c.args.uid.now other unnamed _ c.made_serial-serial.ensures (fit b c.requires) none, tt)

pub overflow_mul-film : goal.overflow_mul-film
overflow_mul-film c =
    let at = found (box_serial c.made_serial-serial.result) (films_of (shelf_in c.args.b.now)) c.in-Some-film_with_box.film (sym c.in-Some-film_with_box.is ∙ c.film_with_box.ensures) in
    omega (arith, among c.args.b.now c.requires _ at.1)

pub overflow_add-film : goal.overflow_add-film
overflow_add-film c =
    let at = found (box_serial c.made_serial-serial.result) (films_of (shelf_in c.args.b.now)) c.in-Some-film_with_box.film (sym c.in-Some-film_with_box.is ∙ c.film_with_box.ensures) in
    omega (arith, among c.args.b.now c.requires _ at.1)

pub first_at-first-requires : goal.first_at-first-requires
first_at-first-requires c =
    let at = found (box_serial c.made_serial-serial.result) (films_of (shelf_in c.args.b.now)) c.in-Some-film_with_box.film (sym c.in-Some-film_with_box.is ∙ c.film_with_box.ensures) in
    omega (arith, among c.args.b.now c.requires _ at.1)

pub overflow_sub-result : goal.overflow_sub-result
overflow_sub-result c =
    let b = c.args.b.now in
    let other = sym c.is_session.ensures ∙ c.if-is_session.false in
    let unnamed = missed (film_named (numbers_in b) c.args.uid.now) (films_of (shelf_in b)) (sym c.in_default.is ∙ c.film_named.ensures) in
    let at = found (box_serial c.made_serial-serial.result) (films_of (shelf_in b)) c.in-Some-film_with_box.film (sym c.in-Some-film_with_box.is ∙ c.film_with_box.ensures) in
    let first = first_here b c.requires _ _ at.1 c.first_at-first.ensures.0 in
    let from = box_from (core_in b) (numbers_in b) (session_in b) (shelf_in b) (core_numbers b) (core_session b) (core_shelf b) c.args.uid.now other unnamed _ c.made_serial-serial.ensures (fit b c.requires) _ at.0 at.1 in
    omega (arith, first, from)

pub returns : goal.returns
returns c =
    let b = c.args.b.now in
    let other = sym c.is_session.ensures ∙ c.if-is_session.false in
    let i = c.in-Some-film_with_box.film in
    let serial = c.made_serial-serial.result in
    let unnamed = missed (film_named (numbers_in b) c.args.uid.now) (films_of (shelf_in b)) (sym c.in_default.is ∙ c.film_named.ensures) in
    let at = found (box_serial serial) (films_of (shelf_in b)) i (sym c.in-Some-film_with_box.is ∙ c.film_with_box.ensures) in
    let first = first_here b c.requires i _ at.1 c.first_at-first.ensures.0 in
    let its = names_box (core_in b) (numbers_in b) (session_in b) (shelf_in b) (core_numbers b) (core_session b) (core_shelf b) c.args.uid.now other unnamed serial c.made_serial-serial.ensures (fit b c.requires) i at.0 at.1 in
    let there = box_there (core_in b) (numbers_in b) (session_in b) (shelf_in b) (core_numbers b) (core_session b) (core_shelf b) c.args.uid.now other unnamed serial c.made_serial-serial.ensures (fit b c.requires) i at.0 at.1 in
    (ap (λ (n : ℕ). TheBox i (serial - n)) first ∙ its, rw (core_shelf b, first) (at.1, there))
