-- What an N-SET may rest on where its rules are kept, and what its verdicts mean.
-- Assumes nothing.
use Prim.Native.Nat.{ℕ, ◌+◌, ◌-◌, ◌<◌, ◌≤◌}
use mathlib.Core.Path.{◌≡◌, refl, sym, ap, subst, ◌∙◌}
use mathlib.Core.Bool.{Bool, true, false}
use mathlib.Core.List.{List, [], ◌∷◌}
use native.Mathlib.Omega.{arith}
use lib.Dec.{eqb}
use lib.ListN.{length, get_or}
use borrow.Author.Tests.{eqb-true, eq-eqb, ne_eqb}
use Rattle.std.specs.Prelude.{Result, Err}
use Rattle.choice.specs.Pick.{pick, both}
use Rattle.choice.specs.Rules.{Rule, ◌⇒◌, first_broken, numbered}
use Rattle.choice.proofs.Picks.{clash, both_second}
use Rattle.choice.proofs.Broken.{broken_append}
use Rattle.headers.specs.declared.Syntax.{Syntax}
use Rattle.headers.specs.declared.Part.{Part}
use Rattle.rules.specs.declared.Name.{Name}
use Rattle.rules.specs.declared.Session.{Session}
use Rattle.rules.specs.declared.ImageBox.{ImageBox}
use Rattle.rules.specs.declared.Film.{Film}
use Rattle.rules.specs.declared.Core.{Core}
use Rattle.rules.specs.declared.Verdict.{Verdict}
use Rattle.rules.specs.declared.Failure.{Failure}
use Rattle.rules.specs.Failures.{status_of}
use Rattle.rules.specs.declared.Target.{Target}
use Rattle.rules.specs.declared.Operation.TheVariants.{Set}
use Rattle.rules.specs.Bounds.{most_boxes, none_left}
use Rattle.rules.specs.Records.{sent_name, no_box, no_film, box_count, films_of, with_session, syntax_in, named, sessions_of}
use Rattle.rules.specs.Commands.{uid_at}
use Rattle.rules.specs.declared.Image.{Image}
use Rattle.rules.specs.declared.Image.TheVariants.{Keeps, Erases, TooMany, Fills}
use Rattle.rules.specs.Attributes.{Listing, listing_of, pixels, us, attribute_rules, box_standings, image_in, is_fill, picture_after, session_with, film_with, box_with}
use Rattle.rules.specs.Sound.{core_sound, film_sound}
use Rattle.rules.specs.declared.Note.{Note}
use Rattle.rules.specs.declared.Note.TheVariants.{NoNote, PictureAt}
use Rattle.std.specs.Prelude.{None}
use Rattle.rules.specs.Effects.{session_set, film_at, with_film, film_set, box_set, no_picture_left}
use Rattle.rules.specs.Checks.{box_rules, set_plan, target_rules, image_note, quietly, plan_of}
use Rattle.promises.proofs.ListLaws.{every_at}
use Rattle.promises.proofs.Facts.{between_true, core_facts, numbers_facts, shelf_facts, film_facts}
use Rattle.promises.proofs.Layouts.{boxes_most}
use Rattle.promises.proofs.Pictures.{pixels_held}
use Rattle.boxes.proofs.Laws.{position_fits}
use Rattle.boxes.specs.Images.{PixelsFit}
use Rattle.rules.specs.declared.Instance.{Instance}
use Rattle.rules.specs.declared.Instance.TheVariants.{TheSession, TheFilm, TheBox}
use Rattle.choice.proofs.Broken.{none_broken}
use Rattle.verdicts.specs.Decided.{Follows}
use Rattle.verdicts.proofs.Plans.{fails, stands}
use Rattle.records.specs.Places.{session_in, core_in}
use Rattle.records.proofs.Parts.{core_session}
use Rattle.changes.specs.declared.Change.{Change}
use Rattle.changes.specs.declared.Decision.{Decision}
use Rattle.changes.specs.declared.Effect.TheVariants.{SessionSet, FilmSet, BoxSet}
use Rattle.changes.specs.Changes.{box_changed, affected, changed, change_with_session, change_with_film, change_by, FilmThere, PictureLeft, EffectFits, Fits}
use Rattle.setting.specs.Asked.{note_of}

-- Rules.

both_zero : (n m : ℕ) (t : Bool) → eqb n 0 ≡ t → pick t m n ≡ 0 → (n ≡ 0) × (m ≡ 0)
both_zero n m true e h = (eqb-true n 0 e, h)
both_zero n m false e h = absurd (clash e (eq-eqb n 0 h))

target_numbered : (k : Core) (c : List ℕ) (class instance : Part) → numbered (target_rules k c class instance) ≡ true
unfolding target_rules
target_numbered k c class instance = refl

-- Boxes.

-- the number of the first broken rule, by what the code has tested
module _ (k : Core) (i : ℕ) (l : Listing) (n : ℕ) (e : n ≡ first_broken (attribute_rules (box_standings (box_count (film_at k i).layout) l))) where
  box_number : first_broken (box_rules k i l) ≡ pick (eqb n 0) (pick (both (is_fill (image_in l)) (no_picture_left k.numbers)) 0x0213 0) n
  box_number =
      let lacking = both (is_fill (image_in l)) (no_picture_left k.numbers) in
      broken_append (attribute_rules (box_standings (box_count (film_at k i).layout) l)) ((lacking ⇒ 0x0213) ∷ []) refl ∙ ap (λ m. pick (eqb m 0) (pick lacking 0x0213 0) m) (sym e)

  attributes_broken : (n ≡ 0 → ⊥) → n ≡ first_broken (box_rules k i l)
  attributes_broken h = sym (box_number ∙ rw (ne_eqb n 0 h))

  attributes_kept : (fill spent : Bool) → n ≡ 0 → is_fill (image_in l) ≡ fill → no_picture_left k.numbers ≡ spent → pick (both fill spent) 0x0213 0 ≡ first_broken (box_rules k i l)
  attributes_kept fill spent h f g = sym (box_number ∙ rw (eq-eqb n 0 h, f, g))

-- whether it fills, by what the code has read
pub fill_by : (d : List ℕ) (syntax : Syntax) (image : Image) (test : Bool) → image ≡ image_in (listing_of d syntax) → test ≡ is_fill image
    → is_fill (image_in (listing_of d syntax)) ≡ test
fill_by d syntax image test e f = sym (ap is_fill e) ∙ sym f

-- checks 8 and 9, by what the code tells on its way
module _ (k : Core) (i : ℕ) (d : List ℕ) (syntax : Syntax) (count : ℕ) (counted : count ≡ box_count (film_at k i).layout)
    (image : Image) (read : image ≡ image_in (listing_of d syntax)) (n : ℕ) (first : n ≡ first_broken (attribute_rules (box_standings count (listing_of d syntax)))) where
  abbrev Told : ℕ → Type 0
  Told m = m ≡ first_broken (box_rules k i (listing_of d syntax))

  own_first : n ≡ first_broken (attribute_rules (box_standings (box_count (film_at k i).layout) (listing_of d syntax)))
  own_first = first ∙ ap (λ b. first_broken (attribute_rules (box_standings b (listing_of d syntax)))) counted

  pub attribute_breaks : (n ≡ 0 → ⊥) → Told n
  attribute_breaks = attributes_broken k i (listing_of d syntax) n own_first

  module _ (kept : n ≡ 0) (test : Bool) (tested : test ≡ is_fill image) where
    fill : is_fill (image_in (listing_of d syntax)) ≡ test
    fill = fill_by d syntax image test read tested

    pub nothing_fills : test ≡ false → Told 0
    nothing_fills h = attributes_kept k i (listing_of d syntax) n own_first false (no_picture_left k.numbers) kept (fill ∙ h) refl

    module _ (fills : test ≡ true) (next : ℕ) (is : next ≡ k.numbers.picture) where
      pub picture_lacks : next ≡ none_left → Told 0x0213
      picture_lacks e = attributes_kept k i (listing_of d syntax) n own_first true true kept (fill ∙ fills) (eq-eqb k.numbers.picture none_left (sym is ∙ e))

      pub picture_given : (next ≡ none_left → ⊥) → Told 0
      picture_given e = attributes_kept k i (listing_of d syntax) n own_first true false kept (fill ∙ fills) (ne_eqb k.numbers.picture none_left (λ h. e (is ∙ h)))

-- a film of a sound core has no more boxes than there are places
pub boxes_few : (k : Core) (i : ℕ) → core_sound k ≡ true → i < length (films_of k.shelf) → box_count (film_at k i).layout ≤ 36
boxes_few k i e h =
    let shelf = shelf_facts k.numbers (sessions_of k) k.shelf (core_facts k e).shelf in
    let film = every_at (film_sound k.numbers) (films_of k.shelf) i no_film shelf.films h in
    boxes_most (film_at k i).layout (film_facts k.numbers (film_at k i) film).layout

pictures_few : (k : Core) → core_sound k ≡ true → k.numbers.picture ≤ none_left
pictures_few k e = (between_true 1 none_left k.numbers.picture (numbers_facts k.numbers (core_facts k e).numbers).picture).1

module _ (k : Core) (i : ℕ) (l : Listing) (sound : core_sound k ≡ true) (there : i < length (films_of k.shelf)) (kept : first_broken (box_rules k i l) ≡ 0) where
  both_kept : (first_broken (attribute_rules (box_standings (box_count (film_at k i).layout) l)) ≡ 0) × (both (is_fill (image_in l)) (no_picture_left k.numbers) ≡ false)
  both_kept =
      let attributes = attribute_rules (box_standings (box_count (film_at k i).layout) l) in
      let lacking = both (is_fill (image_in l)) (no_picture_left k.numbers) in
      let others : List Rule = (lacking ⇒ 0x0213) ∷ [] in
      let parts = both_zero (first_broken attributes) (first_broken others) (eqb (first_broken attributes) 0) refl (sym (broken_append attributes others refl) ∙ kept) in
      (parts.0, unbroken lacking parts.1)
    where
      unbroken : (t : Bool) → first_broken ((t ⇒ 0x0213) ∷ []) ≡ 0 → t ≡ false
      unbroken true h = absurd (omega (arith, h))
      unbroken false h = refl

  pub position_small : us l 0x2020_0010 < 256
  position_small = position_fits (box_count (film_at k i).layout) l (boxes_few k i sound there) both_kept.0

  pub pixels_fit : PixelsFit l (image_in l)
  pixels_fit = by (image_in l) refl
    where
      by : (image : Image) → image_in l ≡ image → PixelsFit l image
      by Keeps e = tt
      by Erases e = tt
      by TooMany e = tt
      by (Fills inside) e =
          let boxes = box_count (film_at k i).layout in
          pixels_held boxes l inside (none_broken (attribute_rules (box_standings boxes l)) refl both_kept.0) e

  pub picture_left : PictureLeft k (is_fill (image_in l))
  picture_left fill =
      let most = pictures_few k sound in
      let left = both_second (is_fill (image_in l)) (no_picture_left k.numbers) both_kept.1 fill in
      below k.numbers.picture most (λ e. clash left (eq-eqb k.numbers.picture none_left e))
    where
      below : (n : ℕ) → n ≤ none_left → (n ≡ none_left → ⊥) → n + 1 ≤ none_left
      below n h g = omega arith

-- a set that fills nothing needs no picture number
number_unused : (next other : ℕ) (image : Image) (old : ℕ) → is_fill image ≡ false → picture_after next image old ≡ picture_after other image old
number_unused next other Keeps old e = refl
number_unused next other Erases old e = refl
number_unused next other TooMany old e = refl
number_unused next other (Fills inside) old e = absurd (clash e refl)

box_by_number : (fills : Bool) (next : ℕ) (l : Listing) (b : ImageBox) → is_fill (image_in l) ≡ fills → box_with (pick fills next 0) l b ≡ box_with next l b
unfolding box_with
box_by_number true next l b e = refl
box_by_number false next l b e = rw (number_unused 0 next (image_in l) b.picture.0 e)

note_by_number : (fills : Bool) (next from long : ℕ) → pick fills (PictureAt (pick fills next 0) from long) NoNote ≡ pick fills (PictureAt next from long) NoNote
note_by_number true next from long = refl
note_by_number false next from long = refl

-- a box set, by what the code tells on its way
module _ (k : Core) (i j : ℕ) (l : Listing) (fills : Bool) (told : is_fill (image_in l) ≡ fills) (number : ℕ) (used : number ≡ pick fills k.numbers.picture 0) where
  abbrev old : ImageBox
  old = get_or (film_at k i).boxes j no_box

  box_changed_lem : (anew : ImageBox) → anew ≡ box_with number l old → box_changed k i j anew fills ≡ box_set k i j l
  unfolding box_set
  box_changed_lem anew e =
      let full : anew ≡ box_with k.numbers.picture l old = e ∙ ap (λ (n : ℕ). box_with n l old) used ∙ box_by_number fills k.numbers.picture l old told in
      rw (full, told)

  note_told : note_of number l (image_in l) ≡ image_note k l (image_in l)
  note_told = rw (used, told) (note_by_number fills k.numbers.picture _ _)

  module _ (name : Name) where
    abbrev stored : Core → Note → Verdict
    stored core note = record { done = true; status = 0; core = core; instance = name; note = note; contents = None }

    pub box_stored : (anew : ImageBox) → anew ≡ box_with number l old → (change : Change) → change ≡ change_by (BoxSet i j anew fills) → (note : Note) → note ≡ note_of number l (image_in l)
        → stored (changed k change) note ≡ (set_plan k (TheBox i j) name l).verdict
    unfolding affected set_plan
    box_stored anew e change by note so =
        ap (λ (c : Change). stored (changed k c) note) by
        ∙ ap (λ (core : Core). stored core note) (box_changed_lem anew e)
        ∙ ap (stored (box_set k i j l)) (so ∙ note_told)

pub box_fits : (k : Core) (i j : ℕ) (anew : ImageBox) (fills : Bool) (change : Change) → change ≡ change_by (BoxSet i j anew fills) → FilmThere k i → j < most_boxes → PictureLeft k fills → Fits k change
unfolding EffectFits
box_fits k i j anew fills change by there small left = rw by (there, small, left)

pub note_fills : (number : ℕ) (l : Listing) (image : Image) (at : Part) → is_fill image ≡ true → at ≡ pixels l image → PictureAt number at.from (at.stop - at.from) ≡ note_of number l image
note_fills number l image at e f = rw (e, f)

-- The session and a film.

pub session_stored : (b : List ℕ) (l : Listing) (name : Name) (old : Session) → old ≡ session_in b → (anew : Session) → anew ≡ session_with l old
    → (change : Change) → change ≡ change_with_session SessionSet anew → quietly (changed (core_in b) change) name ≡ (set_plan (core_in b) TheSession name l).verdict
unfolding affected set_plan session_set
session_stored b l name old was anew e change by =
    let k = core_in b in
    ap (λ (c : Change). quietly (changed k c) name) by
    ∙ ap (λ (s : Session). quietly (with_session 0 s k) name) (e ∙ ap (session_with l) (was ∙ sym (core_session b)))

pub film_stored : (k : Core) (i : ℕ) (l : Listing) (name : Name) (old : Film) → old ≡ film_at k i → (anew : Film) → anew ≡ film_with l old
    → (change : Change) → change ≡ change_with_film (FilmSet i) anew → quietly (changed k change) name ≡ (set_plan k (TheFilm i) name l).verdict
unfolding affected set_plan film_set
film_stored k i l name old was anew e change by =
    ap (λ (c : Change). quietly (changed k c) name) by
    ∙ ap (λ (f : Film). quietly (with_film i f k) name) (e ∙ ap (film_with l) was)

-- a set, by what the code tells on its way
module _ (k : Core) (c d : List ℕ) (t : Target) where
  abbrev Right : Result Decision Failure → Type 0
  Right x = Follows k (plan_of k c d (Set t)) x

  abbrev l : Listing
  l = listing_of d (syntax_in k)

  abbrev rules : List Rule
  rules = target_rules k c t.class t.instance

  abbrev named_so : Name
  named_so = sent_name (uid_at c t.instance)

  abbrev one : Instance
  one = named k (uid_at c t.instance)

  pub names_none : (failure : Failure) → status_of failure ≡ first_broken rules → Right (Err failure)
  unfolding plan_of
  names_none failure e = fails k rules (set_plan k one named_so l) (target_numbered k c t.class t.instance) failure e

  pub names_one : 0 ≡ first_broken rules → (uid : List ℕ) → uid ≡ uid_at c t.instance → (whom : Instance) → whom ≡ named k uid → (syntax : Syntax) → syntax ≡ syntax_in k
      → (name : Name) → name ≡ named_so → (x : Result Decision Failure) → Follows k (set_plan k whom name (listing_of d syntax)) x → Right x
  unfolding plan_of
  names_one kept uid at whom is syntax opened name sent x f =
      stands k rules (set_plan k one named_so l) (target_numbered k c t.class t.instance) x kept
      (subst (λ (y : Name). Follows k (set_plan k one y l) x) sent
      (subst (λ (y : Syntax). Follows k (set_plan k one name (listing_of d y)) x) opened
      (subst (λ (y : Instance). Follows k (set_plan k y name (listing_of d syntax)) x) (is ∙ ap (named k) at) f)))
