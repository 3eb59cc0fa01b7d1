-- Statuses are of 2 bytes; a note tells of 1 to 8 films queued, of a picture whose pixels lie within the data set, or of a place within it.
-- Assumes nothing.
use Prim.Native.Nat.{ℕ, ◌+◌, ◌<◌, ◌≤◌}
use mathlib.Core.Path.{◌≡◌, refl, ap}
use mathlib.Core.Bool.{Bool, true}
use mathlib.Core.List.{List, [], ◌∷◌}
use native.Mathlib.Omega.{arith}
use lib.ListN.{length}
use borrow.Author.Tests.{eqb-false}
use Rattle.std.specs.Prelude.{Err}
use Rattle.choice.specs.Pick.{pick, both}
use Rattle.choice.specs.Rules.{◌⇒◌}
use Rattle.choice.proofs.Picks.{pick_cases, both_second, Kept, Numbers}
use Rattle.headers.specs.declared.Syntax.{Syntax}
use Rattle.headers.proofs.Within.{most_refusal}
use Rattle.elements.specs.declared.Stop.{Stop}
use Rattle.elements.specs.Reader.{most_nested}
use Rattle.elements.proofs.Stops.{stop_within}
use Rattle.strike.specs.declared.Came.{Came}
use Rattle.strike.specs.declared.Came.TheVariants.{Absent, Whole, TooLong}
use Rattle.strike.specs.Service.{DataSet, Result}
use Rattle.rules.specs.Bounds.{most_films, none_left}
use Rattle.rules.specs.declared.Name.{Name}
use Rattle.rules.specs.declared.Core.{Core}
use Rattle.rules.specs.declared.Operation.{Operation}
use Rattle.rules.specs.declared.Operation.TheVariants.{Echo, Create, Set, Act, Delete}
use Rattle.rules.specs.declared.Request.{Request}
use Rattle.rules.specs.declared.Command.{Command}
use Rattle.rules.specs.declared.Command.TheVariants.{Unreadable, Unknown, Known}
use Rattle.rules.specs.Lists.{any}
use Rattle.rules.specs.declared.Instance.{Instance}
use Rattle.rules.specs.declared.Instance.TheVariants.{Nobody, TheSession, TheFilm, TheBox}
use Rattle.rules.specs.Records.{sent_name, named, box_count, syntax_in, sessions_of, films_under}
use Rattle.rules.specs.Commands.{uid_at, understood}
use Rattle.rules.specs.declared.Image.{Image}
use Rattle.rules.specs.declared.Image.TheVariants.{Keeps, Erases, TooMany, Fills}
use Rattle.rules.specs.Attributes.{Listing, listing_of, attribute_rules, box_standings, image_in, is_fill}
use Rattle.rules.specs.declared.Note.{Note}
use Rattle.rules.specs.declared.Note.TheVariants.{NoNote, FilmsQueued, PictureAt, StoppedAt}
use Rattle.rules.specs.Responses.{Reply, reply}
use Rattle.rules.specs.Effects.{no_picture_left, film_at, none_filled}
use Rattle.rules.specs.Sound.{core_sound}
use Rattle.rules.specs.declared.Class.{Class}
use Rattle.rules.specs.declared.Class.TheVariants.{Verification, Sessions, Films, Boxes, UnknownClass}
use Rattle.rules.specs.Checks.{class_of, general_rules, create_rules, target_rules, box_rules, Plan, nothing, image_note, sent_uid, create_plan, set_plan, action_plan, delete_plan, plan_of, reading_of, result_of, decide_request, decide, decide_command}
use Rattle.promises.proofs.Facts.{between_true, core_facts, numbers_facts, films_few}
use Rattle.promises.proofs.Decided.{reply_of_lem, kept_both, numbered_cases, reply_of}
use Rattle.promises.proofs.Pictures.{pixels_within}
use Rattle.promises.proofs.Places.{films_under_lem}

-- what a note may tell, of a data set of so many bytes
abbrev pub NoteWithin : ℕ → Note → Type 0
NoteWithin bytes NoNote = Unit {0}
NoteWithin bytes (FilmsQueued n) = (1 ≤ n) × (n ≤ most_films)
NoteWithin bytes (PictureAt n place size) = (1 ≤ n) × (n < none_left) × (place + size ≤ bytes)
NoteWithin bytes (StoppedAt stop) = (1 ≤ stop.number) × (stop.number ≤ most_refusal) × (stop.place ≤ bytes) × (stop.depth ≤ most_nested)

abbrev Short : ℕ → Type 0
Short status = status < 65536

-- A status of 2 bytes, and a note.

abbrev Tells : ℕ → ℕ → Note → Type 0
Tells bytes status note = (status < 65536) × NoteWithin bytes note

-- the statuses of a plan's rules, and what is told where none of them is broken
abbrev PlanTells : ℕ → Plan → Type 0
PlanTells bytes p = Numbers Short p.rules × (Kept p.rules → Tells bytes p.verdict.status p.verdict.note)

abbrev ReplyTells : ℕ → Result Core Reply → Type 0
ReplyTells bytes x = Tells bytes (reply_of x).status (reply_of x).note

-- where the reading of a data set stopped
stop_told : (syntax : Syntax) (came : Came) (d : List ℕ) {stop : Stop} → reading_of syntax came d ≡ Err stop → NoteWithin (length d) (StoppedAt stop)
stop_told syntax Absent d e = let z : ◌≡◌ {A = ℕ} 0 1 = cc in absurd (omega arith)
stop_told syntax Whole d e = stop_within d syntax e
stop_told syntax TooLong d e = let z : ◌≡◌ {A = ℕ} 0 1 = cc in absurd (omega arith)

-- nothing is told but that all is well
quiet : (bytes : ℕ) → Tells bytes 0 NoNote
quiet bytes = (omega arith, tt)

nothing_tells : (bytes : ℕ) (k : Core) → PlanTells bytes (nothing k)
nothing_tells bytes k = (tt, λ _. quiet bytes)

create_tells : (bytes : ℕ) (k : Core) (class : Class) (sent : List ℕ) (l : Listing) → PlanTells bytes (create_plan k class sent l)
unfolding create_plan
create_tells bytes k Verification sent l = nothing_tells bytes k
create_tells bytes k Sessions sent l = (omega arith, λ _. quiet bytes)
create_tells bytes k Films sent l = (omega arith, λ _. quiet bytes)
create_tells bytes k Boxes sent l = nothing_tells bytes k
create_tells bytes k UnknownClass sent l = nothing_tells bytes k

delete_tells : (bytes : ℕ) (k : Core) (x : Instance) (name : Name) → PlanTells bytes (delete_plan k x name)
unfolding delete_plan
delete_tells bytes k Nobody name = nothing_tells bytes k
delete_tells bytes k TheSession name = (tt, λ _. quiet bytes)
delete_tells bytes k (TheFilm i) name = (tt, λ _. quiet bytes)
delete_tells bytes k (TheBox i j) name = nothing_tells bytes k

-- a warning, or 0
warned : (t : Bool) (warning : ℕ) → warning < 65536 → pick t warning 0 < 65536
warned t warning h = pick_cases (λ (n : ℕ). n < 65536) t warning 0 (λ _. h) (λ _. omega arith)

module _ (k : Core) (sound : core_sound k ≡ true) where
  image_tells : (i : ℕ) (l : Listing) → l.scope.inside.from ≤ l.scope.inside.stop → Kept (box_rules k i l) → (image : Image) → image_in l ≡ image → NoteWithin l.scope.inside.stop (image_note k l image)
  image_tells i l h kept Keeps e = tt
  image_tells i l h kept Erases e = tt
  image_tells i l h kept TooMany e = tt
  image_tells i l h kept (Fills inside) e =
      let boxes = box_count (film_at k i).layout in
      let parts = kept_both (attribute_rules (box_standings boxes l)) ((both (is_fill (image_in l)) (no_picture_left k.numbers) ⇒ 0x0213) ∷ []) kept in
      let left = eqb-false k.numbers.picture none_left (both_second (is_fill (image_in l)) (no_picture_left k.numbers) parts.1.0 (ap is_fill e)) in
      let number = between_true 1 none_left k.numbers.picture (numbers_facts k.numbers (core_facts k sound).numbers).picture in
      let within = pixels_within boxes l inside parts.0 e h in
      (number.0, omega (arith, number.1), omega arith)

  set_tells : (x : Instance) (name : Name) (l : Listing) → l.scope.inside.from ≤ l.scope.inside.stop → PlanTells l.scope.inside.stop (set_plan k x name l)
  unfolding set_plan
  set_tells Nobody name l h = nothing_tells l.scope.inside.stop k
  set_tells TheSession name l h = (omega arith, λ _. quiet l.scope.inside.stop)
  set_tells (TheFilm i) name l h = (omega arith, λ _. quiet l.scope.inside.stop)
  set_tells (TheBox i j) name l h = (omega arith, λ kept. (omega arith, image_tells i l h kept (image_in l) refl))

  action_tells : (bytes : ℕ) (x : Instance) (name : Name) → PlanTells bytes (action_plan k x name)
  unfolding action_plan
  action_tells bytes Nobody name = nothing_tells bytes k
  action_tells bytes TheSession name =
      let films = films_under 0 k.shelf in
      let few = ap length (films_under_lem k sound) in
      let most = films_few k.numbers (sessions_of k) k.shelf (core_facts k sound).shelf in (
        omega arith,
        λ kept.
            let some = eqb-false (length films) 0 kept.0 in
            (warned (any none_filled films) 0xB602 (omega arith), omega arith),
      )
  action_tells bytes (TheFilm i) name = (omega arith, λ kept. (warned (any none_filled (film_at k i ∷ [])) 0xB603 (omega arith), omega arith))
  action_tells bytes (TheBox i j) name = nothing_tells bytes k

  plan_tells : (c : List ℕ) (d : DataSet) (o : Operation) → PlanTells (length d.bytes) (plan_of k c d.bytes o)
  unfolding plan_of create_rules target_rules
  plan_tells c d (Echo r) = nothing_tells (length d.bytes) k
  plan_tells c d (Create r) =
      let p = create_tells (length d.bytes) k (class_of (uid_at c r.class)) (sent_uid c r.sent) (listing_of d.bytes (syntax_in k)) in
      ((omega arith, (omega arith, p.0)), λ kept. p.1 kept.1.1)
  plan_tells c d (Set r) =
      let p = set_tells (named k (uid_at c r.instance)) (sent_name (uid_at c r.instance)) (listing_of d.bytes (syntax_in k)) (omega arith) in
      ((omega arith, (omega arith, p.0)), λ kept. p.1 kept.1.1)
  plan_tells c d (Act r) =
      let p = action_tells (length d.bytes) (named k (uid_at c r.instance)) (sent_name (uid_at c r.instance)) in
      ((omega arith, (omega arith, (omega arith, p.0))), λ kept. p.1 kept.1.1.1)
  plan_tells c d (Delete r) =
      let p = delete_tells (length d.bytes) k (named k (uid_at c r.instance)) (sent_name (uid_at c r.instance)) in
      ((omega arith, (omega arith, p.0)), λ kept. p.1 kept.1.1)

  verdict_tells : (c : List ℕ) (d : DataSet) (r : Request) → Tells (length d.bytes) (decide_request k c d r).status (decide_request k c d r).note
  unfolding general_rules
  verdict_tells c d r =
      let p = plan_tells c d r.operation in
      numbered_cases (λ v. Tells (length d.bytes) v.status v.note) k c d r
      (λ stop e. (omega arith, stop_told (syntax_in k) d.came d.bytes e))
      p.1
      Short (omega arith) p.0
      (λ n h. (h, tt))

  request_tells : (c : List ℕ) (d : DataSet) (r : Request) → ReplyTells (length d.bytes) (result_of k c r (decide_request k c d r))
  unfolding reply
  request_tells c d r = rw (reply_of_lem k c r (decide_request k c d r)) (verdict_tells c d r)

  command_tells : (c : List ℕ) (d : DataSet) (o : Command) → ReplyTells (length d.bytes) (decide_command k c d o)
  unfolding reply
  command_tells c d Unreadable = omega arith
  command_tells c d (Unknown message field) = omega arith
  command_tells c d (Known r) = request_tells c d r

  module _ (c : List ℕ) (d : DataSet) where
    -- Every status is of 2 bytes.
    pub status_small : (reply_of (decide k c d)).status < 65536
    unfolding decide
    status_small = (command_tells c d (understood c)).0

    -- A note tells of 1 to 8 films, of a picture's number from 1 to 4,294,967,295 and of pixels that lie within the data set, or of where its reading stopped.
    pub note_within : NoteWithin (length d.bytes) (reply_of (decide k c d)).note
    unfolding decide
    note_within = (command_tells c d (understood c)).1
