-- Plans with rules before their own: a broken one fails, and where none is broken the plan decides.
-- Assumes nothing.
use Prim.Native.Nat.{ℕ}
use mathlib.Core.Path.{◌≡◌, refl, sym, ap, subst, ◌∙◌}
use mathlib.Core.Bool.{true, false}
use mathlib.Core.List.{List, [], ◌∷◌, ◌++◌}
use lib.Dec.{eqb}
use Rattle.std.specs.Prelude.{Result, Ok, Err}
use Rattle.choice.specs.Pick.{pick, not}
use Rattle.choice.specs.Rules.{Rule, ◌⇒◌, first_or, first_broken, numbered}
use Rattle.choice.proofs.Picks.{both_true, not_true}
use Rattle.choice.proofs.Broken.{first_by_number}
use Rattle.rules.specs.declared.Core.{Core}
use Rattle.rules.specs.declared.Request.{Request}
use Rattle.rules.specs.declared.Note.TheVariants.{NoNote}
use Rattle.rules.specs.declared.Failure.{Failure}
use Rattle.rules.specs.declared.Failure.TheVariants.{WrongValue, NotRead, DuplicateInstance, NoSuchInstance, InvalidInstance, NoSuchClass, OtherClass, MissingAttribute, MissingValue, NoSuchAction, NotOffered, NoRoom, NoFilms, NoRoomForFilms, NoRoomForFilm, SamePosition}
use Rattle.rules.specs.Failures.{status_of}
use Rattle.rules.specs.Checks.{Plan, failed, also, decided_by}
use Rattle.changes.specs.declared.Decision.{Decision}
use Rattle.verdicts.specs.Decided.{Decides, Comes, Follows}

first_append : {A : Type 0} (refused : ℕ → A) (rules others : List Rule) (kept : A) → numbered rules ≡ true
    → first_or refused (rules ++ others) kept ≡ pick (eqb (first_broken rules) 0) (first_or refused others kept) (refused (first_broken rules))
first_append refused [] others kept h = refl
first_append refused ((true ⇒ n) ∷ rules) others kept h = rw (not_true (eqb n 0) (both_true (not (eqb n 0)) (numbered rules) h).0)
first_append refused ((false ⇒ n) ∷ rules) others kept h = first_append refused rules others kept (both_true (not (eqb n 0)) (numbered rules) h).1

-- every failure has a status
pub status_some : (failure : Failure) → eqb (status_of failure) 0 ≡ false
status_some WrongValue = refl
status_some NotRead = refl
status_some DuplicateInstance = refl
status_some NoSuchInstance = refl
status_some InvalidInstance = refl
status_some NoSuchClass = refl
status_some OtherClass = refl
status_some MissingAttribute = refl
status_some MissingValue = refl
status_some NoSuchAction = refl
status_some NotOffered = refl
status_some NoRoom = refl
status_some NoFilms = refl
status_some NoRoomForFilms = refl
status_some NoRoomForFilm = refl
status_some SamePosition = refl

module _ (k : Core) (rules : List Rule) (plan : Plan) (h : numbered rules ≡ true) where
  by_number : (c : List ℕ) (r : Request) (n : ℕ) → n ≡ first_broken rules → decided_by k c r (also rules plan) ≡ pick (eqb n 0) (decided_by k c r plan) (failed k c r NoNote n)
  by_number c r n e =
      first_append (failed k c r NoNote) rules plan.rules plan.verdict h
      ∙ ap (λ m. pick (eqb m 0) (decided_by k c r plan) (failed k c r NoNote m)) (sym e)

  -- where one of the rules is broken, its failure follows the plan
  pub fails : (failure : Failure) → status_of failure ≡ first_broken rules → Follows k (also rules plan) (Err failure)
  fails failure e = λ (c : List ℕ) (r : Request). sym (by_number c r (status_of failure) e ∙ rw (status_some failure))

  -- or else what follows the plan without them
  pub stands : (x : Result Decision Failure) → 0 ≡ first_broken rules → Follows k plan x → Follows k (also rules plan) x
  stands x e f = λ (c : List ℕ) (r : Request). subst (Comes k c r x) (sym (by_number c r 0 e)) (f c r)

-- the same of a plan's own rules
module _ (k : Core) (plan : Plan) (h : numbered plan.rules ≡ true) where
  own_number : (c : List ℕ) (r : Request) (n : ℕ) → n ≡ first_broken plan.rules → decided_by k c r plan ≡ pick (eqb n 0) plan.verdict (failed k c r NoNote n)
  own_number c r n e =
      first_by_number (failed k c r NoNote) plan.rules plan.verdict h
      ∙ ap (λ m. pick (eqb m 0) plan.verdict (failed k c r NoNote m)) (sym e)

  pub own_fails : (failure : Failure) → status_of failure ≡ first_broken plan.rules → Follows k plan (Err failure)
  own_fails failure e = λ (c : List ℕ) (r : Request). sym (own_number c r (status_of failure) e ∙ rw (status_some failure))

  pub own_stands : (d : Decision) → 0 ≡ first_broken plan.rules → Decides k d plan.verdict → Follows k plan (Ok d)
  own_stands d e f = λ (c : List ℕ) (r : Request). (f.0 ∙ sym (own_number c r 0 e), f.1)
