-- What printing and deleting come to.
-- Assumes nothing.
use Prim.Native.Nat.{ℕ, ◌+◌, ◌<◌, ◌≤◌}
use mathlib.Core.Path.{◌≡◌, refl, sym, ap, ◌∙◌}
use mathlib.Core.Bool.{Bool, true, false}
use mathlib.Core.List.{List, [], ◌∷◌}
use native.Mathlib.Omega.{arith}
use lib.Dec.{eqb}
use lib.ListN.{length}
use borrow.Author.Tests.{eqb-false, ltb-false}
use Rattle.choice.specs.Pick.{pick}
use Rattle.choice.specs.Rules.{first_broken}
use Rattle.choice.proofs.Broken.{broken_append}
use Rattle.rules.specs.declared.Core.{Core}
use Rattle.rules.specs.declared.Film.{Film}
use Rattle.rules.specs.declared.Name.{Name}
use Rattle.rules.specs.declared.Action.{Action}
use Rattle.rules.specs.declared.Request.{Request}
use Rattle.rules.specs.Lists.{any}
use Rattle.rules.specs.declared.Instance.{Instance}
use Rattle.rules.specs.declared.Instance.TheVariants.{Nobody, TheSession, TheFilm, TheBox}
use Rattle.rules.specs.Records.{no_film, shelved, entries_of, no_session, films_under}
use Rattle.rules.specs.Effects.{printed, none_filled, queue_room}
use Rattle.rules.specs.Checks.{printed_with, target_rules, session_print_rules, film_print_rules, delete_plan, decided_by}
use Rattle.promises.proofs.Places.{films_under_lem}
use Rattle.changes.specs.declared.Effect.{Effect}
use Rattle.changes.specs.declared.Decision.{Decision}
use Rattle.changes.specs.Changes.{affected, verdict_of, EffectFits, Fits}
use Rattle.verdicts.specs.Ready.{Ready}
use Rattle.choice.proofs.Broken.{none_broken}
use Rattle.acting.specs.Acting.{other_action, action_rules, queuing}

-- Room in the queue, where check 10 finds nothing wrong.

pub session_room : (k : Core) (n : ℕ) → n ≡ first_broken (session_print_rules k 0) → n ≡ 0 → length (entries_of k.queue) + length (films_under 0 k.shelf) ≤ 16
session_room k n e kept =
    let rules = none_broken (session_print_rules k 0) refl (sym e ∙ kept) in
    omega (arith, eqb-false (length (films_under 0 k.shelf)) 0 rules.0, ltb-false (queue_room k) (length (films_under 0 k.shelf)) rules.1.1.0)

pub film_room : (k : Core) (i n : ℕ) → n ≡ first_broken (film_print_rules k i) → n ≡ 0 → length (entries_of k.queue) < 16
film_room k i n e kept = omega (arith, ltb-false (queue_room k) 1 (none_broken (film_print_rules k i) refl (sym e ∙ kept)).1.0)

pub films_counted : (k : Core) → Ready k → k.shelf.count ≡ length (films_under 0 k.shelf)
unfolding shelved
films_counted k h = ap (λ shelf. shelf.count) (sym h.1) ∙ ap length (sym (films_under_lem k h.0))

pub one_empty : (f : Film) → none_filled f ≡ any none_filled (f ∷ [])
unfolding any
one_empty f = same (none_filled f)
  where
    same : (b : Bool) → b ≡ pick b true false
    same true = refl
    same false = refl

-- films queued
pub queued_so : (k : Core) (effect : Effect) (name : Name) (warning : ℕ) (films : List Film) (status count : ℕ) (d : Decision) → d ≡ queuing effect name status count
    → affected k no_session no_film effect ≡ printed k films → status ≡ pick (any none_filled films) warning 0 → count ≡ length films → verdict_of k d ≡ printed_with k warning films name
queued_so k effect name warning films status count d e printed-so warned-so counted = rw (e, printed-so, warned-so, counted)

pub effect_fits : (k : Core) (effect : Effect) (name : Name) (status count : ℕ) (d : Decision) → d ≡ queuing effect name status count → EffectFits k effect → Fits k d.change
effect_fits k effect name status count d e fits = rw e fits

-- a deletion has no rules of its own
pub plain_delete : (k : Core) (c : List ℕ) (r : Request) (x : Instance) (name : Name) → (delete_plan k x name).verdict ≡ decided_by k c r (delete_plan k x name)
unfolding delete_plan
plain_delete k c r Nobody name = refl
plain_delete k c r TheSession name = refl
plain_delete k c r (TheFilm i) name = refl
plain_delete k c r (TheBox i j) name = refl

-- Check 6, and then check 7.

pub action_number : (k : Core) (c : List ℕ) (a : Action) (n : ℕ) → n ≡ first_broken (target_rules k c a.class a.instance) → first_broken (action_rules k c a) ≡ pick (eqb n 0) (first_broken (other_action a)) n
unfolding target_rules
action_number k c a n e = broken_append (target_rules k c a.class a.instance) (other_action a) refl ∙ rw (← e)
