-- For the caller: the outcome that a value means is the book's, and sound records hold a filled command.
-- Assumes nothing.
use Prim.Native.Nat.{ℕ, ◌-◌, ◌≤◌}
use mathlib.Core.Path.{◌≡◌, refl, sym, ap, ◌∙◌, subst⁻¹}
use mathlib.Core.Bool.{true, false}
use mathlib.Core.Option.{some}
use mathlib.Core.List.{List, [], ◌∷◌, ◌++◌}
use native.Mathlib.Omega.{arith}
use lib.Dec.{eqb, ltb}
use lib.ListN.{length, take, drop, replicate, length-take, length-drop, take-append-drop}
use lib.Seq.{length-take-le}
use borrow.Author.Tests.{eqb-true, ltb-false}
use Rattle.choice.proofs.Picks.{both_true, either_false}
use Rattle.strike.specs.Machine as machine
use Rattle.strike.specs.Machine.{idle, in_command, skipping_command, in_data, skipping_data, Fragment, header_wrong, fragment_in, command, Outcome, ignores, waits, drops, asks, collect, laid_by}
use Rattle.strike.proofs.Lies.{Lies, OutcomeLies, collect_lies}
use Rattle.rules.specs.declared.Input.{Input}
use Rattle.rules.specs.Lists.{every}
use Rattle.rules.specs.Sound.{zeros}
use Rattle.rules.specs.Calls.{reading}
use Rattle.rules.specs.Outcomes.{input_in, input_held}
use Rattle.collecting.specs.declared.Collecting.{Collecting}
use Rattle.collecting.specs.declared.Collecting.TheVariants.{Idle, InCommand, SkippingCommand, InData, SkippingData}
use Rattle.collecting.specs.Collecting.{fragment_of, Filled, state_of, collected_of, outcome_meant, input_by}
use Rattle.collecting.proofs.Filled.{held_back}
use Rattle.collecting.proofs.Outcomes.{input_by_lem}

meant : (o : Outcome) (message : List ℕ) → OutcomeLies o message → outcome_meant (collected_of o) message ≡ o
unfolding outcome_meant collected_of input_in input_held
meant ignores message h = refl
meant (waits idle) message h = refl
meant (waits (in_command c)) message h = ap (λ (x : List ℕ). waits (in_command x)) (held_back c)
meant (waits skipping_command) message h = refl
meant (waits (in_data c d)) message h = ap (λ (x : List ℕ). waits (in_data x (take (length d) message))) (held_back c) ∙ ap (λ (x : List ℕ). waits (in_data c x)) h
meant (waits (skipping_data c)) message h = ap (λ (x : List ℕ). waits (skipping_data x)) (held_back c)
meant drops message h = refl
meant (asks c d) message h = rw (held_back c, h)

lies_by : (s : Collecting) (i : Input) (message : List ℕ) → i.got ≤ length message → Lies (input_by s i message) message
lies_by Idle i message h = tt
lies_by InCommand i message h = tt
lies_by SkippingCommand i message h = tt
lies_by InData i message h = ap (λ (n : ℕ). take n message) (length-take-le i.got message h)
lies_by SkippingData i message h = tt

-- what `collect` ensures is the book's outcome, with the message buffer afterwards
pub collected_meant : (i : Input) (f : Fragment) (message : List ℕ) → i.got ≤ length message
    → outcome_meant (collected_of (collect reading (length message) (input_in i message) f)) (laid_by (length message) (input_in i message) f message)
    ≡ collect reading (length message) (input_in i message) f
collected_meant i f message h =
    meant (collect reading (length message) (input_in i message) f) (laid_by (length message) (input_in i message) f message)
    (collect_lies reading (input_in i message) f message (subst⁻¹ (λ (x : machine.Input). Lies x message) (input_by_lem i message) (lies_by (state_of i.phase) i message h))).0

all_zeros : (s : List ℕ) → zeros s ≡ true → s ≡ replicate (length s) 0
unfolding every
all_zeros [] h = refl
all_zeros (b ∷ s) h =
    let t = both_true (eqb b 0) (zeros s) h in
    ap (λ (x : ℕ). x ∷ s) (eqb-true b 0 t.0) ∙ ap (λ (x : List ℕ). 0 ∷ x) (all_zeros s t.1)

-- a header that is not wrong
pub fragment_in_lem : (context : ℕ) (bytes : List ℕ) → header_wrong context bytes ≡ false → fragment_in context bytes ≡ some (fragment_of bytes)
unfolding fragment_in
fragment_in_lem context bytes e = rw e

pub header_room : (context : ℕ) (bytes : List ℕ) → header_wrong context bytes ≡ false → 6 ≤ length bytes
unfolding header_wrong
header_room context bytes e = ltb-false (length bytes) 6 (either_false (ltb (length bytes) 6) _ e).0

-- what the rules of the records say of the command
pub sound_filled : (i : Input) → i.used ≤ 1024 → length i.command ≡ 1024 → zeros (drop i.used i.command) ≡ true → Filled i
sound_filled i h l z =
    let e : length (drop i.used i.command) ≡ 1024 - length (take i.used i.command) = omega (arith, length-drop i.used i.command, length-take i.used i.command) in
    (h, sym (take-append-drop i.used i.command) ∙ ap (λ (x : List ℕ). take i.used i.command ++ x) (all_zeros (drop i.used i.command) z ∙ ap (λ (n : ℕ). replicate n 0) e))
