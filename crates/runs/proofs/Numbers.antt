-- Over good records no call is refused with 1, "records long enough break a rule", in any run.
-- Assumes nothing.
use mathlib.Core.Path.{◌≡◌, sym, ap, ◌∙◌, subst}
use mathlib.Core.Option.{Option, none, some}
use mathlib.Core.List.{List, [], ◌∷◌}
use Prim.Native.Nat.{ℕ}
use native.Mathlib.Omega.{arith}
use Rattle.strike.specs.Service as service
use Rattle.strike.specs.Service.{DataSet, Result, fails, does, Call, start, feed, close, aside, Check, passes}
use Rattle.strike.specs.Messages.{answers}
use Rattle.strike.specs.Machine.{Fragment, fragment_in, Outcome, ignores, waits, drops, asks, collect, Answer, Records, answered, carried_out, fed, checked, step}
use Rattle.rules.specs.declared.Core.{Core}
use Rattle.rules.specs.Responses.{Reply}
use Rattle.rules.specs.Checks.{decide}
use Rattle.rules.specs.Calls.{handed, reading, printing}
use Rattle.rules.specs.Outcomes.{number_of}
use Rattle.promises.proofs.ListLaws.{Each}
use Rattle.runs.specs.Host.{Shown}
use Rattle.runs.specs.CallContracts.{Made}
use Rattle.runs.specs.Runs.{Store, over_bytes}
use Rattle.runs.proofs.Refusals.{check_cases}
use Rattle.runs.proofs.Stored.{records_good, step_good_lem}
use Rattle.runs.proofs.Ran.{AllShown}

abbrev NotOne : Answer Reply (List ℕ) → Type 0
NotOne a = number_of a ≡ 1 → ⊥

answered_number : (k : Core) (d : DataSet) (x : Result Core Reply) → NotOne (answered printing k d x).answer
unfolding answered number_of
answered_number k d (fails r) e = omega (arith, e)
answered_number k d (does m r) e = omega (arith, e)

carried_number : (k : Core) (x : Outcome) → NotOne (carried_out printing k x).answer
unfolding carried_out number_of
carried_number k ignores e = omega (arith, e)
carried_number k (waits i) e = omega (arith, e)
carried_number k drops e = omega (arith, e)
carried_number k (asks c d) e = answered_number k d (decide k c d) e

fed_number : (s : Records Core) (f : Option Fragment) → NotOne (fed printing s f).answer
unfolding fed number_of
fed_number s none e = omega (arith, e)
fed_number s (some f) e = carried_number s.core (collect reading s.core.opened.room s.input f) e

passed_number : (s : Records Core) (c : Call handed) → NotOne (checked printing passes s c).answer
unfolding checked number_of
passed_number s (start h) e = omega (arith, e)
passed_number s (service.opening h) e = omega (arith, e)
passed_number s (feed fragment h) e = fed_number s (fragment_in s.core.opened.context fragment) e
passed_number s close e = omega (arith, e)
passed_number s (aside a) e = omega (arith, e)

step_number : (s : Records Core) (c : Call handed) → NotOne (step printing s c).answer
unfolding step checked number_of
step_number s c = check_cases s.core c (λ (x : Check). NotOne (checked printing x s c).answer) (λ n small e. omega (arith, e)) (λ rules. passed_number s c)

abbrev pub NotRefused1 : Made → Type 0
NotRefused1 m = m.shown.number ≡ 1 → ⊥

pub never_refused_1 : (cs : List (Call handed)) (s : Records Core) (ms : List Made) → AllShown ms (answers over_bytes (records_good s) cs) → Each NotRefused1 ms
unfolding answers AllShown
never_refused_1 [] s [] x = tt
never_refused_1 [] s (m ∷ ms) x = absurd x
never_refused_1 (c ∷ cs) s [] x = absurd x
never_refused_1 (c ∷ cs) s (m ∷ ms) x =
    let good = step_good_lem s c in
    let shown = ap (λ (y : Shown). y.number) x.0.same ∙ ap (λ y. number_of y.answer) good in
    let rest = subst (λ (r : Records Store). AllShown ms (answers over_bytes r cs)) (ap (λ y. y.records) good) x.1 in
    (λ e. step_number s c (sym shown ∙ e), never_refused_1 cs (step printing s c).records ms rest)
