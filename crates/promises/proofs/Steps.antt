-- A fact of the records after a call: it holds if it holds after what each call does, and so after any run of calls.
-- Assumes nothing.
use mathlib.Core.Path.{◌≡◌, refl}
use mathlib.Core.Option.{Option, none, some}
use mathlib.Core.List.{List, [], ◌∷◌}
use Rattle.choice.proofs.Picks.{Kept, first_cases}
use Rattle.strike.specs.Service.{DataSet, Result, fails, does, Call, start, opening, feed, close, aside, Check, passes, refuses}
use Rattle.strike.specs.Machine.{Fragment, fragment_in, Outcome, ignores, waits, drops, asks, collect, Records, answered, carried_out, fed, checked, step}
use Rattle.strike.specs.Messages as messages
use Rattle.rules.specs.declared.Core.{Core}
use Rattle.rules.specs.Responses.{Reply}
use Rattle.rules.specs.Checks.{decide}
use Rattle.rules.specs.Calls.{Starting, Opening, taking, handed, start_rules, open_rules, rules_of, check, started, opened, closed, taken, reading, printing}
use Rattle.promises.proofs.Decided.{After, OfDone, decided}

-- Any fact of the records.

-- one call: it leaves the records as they are, or is not refused
pub step_cases : (P : Records Core → Type 0) (s : Records Core) (c : Call handed) → P s → (Kept (rules_of s.core c) → P (checked printing passes s c).records) → P (step printing s c).records
unfolding step check checked
step_cases P s c p f = first_cases (λ (x : Check). P (checked printing x s c).records) refuses (rules_of s.core c) passes (λ n. p) f

-- a run of calls
pub run_cases : (P : Records Core → Type 0) → ((s : Records Core) (c : Call handed) → P s → P (step printing s c).records) → (s : Records Core) (cs : List (Call handed)) → P s → P (messages.after printing s cs)
unfolding messages.after
run_cases P f s [] p = p
run_cases P f s (c ∷ cs) p = run_cases P f (step printing s c).records cs (f s c p)

-- A fact of the core.

-- a fact holds after each call but start
pub record AfterCalls (P : Core → Type 0) (k : Core) : Type 0 where
  pub open_kept : (h : Opening) → Kept (open_rules k h) → P (opened k h)
  pub close_kept : P (closed k)
  pub take_kept : P (taken k).0
  pub request_kept : After P k

module _ (P : Core → Type 0) (s : Records Core) (each : AfterCalls P s.core) where
  result_kept : (d : DataSet) (x : Result Core Reply) → OfDone P x → P (answered printing s.core d x).records.core
  unfolding answered
  result_kept d (fails r) h = each.request_kept.kept
  result_kept d (does k r) h = h

  outcome_kept : (o : Outcome) → P (carried_out printing s.core o).records.core
  unfolding carried_out
  outcome_kept ignores = each.request_kept.kept
  outcome_kept (waits i) = each.request_kept.kept
  outcome_kept drops = each.request_kept.kept
  outcome_kept (asks c d) = result_kept d (decide s.core c d) (decided P s.core each.request_kept c d)

  fed_kept : (f : Option Fragment) → P (fed printing s f).records.core
  unfolding fed
  fed_kept none = each.close_kept
  fed_kept (some f) = outcome_kept (collect reading s.core.opened.room s.input f)

  passed_kept : (c : Call handed) → ((h : Starting) → c ≡ start h → Kept (start_rules h) → P (started h)) → Kept (rules_of s.core c) → P (checked printing passes s c).records.core
  unfolding checked
  passed_kept (start h) f r = f h refl r
  passed_kept (opening h) f r = each.open_kept h r
  passed_kept (feed bytes h) f r = fed_kept (fragment_in s.core.opened.context bytes)
  passed_kept close f r = each.close_kept
  passed_kept (aside (taking entry)) f r = each.take_kept

  -- one call
  pub step_kept : (c : Call handed) → ((h : Starting) → c ≡ start h → Kept (start_rules h) → P (started h)) → P (step printing s c).records.core
  step_kept c f = step_cases (λ (x : Records Core). P x.core) s c each.request_kept.kept (passed_kept c f)

-- a run of calls
pub run_kept : (P : Core → Type 0) → ((h : Starting) → Kept (start_rules h) → P (started h)) → ((k : Core) → P k → AfterCalls P k) → (s : Records Core) (cs : List (Call handed)) → P s.core → P (messages.after printing s cs).core
run_kept P f g = run_cases (λ (s : Records Core). P s.core) (λ s c p. step_kept P s (g s.core p) c (λ h e r. f h r))
