-- A decision comes to a verdict of the book, and its change can be written.
use Rattle.std.specs.Prelude.{◌≡◌, ℕ, List, Result, Ok, Err}
use Rattle.rules.specs.declared.Core.{Core}
use Rattle.rules.specs.declared.Failure.{Failure}
use Rattle.rules.specs.declared.Request.{Request}
use Rattle.rules.specs.declared.Note.TheVariants.{NoNote}
use Rattle.rules.specs.declared.Verdict.{Verdict}
use Rattle.rules.specs.Failures.{status_of}
use Rattle.rules.specs.Checks.{Plan, failed, decided_by}
use Rattle.changes.specs.declared.Decision.{Decision}
use Rattle.changes.specs.Changes.{verdict_of, Fits}

abbrev pub Decides : Core → Decision → Verdict → Type 0
Decides k d v = (verdict_of k d ≡ v) × Fits k d.change

-- a decision, or the failure of a request, comes to a verdict
abbrev pub Comes : Core → List ℕ → Request → Result Decision Failure → Verdict → Type 0
Comes k c r (Ok d) v = Decides k d v
Comes k c r (Err failure) v = failed k c r NoNote (status_of failure) ≡ v

-- it comes to what a plan does, for every request
abbrev pub Follows : Core → Plan → Result Decision Failure → Type 0
Follows k plan x = (c : List ℕ) (r : Request) → Comes k c r x (decided_by k c r plan)
