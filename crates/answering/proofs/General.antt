-- Checks 2 to 5 stand before the plan: the first rules, and the reading of the data set.
-- Assumes nothing.
use Prim.Native.Nat.{ℕ}
use mathlib.Core.Path.{◌≡◌, refl, sym, ap, ◌∙◌}
use mathlib.Core.List.{List}
use lib.ListN.{length}
use Rattle.std.specs.Prelude.{Result, Ok, Err}
use Rattle.choice.specs.Rules.{first_broken}
use Rattle.choice.proofs.Broken.{first_refused, first_unbroken}
use Rattle.headers.specs.declared.Syntax.{Syntax}
use Rattle.elements.specs.declared.Stop.{Stop}
use Rattle.strike.specs.declared.Came.{Came}
use Rattle.rules.specs.declared.Core.{Core}
use Rattle.rules.specs.declared.Operation.{Operation}
use Rattle.rules.specs.declared.Operation.TheVariants.{Echo, Create, Set, Act, Delete}
use Rattle.rules.specs.declared.Request.{Request}
use Rattle.rules.specs.declared.Note.TheVariants.{NoNote, StoppedAt}
use Rattle.rules.specs.declared.Verdict.{Verdict}
use Rattle.rules.specs.Checks.{general_rules, reading_of, plan_of, failed, decided_by, unless_stopped, decide_request}
use Rattle.rules.specs.Records.{syntax_in}
use Rattle.commands.specs.Within.{OperationIn}
use Rattle.verdicts.specs.Ready.{UidsIn}

-- the places of an operation's UIDs
pub uids_in_parts : (c : List ℕ) (o : Operation) → UidsIn c o → OperationIn (length c) o
uids_in_parts c (Echo r) h = h.0
uids_in_parts c (Create r) h = (h.0.0, h.1)
uids_in_parts c (Set r) h = (h.0.0, h.1.0)
uids_in_parts c (Act r) h = (h.0.0, h.1.0)
uids_in_parts c (Delete r) h = (h.0.0, h.1.0)

-- checks 2 to 4, check 5, and then the plan
module _ (k : Core) (c : List ℕ) (came : Came) (d : List ℕ) (r : Request) (n : ℕ) (v : Verdict) (e : n ≡ first_broken (general_rules c came r.operation)) where
  abbrev Decides : Type 0
  Decides = v ≡ decide_request k c (record { came = came; bytes = d }) r

  abbrev behind : Verdict
  behind = unless_stopped k c r (reading_of (syntax_in k) came d) (decided_by k c r (plan_of k c d r.operation))

  pub general_broken : (n ≡ 0 → ⊥) → v ≡ failed k c r NoNote n → Decides
  unfolding decide_request general_rules
  general_broken broken f = f ∙ first_refused (failed k c r NoNote) (general_rules c came r.operation) behind refl n e broken

  general_kept : n ≡ 0 → v ≡ behind → Decides
  unfolding decide_request general_rules
  general_kept kept f = f ∙ first_unbroken (failed k c r NoNote) (general_rules c came r.operation) behind refl (sym e ∙ kept)

  module _ (kept : n ≡ 0) (syntax : Syntax) (told : syntax ≡ syntax_in k) (x : Result ℕ Stop) (reads : x ≡ reading_of syntax came d) where
    read_so : (y : Result ℕ Stop) → x ≡ y → behind ≡ unless_stopped k c r y (decided_by k c r (plan_of k c d r.operation))
    read_so y h = ap (λ (z : Result ℕ Stop). unless_stopped k c r z (decided_by k c r (plan_of k c d r.operation))) (ap (λ (z : Syntax). reading_of z came d) (sym told) ∙ sym reads ∙ h)

    pub data_read : {q : ℕ} → x ≡ Ok q → v ≡ decided_by k c r (plan_of k c d r.operation) → Decides
    data_read {q} h f = general_kept kept (f ∙ sym (read_so (Ok q) h))

    pub data_stopped : {stop : Stop} → x ≡ Err stop → v ≡ failed k c r (StoppedAt stop) 0x0110 → Decides
    data_stopped {stop} h f = general_kept kept (f ∙ sym (read_so (Err stop) h))
