-- What a result leaves in the buffers, by what the code was told.
-- Assumes nothing.
use Prim.Native.Nat.{ℕ, ◌≤◌}
use mathlib.Core.Path.{◌≡◌, refl, sym, ap, subst, ◌∙◌}
use mathlib.Core.Bool.{Bool, true, false}
use mathlib.Core.List.{List}
use lib.ListN.{length}
use Rattle.choice.specs.Pick.{pick}
use Rattle.octets.specs.Octets.{laid, Bytes}
use Rattle.octets.proofs.Laid.{laid_none}
use Rattle.fields.specs.Format.{write}
use Rattle.strike.specs.Service.{DataSet, Result, fails, does}
use Rattle.strike.specs.Machine.{idle}
use Rattle.rules.specs.declared.Core.{Core}
use Rattle.rules.specs.declared.Input.{Input}
use Rattle.rules.specs.declared.Command.{Command}
use Rattle.rules.specs.declared.Command.TheVariants.{Unreadable, Unknown, Known}
use Rattle.rules.specs.declared.Operation.{Operation}
use Rattle.rules.specs.declared.Operation.TheVariants.{Echo, Create, Set, Act, Delete}
use Rattle.rules.specs.declared.Request.{Request}
use Rattle.rules.specs.declared.Verdict.{Verdict}
use Rattle.rules.specs.Layout.{input_format, core_size, records_size}
use Rattle.rules.specs.Commands.{understood}
use Rattle.rules.specs.Responses.{Reply, reply}
use Rattle.rules.specs.Checks.{reply_to, result_of, decide_command, decide_request, decide}
use Rattle.rules.specs.Outcomes.{input_held, report_bytes}
use Rattle.promises.proofs.Replies.{UidsKnown}
use Rattle.verdicts.specs.Ready.{UidsIn}
use Rattle.feeding.specs.Feeding.{unknown_reply, settled}
use Rattle.feeding.proofs.Records.{written_over, input_over}
use Rattle.answering.specs.Answered.{reply_in, settled_by, unknown_result, Leaves}

reply_in_lem : (done : Bool) (k : Core) (reply : Reply) → reply ≡ reply_in (pick done (does k reply) (fails reply))
reply_in_lem true k reply = refl
reply_in_lem false k reply = refl

settled_by_lem : (done : Bool) (k : Core) (reply : Reply) (b : List ℕ) → settled done k b ≡ settled_by (pick done (does k reply) (fails reply)) b
unfolding settled
settled_by_lem true k reply b = refl
settled_by_lem false k reply b = refl

-- a request's UIDs keep PS3.5's rules
pub uids_known : (c : List ℕ) (o : Operation) → UidsIn c o → UidsKnown c o
uids_known c (Echo r) h = h.1
uids_known c (Create r) h = h.0.1
uids_known c (Set r) h = (h.0.1, h.1.1)
uids_known c (Act r) h = (h.0.1, h.1.1)
uids_known c (Delete r) h = (h.0.1, h.1.1)

-- A verdict leaves what its result leaves.

module _ (k : Core) (c : List ℕ) (r : Request) (v : Verdict) (x : Result Core Reply) (e : result_of k c r v ≡ x) where
  pub meant_reply : reply_to k c r v ≡ reply_in x
  meant_reply = reply_in_lem v.done v.core (reply_to k c r v) ∙ ap reply_in e

  pub meant_settled : (b : List ℕ) → settled v.done v.core b ≡ settled_by x b
  meant_settled b = settled_by_lem v.done v.core (reply_to k c r v) b ∙ ap (λ (y : Result Core Reply). settled_by y b) e

  pub meant_left : (b o s command d data_set t report : List ℕ) → o ≡ settled v.done v.core b
      → command ≡ laid s 0 (reply_to k c r v).command → data_set ≡ laid d 0 (reply_to k c r v).data_set → report ≡ laid t 0 (report_bytes (reply_to k c r v))
      → Leaves x b o s command d data_set t report
  meant_left b o s command d data_set t report eo ec ed et = (
    eo ∙ meant_settled b,
    ec ∙ ap (λ (y : Reply). laid s 0 y.command) meant_reply,
    ed ∙ ap (λ (y : Reply). laid d 0 y.data_set) meant_reply,
    et ∙ ap (λ (y : Reply). laid t 0 (report_bytes y)) meant_reply,
  )

-- the same, of the command as it stands
pub request_as : {c e : List ℕ} (k : Core) (d : DataSet) (r : Request) → c ≡ e → (b o s command n data_set t report : List ℕ)
    → Leaves (result_of k c r (decide_request k c d r)) b o s command n data_set t report → Leaves (result_of k e r (decide_request k e d r)) b o s command n data_set t report
request_as k d r q b o s command n data_set t report h =
    subst (λ (y : List ℕ). Leaves (result_of k y r (decide_request k y d r)) b o s command n data_set t report) q h

-- A command by what was understood.

module _ (k : Core) (c : List ℕ) (d : DataSet) where
  by_command : (b o s command n data_set t report : List ℕ) (x : Command) → understood c ≡ x → Leaves (decide_command k c d x) b o s command n data_set t report → Leaves (decide k c d) b o s command n data_set t report
  unfolding decide
  by_command b o s command n data_set t report x e h = subst (λ (y : Command). Leaves (decide_command k c d y) b o s command n data_set t report) (sym e) h

  pub known_left : (r : Request) → understood c ≡ Known r → (b o s command n data_set t report : List ℕ) → Leaves (result_of k c r (decide_request k c d r)) b o s command n data_set t report → Leaves (decide k c d) b o s command n data_set t report
  known_left r e b o s command n data_set t report h = by_command b o s command n data_set t report (Known r) e h

  -- an unknown field leaves the data set's buffer
  unknown_by : (x : Command) (message field : ℕ) → understood c ≡ x → decide_command k c d x ≡ unknown_result message field → (b o s command n t report : List ℕ)
      → (o ≡ settled_by (unknown_result message field) b) × (command ≡ laid s 0 (unknown_reply message field).command) × (report ≡ laid t 0 (report_bytes (unknown_reply message field)))
      → Leaves (decide k c d) b o s command n n t report
  unfolding reply
  unknown_by x message field e f b o s command n t report h =
      by_command b o s command n n t report x e
      (subst (λ (y : Result Core Reply). Leaves y b o s command n n t report) (sym f) (h.0, h.1, sym (laid_none n 0), h.2))

  pub unreadable_left : understood c ≡ Unreadable → (b o s command n t report : List ℕ)
      → (o ≡ settled_by (unknown_result 0 0) b) × (command ≡ laid s 0 (unknown_reply 0 0).command) × (report ≡ laid t 0 (report_bytes (unknown_reply 0 0)))
      → Leaves (decide k c d) b o s command n n t report
  unreadable_left e = unknown_by Unreadable 0 0 e refl

  pub unknown_left : (message field : ℕ) → understood c ≡ Unknown message field → (b o s command n t report : List ℕ)
      → (o ≡ settled_by (unknown_result message field) b) × (command ≡ laid s 0 (unknown_reply message field).command) × (report ≡ laid t 0 (report_bytes (unknown_reply message field)))
      → Leaves (decide k c d) b o s command n n t report
  unknown_left message field e = unknown_by (Unknown message field) message field e refl

-- With another input a result leaves the same.
pub settled_over : (b : List ℕ) (i : Input) → Bytes b → records_size ≤ length b → (x : Result Core Reply) → settled_by x (write input_format i b core_size) ≡ settled_by x b
settled_over b i o h (fails r) = input_over b i o h (input_held idle)
settled_over b i o h (does k r) = written_over b i o h (record { core = k; input = idle })
