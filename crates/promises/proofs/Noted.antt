-- Only the response of check 5 tells where the reading of a data set stopped (R-4), and it always does.
-- Assumes nothing.
use Prim.Native.Nat.{ℕ}
use mathlib.Core.Path.{◌≡◌, refl, subst}
use mathlib.Core.List.{List}
use Rattle.std.specs.Prelude.{Err}
use Rattle.choice.proofs.Picks.{Kept, first_kept}
use Rattle.elements.specs.declared.Stop.{Stop}
use Rattle.headers.specs.declared.Syntax.{Syntax}
use Rattle.strike.specs.Service.{DataSet}
use Rattle.rules.specs.declared.Core.{Core}
use Rattle.rules.specs.declared.Name.{Name}
use Rattle.rules.specs.declared.Operation.{Operation}
use Rattle.rules.specs.declared.Operation.TheVariants.{Echo, Create, Set, Act, Delete}
use Rattle.rules.specs.declared.Request.{Request}
use Rattle.rules.specs.declared.Command.{Command}
use Rattle.rules.specs.declared.Command.TheVariants.{Unreadable, Unknown, Known}
use Rattle.rules.specs.declared.Instance.{Instance}
use Rattle.rules.specs.declared.Instance.TheVariants.{Nobody, TheSession, TheFilm, TheBox}
use Rattle.rules.specs.declared.Image.{Image}
use Rattle.rules.specs.declared.Image.TheVariants.{Keeps, Erases, TooMany, Fills}
use Rattle.rules.specs.declared.Note.{Note}
use Rattle.rules.specs.declared.Note.TheVariants.{NoNote, FilmsQueued, PictureAt, StoppedAt}
use Rattle.rules.specs.declared.Class.{Class}
use Rattle.rules.specs.declared.Class.TheVariants.{Verification, Sessions, Films, Boxes, UnknownClass}
use Rattle.rules.specs.Records.{sent_name, named, syntax_in}
use Rattle.rules.specs.Commands.{uid_at, understood}
use Rattle.rules.specs.Attributes.{Listing, listing_of, image_in}
use Rattle.rules.specs.Responses.{reply}
use Rattle.rules.specs.Checks.{class_of, general_rules, Plan, image_note, sent_uid, create_plan, set_plan, action_plan, delete_plan, plan_of, reading_of, result_of, decide_request, decide, decide_command}
use Rattle.promises.proofs.Decided.{reply_of_lem, request_cases, reply_of}

-- a note that tells of a stop comes with 0110H, and tells where the reading of this data set stopped
abbrev Stopped : Syntax → DataSet → ℕ → Note → Type 0
Stopped syntax d status NoNote = Unit {0}
Stopped syntax d status (FilmsQueued n) = Unit {0}
Stopped syntax d status (PictureAt n place size) = Unit {0}
Stopped syntax d status (StoppedAt stop) = (status ≡ 0x0110) × (reading_of syntax d.came d.bytes ≡ Err stop)

abbrev PlanStopped : Syntax → DataSet → Plan → Type 0
PlanStopped syntax d p = Stopped syntax d p.verdict.status p.verdict.note

module _ (k : Core) (d : DataSet) (syntax : Syntax) where
  create_stopped : (class : Class) (sent : List ℕ) (l : Listing) → PlanStopped syntax d (create_plan k class sent l)
  unfolding create_plan
  create_stopped Verification sent l = tt
  create_stopped Sessions sent l = tt
  create_stopped Films sent l = tt
  create_stopped Boxes sent l = tt
  create_stopped UnknownClass sent l = tt

  image_stopped : (status : ℕ) (l : Listing) (image : Image) → Stopped syntax d status (image_note k l image)
  image_stopped status l Keeps = tt
  image_stopped status l Erases = tt
  image_stopped status l TooMany = tt
  image_stopped status l (Fills inside) = tt

  set_stopped : (x : Instance) (name : Name) (l : Listing) → PlanStopped syntax d (set_plan k x name l)
  unfolding set_plan
  set_stopped Nobody name l = tt
  set_stopped TheSession name l = tt
  set_stopped (TheFilm i) name l = tt
  set_stopped (TheBox i j) name l = image_stopped _ l (image_in l)

  action_stopped : (x : Instance) (name : Name) → PlanStopped syntax d (action_plan k x name)
  unfolding action_plan
  action_stopped Nobody name = tt
  action_stopped TheSession name = tt
  action_stopped (TheFilm i) name = tt
  action_stopped (TheBox i j) name = tt

  delete_stopped : (x : Instance) (name : Name) → PlanStopped syntax d (delete_plan k x name)
  unfolding delete_plan
  delete_stopped Nobody name = tt
  delete_stopped TheSession name = tt
  delete_stopped (TheFilm i) name = tt
  delete_stopped (TheBox i j) name = tt

  plan_stopped : (c : List ℕ) (o : Operation) → PlanStopped syntax d (plan_of k c d.bytes o)
  unfolding plan_of
  plan_stopped c (Echo r) = tt
  plan_stopped c (Create r) = create_stopped (class_of (uid_at c r.class)) (sent_uid c r.sent) (listing_of d.bytes (syntax_in k))
  plan_stopped c (Set r) = set_stopped (named k (uid_at c r.instance)) (sent_name (uid_at c r.instance)) (listing_of d.bytes (syntax_in k))
  plan_stopped c (Act r) = action_stopped (named k (uid_at c r.instance)) (sent_name (uid_at c r.instance))
  plan_stopped c (Delete r) = delete_stopped (named k (uid_at c r.instance)) (sent_name (uid_at c r.instance))

module _ (k : Core) (c : List ℕ) (d : DataSet) where
  request_stopped : (r : Request) → Stopped (syntax_in k) d (reply_of (result_of k c r (decide_request k c d r))).status (reply_of (result_of k c r (decide_request k c d r))).note
  unfolding reply
  request_stopped r =
      rw (reply_of_lem k c r (decide_request k c d r))
      (request_cases (λ v. Stopped (syntax_in k) d v.status v.note) k c d r (λ stop e. (refl, e)) (λ _. plan_stopped k d (syntax_in k) c r.operation) (λ n. tt))

  command_stopped : (o : Command) → Stopped (syntax_in k) d (reply_of (decide_command k c d o)).status (reply_of (decide_command k c d o)).note
  unfolding reply
  command_stopped Unreadable = tt
  command_stopped (Unknown message field) = tt
  command_stopped (Known r) = request_stopped r

  -- Where a response tells of a stop, it is that of check 5, and the reading of the data set stopped there.
  pub only_check_5 : {stop : Stop} → (reply_of (decide k c d)).note ≡ StoppedAt stop → ((reply_of (decide k c d)).status ≡ 0x0110) × (reading_of (syntax_in k) d.came d.bytes ≡ Err stop)
  unfolding decide
  only_check_5 e = subst (Stopped (syntax_in k) d (reply_of (decide k c d)).status) e (command_stopped (understood c))

  -- Where checks 2 to 4 pass a request and the reading of its data set stopped, the response is 0110H and tells where.
  pub check_5_tells : {stop : Stop} (r : Request) → understood c ≡ Known r → Kept (general_rules c d.came r.operation) → reading_of (syntax_in k) d.came d.bytes ≡ Err stop
      → ((reply_of (decide k c d)).status ≡ 0x0110) × ((reply_of (decide k c d)).note ≡ StoppedAt stop)
  unfolding decide decide_request reply
  check_5_tells r u kept e = rw (u, reply_of_lem k c r (decide_request k c d r), first_kept _ (general_rules c d.came r.operation) _ kept, e) (refl, refl)
