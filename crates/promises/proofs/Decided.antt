-- A fact of the records after a request: it holds if it holds after each effect, with what the checks before it tell.
-- Assumes nothing.
use Prim.Native.Nat.{ℕ}
use mathlib.Core.Path.{◌≡◌, refl}
use mathlib.Core.List.{List, [], ◌∷◌, ◌++◌}
use lib.Dec.{eqb}
use Rattle.std.specs.Prelude as std
use Rattle.std.specs.Prelude.{Ok, Err}
use Rattle.choice.specs.Pick.{not}
use Rattle.choice.specs.Rules.{Rule, ◌⇒◌}
use Rattle.choice.proofs.Picks.{pick_cases, Kept, first_cases, Numbers, number_cases}
use Rattle.headers.specs.declared.Part.{Part}
use Rattle.elements.specs.declared.Stop.{Stop}
use Rattle.strike.specs.Service.{DataSet, Result, fails, does}
use Rattle.rules.specs.declared.Core.{Core}
use Rattle.rules.specs.declared.Verdict.{Verdict}
use Rattle.rules.specs.declared.Note.TheVariants.{NoNote, StoppedAt}
use Rattle.rules.specs.declared.Operation.{Operation}
use Rattle.rules.specs.declared.Operation.TheVariants.{Echo, Create, Set, Act, Delete}
use Rattle.rules.specs.declared.Command.{Command}
use Rattle.rules.specs.declared.Command.TheVariants.{Unreadable, Unknown, Known}
use Rattle.rules.specs.declared.Request.{Request}
use Rattle.rules.specs.declared.Instance.{Instance}
use Rattle.rules.specs.declared.Instance.TheVariants.{Nobody, TheSession, TheFilm, TheBox}
use Rattle.rules.specs.Records.{sent_name, named, syntax_in, films_under}
use Rattle.rules.specs.Commands.{uid_at, understood}
use Rattle.rules.specs.Attributes.{Listing, listing_of, attribute_rules, session_standings, film_set_standings}
use Rattle.rules.specs.Responses.{Reply}
use Rattle.rules.specs.Effects.{session_created, film_created, session_set, film_at, film_set, box_set, session_deleted, film_deleted, printed}
use Rattle.rules.specs.declared.Class.{Class}
use Rattle.rules.specs.declared.Class.TheVariants.{Verification, Sessions, Films, Boxes, UnknownClass}
use Rattle.rules.specs.Checks.{class_of, general_rules, create_rules, target_rules, new_session_rules, new_film_rules, box_rules, session_print_rules, film_print_rules, sent_uid, create_plan, set_plan, action_plan, delete_plan, plan_of, failed, reading_of, unless_stopped, reply_to, result_of, decide_request, decide_command, decide}

-- the rules of two lists are kept
pub kept_both : (a b : List Rule) → Kept (a ++ b) → Kept a × Kept b
kept_both [] b h = (tt, h)
kept_both ((broken ⇒ n) ∷ a) b h = let r = kept_both a b h.1 in ((h.0, r.0), r.1)

-- a verdict that stands unless the reading of the data set stopped
stopped_cases : (P : Verdict → Type 0) (k : Core) (c : List ℕ) (r : Request) (x : std.Result ℕ Stop) (v : Verdict) → ((stop : Stop) → x ≡ Err stop → P (failed k c r (StoppedAt stop) 0x0110)) → P v → P (unless_stopped k c r x v)
stopped_cases P k c r (Ok q) v f g = g
stopped_cases P k c r (Err stop) v f g = f stop refl

-- What a request comes to: the first of checks 2 to 4 or of 6 to 10 that applies, where the reading stopped, or what it asks for.
module _ (P : Verdict → Type 0) (k : Core) (c : List ℕ) (d : DataSet) (r : Request)
    (stopped : (stop : Stop) → reading_of (syntax_in k) d.came d.bytes ≡ Err stop → P (failed k c r (StoppedAt stop) 0x0110))
    (done : Kept (plan_of k c d.bytes r.operation).rules → P (plan_of k c d.bytes r.operation).verdict) where
  pub numbered_cases : (Q : ℕ → Type 0) → Numbers Q (general_rules c d.came r.operation) → Numbers Q (plan_of k c d.bytes r.operation).rules → ((n : ℕ) → Q n → P (failed k c r NoNote n)) → P (decide_request k c d r)
  unfolding decide_request
  numbered_cases Q general planned f =
      number_cases P Q (failed k c r NoNote) (general_rules c d.came r.operation) _ general f
      (λ _. stopped_cases P k c r (reading_of (syntax_in k) d.came d.bytes) _ stopped
      (number_cases P Q (failed k c r NoNote) (plan_of k c d.bytes r.operation).rules _ planned f done))

  pub request_cases : ((n : ℕ) → P (failed k c r NoNote n)) → P (decide_request k c d r)
  unfolding decide_request
  request_cases f =
      first_cases P (failed k c r NoNote) (general_rules c d.came r.operation) _ f
      (λ _. stopped_cases P k c r (reading_of (syntax_in k) d.came d.bytes) _ stopped
      (first_cases P (failed k c r NoNote) (plan_of k c d.bytes r.operation).rules _ f done))

-- a fact holds after each effect
pub record After (P : Core → Type 0) (k : Core) : Type 0 where
  pub kept : P k
  pub new_session : (c : List ℕ) (sent : Part) (l : Listing) → Kept (create_rules k c sent) → Kept (new_session_rules k (sent_uid c sent) l) → P (session_created k (sent_uid c sent) l)
  pub new_film : (c : List ℕ) (sent : Part) (l : Listing) → Kept (create_rules k c sent) → Kept (new_film_rules k (sent_uid c sent) l) → P (film_created k (sent_uid c sent) l)
  pub set_session : (uid : List ℕ) (l : Listing) → named k uid ≡ TheSession → Kept (attribute_rules (session_standings l)) → P (session_set k 0 l)
  pub set_film : (uid : List ℕ) (i : ℕ) (l : Listing) → named k uid ≡ TheFilm i → Kept (attribute_rules (film_set_standings l)) → P (film_set k i l)
  pub set_box : (uid : List ℕ) (i j : ℕ) (l : Listing) → named k uid ≡ TheBox i j → Kept (box_rules k i l) → P (box_set k i j l)
  pub print_session : (uid : List ℕ) → named k uid ≡ TheSession → Kept (session_print_rules k 0) → P (printed k (films_under 0 k.shelf))
  pub print_film : (uid : List ℕ) (i : ℕ) → named k uid ≡ TheFilm i → Kept (film_print_rules k i) → P (printed k (film_at k i ∷ []))
  pub no_session : (uid : List ℕ) → named k uid ≡ TheSession → P (session_deleted k 0)
  pub no_film : (uid : List ℕ) (i : ℕ) → named k uid ≡ TheFilm i → P (film_deleted k i)

-- every effect, under one name
unfoldable pub the_effects : Unit {0}
unfolding session_created film_created session_set film_set box_set printed session_deleted film_deleted
the_effects = tt

-- the reply that a request comes to
abbrev pub reply_of : Result Core Reply → Reply
reply_of (fails r) = r
reply_of (does k r) = r

-- a fact of what a request comes to: a failure has no records of its own
abbrev pub OfDone : (Core → Type 0) → Result Core Reply → Type 0
OfDone P (fails r) = Unit {0}
OfDone P (does k r) = P k

result_done : (P : Core → Type 0) (k : Core) (c : List ℕ) (r : Request) (v : Verdict) → P v.core → OfDone P (result_of k c r v)
result_done P k c r v h = pick_cases (OfDone P) v.done (does v.core (reply_to k c r v)) (fails (reply_to k c r v)) (λ _. h) (λ _. tt)

-- done or failed, a verdict has its reply
pub reply_of_lem : (k : Core) (c : List ℕ) (r : Request) (v : Verdict) → reply_of (result_of k c r v) ≡ reply_to k c r v
reply_of_lem k c r v = pick_cases (λ x. reply_of x ≡ reply_to k c r v) v.done (does v.core (reply_to k c r v)) (fails (reply_to k c r v)) (λ _. refl) (λ _. refl)

module _ (P : Core → Type 0) (k : Core) (after : After P k) where
  create_done : (c : List ℕ) (sent : Part) (l : Listing) (class : Class) → Kept (create_rules k c sent) → Kept (create_plan k class (sent_uid c sent) l).rules → P (create_plan k class (sent_uid c sent) l).verdict.core
  unfolding create_plan
  create_done c sent l Verification a b = after.kept
  create_done c sent l Sessions a b = after.new_session c sent l a b
  create_done c sent l Films a b = after.new_film c sent l a b
  create_done c sent l Boxes a b = after.kept
  create_done c sent l UnknownClass a b = after.kept

  set_done : (uid : List ℕ) (l : Listing) (x : Instance) → named k uid ≡ x → Kept (set_plan k x (sent_name uid) l).rules → P (set_plan k x (sent_name uid) l).verdict.core
  unfolding set_plan
  set_done uid l Nobody e b = after.kept
  set_done uid l TheSession e b = after.set_session uid l e b
  set_done uid l (TheFilm i) e b = after.set_film uid i l e b
  set_done uid l (TheBox i j) e b = after.set_box uid i j l e b

  action_done : (uid : List ℕ) (x : Instance) → named k uid ≡ x → Kept (action_plan k x (sent_name uid)).rules → P (action_plan k x (sent_name uid)).verdict.core
  unfolding action_plan
  action_done uid Nobody e b = after.kept
  action_done uid TheSession e b = after.print_session uid e b
  action_done uid (TheFilm i) e b = after.print_film uid i e b
  action_done uid (TheBox i j) e b = after.kept

  delete_done : (uid : List ℕ) (x : Instance) → named k uid ≡ x → P (delete_plan k x (sent_name uid)).verdict.core
  unfolding delete_plan
  delete_done uid Nobody e = after.kept
  delete_done uid TheSession e = after.no_session uid e
  delete_done uid (TheFilm i) e = after.no_film uid i e
  delete_done uid (TheBox i j) e = after.kept

  plan_done : (c : List ℕ) (d : DataSet) (o : Operation) → Kept (plan_of k c d.bytes o).rules → P (plan_of k c d.bytes o).verdict.core
  unfolding plan_of
  plan_done c d (Echo r) h = after.kept
  plan_done c d (Create r) h =
      let b = kept_both (create_rules k c r.sent) (create_plan k (class_of (uid_at c r.class)) (sent_uid c r.sent) (listing_of d.bytes (syntax_in k))).rules h in
      create_done c r.sent (listing_of d.bytes (syntax_in k)) (class_of (uid_at c r.class)) b.0 b.1
  plan_done c d (Set r) h =
      let b = kept_both (target_rules k c r.class r.instance) (set_plan k (named k (uid_at c r.instance)) (sent_name (uid_at c r.instance)) (listing_of d.bytes (syntax_in k))).rules h in
      set_done (uid_at c r.instance) (listing_of d.bytes (syntax_in k)) (named k (uid_at c r.instance)) refl b.1
  plan_done c d (Act r) h =
      let b = kept_both (target_rules k c r.class r.instance ++ ((not (eqb r.kind 1) ⇒ 0x0123) ∷ [])) (action_plan k (named k (uid_at c r.instance)) (sent_name (uid_at c r.instance))).rules h in
      action_done (uid_at c r.instance) (named k (uid_at c r.instance)) refl b.1
  plan_done c d (Delete r) h = delete_done (uid_at c r.instance) (named k (uid_at c r.instance)) refl

  request_done : (c : List ℕ) (d : DataSet) (r : Request) → OfDone P (result_of k c r (decide_request k c d r))
  request_done c d r =
      request_cases (λ v. OfDone P (result_of k c r v)) k c d r
      (λ stop _. tt)
      (λ h. result_done P k c r (plan_of k c d.bytes r.operation).verdict (plan_done c d r.operation h))
      (λ n. tt)

  command_done : (c : List ℕ) (d : DataSet) (o : Command) → OfDone P (decide_command k c d o)
  command_done c d Unreadable = tt
  command_done c d (Unknown message field) = tt
  command_done c d (Known r) = request_done c d r

  pub decided : (c : List ℕ) (d : DataSet) → OfDone P (decide k c d)
  unfolding decide
  decided c d = command_done c d (understood c)
