-- "All up to 10 are failures": a request that fails has a status that is neither 0000H nor a warning, one that is done has 0000H or a warning.
-- Assumes nothing.
use Prim.Native.Nat.{ℕ}
use mathlib.Core.Path.{◌≡◌, refl}
use mathlib.Core.Bool.{Bool, true, false}
use mathlib.Core.List.{List, [], ◌∷◌, ◌++◌}
use lib.Dec.{eqb}
use Rattle.choice.specs.Pick.{pick, not}
use Rattle.choice.specs.Rules.{Rule, ◌⇒◌}
use Rattle.choice.proofs.Picks.{Numbers, numbers_both}
use Rattle.headers.specs.declared.Part.{Part}
use Rattle.strike.specs.declared.Came.{Came}
use Rattle.strike.specs.Service.{DataSet, Result, fails, does}
use Rattle.rules.specs.declared.Name.{Name}
use Rattle.rules.specs.declared.Core.{Core}
use Rattle.rules.specs.declared.Operation.{Operation}
use Rattle.rules.specs.declared.Operation.TheVariants.{Echo, Create, Set, Act, Delete}
use Rattle.rules.specs.declared.Request.{Request}
use Rattle.rules.specs.declared.Command.{Command}
use Rattle.rules.specs.declared.Command.TheVariants.{Unreadable, Unknown, Known}
use Rattle.rules.specs.Lists.{any}
use Rattle.rules.specs.declared.Instance.{Instance}
use Rattle.rules.specs.declared.Instance.TheVariants.{Nobody, TheSession, TheFilm, TheBox}
use Rattle.rules.specs.Records.{sent_name, syntax_in, named}
use Rattle.rules.specs.Commands.{uid_at, understood}
use Rattle.rules.specs.Attributes.{Listing, listing_of}
use Rattle.rules.specs.Responses.{is_failure, Reply, reply}
use Rattle.rules.specs.Effects.{none_filled}
use Rattle.rules.specs.declared.Class.{Class}
use Rattle.rules.specs.declared.Class.TheVariants.{Verification, Sessions, Films, Boxes, UnknownClass}
use Rattle.rules.specs.Checks.{class_of, general_rules, create_rules, target_rules, Plan, sent_uid, create_plan, set_plan, action_plan, delete_plan, also, plan_of, result_of, decide_request, decide_command, decide}
use Rattle.promises.proofs.Decided.{numbered_cases}

-- the status of a failure, and of what is done
abbrev pub Fails : ℕ → Type 0
Fails status = is_failure status ≡ true

abbrev pub Succeeds : ℕ → Type 0
Succeeds status = is_failure status ≡ false

-- what a request comes to has the one or the other
abbrev pub Statused : Result Core Reply → Type 0
Statused (fails r) = Fails r.status
Statused (does k r) = Succeeds r.status

-- Every rule has the status of a failure.

abbrev Failing : List Rule → Type 0
Failing = Numbers Fails

general_failing : (c : List ℕ) (came : Came) (o : Operation) → Failing (general_rules c came o)
unfolding general_rules
general_failing c came o = (refl, (refl, (refl, tt)))

create_failing : (k : Core) (c : List ℕ) (sent : Part) → Failing (create_rules k c sent)
unfolding create_rules
create_failing k c sent = (refl, (refl, tt))

target_failing : (k : Core) (c : List ℕ) (class instance : Part) → Failing (target_rules k c class instance)
unfolding target_rules
target_failing k c class instance = (refl, (refl, tt))

act_failing : (k : Core) (c : List ℕ) (class instance : Part) (kind : ℕ) → Failing (target_rules k c class instance ++ ((not (eqb kind 1) ⇒ 0x0123) ∷ []))
unfolding target_rules
act_failing k c class instance kind = (refl, (refl, (refl, tt)))

-- Every plan has rules of failures, and a status of what is done.

record Planned (p : Plan) : Type 0 where
  rules_failing : Failing p.rules
  is_done : p.verdict.done ≡ true
  done_succeeds : Succeeds p.verdict.status

picked_succeeds : (t : Bool) (warning : ℕ) → Succeeds warning → Succeeds (pick t warning 0x0000)
picked_succeeds true warning w = w
picked_succeeds false warning w = refl

create_planned : (k : Core) (class : Class) (sent : List ℕ) (l : Listing) → Planned (create_plan k class sent l)
unfolding create_plan
create_planned k Verification sent l = record { rules_failing = tt; is_done = refl; done_succeeds = refl }
create_planned k Sessions sent l = record {
  rules_failing = (refl, (refl, (refl, (refl, (refl, tt)))));
  is_done = refl;
  done_succeeds = refl;
}
create_planned k Films sent l = record {
  rules_failing = (refl, (refl, (refl, (refl, (refl, tt)))));
  is_done = refl;
  done_succeeds = refl;
}
create_planned k Boxes sent l = record { rules_failing = tt; is_done = refl; done_succeeds = refl }
create_planned k UnknownClass sent l = record { rules_failing = tt; is_done = refl; done_succeeds = refl }

set_planned : (k : Core) (x : Instance) (name : Name) (l : Listing) → Planned (set_plan k x name l)
unfolding set_plan
set_planned k Nobody name l = record { rules_failing = tt; is_done = refl; done_succeeds = refl }
set_planned k TheSession name l = record { rules_failing = (refl, (refl, (refl, tt))); is_done = refl; done_succeeds = refl }
set_planned k (TheFilm i) name l = record { rules_failing = (refl, (refl, (refl, tt))); is_done = refl; done_succeeds = refl }
set_planned k (TheBox i j) name l = record {
  rules_failing = (refl, (refl, (refl, (refl, tt))));
  is_done = refl;
  done_succeeds = refl;
}

action_planned : (k : Core) (x : Instance) (name : Name) → Planned (action_plan k x name)
unfolding action_plan
action_planned k Nobody name = record { rules_failing = tt; is_done = refl; done_succeeds = refl }
action_planned k TheSession name = record {
  rules_failing = (refl, (refl, (refl, tt)));
  is_done = refl;
  done_succeeds = picked_succeeds (any none_filled _) 0xB602 refl;
}
action_planned k (TheFilm i) name = record {
  rules_failing = (refl, (refl, tt));
  is_done = refl;
  done_succeeds = picked_succeeds (any none_filled _) 0xB603 refl;
}
action_planned k (TheBox i j) name = record { rules_failing = tt; is_done = refl; done_succeeds = refl }

delete_planned : (k : Core) (x : Instance) (name : Name) → Planned (delete_plan k x name)
unfolding delete_plan
delete_planned k Nobody name = record { rules_failing = tt; is_done = refl; done_succeeds = refl }
delete_planned k TheSession name = record { rules_failing = tt; is_done = refl; done_succeeds = refl }
delete_planned k (TheFilm i) name = record { rules_failing = tt; is_done = refl; done_succeeds = refl }
delete_planned k (TheBox i j) name = record { rules_failing = tt; is_done = refl; done_succeeds = refl }

also_planned : (rules : List Rule) (p : Plan) → Failing rules → Planned p → Planned (also rules p)
also_planned rules p f g = record { rules_failing = numbers_both Fails rules p.rules f g.rules_failing; is_done = g.is_done; done_succeeds = g.done_succeeds }

planned : (k : Core) (c : List ℕ) (d : DataSet) (o : Operation) → Planned (plan_of k c d.bytes o)
unfolding plan_of
planned k c d (Echo r) = record { rules_failing = tt; is_done = refl; done_succeeds = refl }
planned k c d (Create r) =
    also_planned (create_rules k c r.sent) _ (create_failing k c r.sent)
    (create_planned k (class_of (uid_at c r.class)) (sent_uid c r.sent) (listing_of d.bytes (syntax_in k)))
planned k c d (Set r) =
    also_planned (target_rules k c r.class r.instance) _ (target_failing k c r.class r.instance)
    (set_planned k (named k (uid_at c r.instance)) (sent_name (uid_at c r.instance)) (listing_of d.bytes (syntax_in k)))
planned k c d (Act r) =
    also_planned (target_rules k c r.class r.instance ++ ((not (eqb r.kind 1) ⇒ 0x0123) ∷ [])) _
    (act_failing k c r.class r.instance r.kind)
    (action_planned k (named k (uid_at c r.instance)) (sent_name (uid_at c r.instance)))
planned k c d (Delete r) =
    also_planned (target_rules k c r.class r.instance) _ (target_failing k c r.class r.instance)
    (delete_planned k (named k (uid_at c r.instance)) (sent_name (uid_at c r.instance)))

request_statused : (k : Core) (c : List ℕ) (d : DataSet) (r : Request) → Statused (result_of k c r (decide_request k c d r))
unfolding reply
request_statused k c d r =
    let p = planned k c d r.operation in
    numbered_cases (λ v. Statused (result_of k c r v)) k c d r
    (λ stop _. refl)
    (λ _. rw p.is_done p.done_succeeds)
    Fails (general_failing c d.came r.operation) p.rules_failing
    (λ n f. f)

command_statused : (k : Core) (c : List ℕ) (d : DataSet) (x : Command) → Statused (decide_command k c d x)
unfolding reply
command_statused k c d Unreadable = refl
command_statused k c d (Unknown message field) = refl
command_statused k c d (Known r) = request_statused k c d r

-- Whatever is decided, its status says whether it failed.
pub decide_statused : (k : Core) (c : List ℕ) (d : DataSet) → Statused (decide k c d)
unfolding decide
decide_statused k c d = command_statused k c d (understood c)
