-- A known request's class and instance are UIDs that keep PS3.5's rules, and lie within its command set.
-- Assumes nothing.
use Prim.Native.Nat.{ℕ}
use mathlib.Core.Path.{◌≡◌, subst}
use mathlib.Core.Bool.{Bool, true}
use mathlib.Core.List.{List}
use lib.Dec.{eqb}
use Rattle.choice.specs.Pick.{pick, both}
use Rattle.choice.proofs.Picks.{pick_cases, both_true}
use Rattle.rules.specs.declared.Command.{Command}
use Rattle.rules.specs.declared.Command.TheVariants.{Unreadable, Unknown, Known}
use Rattle.rules.specs.declared.Request.{Request}
use Rattle.rules.specs.Commands.{has_uid, has_target, has_number, field, requested, requested_instance, well_formed, request_in, understood}
use Rattle.commands.proofs.Within.{placed_in}
use Rattle.verdicts.specs.Ready.{UidIn, UidsIn}

abbrev CommandUids : List ℕ → Command → Type 0
CommandUids c Unreadable = Unit {0}
CommandUids c (Unknown message field) = Unit {0}
CommandUids c (Known r) = UidsIn c r.operation

-- a request where a test holds
where_true : (c : List ℕ) (t : Bool) (k : Command) → (t ≡ true → CommandUids c k) → CommandUids c (pick t k Unreadable)
where_true c t k g = pick_cases (CommandUids c) t k Unreadable g (λ _. tt)

request_uids : (c : List ℕ) → CommandUids c (request_in c)
unfolding request_in
request_uids c =
    let So = CommandUids c in
    let class : has_uid c 0x0000_0002 ≡ true → UidIn c _ = λ e. (placed_in c 0x0000_0002, e) in
    let target : has_target c ≡ true → UidIn c (requested c) × UidIn c (requested_instance c) =
    λ e. let t = both_true (has_uid c 0x0000_0003) (has_uid c 0x0000_1001) e in ((placed_in c 0x0000_0003, t.0), (placed_in c 0x0000_1001, t.1)) in
    pick_cases So (eqb (field c) 0x0030) _ _ (λ _. where_true c (has_uid c 0x0000_0002) _ class)
    (λ _. pick_cases So (eqb (field c) 0x0140) _ _ (λ _. where_true c (has_uid c 0x0000_0002) _ (λ e. (class e, placed_in c 0x0000_1000)))
    (λ _. pick_cases So (eqb (field c) 0x0120) _ _ (λ _. where_true c (has_target c) _ target)
    (λ _. pick_cases So (eqb (field c) 0x0130) _ _ (λ _. where_true c (both (has_target c) (has_number c 0x0000_1008)) _ (λ e. target (both_true (has_target c) (has_number c 0x0000_1008) e).0))
    (λ _. pick_cases So (eqb (field c) 0x0150) _ _ (λ _. where_true c (has_target c) _ target) (λ _. tt)))))

pub known_uids : (c : List ℕ) (request : Request) → understood c ≡ Known request → UidsIn c request.operation
unfolding understood
known_uids c request e = subst (CommandUids c) e (where_true c (well_formed c) (request_in c) (λ _. request_uids c))
