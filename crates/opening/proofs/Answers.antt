-- A call is refused by the number of the first rule that it breaks, or is done: a law for each way out of start, open and close.
-- Assumes nothing.
use Prim.Native.Nat.{ℕ, ◌+◌, ◌<◌, ◌≤◌, ◌%◌}
use mathlib.Core.Path.{◌≡◌, refl, sym, ap, ◌∙◌}
use mathlib.Core.Bool.{Bool, true, false}
use mathlib.Core.List.{List, []}
use native.Mathlib.Omega.{arith}
use lib.Dec.{eqb, ltb}
use lib.ListN.{length, get_or}
use borrow.Author.Tests.{eq-eqb, ne_eqb, le-ltb, lt-ltb, ltb-false, eqb-true}
use Rattle.choice.specs.Pick.{pick, both, either, not}
use Rattle.choice.specs.Rules.{Rule, first_broken, numbered}
use Rattle.choice.proofs.Picks.{either_false, clash}
use Rattle.choice.proofs.Broken.{first_by_number, first_refused, first_unbroken, none_broken}
use Rattle.octets.specs.Octets.{number_at}
use Rattle.uids.specs.Uids.{is_uid}
use Rattle.strike.specs.Service.{Call, start, opening, close, passes, refuses}
use Rattle.strike.specs.Machine.{idle, Records, checked, step}
use Rattle.rules.specs.declared.Opened.{Opened}
use Rattle.rules.specs.declared.Core.{Core}
use Rattle.rules.specs.Bounds.{least_room, most_room, root_limit}
use Rattle.rules.specs.Records.{is_open}
use Rattle.rules.specs.Layout.{records_size, opened_format, unpack}
use Rattle.rules.specs.Calls.{Starting, Opening, handed, bad_context, bad_syntax, start_rules, open_rules, rules_of, check, started, opened, closed, printing}
use Rattle.rules.specs.Outcomes.{records_in, written, number_of, short_rules, records_rules, Outcome, changed, unchanged, or_unchanged, called, starts, opens, closes}
use Rattle.rules.proofs.Accepted.{long_enough}
use Rattle.records.specs.Places.{opened_place, core_in}
use Rattle.records.proofs.Parts.{unpack_core, core_opened}
use Rattle.runs.specs.Host.{start_handed, open_handed}

-- What start, open and close come to, by the rules for the records and by their own.

-- a call that changes the records or leaves them
module _ (b : List ℕ) (r : Records Core) (c : Call handed) where
  split : (t : Bool) (n : ℕ) → eqb n 0 ≡ t → number_of (checked printing passes r c).answer ≡ 0
      → or_unchanged b (checked printing (pick t passes (refuses n)) r c) ≡ pick t (changed b (checked printing passes r c)) (unchanged b n)
  unfolding checked number_of
  split true n e d = rw d
  split false n e d = rw e

  by_number : numbered (rules_of r.core c) ≡ true → number_of (checked printing passes r c).answer ≡ 0
      → or_unchanged b (step printing r c) ≡ pick (eqb (first_broken (rules_of r.core c)) 0) (changed b (checked printing passes r c)) (unchanged b (first_broken (rules_of r.core c)))
  unfolding step check
  by_number h d = rw (first_by_number refuses (rules_of r.core c) passes h) (split (eqb (first_broken (rules_of r.core c)) 0) (first_broken (rules_of r.core c)) refl d)

module _ (rules : List Rule) (b : List ℕ) (c : Call handed) (all : numbered rules ≡ true) where
  abbrev before : Records Core
  before = records_in (unpack b) []

  -- refused for the records
  called_unread : (n : ℕ) → n ≡ first_broken rules → (n ≡ 0 → ⊥) → unchanged b n ≡ called rules b c
  called_unread = first_refused (unchanged b) rules _ all

  module _ (unbroken : first_broken rules ≡ 0) (own : numbered (rules_of (unpack b).core c) ≡ true) (answers-0 : number_of (checked printing passes before c).answer ≡ 0) where
    called_by_number : pick (eqb (first_broken (rules_of (unpack b).core c)) 0) (changed b (checked printing passes before c)) (unchanged b (first_broken (rules_of (unpack b).core c))) ≡ called rules b c
    called_by_number = sym (by_number b before c own answers-0) ∙ first_unbroken (unchanged b) rules _ all unbroken

    called_refused : (n : ℕ) → n ≡ first_broken (rules_of (unpack b).core c) → (n ≡ 0 → ⊥) → unchanged b n ≡ called rules b c
    called_refused n e f = rw (← called_by_number, ← e, ne_eqb n 0 f)

    called_done : first_broken (rules_of (unpack b).core c) ≡ 0 → changed b (checked printing passes before c) ≡ called rules b c
    called_done e = rw (← called_by_number, e)

-- a call that is done leaves no message half collected
abbrev freshly : Core → List ℕ → Outcome
freshly k b = record { number = 0; records = written (record { core = k; input = idle }) b }

-- Start.

module _ (b : List ℕ) (h : Starting) where
  pub start_short : length b < records_size → unchanged b 2 ≡ starts b h
  unfolding starts
  start_short short = called_unread (short_rules b) b (start h) refl 2 (rw (lt-ltb (length b) records_size short)) (λ e. omega (arith, e))

  module _ (long : records_size ≤ length b) where
    unbroken : first_broken (short_rules b) ≡ 0
    unbroken = rw (le-ltb (length b) records_size long)

    pub start_refused : (n : ℕ) → n ≡ first_broken (start_rules h) → (n ≡ 0 → ⊥) → unchanged b n ≡ starts b h
    unfolding starts checked number_of
    start_refused = called_refused (short_rules b) b (start h) refl unbroken refl refl

    pub start_done : first_broken (start_rules h) ≡ 0 → freshly (started h) b ≡ starts b h
    unfolding starts checked number_of
    start_done = called_done (short_rules b) b (start h) refl unbroken refl refl

-- Open and close, of records that are accepted or not.

pub open_unread : (b : List ℕ) (h : Opening) (n : ℕ) → n ≡ first_broken (records_rules b) → (n ≡ 0 → ⊥) → unchanged b n ≡ opens b h
unfolding opens
open_unread b h = called_unread (records_rules b) b (opening h) refl

pub close_unread : (b : List ℕ) (n : ℕ) → n ≡ first_broken (records_rules b) → (n ≡ 0 → ⊥) → unchanged b n ≡ closes b
unfolding closes
close_unread b = called_unread (records_rules b) b close refl

-- what open fixed, read where it stands
pub live_in : (b : List ℕ) → (core_in b).opened.live ≡ get_or b opened_place 0
unfolding opened_format
live_in b = ap (λ (x : Opened). x.live) (core_opened b)

pub room_in : (b : List ℕ) → (core_in b).opened.room ≡ number_at 4 b (opened_place + 3)
unfolding opened_format
room_in b = ap (λ (x : Opened). x.room) (core_opened b)

module _ (b : List ℕ) (unbroken : first_broken (records_rules b) ≡ 0) where
  pub accepted_long : records_size ≤ length b
  accepted_long = long_enough b (none_broken (records_rules b) refl unbroken)

  pub open_refused : (h : Opening) (n : ℕ) → n ≡ first_broken (open_rules (core_in b) h) → (n ≡ 0 → ⊥) → unchanged b n ≡ opens b h
  unfolding opens checked number_of
  open_refused h n e = called_refused (records_rules b) b (opening h) refl unbroken refl refl n (rw (← unpack_core b) at e)

  pub open_done : (h : Opening) → first_broken (open_rules (core_in b) h) ≡ 0 → freshly (opened (core_in b) h) b ≡ opens b h
  unfolding opens checked number_of
  open_done h e = rw (← unpack_core b) (called_done (records_rules b) b (opening h) refl unbroken refl refl (rw (← unpack_core b) at e))

  is_live : (unpack b).core.opened.live ≡ get_or b opened_place 0
  is_live = ap (λ (k : Core). k.opened.live) (unpack_core b) ∙ live_in b

  pub close_refused : get_or b opened_place 0 ≡ 0 → unchanged b 4 ≡ closes b
  unfolding closes checked number_of
  close_refused e =
      called_refused (records_rules b) b close refl unbroken refl refl 4
      (rw (eq-eqb (unpack b).core.opened.live 0 (is_live ∙ e))) (λ z. omega (arith, z))

  pub close_done : (get_or b opened_place 0 ≡ 0 → ⊥) → freshly (closed (core_in b)) b ≡ closes b
  unfolding closes checked number_of
  close_done d = rw (← unpack_core b) (called_done (records_rules b) b close refl unbroken refl refl (rw (ne_eqb (unpack b).core.opened.live 0 (λ z. d (sym is_live ∙ z)))))

pub either_none : (t : Bool) → either t false ≡ t
either_none true = refl
either_none false = refl

-- What the rules of start and open leave: arguments that fit their fields.

pub start_root : (root : List ℕ) (serial picture : ℕ) → first_broken (start_rules (start_handed root serial picture)) ≡ 0 → length root ≤ root_limit
start_root root serial picture e = ltb-false root_limit (length root) (either_false (not (is_uid root)) (ltb root_limit (length root)) (none_broken (start_rules (start_handed root serial picture)) refl e).0).1

one_of_two : (n : ℕ) (a b : Bool) → eqb n 1 ≡ a → eqb n 2 ≡ b → not (either a b) ≡ false → n < 256
one_of_two n true b e f h = let one = eqb-true n 1 e in omega (arith, one)
one_of_two n false true e f h = let two = eqb-true n 2 f in omega (arith, two)
one_of_two n false false e f h = absurd (clash {b = true} h refl)

pub open_fits : (k : Core) (room context syntax : ℕ) → first_broken (open_rules k (open_handed context syntax room)) ≡ 0 → (room < 4294967296) × (context < 256) × (syntax < 256)
open_fits k room context syntax e =
    let kept = none_broken (open_rules k (open_handed context syntax room)) refl e in
    let size = ltb-false most_room room (either_false (ltb room least_room) (ltb most_room room) (either_false (either (ltb room least_room) (ltb most_room room)) (both (is_open k) (not (eqb room k.opened.room))) kept.0).0).1 in
    let arguments = either_false (bad_context context) (bad_syntax syntax) kept.1.0 in
    let low = ltb-false 255 context (either_false (eqb (context % 2) 0) (ltb 255 context) arguments.0).1 in
    (omega (arith, size), omega (arith, low), one_of_two syntax (eqb syntax 1) (eqb syntax 2) refl refl arguments.1)
