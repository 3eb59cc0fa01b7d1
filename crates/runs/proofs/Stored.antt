-- Printing over bytes: over good records it is printing, and the records in the two buffers are what the machine has.
-- Assumes nothing.
use mathlib.Core.Path.{◌≡◌, refl}
use mathlib.Core.Bool.{Bool, true, false}
use mathlib.Core.Option.{Option, none, some}
use mathlib.Core.List.{List}
use Prim.Native.Nat.{ℕ}
use borrow.Author.Tests.{leb-true, le-leb}
use lib.Dec.{leb}
use lib.ListN.{length}
use Rattle.choice.specs.Pick.{pick}
use Rattle.choice.proofs.Picks.{both_true, both_holds}
use Rattle.octets.specs.Octets.{Bytes}
use Rattle.strike.specs.Service as service
use Rattle.strike.specs.Service.{DataSet, Result, fails, does, Call, start, feed, close, aside, Check, passes, refuses}
use Rattle.strike.specs.Machine.{Fragment, fragment_in, idle, Outcome, ignores, waits, drops, asks, collect, Records, Step, answered, carried_out, fed, checked, step}
use Rattle.rules.specs.declared.Core.{Core}
use Rattle.rules.specs.Responses.{Reply}
use Rattle.rules.specs.Sound.{sound}
use Rattle.rules.specs.Layout.{records_size, unpack}
use Rattle.rules.specs.Checks.{decide}
use Rattle.rules.specs.Calls.{handed, check, reading, printing}
use Rattle.rules.specs.Outcomes.{records_in}
use Rattle.runs.specs.Host.{Kept}
use Rattle.runs.specs.Runs.{Store, good, useless, usable, store_in, store_check, result_good, over_bytes, view_of}
use Rattle.runs.proofs.Buffers.{RecordsGood}

-- Over good records.

abbrev pub records_good : Records Core → Records Store
records_good s = record { core = good s.core; input = s.input }

abbrev pub step_good : Step Core Reply (List ℕ) → Step Store Reply (List ℕ)
step_good x = record { records = records_good x.records; answer = x.answer }

answered_good : (k : Core) (d : DataSet) (x : Result Core Reply) → answered over_bytes (good k) d (result_good x) ≡ step_good (answered printing k d x)
unfolding answered
answered_good k d (fails r) = refl
answered_good k d (does m r) = refl

carried_good : (k : Core) (x : Outcome) → carried_out over_bytes (good k) x ≡ step_good (carried_out printing k x)
unfolding carried_out
carried_good k ignores = refl
carried_good k (waits i) = refl
carried_good k drops = refl
carried_good k (asks c d) = answered_good k d (decide k c d)

fed_good : (s : Records Core) (f : Option Fragment) → fed over_bytes (records_good s) f ≡ step_good (fed printing s f)
unfolding fed
fed_good s none = refl
fed_good s (some f) = carried_good s.core (collect reading s.core.opened.room s.input f)

checked_good : (x : Check) (s : Records Core) (c : Call handed) → checked over_bytes x (records_good s) c ≡ step_good (checked printing x s c)
unfolding checked
checked_good (refuses n) s c = refl
checked_good passes s (start h) = refl
checked_good passes s (service.opening h) = refl
checked_good passes s (feed bytes h) = fed_good s (fragment_in s.core.opened.context bytes)
checked_good passes s close = refl
checked_good passes s (aside h) = refl

pub step_good_lem : (s : Records Core) (c : Call handed) → step over_bytes (records_good s) c ≡ step_good (step printing s c)
unfolding step store_check check
step_good_lem s c = checked_good (check s.core c) s c

-- The records in the two buffers.

pub usable_good : (b : List ℕ) → Bytes b → usable b ≡ true → RecordsGood b
usable_good b o e =
    let t = both_true (leb records_size (length b)) (sound (unpack b)) e in
    record { bytes = o; long = leb-true records_size (length b) t.0; kept = t.1 }

pub good_usable : (b : List ℕ) → RecordsGood b → usable b ≡ true
good_usable b g = both_holds (leb records_size (length b)) (sound (unpack b)) (le-leb records_size (length b) g.long) g.kept

pub good_view : (k : Kept) → usable k.records ≡ true → view_of k ≡ records_good (records_in (unpack k.records) k.message)
unfolding store_in
good_view k e = rw e

pub useless_view : (k : Kept) → usable k.records ≡ false → view_of k ≡ record { core = useless k.records; input = idle }
unfolding store_in
useless_view k e = rw e

-- the core in the records' bytes, whether they are good or not
abbrev pub core_of : Store → Core
core_of (good k) = k
core_of (useless b) = (unpack b).core

core_picked : (b : List ℕ) (t : Bool) → core_of (pick t (good (unpack b).core) (useless b)) ≡ (unpack b).core
core_picked b true = refl
core_picked b false = refl

pub store_core : (b : List ℕ) → core_of (store_in b) ≡ (unpack b).core
unfolding store_in
store_core b = core_picked b (usable b)
