-- What a call leaves and shows that meets its contract: the contract allows one outcome, and the book has it.
-- Assumes nothing.
use mathlib.Core.Path.{◌≡◌, refl, sym, ◌∙◌}
use mathlib.Core.List.{List, []}
use Prim.Native.Nat.{ℕ}
use lib.ListN.{length}
use Rattle.rules.specs.Outcomes.{starts, opens, closes, Taking, takes, Feeding, feeds}
use Rattle.runs.specs.Host.{Kept, HostCall, starting, opening, feeding, closing, taking, start_handed, open_handed, lent, call_of, no_buffers, Shown}
use Rattle.runs.specs.CallContracts.{by_contract, associated, CallMade}

abbrev on_records : Kept → List ℕ → Kept
on_records k records = record { records = records; message = k.message }

abbrev pub number_shown : ℕ → Shown
number_shown n = record { number = n; buffers = no_buffers }

abbrev pub take_shown : Taking → Shown
take_shown t = record { number = t.number; buffers = record { command = []; data_set = []; report = []; entry = t.entry } }

abbrev pub fed_shown : Feeding → Shown
fed_shown f = record { number = f.number; buffers = record { command = f.command; data_set = f.data_set; report = f.report; entry = [] } }

unfoldable pub does : Kept → HostCall → Kept
does k (starting root serial picture) = on_records k (starts k.records (start_handed root serial picture)).records
does k (opening message context syntax) =
    let x = opens k.records (open_handed context syntax (length message)) in
    record { records = x.records; message = associated x.number message k.message }
does k (feeding fragment bytes command data_set report) =
    let x = feeds (lent k command data_set report) fragment in
    record { records = x.records; message = x.message }
does k closing = on_records k (closes k.records).records
does k (taking entry) = on_records k (takes k.records entry).records

unfoldable pub shows : Kept → HostCall → Shown
shows k (starting root serial picture) = number_shown (starts k.records (start_handed root serial picture)).number
shows k (opening message context syntax) = number_shown (opens k.records (open_handed context syntax (length message))).number
shows k (feeding fragment bytes command data_set report) = fed_shown (feeds (lent k command data_set report) fragment)
shows k closing = number_shown (closes k.records).number
shows k (taking entry) = take_shown (takes k.records entry)

-- what a call is read as, leaves and shows, under one name
unfoldable pub the_call : Unit {0}
unfolding call_of does shows
the_call = tt

-- it meets its contract
pub does_met : (k : Kept) (h : HostCall) → CallMade by_contract k h (does k h) (shows k h)
unfolding does shows
does_met k (starting root serial picture) = (refl, refl, refl)
does_met k (opening message context syntax) = (refl, refl, refl)
does_met k (feeding fragment bytes command data_set report) = (refl, refl)
does_met k closing = (refl, refl, refl)
does_met k (taking entry) = (refl, refl, refl)

-- and nothing else does
pub met_does : (k : Kept) (h : HostCall) (l : Kept) (s : Shown) → CallMade by_contract k h l s → l ≡ does k h
unfolding does
met_does k (starting root serial picture) l s m = rw (← m.0, ← m.1)
met_does k (opening message context syntax) l s m = rw (← m.0, ← m.1)
met_does k (feeding fragment bytes command data_set report) l s m = rw (← m.0)
met_does k closing l s m = rw (← m.0, ← m.1)
met_does k (taking entry) l s m = rw (← m.0, ← m.1)

pub met_shows : (k : Kept) (h : HostCall) (l : Kept) (s : Shown) → CallMade by_contract k h l s → s ≡ shows k h
unfolding shows
met_shows k (starting root serial picture) l s m = rw (← m.0, ← m.2)
met_shows k (opening message context syntax) l s m = rw (← m.0, ← m.2)
met_shows k (feeding fragment bytes command data_set report) l s m = rw (← m.0, ← m.1)
met_shows k closing l s m = rw (← m.0, ← m.2)
met_shows k (taking entry) l s m = rw (← m.0, ← m.2)

-- ANY TWO OUTCOMES THAT A CONTRACT ALLOWS ARE EQUAL: the number returned, the records and every lent byte.
pub one_outcome : (k : Kept) (h : HostCall) (l l' : Kept) (s s' : Shown) → CallMade by_contract k h l s → CallMade by_contract k h l' s' → (l ≡ l') × (s ≡ s')
one_outcome k h l l' s s' m m' = (met_does k h l s m ∙ sym (met_does k h l' s' m'), met_shows k h l s m ∙ sym (met_shows k h l' s' m'))
