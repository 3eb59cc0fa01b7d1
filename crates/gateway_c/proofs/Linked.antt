-- What is known of a call that C made: what the export's own contract, as it stands in the source, tells whoever called it. It is what
-- the library's function tells. Assumes nothing.
use mathlib.Core.List.{List, [], ◌∷◌}
use Prim.Native.Nat.{ℕ}
use contract.Lifetimes.{Lfts}
use Rattle.rules.specs.Outcomes.{Lent}
use Rattle.runs.specs.Host.{Kept, HostCall, starting, opening, feeding, closing, taking, Shown}
use Rattle.runs.specs.CallContracts.{Known, Made, CallMade}
use Rattle.runs.specs.Runs.{Ran}
use Rattle.gateway.proofs.Exported.{Place, buffer_at, read_at, exported}
use Rattle.gateway_c.proofs.gateway_start.Reads as start
use Rattle.gateway_c.proofs.gateway_open.Reads as open-call
use Rattle.gateway_c.proofs.gateway_feed.Reads as feed
use Rattle.gateway_c.proofs.gateway_close.Reads as close
use Rattle.gateway_c.proofs.gateway_take.Reads as take

-- For some lifetimes and places of the buffers: what the caller of each export learns of the number returned and the buffers afterwards.

pub record StartTold (before root : List ℕ) (serial picture r : ℕ) (after : List ℕ) : Type 0 where
  pub lifetimes : Lfts 2
  pub records : Place
  pub root_at : ℕ × ℕ
  pub told :
      start.Learnt lifetimes (buffer_at records before, (read_at root_at root, (serial, (picture, tt)))) r
      (buffer_at records after, (read_at root_at root, (serial, (picture, tt))))

pub record OpenTold (before message : List ℕ) (context syntax r : ℕ) (after : List ℕ) : Type 0 where
  pub lifetimes : Lfts 2
  pub records : Place
  pub message_at : ℕ × ℕ
  pub told :
      open-call.Learnt lifetimes (buffer_at records before, (read_at message_at message, (context, (syntax, tt)))) r
      (buffer_at records after, (read_at message_at message, (context, (syntax, tt))))

pub record FeedTold (before : Lent) (fragment : List ℕ) (r : ℕ) (after : Lent) : Type 0 where
  pub lifetimes : Lfts 6
  pub records : Place
  pub message : Place
  pub fragment_at : ℕ × ℕ
  pub command : Place
  pub data_set : Place
  pub report : Place
  pub told :
      feed.Learnt lifetimes
      (buffer_at records before.records, (buffer_at message before.message, (read_at fragment_at fragment, (buffer_at command before.command, (buffer_at data_set before.data_set, (buffer_at report before.report, tt))))))
      r
      (buffer_at records after.records, (buffer_at message after.message, (read_at fragment_at fragment, (buffer_at command after.command, (buffer_at data_set after.data_set, (buffer_at report after.report, tt))))))

pub record CloseTold (before : List ℕ) (r : ℕ) (after : List ℕ) : Type 0 where
  pub lifetimes : Lfts 1
  pub records : Place
  pub told : close.Learnt lifetimes (buffer_at records before, tt) r (buffer_at records after, tt)

pub record TakeTold (before entry : List ℕ) (r : ℕ) (after entry_after : List ℕ) : Type 0 where
  pub lifetimes : Lfts 2
  pub records : Place
  pub entry_at : Place
  pub told : take.Learnt lifetimes (buffer_at records before, (buffer_at entry_at entry, tt)) r (buffer_at records after, (buffer_at entry_at entry_after, tt))

abbrev pub linked : Known
linked = record { of_start = StartTold; of_open = OpenTold; of_feed = FeedTold; of_close = CloseTold; of_take = TakeTold }

-- It is the contract's one text: delete or weaken an `ensures` of the source, and this is refused.
pub call_exported : (k : Kept) (h : HostCall) (l : Kept) (s : Shown) → CallMade linked k h l s → CallMade exported k h l s
call_exported k (starting root serial picture) l s m =
    (record { lifetimes = m.0.lifetimes; records = m.0.records; root_at = m.0.root_at; told = m.0.told }, m.1, m.2)
call_exported k (opening message context syntax) l s m =
    (record { lifetimes = m.0.lifetimes; records = m.0.records; message_at = m.0.message_at; told = m.0.told }, m.1, m.2)
call_exported k (feeding fragment bytes command data_set report) l s m = (
  record {
    lifetimes = m.0.lifetimes;
    records = m.0.records;
    message = m.0.message;
    fragment_at = m.0.fragment_at;
    command = m.0.command;
    data_set = m.0.data_set;
    report = m.0.report;
    told = m.0.told;
  },
  m.1,
)
call_exported k closing l s m = (record { lifetimes = m.0.lifetimes; records = m.0.records; told = m.0.told }, m.1, m.2)
call_exported k (taking entry) l s m =
    (record { lifetimes = m.0.lifetimes; records = m.0.records; entry_at = m.0.entry_at; told = m.0.told }, m.1, m.2)

pub run_exported : (k : Kept) (ms : List Made) → Ran linked k ms → Ran exported k ms
unfolding Ran
run_exported k [] r = tt
run_exported k (m ∷ ms) r = (r.0, call_exported m.lent m.call m.left m.shown r.1, run_exported m.left ms r.2)

-- What the library's functions tell is in turn all that is told.
pub call_linked : (k : Kept) (h : HostCall) (l : Kept) (s : Shown) → CallMade exported k h l s → CallMade linked k h l s
call_linked k (starting root serial picture) l s m =
    (record { lifetimes = m.0.lifetimes; records = m.0.records; root_at = m.0.root_at; told = m.0.told }, m.1, m.2)
call_linked k (opening message context syntax) l s m =
    (record { lifetimes = m.0.lifetimes; records = m.0.records; message_at = m.0.message_at; told = m.0.told }, m.1, m.2)
call_linked k (feeding fragment bytes command data_set report) l s m = (
  record {
    lifetimes = m.0.lifetimes;
    records = m.0.records;
    message = m.0.message;
    fragment_at = m.0.fragment_at;
    command = m.0.command;
    data_set = m.0.data_set;
    report = m.0.report;
    told = m.0.told;
  },
  m.1,
)
call_linked k closing l s m = (record { lifetimes = m.0.lifetimes; records = m.0.records; told = m.0.told }, m.1, m.2)
call_linked k (taking entry) l s m =
    (record { lifetimes = m.0.lifetimes; records = m.0.records; entry_at = m.0.entry_at; told = m.0.told }, m.1, m.2)

pub run_linked : (k : Kept) (ms : List Made) → Ran exported k ms → Ran linked k ms
unfolding Ran
run_linked k [] r = tt
run_linked k (m ∷ ms) r = (r.0, call_linked m.lent m.call m.left m.shown r.1, run_linked m.left ms r.2)
