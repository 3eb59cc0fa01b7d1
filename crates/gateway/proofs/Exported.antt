-- What is known of a call of an exported function: what its own contract, as it stands in the source, tells whoever called it.
-- Assumes nothing.
use mathlib.Core.List.{List, [], ◌∷◌}
use Prim.Native.Nat.{ℕ}
use contract.Lifetimes.{Lfts}
use denote.Ref.{Bor, MutBor}
use Rattle.rules.specs.Outcomes.{Lent}
use Rattle.runs.specs.Host.{Kept, HostCall, starting, opening, feeding, closing, taking, Shown}
use Rattle.runs.specs.CallContracts.{Known, by_contract, Made, CallMade}
use Rattle.runs.specs.Runs.{Ran}
use Rattle.gateway.proofs.gateway_start.Reads as start
use Rattle.gateway.proofs.gateway_open.Reads as open-call
use Rattle.gateway.proofs.gateway_feed.Reads as feed
use Rattle.gateway.proofs.gateway_close.Reads as close
use Rattle.gateway.proofs.gateway_take.Reads as take

-- a buffer's place in memory, and the name under which its bytes are tracked: no contract speaks of either
pub record Place : Type 0 where
  pub address : ℕ × ℕ
  pub name : ℕ

-- a buffer that is lent there to be written, with its bytes
abbrev pub buffer_at : Place → List ℕ → MutBor (List ℕ)
buffer_at p bytes = record { ref_ptr = p.address; ghost_name = p.name; now = bytes }

-- a buffer that is lent there to be read: its bytes stay, so they are tracked under no name
abbrev pub read_at : ℕ × ℕ → List ℕ → Bor (List ℕ)
read_at address bytes = record { ref_ptr = address; now = bytes }

-- For some lifetimes and places of the buffers: what the caller of each function learns of the number returned and the buffers afterwards.

pub record StartTold (before root : List ℕ) (serial picture r : ℕ) (after : List ℕ) : Type 0 where
  pub lifetimes : Lfts 2
  pub records : Place
  pub root_at : ℕ × ℕ
  pub told :
      start.Learnt lifetimes (buffer_at records before, (read_at root_at root, (serial, (picture, tt)))) r
      (buffer_at records after, (read_at root_at root, (serial, (picture, tt))))

pub record OpenTold (before message : List ℕ) (context syntax r : ℕ) (after : List ℕ) : Type 0 where
  pub lifetimes : Lfts 2
  pub records : Place
  pub message_at : ℕ × ℕ
  pub told :
      open-call.Learnt lifetimes (buffer_at records before, (read_at message_at message, (context, (syntax, tt)))) r
      (buffer_at records after, (read_at message_at message, (context, (syntax, tt))))

pub record FeedTold (before : Lent) (fragment : List ℕ) (r : ℕ) (after : Lent) : Type 0 where
  pub lifetimes : Lfts 6
  pub records : Place
  pub message : Place
  pub fragment_at : ℕ × ℕ
  pub command : Place
  pub data_set : Place
  pub report : Place
  pub told :
      feed.Learnt lifetimes
      (buffer_at records before.records, (buffer_at message before.message, (read_at fragment_at fragment, (buffer_at command before.command, (buffer_at data_set before.data_set, (buffer_at report before.report, tt))))))
      r
      (buffer_at records after.records, (buffer_at message after.message, (read_at fragment_at fragment, (buffer_at command after.command, (buffer_at data_set after.data_set, (buffer_at report after.report, tt))))))

pub record CloseTold (before : List ℕ) (r : ℕ) (after : List ℕ) : Type 0 where
  pub lifetimes : Lfts 1
  pub records : Place
  pub told : close.Learnt lifetimes (buffer_at records before, tt) r (buffer_at records after, tt)

pub record TakeTold (before entry : List ℕ) (r : ℕ) (after entry_after : List ℕ) : Type 0 where
  pub lifetimes : Lfts 2
  pub records : Place
  pub entry_at : Place
  pub told : take.Learnt lifetimes (buffer_at records before, (buffer_at entry_at entry, tt)) r (buffer_at records after, (buffer_at entry_at entry_after, tt))

abbrev pub exported : Known
exported = record { of_start = StartTold; of_open = OpenTold; of_feed = FeedTold; of_close = CloseTold; of_take = TakeTold }

-- It is the contract's one text: delete or weaken an `ensures` of the source, and this is refused.
pub call_met : (k : Kept) (h : HostCall) (l : Kept) (s : Shown) → CallMade exported k h l s → CallMade by_contract k h l s
call_met k (starting root serial picture) l s m = (m.0.told, m.1, m.2)
call_met k (opening message context syntax) l s m = (m.0.told, m.1, m.2)
call_met k (feeding fragment bytes command data_set report) l s m = (m.0.told, m.1)
call_met k closing l s m = (m.0.told, m.1, m.2)
call_met k (taking entry) l s m = (m.0.told, m.1, m.2)

pub run_met : (k : Kept) (ms : List Made) → Ran exported k ms → Ran by_contract k ms
unfolding Ran
run_met k [] r = tt
run_met k (m ∷ ms) r = (r.0, call_met m.lent m.call m.left m.shown r.1, run_met m.left ms r.2)

-- The contract's text in turn is all that is told: what meets it may have been a call of the function, wherever the buffers lie.
somewhere : Place
somewhere = record { address = (0, 0); name = 0 }

pub call_told : (k : Kept) (h : HostCall) (l : Kept) (s : Shown) → CallMade by_contract k h l s → CallMade exported k h l s
unfolding somewhere
call_told k (starting root serial picture) l s m =
    (record { lifetimes = ([], ([], tt)); records = somewhere; root_at = somewhere.address; told = m.0 }, m.1, m.2)
call_told k (opening message context syntax) l s m =
    (record { lifetimes = ([], ([], tt)); records = somewhere; message_at = somewhere.address; told = m.0 }, m.1, m.2)
call_told k (feeding fragment bytes command data_set report) l s m = (
  record {
    lifetimes = ([], ([], ([], ([], ([], ([], tt))))));
    records = somewhere;
    message = somewhere;
    fragment_at = somewhere.address;
    command = somewhere;
    data_set = somewhere;
    report = somewhere;
    told = m.0;
  },
  m.1,
)
call_told k closing l s m = (record { lifetimes = ([], tt); records = somewhere; told = m.0 }, m.1, m.2)
call_told k (taking entry) l s m = (record { lifetimes = ([], ([], tt)); records = somewhere; entry_at = somewhere; told = m.0 }, m.1, m.2)

pub run_told : (k : Kept) (ms : List Made) → Ran by_contract k ms → Ran exported k ms
unfolding Ran
run_told k [] r = tt
run_told k (m ∷ ms) r = (r.0, call_told m.lent m.call m.left m.shown r.1, run_told m.left ms r.2)
