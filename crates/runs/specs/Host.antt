-- The host's side of a run: the two buffers that it keeps between calls, what it hands over with each call, and what a call shows.
use Rattle.std.specs.Prelude.{List, [], ℕ, length}
use Rattle.octets.specs.Octets.{Bytes}
use Rattle.strike.specs.Service as service
use Rattle.strike.specs.Service.{Call}
use Rattle.rules.specs.Calls as calls
use Rattle.rules.specs.Calls.{Starting, Opening, handed}
use Rattle.rules.specs.Outcomes.{Lent, lengths}

-- the records' bytes and the message buffer's
pub record Kept : Type 0 where
  pub records : List ℕ
  pub message : List ℕ

-- A call of the host: start with root, next serial and next picture number; open with the message buffer of the association, context
-- number and syntax; feed a fragment, which is of bytes, and lend buffers for command, data set and report; close; take, and lend a buffer
-- for the entry.
pub data HostCall : Type 0 where
  starting : List ℕ → ℕ → ℕ → HostCall
  opening : List ℕ → ℕ → ℕ → HostCall
  feeding : (fragment : List ℕ) → Bytes fragment → List ℕ → List ℕ → List ℕ → HostCall
  closing : HostCall
  taking : List ℕ → HostCall

-- What is handed over with a start and with an open.

abbrev pub start_handed : List ℕ → ℕ → ℕ → Starting
start_handed root serial picture = record { root = root; serial = serial; picture = picture }

abbrev pub open_handed : ℕ → ℕ → ℕ → Opening
open_handed context syntax message = record { context = context; syntax = syntax; message = message }

abbrev pub lent : Kept → List ℕ → List ℕ → List ℕ → Lent
lent k command data_set report = record { records = k.records; message = k.message; command = command; data_set = data_set; report = report }

-- The call as the machine reads it: arguments, a fragment, and of every buffer that is lent its length alone.
unfoldable pub call_of : Kept → HostCall → Call handed
call_of k (starting root serial picture) = service.start (start_handed root serial picture)
call_of k (opening message context syntax) = service.opening (open_handed context syntax (length message))
call_of k (feeding fragment bytes command data_set report) = service.feed fragment (lengths (lent k command data_set report))
call_of k closing = service.close
call_of k (taking entry) = service.aside (calls.taking (length entry))

-- The buffers for an answer, as they are lent or as they stand afterwards; one that is not lent is empty.
pub record Buffers : Type 0 where
  pub command : List ℕ
  pub data_set : List ℕ
  pub report : List ℕ
  pub entry : List ℕ

abbrev pub no_buffers : Buffers
no_buffers = record { command = []; data_set = []; report = []; entry = [] }

abbrev pub lent_by : HostCall → Buffers
lent_by (starting root serial picture) = no_buffers
lent_by (opening message context syntax) = no_buffers
lent_by (feeding fragment bytes command data_set report) = record { command = command; data_set = data_set; report = report; entry = [] }
lent_by closing = no_buffers
lent_by (taking entry) = record { command = []; data_set = []; report = []; entry = entry }

-- What a call shows: the number returned, and every buffer lent for an answer as it is afterwards.
pub record Shown : Type 0 where
  pub number : ℕ
  pub buffers : Buffers
