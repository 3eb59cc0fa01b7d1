-- The contract of each exported call, said once: the exported function cites it, the function that it calls, and what is proved of runs.
-- An equation over the number returned and every lent byte.
use Rattle.std.specs.Prelude.{◌≡◌, List, [], ℕ, eqb, length}
use Rattle.choice.specs.Pick.{pick}
use Rattle.rules.specs.Outcomes.{starts, opens, closes, takes, Lent, feeds}
use Rattle.runs.specs.Host.{Kept, HostCall, starting, opening, feeding, closing, taking, start_handed, open_handed, lent, no_buffers, Shown}

abbrev pub StartMet : (before root : List ℕ) (serial picture r : ℕ) (after : List ℕ) → Type 0
StartMet before root serial picture r after = record { number = r; records = after } ≡ starts before (start_handed root serial picture)

abbrev pub OpenMet : (before message : List ℕ) (context syntax r : ℕ) (after : List ℕ) → Type 0
OpenMet before message context syntax r after = record { number = r; records = after } ≡ opens before (open_handed context syntax (length message))

abbrev pub FeedMet : (before : Lent) (fragment : List ℕ) (r : ℕ) (after : Lent) → Type 0
FeedMet before fragment r after =
    record { number = r; records = after.records; message = after.message; command = after.command; data_set = after.data_set; report = after.report }
    ≡ feeds before fragment

abbrev pub CloseMet : (before : List ℕ) (r : ℕ) (after : List ℕ) → Type 0
CloseMet before r after = record { number = r; records = after } ≡ closes before

abbrev pub TakeMet : (before entry : List ℕ) (r : ℕ) (after entry_after : List ℕ) → Type 0
TakeMet before entry r after entry_after = record { number = r; records = after; entry = entry_after } ≡ takes before entry

-- What is known of a call that was made, for each of the five: of what it was given, the number returned, and the buffers afterwards.
pub record Known : Type 1 where
  pub of_start : (before root : List ℕ) (serial picture r : ℕ) (after : List ℕ) → Type 0
  pub of_open : (before message : List ℕ) (context syntax r : ℕ) (after : List ℕ) → Type 0
  pub of_feed : (before : Lent) (fragment : List ℕ) (r : ℕ) (after : Lent) → Type 0
  pub of_close : (before : List ℕ) (r : ℕ) (after : List ℕ) → Type 0
  pub of_take : (before entry : List ℕ) (r : ℕ) (after entry_after : List ℕ) → Type 0

abbrev pub by_contract : Known
by_contract = record { of_start = StartMet; of_open = OpenMet; of_feed = FeedMet; of_close = CloseMet; of_take = TakeMet }

-- a call with the two buffers as they were handed over, the two as it left them, and what it showed
pub record Made : Type 0 where
  pub lent : Kept
  pub call : HostCall
  pub left : Kept
  pub shown : Shown

-- the message buffer of an open that is done is the association's from then on; a refused open leaves the one before
abbrev pub associated : ℕ → List ℕ → List ℕ → List ℕ
associated r message before = pick (eqb r 0) message before

-- What is known of a made call: what is known of the function, and that a buffer that is not lent stays.
abbrev pub CallMade : Known → Kept → HostCall → Kept → Shown → Type 0
CallMade K k (starting root serial picture) l s =
    K.of_start k.records root serial picture s.number l.records × (l.message ≡ k.message) × (s.buffers ≡ no_buffers)
CallMade K k (opening message context syntax) l s =
    K.of_open k.records message context syntax s.number l.records × (l.message ≡ associated s.number message k.message) × (s.buffers ≡ no_buffers)
CallMade K k (feeding fragment bytes command data_set report) l s =
    K.of_feed (lent k command data_set report) fragment s.number (lent l s.buffers.command s.buffers.data_set s.buffers.report) × (s.buffers.entry ≡ [])
CallMade K k closing l s = K.of_close k.records s.number l.records × (l.message ≡ k.message) × (s.buffers ≡ no_buffers)
CallMade K k (taking entry) l s =
    K.of_take k.records entry s.number l.records s.buffers.entry × (l.message ≡ k.message) × (s.buffers ≡ record { command = []; data_set = []; report = []; entry = s.buffers.entry })
