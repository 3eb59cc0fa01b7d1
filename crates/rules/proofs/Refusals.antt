-- Worked calls: every refusal of every call, computed. They catch the must-fail edits of the definitions.
-- Assumes nothing.
use mathlib.Core.Path.{refl}
use mathlib.Core.List.{List, [], ◌∷◌, ◌++◌}
use Prim.Native.Nat.{ℕ, ◌-◌}
use lib.ListN.{replicate}
use Rattle.strike.specs.Service as service
use Rattle.strike.specs.Service.{Call, start, feed, close, aside}
use Rattle.strike.specs.Machine.{idle, Step, step}
use Rattle.rules.specs.declared.Core.{Core}
use Rattle.rules.specs.Text.{chars}
use Rattle.rules.specs.Records.{no_entry, the_session, not_open, with_queue}
use Rattle.rules.specs.Responses.{Reply}
use Rattle.rules.specs.Calls as calls
use Rattle.rules.specs.Calls.{Starting, Opening, Lengths, handed, with_opened, printing}
use Rattle.rules.specs.Outcomes.{Lent, Feeding, number_of, starts, opens, closes, takes, feeds}
use Rattle.rules.proofs.Book.{the_book}
use Rattle.rules.specs.Layout.{records_size}
use Rattle.rules.proofs.Stage.{entry_said, nothing_live, session_live, film_live, Example, gives, AllHold}

-- what is handed over
abbrev numbers_from : List ℕ → ℕ → ℕ → Starting
numbers_from root serial picture = record { root = root; serial = serial; picture = picture }

abbrev association : ℕ → ℕ → ℕ → Opening
association message context syntax = record { context = context; syntax = syntax; message = message }

abbrev room : ℕ → ℕ → ℕ → ℕ → Lengths
room message command data_set report = record { message = message; command = command; data_set = data_set; report = report }

abbrev answers : Lengths
answers = room 4096 256 8192 20

abbrev zeros : List ℕ
zeros = replicate records_size 0

abbrev short : List ℕ
short = replicate (records_size - 1) 0

abbrev lent_with : List ℕ → Lent
lent_with records = record { records = records; message = 2 ∷ []; command = 3 ∷ []; data_set = 4 ∷ []; report = 5 ∷ [] }

abbrev fed_all : Feeding → List ℕ
fed_all f = f.number ∷ (f.records ++ (f.message ++ (f.command ++ (f.data_set ++ f.report))))

-- records of one byte, 1
abbrev one : List ℕ
one = 1 ∷ []

-- records that are not open, and records with sixteen entries
abbrev shut : Core
shut = with_opened not_open nothing_live

abbrev sixteen : Core
sixteen = with_queue (replicate 16 no_entry) nothing_live

abbrev step_of : Core → Call handed → Step Core Reply (List ℕ)
step_of k c = step printing (record { core = k; input = idle }) c

-- a root of 41 characters
abbrev long : List ℕ
long = replicate 41 49

abbrev starting : List ℕ → ℕ
starting root = number_of (step_of shut (start (numbers_from root 1 1))).answer

abbrev starting_at : ℕ → ℕ → ℕ
starting_at serial picture = number_of (step_of shut (start (numbers_from (chars "1.9.7") serial picture))).answer

abbrev opening : Core → ℕ → ℕ → ℕ → ℕ
opening k message context syntax = number_of (step_of k (service.opening (association message context syntax))).answer

abbrev feeding : Core → Lengths → ℕ
feeding k h = number_of (step_of k (feed [] h)).answer

abbrev fed_with : List ℕ → ℕ
fed_with bytes = number_of (step_of session_live (feed bytes answers)).answer

abbrev taking : Core → ℕ → ℕ
taking k n = number_of (step_of k (aside (calls.taking n))).answer

abbrev refusals : List Example
refusals =
    -- records: zeros, which break a rule; a byte short. Start looks at no rule
    gives ((opens zeros (association 4096 1 1)).number ∷ (opens short (association 4096 1 1)).number ∷ (closes zeros).number ∷ (closes short).number ∷ (takes zeros []).number ∷ (takes short []).number ∷ (feeds (lent_with zeros) []).number ∷ (feeds (lent_with short) []).number ∷ []) (1 ∷ 2 ∷ 1 ∷ 2 ∷ 1 ∷ 2 ∷ 1 ∷ 2 ∷ [])
    ∷ gives ((starts short (numbers_from (chars "1.9.7") 1 1)).number ∷ (starts zeros (numbers_from (chars "1.9.7") 0 1)).number ∷ (starts zeros (numbers_from (chars "1.9.7") 1 1)).number ∷ []) (2 ∷ 3 ∷ 0 ∷ [])
    -- "number only, nothing changed"
    ∷ gives (((starts one (numbers_from [] 0 0)).number ∷ (starts one (numbers_from [] 0 0)).records) ++ (((opens one (association 4096 1 1)).number ∷ (opens one (association 4096 1 1)).records) ++ ((closes one).number ∷ (closes one).records))) (2 ∷ 1 ∷ 2 ∷ 1 ∷ 2 ∷ 1 ∷ [])
    ∷ gives (((takes one (6 ∷ [])).number ∷ ((takes one (6 ∷ [])).records ++ (takes one (6 ∷ [])).entry)) ++ fed_all (feeds (lent_with one) [])) (2 ∷ 1 ∷ 6 ∷ 2 ∷ 1 ∷ 2 ∷ 3 ∷ 4 ∷ 5 ∷ [])
    -- start: a bad root, a root of 41 characters, numbers 0; done
    ∷ gives (starting (chars "1.02") ∷ starting long ∷ starting_at 0 1 ∷ starting_at 1 0 ∷ starting_at 1 1 ∷ []) (3 ∷ 3 ∷ 3 ∷ 3 ∷ 0 ∷ [])
    -- open: message buffers out of limits; a bad context, a bad syntax; done
    ∷ gives (opening shut 4095 1 1 ∷ opening shut 16777217 1 1 ∷ opening shut 4096 2 1 ∷ opening shut 4096 257 1 ∷ opening shut 4096 1 3 ∷ opening shut 4096 255 2 ∷ []) (2 ∷ 2 ∷ 3 ∷ 3 ∷ 3 ∷ 0 ∷ [])
    -- open while open: another length, the same length
    ∷ gives (opening session_live 4097 1 1 ∷ opening session_live 4096 1 1 ∷ []) (2 ∷ 3 ∷ [])
    -- feed: short buffers, another message buffer; not open
    ∷ gives (feeding session_live (room 4096 255 8192 20) ∷ feeding session_live (room 4096 256 8191 20) ∷ feeding session_live (room 4096 256 8192 19) ∷ feeding session_live (room 4097 256 8192 20) ∷ feeding shut (room 4096 256 8192 20) ∷ []) (2 ∷ 2 ∷ 2 ∷ 2 ∷ 4 ∷ [])
    -- feed: five wrong headers, and a right one
    ∷ gives (fed_with (0 ∷ 0 ∷ 0 ∷ 1 ∷ 1 ∷ []) ∷ fed_with (0 ∷ 0 ∷ 0 ∷ 1 ∷ 1 ∷ 0 ∷ []) ∷ fed_with (0 ∷ 0 ∷ 0 ∷ 3 ∷ 1 ∷ 0 ∷ []) ∷ fed_with (0 ∷ 0 ∷ 0 ∷ 2 ∷ 3 ∷ 0 ∷ []) ∷ fed_with (0 ∷ 0 ∷ 0 ∷ 2 ∷ 1 ∷ 4 ∷ []) ∷ fed_with (0 ∷ 0 ∷ 0 ∷ 2 ∷ 1 ∷ 0 ∷ []) ∷ []) (5 ∷ 5 ∷ 5 ∷ 5 ∷ 5 ∷ 18 ∷ [])
    -- a wrong header ends the association as by close
    ∷ gives ((the_session (step_of film_live (feed [] answers)).records.core).live ∷ (step_of film_live (feed [] answers)).records.core.shelf.count ∷ (step_of film_live (feed [] answers)).records.core.opened.live ∷ []) (0 ∷ 0 ∷ 0 ∷ [])
    -- close while not open, and while open
    ∷ gives (number_of (step_of shut close).answer ∷ number_of (step_of film_live close).answer ∷ []) (4 ∷ 0 ∷ [])
    -- take: a short buffer, an empty queue; done
    ∷ gives (taking sixteen (entry_said - 1) ∷ taking session_live entry_said ∷ taking sixteen entry_said ∷ (step_of sixteen (aside (calls.taking entry_said))).records.core.queue.count ∷ []) (2 ∷ 6 ∷ 0 ∷ 15 ∷ [])
    ∷ []

pub refusals_hold : AllHold refusals
unfolding the_book
refusals_hold = (refl, (refl, (refl, (refl, (refl, (refl, (refl, (refl, (refl, (refl, (refl, (refl, tt))))))))))))
