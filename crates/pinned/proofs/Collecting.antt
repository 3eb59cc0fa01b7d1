-- Collecting a message: every state with every fragment, headers that are wrong, both sides of the limits; and what a message's calls are to it.
-- Assumes nothing.
use mathlib.Core.Path.{refl}
use mathlib.Core.Bool.{Bool, true, false}
use mathlib.Core.Option.{Option, none, some}
use mathlib.Core.List.{List, [], ◌∷◌, ◌++◌, map}
use Prim.Native.Nat.{ℕ}
use lib.ListN.{replicate, take}
use Rattle.choice.specs.Pick.{pick}
use Rattle.strike.specs.declared.Reading.{Reading}
use Rattle.strike.specs.declared.Reading.TheVariants.{NotReadable, Alone, WithData}
use Rattle.strike.specs.declared.Came.{Came}
use Rattle.strike.specs.declared.Came.TheVariants.{Absent, Whole, TooLong}
use Rattle.strike.specs.Service.{DataSet, no_data}
use Rattle.strike.specs.Machine.{Fragment, command, dataset, header_wrong, fragment_in, Input, idle, in_command, skipping_command, in_data, skipping_data, Outcome, ignores, waits, drops, asks, collect, laid_by, Answer, refused, done, told, ignored, wait, dropped, failure, success}
use Rattle.strike.specs.Messages.{may_begin, unfinished, Role, outside, begins, continues, ends, role_of_fragment, Count, count_after, message_of, cut_by, struck, Fate, succeeded, failed, wasDropped, wasCutOff, unsettled, strikeable, says, is_of}
use Rattle.rules.proofs.Book.{the_book}
use Rattle.rules.proofs.Stage.{Example, gives, AllHold}
use Rattle.strike.proofs.Opened.{the_messages}

abbrev each : {A : Type 0} → (A → Bool) → List A → List ℕ
each test xs = map (λ x. pick (test x) 1 0) xs

-- the five states, with a command of one byte and data of one byte
abbrev states : List Input
states = idle ∷ in_command (5 ∷ []) ∷ skipping_command ∷ in_data (5 ∷ []) (6 ∷ []) ∷ skipping_data (5 ∷ []) ∷ []

abbrev input_numbers : Input → List ℕ
input_numbers idle = 0 ∷ []
input_numbers (in_command c) = 1 ∷ c
input_numbers skipping_command = 2 ∷ []
input_numbers (in_data c d) = 3 ∷ (c ++ d)
input_numbers (skipping_data c) = 4 ∷ c

abbrev came_number : Came → ℕ
came_number Absent = 0
came_number Whole = 1
came_number TooLong = 2

abbrev data_numbers : DataSet → List ℕ
data_numbers d = came_number d.came ∷ d.bytes

-- ignored 18, wait 16 and the state, dropped 17, asked 19 with command and data
abbrev outcome_numbers : Outcome → List ℕ
outcome_numbers ignores = 18 ∷ []
outcome_numbers (waits i) = 16 ∷ input_numbers i
outcome_numbers drops = 17 ∷ []
outcome_numbers (asks c d) = 19 ∷ (c ++ data_numbers d)

-- a message buffer of two bytes
abbrev met : Reading → Fragment → Input → List ℕ
met reading f i = outcome_numbers (collect (λ c. reading) 2 i f)

abbrev in_each : Reading → Fragment → List ℕ
in_each reading f = met reading f idle ++ (met reading f (in_command (5 ∷ [])) ++ (met reading f skipping_command ++ (met reading f (in_data (5 ∷ []) (6 ∷ [])) ++ met reading f (skipping_data (5 ∷ [])))))

-- how a command of so many bytes goes on, by its last fragment or not
abbrev gathered : ℕ → Bool → List ℕ
gathered n last = take 2 (met Alone (command last (replicate n 1)) idle)

abbrev collected : List Example
collected =
    -- a command fragment, not the last; the last, by what the command says
    gives (in_each Alone (command false (7 ∷ []))) (16 ∷ 1 ∷ 7 ∷ 16 ∷ 1 ∷ 5 ∷ 7 ∷ 16 ∷ 2 ∷ 16 ∷ 1 ∷ 7 ∷ 16 ∷ 1 ∷ 7 ∷ [])
    ∷ gives (in_each Alone (command true (7 ∷ []))) (19 ∷ 7 ∷ 0 ∷ 19 ∷ 5 ∷ 7 ∷ 0 ∷ 17 ∷ 19 ∷ 7 ∷ 0 ∷ 19 ∷ 7 ∷ 0 ∷ [])
    ∷ gives (in_each WithData (command true (7 ∷ []))) (16 ∷ 3 ∷ 7 ∷ 16 ∷ 3 ∷ 5 ∷ 7 ∷ 17 ∷ 16 ∷ 3 ∷ 7 ∷ 16 ∷ 3 ∷ 7 ∷ [])
    ∷ gives (in_each NotReadable (command true (7 ∷ []))) (17 ∷ 17 ∷ 17 ∷ 17 ∷ 17 ∷ [])
    -- a data fragment that fits, and one past the message buffer
    ∷ gives (in_each Alone (dataset false (7 ∷ []))) (18 ∷ 17 ∷ 17 ∷ 16 ∷ 3 ∷ 5 ∷ 6 ∷ 7 ∷ 16 ∷ 4 ∷ 5 ∷ [])
    ∷ gives (in_each Alone (dataset true (7 ∷ []))) (18 ∷ 17 ∷ 17 ∷ 19 ∷ 5 ∷ 1 ∷ 6 ∷ 7 ∷ 19 ∷ 5 ∷ 2 ∷ [])
    ∷ gives (in_each Alone (dataset false (7 ∷ 8 ∷ []))) (18 ∷ 17 ∷ 17 ∷ 16 ∷ 4 ∷ 5 ∷ 16 ∷ 4 ∷ 5 ∷ [])
    ∷ gives (in_each Alone (dataset true (7 ∷ 8 ∷ []))) (18 ∷ 17 ∷ 17 ∷ 19 ∷ 5 ∷ 2 ∷ 19 ∷ 5 ∷ 2 ∷ [])
    -- "Command set 1,024 bytes"
    ∷ gives (gathered 1024 false ++ (gathered 1025 false ++ (gathered 1024 true ++ gathered 1025 true))) (16 ∷ 1 ∷ 16 ∷ 2 ∷ 19 ∷ 1 ∷ 17 ∷ [])
    -- "Data lies in the message buffer from its start"; past it nothing is written
    ∷ gives (laid_by 2 (in_data [] (6 ∷ [])) (dataset false (7 ∷ [])) (0 ∷ 0 ∷ 9 ∷ []) ++ (laid_by 2 (in_data [] (6 ∷ [])) (dataset false (7 ∷ 8 ∷ [])) (0 ∷ 0 ∷ 9 ∷ []) ++ (laid_by 2 (in_data [] []) (command true (7 ∷ [])) (0 ∷ []) ++ (laid_by 2 (skipping_data []) (dataset true (7 ∷ [])) (0 ∷ []) ++ (laid_by 2 (in_command []) (dataset true (7 ∷ [])) (0 ∷ []) ++ laid_by 2 idle (dataset true (7 ∷ [])) (0 ∷ [])))))) (0 ∷ 7 ∷ 9 ∷ 0 ∷ 0 ∷ 9 ∷ 0 ∷ 0 ∷ 0 ∷ 0 ∷ [])
    ∷ []

pub collected_hold : AllHold collected
unfolding the_book
collected_hold = (refl, (refl, (refl, (refl, (refl, (refl, (refl, (refl, (refl, (refl, tt))))))))))

-- Headers: n, the context 9 and the control byte.

abbrev fragment_numbers : Option Fragment → List ℕ
fragment_numbers none = 0 ∷ []
fragment_numbers (some (command last bytes)) = 1 ∷ pick last 1 0 ∷ bytes
fragment_numbers (some (dataset last bytes)) = 2 ∷ pick last 1 0 ∷ bytes

abbrev fragment_of : List ℕ → List ℕ
fragment_of bytes = fragment_numbers (fragment_in 9 bytes)

abbrev headers : List Example
headers =
    gives (fragment_of (0 ∷ 0 ∷ 0 ∷ 3 ∷ 9 ∷ 0 ∷ 7 ∷ []) ++ (fragment_of (0 ∷ 0 ∷ 0 ∷ 3 ∷ 9 ∷ 1 ∷ 7 ∷ []) ++ (fragment_of (0 ∷ 0 ∷ 0 ∷ 3 ∷ 9 ∷ 2 ∷ 7 ∷ []) ++ fragment_of (0 ∷ 0 ∷ 0 ∷ 3 ∷ 9 ∷ 3 ∷ 7 ∷ [])))) (2 ∷ 0 ∷ 7 ∷ 1 ∷ 0 ∷ 7 ∷ 2 ∷ 1 ∷ 7 ∷ 1 ∷ 1 ∷ 7 ∷ [])
    -- "fewer than 6 bytes, n below 2, n+4 not the bytes given, another context, or control bits 2 to 7 set"
    ∷ gives (each (header_wrong 9) ((0 ∷ 0 ∷ 0 ∷ 2 ∷ 9 ∷ 3 ∷ []) ∷ (0 ∷ 0 ∷ 1 ∷ 44 ∷ 9 ∷ 3 ∷ replicate 298 7) ∷ [])) (0 ∷ 0 ∷ [])
    ∷ gives (each (header_wrong 9) ([] ∷ (0 ∷ 0 ∷ 0 ∷ 1 ∷ 9 ∷ []) ∷ (0 ∷ 0 ∷ 0 ∷ 1 ∷ 9 ∷ 3 ∷ []) ∷ (0 ∷ 0 ∷ 0 ∷ 2 ∷ 9 ∷ 3 ∷ 7 ∷ []) ∷ (0 ∷ 0 ∷ 0 ∷ 4 ∷ 9 ∷ 3 ∷ 7 ∷ []) ∷ (1 ∷ 0 ∷ 0 ∷ 3 ∷ 9 ∷ 3 ∷ 7 ∷ []) ∷ (0 ∷ 0 ∷ 0 ∷ 3 ∷ 7 ∷ 3 ∷ 7 ∷ []) ∷ (0 ∷ 0 ∷ 0 ∷ 3 ∷ 9 ∷ 4 ∷ 7 ∷ []) ∷ (0 ∷ 0 ∷ 0 ∷ 3 ∷ 9 ∷ 131 ∷ 7 ∷ []) ∷ [])) (replicate 9 1)
    ∷ []

pub headers_hold : AllHold headers
unfolding the_book
headers_hold = (refl, (refl, (refl, tt)))

-- Demand 3: which fragments begin, continue and cut off a message, and how a message ended.

abbrev role_number : Role → ℕ
role_number outside = 0
role_number begins = 1
role_number continues = 2
role_number ends = 3

abbrev option_numbers : Option ℕ → List ℕ
option_numbers none = 0 ∷ []
option_numbers (some n) = 1 ∷ n ∷ []

abbrev fate_number : Fate → ℕ
fate_number succeeded = 0
fate_number failed = 1
fate_number wasDropped = 2
fate_number wasCutOff = 3
fate_number unsettled = 4

abbrev counted : Count → List ℕ
counted n = n.begun ∷ pick n.goes_on 1 0 ∷ []

-- four messages have begun, and the last goes on or not
abbrev four : Bool → Count
four goes_on = record { begun = 4; goes_on = goes_on }

abbrev saying : Answer ℕ ℕ → ℕ
saying answer = fate_number (says answer unsettled)

abbrev messages : List Example
messages =
    gives (each may_begin states ++ each unfinished states) (1 ∷ 0 ∷ 0 ∷ 1 ∷ 1 ∷ 0 ∷ 0 ∷ 0 ∷ 1 ∷ 1 ∷ [])
    ∷ gives (map (λ i. role_number (role_of_fragment i (some (command true [])))) states ++ (map (λ i. role_number (role_of_fragment i (some (dataset true [])))) states ++ (role_number (role_of_fragment idle none) ∷ []))) (1 ∷ 2 ∷ 2 ∷ 1 ∷ 1 ∷ 2 ∷ 2 ∷ 2 ∷ 2 ∷ 2 ∷ 0 ∷ [])
    ∷ gives (counted (count_after outside (four true)) ++ (counted (count_after begins (four false)) ++ (counted (count_after continues (four true)) ++ counted (count_after ends (four true))))) (4 ∷ 1 ∷ 5 ∷ 1 ∷ 4 ∷ 1 ∷ 4 ∷ 0 ∷ [])
    ∷ gives (option_numbers (message_of outside (four true)) ++ (option_numbers (message_of begins (four true)) ++ (option_numbers (message_of continues (four true)) ++ (option_numbers (message_of continues (four false)) ++ option_numbers (message_of ends (four true)))))) (0 ∷ 1 ∷ 5 ∷ 1 ∷ 4 ∷ 0 ∷ 0 ∷ [])
    ∷ gives (option_numbers (cut_by begins (skipping_data []) (four true)) ++ (option_numbers (cut_by begins (in_data [] []) (four true)) ++ (option_numbers (cut_by begins idle (four true)) ++ (option_numbers (cut_by continues (in_data [] []) (four true)) ++ option_numbers (cut_by ends (in_data [] []) (four true)))))) (1 ∷ 4 ∷ 1 ∷ 4 ∷ 0 ∷ 0 ∷ 0 ∷ [])
    ∷ gives (map saying (refused 1 ∷ done ∷ told 0 ∷ ignored ∷ wait ∷ dropped ∷ failure 0 no_data ∷ success 0 no_data ∷ [])) (4 ∷ 4 ∷ 4 ∷ 4 ∷ 4 ∷ 2 ∷ 1 ∷ 0 ∷ [])
    -- "answered with a failure, dropped, or cut off by the next command"
    ∷ gives (each strikeable (succeeded ∷ failed ∷ wasDropped ∷ wasCutOff ∷ unsettled ∷ [])) (0 ∷ 1 ∷ 1 ∷ 1 ∷ 0 ∷ [])
    ∷ gives (each (is_of 4) (none ∷ some 3 ∷ some 4 ∷ []) ++ each (struck (λ n. is_of n (some 4))) (none ∷ some 3 ∷ some 4 ∷ [])) (0 ∷ 0 ∷ 1 ∷ 0 ∷ 0 ∷ 1 ∷ [])
    ∷ []

pub messages_hold : AllHold messages
unfolding the_book the_messages
messages_hold = (refl, (refl, (refl, (refl, (refl, (refl, (refl, (refl, tt))))))))
