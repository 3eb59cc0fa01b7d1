-- Rules 4.16 and 4.17 (docs/RULES.md), for demand 3: the messages of a run, how each ended, and the run without some of them.
use Rattle.std.specs.Prelude.{◌≡◌, Bool, true, false, List, [], ◌∷◌, map, ℕ, suc, eqb}
use Rattle.std.proofs.Math.Option.{Option, none, some}
use Rattle.choice.specs.Pick.{pick}
use Rattle.strike.specs.Service.{Handed, Call, start, opening, feed, close, aside, Check, passes, refuses, Service}
use Rattle.strike.specs.Machine.{Fragment, command, dataset, fragment_in, Input, idle, in_command, skipping_command, in_data, skipping_data}
use Rattle.strike.specs.Machine.{Answer, refused, done, told, ignored, wait, dropped, failure, success, Records, step}

-- a command fragment starts a new message: idle, in data, skipping data
unfoldable pub may_begin : Input → Bool
may_begin idle = true
may_begin (in_command c) = false
may_begin skipping_command = false
may_begin (in_data c d) = true
may_begin (skipping_data c) = true

-- .. and cuts an unfinished one off
unfoldable pub unfinished : Input → Bool
unfinished idle = false
unfinished (in_command c) = false
unfinished skipping_command = false
unfinished (in_data c d) = true
unfinished (skipping_data c) = true

-- what a call is to the messages
pub data Role : Type 0 where
  outside begins continues ends : Role

unfoldable pub role_of_fragment : Input → Option Fragment → Role
role_of_fragment i none = outside
role_of_fragment i (some (command last bytes)) = pick (may_begin i) begins continues
role_of_fragment i (some (dataset last bytes)) = continues

-- Messages are numbered as they begin. How many have begun, and whether the last of them goes on.
pub record Count : Type 0 where
  pub begun : ℕ
  pub goes_on : Bool

abbrev pub current : Count → Option ℕ
current n = pick n.goes_on (some n.begun) none

unfoldable pub count_after : Role → Count → Count
count_after outside n = n
count_after begins n = record { begun = suc n.begun; goes_on = true }
count_after continues n = n
count_after ends n = record { begun = n.begun; goes_on = false }

-- the message that a call is of
unfoldable pub message_of : Role → Count → Option ℕ
message_of outside n = none
message_of begins n = some (suc n.begun)
message_of continues n = current n
message_of ends n = none

-- the message that it cuts off
unfoldable pub cut_by : Role → Input → Count → Option ℕ
cut_by outside i n = none
cut_by begins i n = pick (unfinished i) (current n) none
cut_by continues i n = none
cut_by ends i n = none

-- a call of a run with its answer
pub record Event (H : Handed) (Response Told : Type 0) : Type 0 where
  pub call : Call H
  pub answer : Answer Response Told
  pub message : Option ℕ
  pub cuts : Option ℕ

unfoldable pub struck : (ℕ → Bool) → Option ℕ → Bool
struck S none = false
struck S (some i) = S i

-- the run without the messages of a set
unfoldable pub without : {H : Handed} {Response Told : Type 0} → (ℕ → Bool) → List (Event H Response Told) → List (Event H Response Told)
without S [] = []
without S (e ∷ es) = pick (struck S e.message) (without S es) (e ∷ without S es)

abbrev pub calls_of : {H : Handed} {Response Told : Type 0} → List (Event H Response Told) → List (Call H)
calls_of es = map (λ e. e.call) es

abbrev pub answers_of : {H : Handed} {Response Told : Type 0} → List (Event H Response Told) → List (Answer Response Told)
answers_of es = map (λ e. e.answer) es

-- how a message ended; unsettled: by a close, a start or the run's end
pub data Fate : Type 0 where
  succeeded failed wasDropped wasCutOff unsettled : Fate

unfoldable pub strikeable : Fate → Bool
strikeable succeeded = false
strikeable failed = true
strikeable wasDropped = true
strikeable wasCutOff = true
strikeable unsettled = false

-- what the answer to one of its calls says of a message, or else what is said later
unfoldable pub says : {Response Told : Type 0} → Answer Response Told → Fate → Fate
says (refused n) later = later
says done later = later
says (told t) later = later
says ignored later = later
says wait later = later
says dropped later = wasDropped
says (failure r d) later = failed
says (success r d) later = succeeded

unfoldable pub is_of : ℕ → Option ℕ → Bool
is_of i none = false
is_of i (some j) = eqb i j

unfoldable pub fate_of : {H : Handed} {Response Told : Type 0} → ℕ → List (Event H Response Told) → Fate
fate_of i [] = unsettled
fate_of i (e ∷ es) = pick (is_of i e.message) (says e.answer (fate_of i es)) (pick (is_of i e.cuts) wasCutOff (fate_of i es))

module _ (G : Service) where
  open G use {Core, handed, Response, Told, check, context}

  -- A message spans the fragments that are not refused. Any other call stands outside, but for a start and a close, which end it.
  unfoldable pub role_if : Check → Records Core → Call handed → Role
  role_if (refuses n) s c = outside
  role_if passes s (start a) = ends
  role_if passes s (opening a) = outside
  role_if passes s (feed bytes a) = role_of_fragment s.input (fragment_in (context s.core) bytes)
  role_if passes s close = ends
  role_if passes s (aside a) = outside

  unfoldable pub role_of : Records Core → Call handed → Role
  role_of s c = role_if (check s.core c) s c

  unfoldable pub event_of : Records Core → Count → Call handed → Event handed Response Told
  event_of s n c =
      record { call = c; answer = (step G s c).answer; message = message_of (role_of s c) n; cuts = cut_by (role_of s c) s.input n }

  unfoldable pub history_from : Records Core → Count → List (Call handed) → List (Event handed Response Told)
  history_from s n [] = []
  history_from s n (c ∷ cs) = event_of s n c ∷ history_from (step G s c).records (count_after (role_of s c) n) cs

  -- a run, in which the host hands the buffers back untouched: its events, its answers, and the records that it leaves
  unfoldable pub history : Records Core → List (Call handed) → List (Event handed Response Told)
  history s cs = history_from s (record { begun = 0; goes_on = false }) cs

  unfoldable pub answers : Records Core → List (Call handed) → List (Answer Response Told)
  answers s [] = []
  answers s (c ∷ cs) = (step G s c).answer ∷ answers (step G s c).records cs

  unfoldable pub after : Records Core → List (Call handed) → Records Core
  after s [] = s
  after s (c ∷ cs) = after (step G s c).records cs

  -- what is left of a run gets the same answers, and ends with the same core
  pub record Same (s : Records Core) (cs : List (Call handed)) (left : List (Event handed Response Told)) : Type 0 where
    pub same_answers : answers s (calls_of left) ≡ answers_of left
    pub same_core : (after s (calls_of left)).core ≡ (after s cs).core

  -- DEMAND 3: strike out any set of messages that were answered with a failure, dropped, or cut off by the next command
  unfoldable pub StrikeOut : Type 0
  StrikeOut =
      (s : Records Core) (cs : List (Call handed)) (S : ℕ → Bool) →
      ((i : ℕ) → S i ≡ true → strikeable (fate_of i (history s cs)) ≡ true) →
      Same s cs (without S (history s cs))
