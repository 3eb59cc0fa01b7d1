-- A shop as a service, and a run of it from which three messages are struck: what each call answers, which message it is of, how each
-- message ended, and what differs when the two runs end. Then the fakes of it.
-- Assumes nothing.
use mathlib.Core.Path.{◌≡◌, refl}
use mathlib.Core.Bool.{Bool, true, false}
use mathlib.Core.Option.{none, some}
use mathlib.Core.List.{List, [], ◌∷◌, map}
use Prim.Native.Nat.{ℕ, suc, ◌+◌}
use lib.Dec.{eqb}
use lib.ListN.{length, get_or}
use Rattle.choice.specs.Pick.{pick, both, either, not}
use Rattle.strike.specs.declared.Reading.{Reading}
use Rattle.strike.specs.declared.Reading.TheVariants.{NotReadable, Alone, WithData}
use Rattle.strike.specs.declared.Came.{Came}
use Rattle.strike.specs.declared.Came.TheVariants.{Absent, Whole, TooLong}
use Rattle.strike.specs.Service.{DataSet, no_data, whole, too_long, Result, fails, does}
use Rattle.strike.specs.Service.{Handed, Call, start, opening, feed, close, aside, Check, passes, refuses, Service}
use Rattle.strike.specs.Machine.{idle, in_data}
use Rattle.strike.specs.Machine.{refused, done, told, ignored, wait, dropped, failure, success, Records, step, message_after}
use Rattle.strike.specs.Messages.{Event, without, calls_of}
use Rattle.strike.specs.Messages.{succeeded, failed, wasDropped, wasCutOff, unsettled, strikeable, fate_of}
use Rattle.strike.specs.Messages.{history, answers, after}
use Rattle.strike.proofs.Opened.{the_machine, the_messages}
use Rattle.strike.proofs.Fakes.{drops_all, fails_all, one_reply, stores_none, stores_first}

-- is it open, how long is the message buffer, what has been sold, and how often was that asked
record Shop : Type 0 where
  is_open : Bool
  space : ℕ
  sold : ℕ
  looks : ℕ

abbrev sells : Shop → ℕ → Result Shop ℕ
sells k n = does (record { is_open = k.is_open; space = k.space; sold = k.sold + n; looks = k.looks }) (k.sold + n)

-- the length of the message buffer is handed over with each open and feed
abbrev shop_handed : Handed
shop_handed = record { Start = Unit {0}; Opening = ℕ; Feed = ℕ; Aside = Unit {0} }

abbrev shop_check : Shop → Call shop_handed → Check
shop_check k (start n) = passes
shop_check k (opening n) = pick k.is_open (refuses 3) passes
shop_check k (feed bytes n) = pick (not (eqb n k.space)) (refuses 2) (pick k.is_open passes (refuses 4))
shop_check k close = pick k.is_open passes (refuses 4)
shop_check k (aside n) = pick (eqb k.sold 0) (refuses 6) passes

-- command 1 sells one, 2 fails, 3 sells one for each byte of its data set
abbrev shop_reading : ℕ → Reading
shop_reading c = pick (eqb c 3) WithData (pick (either (eqb c 1) (eqb c 2)) Alone NotReadable)

abbrev shop_for : Shop → ℕ → Came → ℕ → Result Shop ℕ
shop_for k c Absent n = pick (eqb c 1) (sells k 1) (fails k.sold)
shop_for k c Whole n = sells k n
shop_for k c TooLong n = fails k.sold

abbrev shop_request : Shop → ℕ → DataSet → Result Shop ℕ
shop_request k c d = shop_for k c d.came (length d.bytes)

abbrev shop : Service
shop =
    record {
      Core = Shop;
      handed = shop_handed;
      Response = ℕ;
      Told = ℕ;
      check = shop_check;
      started = λ n. record { is_open = false; space = 0; sold = 0; looks = 0 };
      opened = λ k n. record { is_open = true; space = n; sold = k.sold; looks = k.looks };
      closed = λ k. record { is_open = false; space = k.space; sold = k.sold; looks = k.looks };
      asked = λ k n. (record { is_open = k.is_open; space = k.space; sold = k.sold; looks = suc k.looks }, k.sold);
      context = λ k. 1;
      room = λ k. k.space;
      reading = λ c. shop_reading (get_or c 0 0);
      request = λ k c d. shop_request k (get_or c 0 0) d;
    }

-- a fragment by its control byte: 0 data, 1 command, 2 data and last, 3 command and last
abbrev fragment : ℕ → List ℕ → List ℕ
fragment control bytes = 0 ∷ 0 ∷ 0 ∷ (2 + length bytes) ∷ 1 ∷ control ∷ bytes

abbrev fragment_fed : ℕ → List ℕ → Call shop_handed
fragment_fed control bytes = feed (fragment control bytes) 4

abbrev shut : Records Shop
shut = record { core = record { is_open = false; space = 0; sold = 1; looks = 0 }; input = idle }

abbrev calls : List (Call shop_handed)
calls =
    opening 4
    ∷ fragment_fed 2 (5 ∷ [])
    -- message 1: cut off
    ∷ fragment_fed 3 (3 ∷ [])
    ∷ fragment_fed 0 (5 ∷ 6 ∷ [])
    -- message 2: too long, so that it fails
    ∷ fragment_fed 1 (3 ∷ [])
    ∷ aside tt
    ∷ fragment_fed 3 []
    ∷ fragment_fed 0 (7 ∷ 7 ∷ 7 ∷ 7 ∷ [])
    ∷ feed (fragment 2 (8 ∷ [])) 5
    ∷ fragment_fed 2 (8 ∷ [])
    ∷ fragment_fed 2 (8 ∷ [])
    -- message 3: cut off
    ∷ fragment_fed 3 (3 ∷ [])
    ∷ opening 4
    ∷ fragment_fed 0 (6 ∷ 6 ∷ 6 ∷ [])
    -- message 4: done
    ∷ fragment_fed 3 (3 ∷ [])
    ∷ fragment_fed 2 (1 ∷ 2 ∷ [])
    -- message 5: cut off
    ∷ fragment_fed 3 (3 ∷ [])
    ∷ fragment_fed 0 (4 ∷ [])
    -- message 6: dropped
    ∷ fragment_fed 3 (0 ∷ [])
    ∷ aside tt
    ∷ fragment_fed 2 (8 ∷ [])
    ∷ []

-- all that may be struck but messages 1 and 5, which struck ones had cut off
abbrev chosen : ℕ → Bool
chosen i = both (strikeable (fate_of i (history shop shut calls))) (not (either (eqb i 1) (eqb i 5)))

abbrev left : List (Event shop_handed ℕ ℕ)
left = without chosen (history shop shut calls)

-- the shop with its message buffer, as an implementation: the view forgets the leftovers
record Till : Type 0 where
  records : Records Shop
  message : List ℕ

abbrev message_at : Records Shop → Call shop_handed → List ℕ → List ℕ
message_at s (start n) message = message
message_at s (opening n) message = message
message_at s (feed bytes n) message = message_after shop s bytes n message
message_at s close message = message
message_at s (aside n) message = message

abbrev act : Till → Call shop_handed → Till
act t c = record { records = (step shop t.records c).records; message = message_at t.records c t.message }

abbrev till : Till
till = record { records = shut; message = 9 ∷ 9 ∷ 9 ∷ 9 ∷ [] }

abbrev acts_all : Till → List (Call shop_handed) → Till
acts_all t [] = t
acts_all t (c ∷ cs) = acts_all (act t c) cs

abbrev ends : List (Call shop_handed) → Till
ends = acts_all till

-- a message, and fragments after a close and a start
abbrev closing : List (Call shop_handed)
closing =
    opening 4 ∷ fragment_fed 3 (0 ∷ []) ∷ close ∷ opening 4 ∷ fragment_fed 2 (8 ∷ [])
    ∷ fragment_fed 3 (0 ∷ []) ∷ start tt ∷ opening 4 ∷ fragment_fed 2 (8 ∷ []) ∷ []

-- two sales of one, as they are asked for
abbrev twice : List (Call shop_handed)
twice = opening 4 ∷ fragment_fed 3 (1 ∷ []) ∷ fragment_fed 3 (1 ∷ []) ∷ aside tt ∷ []

abbrev fake : Records (Shop × Bool)
fake = record { core = (shut.core, false); input = idle }

record Computed : Type 0 where
  all_answers :
      answers shop shut calls
      ≡ done ∷ ignored ∷ wait ∷ wait ∷ wait ∷ told 1 ∷ wait ∷ wait ∷ refused 2 ∷ failure 1 too_long ∷ ignored ∷ wait ∷ refused 3 ∷ wait
      ∷ wait ∷ success 3 (whole (1 ∷ 2 ∷ [])) ∷ wait ∷ wait ∷ dropped ∷ told 3 ∷ ignored ∷ []
  all_messages :
      map (λ e. e.message) (history shop shut calls)
      ≡ none ∷ none ∷ some 1 ∷ some 1 ∷ some 2 ∷ none ∷ some 2 ∷ some 2 ∷ none ∷ some 2 ∷ some 2 ∷ some 3 ∷ none ∷ some 3
      ∷ some 4 ∷ some 4 ∷ some 5 ∷ some 5 ∷ some 6 ∷ none ∷ some 6 ∷ []
  all_fates :
      map (λ i. fate_of i (history shop shut calls)) (0 ∷ 1 ∷ 2 ∷ 3 ∷ 4 ∷ 5 ∷ 6 ∷ 7 ∷ [])
      ≡ unsettled ∷ wasCutOff ∷ failed ∷ wasCutOff ∷ succeeded ∷ wasCutOff ∷ wasDropped ∷ unsettled ∷ []
  -- messages 2, 3 and 6 are struck
  calls_left_lem :
      calls_of left
      ≡ opening 4 ∷ fragment_fed 2 (5 ∷ []) ∷ fragment_fed 3 (3 ∷ []) ∷ fragment_fed 0 (5 ∷ 6 ∷ []) ∷ aside tt ∷ feed (fragment 2 (8 ∷ [])) 5 ∷ opening 4
      ∷ fragment_fed 3 (3 ∷ []) ∷ fragment_fed 2 (1 ∷ 2 ∷ []) ∷ fragment_fed 3 (3 ∷ []) ∷ fragment_fed 0 (4 ∷ []) ∷ aside tt ∷ []
  answers_left :
      answers shop shut (calls_of left)
      ≡ done ∷ ignored ∷ wait ∷ wait ∷ told 1 ∷ refused 2 ∷ refused 3 ∷ wait ∷ success 3 (whole (1 ∷ 2 ∷ [])) ∷ wait ∷ wait ∷ told 3 ∷ []
  -- one core at the end, but not one input, and not one message buffer
  all_end :
      ends calls
      ≡ record { records = record { core = record { is_open = true; space = 4; sold = 3; looks = 2 }; input = idle }; message = 4 ∷ 2 ∷ 6 ∷ 7 ∷ [] }
  left_end :
      ends (calls_of left)
      ≡ record { records = record { core = record { is_open = true; space = 4; sold = 3; looks = 2 }; input = in_data (3 ∷ []) (4 ∷ []) }; message = 4 ∷ 2 ∷ 9 ∷ 9 ∷ [] }
  -- a success must stay: without message 4 less is sold
  success_missed : (after shop shut (calls_of (without (λ i. eqb i 4) (history shop shut calls)))).core.sold ≡ 1
  -- a close and a start end a message
  closed_messages :
      map (λ e. e.message) (history shop shut closing)
      ≡ none ∷ some 1 ∷ none ∷ none ∷ none ∷ some 2 ∷ none ∷ none ∷ none ∷ []
  -- a wrong header ends the association
  header_refused : answers shop shut (opening 4 ∷ fragment_fed 4 (1 ∷ []) ∷ fragment_fed 3 (1 ∷ []) ∷ []) ≡ done ∷ refused 5 ∷ refused 4 ∷ []
  -- the shop and its fakes
  right_answers : answers shop shut twice ≡ done ∷ success 2 no_data ∷ success 3 no_data ∷ told 3 ∷ []
  drops_all_lem : answers (drops_all shop) fake twice ≡ done ∷ dropped ∷ dropped ∷ told 1 ∷ []
  fails_all_lem : answers (fails_all shop 2) fake twice ≡ done ∷ failure 2 no_data ∷ failure 2 no_data ∷ told 1 ∷ []
  one_reply_lem : answers (one_reply shop 2) fake twice ≡ done ∷ success 2 no_data ∷ success 2 no_data ∷ told 1 ∷ []
  stores_none_lem : answers (stores_none shop) fake twice ≡ done ∷ success 2 no_data ∷ success 2 no_data ∷ told 1 ∷ []
  stores_first_lem : answers (stores_first shop) fake twice ≡ done ∷ success 2 no_data ∷ success 3 no_data ∷ told 2 ∷ []

computed : Computed
unfolding the_machine the_messages
computed =
    record {
      all_answers = refl;
      all_messages = refl;
      all_fates = refl;
      calls_left_lem = refl;
      answers_left = refl;
      all_end = refl;
      left_end = refl;
      success_missed = refl;
      closed_messages = refl;
      header_refused = refl;
      right_answers = refl;
      drops_all_lem = refl;
      fails_all_lem = refl;
      one_reply_lem = refl;
      stores_none_lem = refl;
      stores_first_lem = refl;
    }
