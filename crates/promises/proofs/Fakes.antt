-- The three fakes of rule 8.5, beside the book: on a computed run each of them answers otherwise.
-- Strike-out alone admits them all (strike/proofs/Fakes); demand 3 is stated over the book's own step.
-- Assumes nothing.
use mathlib.Core.Path.{◌≡◌, refl}
use mathlib.Core.Bool.{true, false}
use mathlib.Core.List.{List, [], ◌∷◌, map}
use Prim.Native.Nat.{ℕ}
use Rattle.strike.specs.Service.{Call, feed}
use Rattle.strike.specs.Machine as machine
use Rattle.strike.specs.Machine.{idle, Answer}
use Rattle.strike.specs.Messages.{answers}
use Rattle.strike.proofs.Fakes.{drops_all, fails_all, one_reply, stores_none, stores_first}
use Rattle.rules.proofs.Book.{the_book}
use Rattle.rules.specs.Responses.{Reply}
use Rattle.rules.specs.Calls.{Lengths, handed, printing}
use Rattle.rules.proofs.Stage.{nothing_live}
use Rattle.elements.specs.Reader.{data_set}

-- C-ECHO, number 7, in one fragment
abbrev echo7 : List ℕ
echo7 =
    0x00 ∷ 0x00 ∷ 0x00 ∷ 0x46 ∷ 0x01 ∷ 0x03 ∷ 0x00 ∷ 0x00 ∷ 0x00 ∷ 0x00 ∷ 0x04 ∷ 0x00 ∷ 0x00 ∷ 0x00 ∷ 0x38 ∷ 0x00
    ∷ 0x00 ∷ 0x00 ∷ 0x00 ∷ 0x00 ∷ 0x02 ∷ 0x00 ∷ 0x12 ∷ 0x00 ∷ 0x00 ∷ 0x00 ∷ 0x31 ∷ 0x2E ∷ 0x32 ∷ 0x2E ∷ 0x38 ∷ 0x34
    ∷ 0x30 ∷ 0x2E ∷ 0x31 ∷ 0x30 ∷ 0x30 ∷ 0x30 ∷ 0x38 ∷ 0x2E ∷ 0x31 ∷ 0x2E ∷ 0x31 ∷ 0x00 ∷ 0x00 ∷ 0x00 ∷ 0x00 ∷ 0x01
    ∷ 0x02 ∷ 0x00 ∷ 0x00 ∷ 0x00 ∷ 0x30 ∷ 0x00 ∷ 0x00 ∷ 0x00 ∷ 0x10 ∷ 0x01 ∷ 0x02 ∷ 0x00 ∷ 0x00 ∷ 0x00 ∷ 0x07 ∷ 0x00
    ∷ 0x00 ∷ 0x00 ∷ 0x00 ∷ 0x08 ∷ 0x02 ∷ 0x00 ∷ 0x00 ∷ 0x00 ∷ 0x01 ∷ 0x01 ∷ []

-- N-CREATE of session 1.2.3
abbrev pub makes : List ℕ
makes =
    0x00 ∷ 0x00 ∷ 0x00 ∷ 0x58 ∷ 0x01 ∷ 0x03 ∷ 0x00 ∷ 0x00 ∷ 0x00 ∷ 0x00 ∷ 0x04 ∷ 0x00 ∷ 0x00 ∷ 0x00 ∷ 0x4A ∷ 0x00
    ∷ 0x00 ∷ 0x00 ∷ 0x00 ∷ 0x00 ∷ 0x02 ∷ 0x00 ∷ 0x16 ∷ 0x00 ∷ 0x00 ∷ 0x00 ∷ 0x31 ∷ 0x2E ∷ 0x32 ∷ 0x2E ∷ 0x38 ∷ 0x34
    ∷ 0x30 ∷ 0x2E ∷ 0x31 ∷ 0x30 ∷ 0x30 ∷ 0x30 ∷ 0x38 ∷ 0x2E ∷ 0x35 ∷ 0x2E ∷ 0x31 ∷ 0x2E ∷ 0x31 ∷ 0x2E ∷ 0x31 ∷ 0x00
    ∷ 0x00 ∷ 0x00 ∷ 0x00 ∷ 0x01 ∷ 0x02 ∷ 0x00 ∷ 0x00 ∷ 0x00 ∷ 0x40 ∷ 0x01 ∷ 0x00 ∷ 0x00 ∷ 0x10 ∷ 0x01 ∷ 0x02 ∷ 0x00
    ∷ 0x00 ∷ 0x00 ∷ 0x01 ∷ 0x00 ∷ 0x00 ∷ 0x00 ∷ 0x00 ∷ 0x08 ∷ 0x02 ∷ 0x00 ∷ 0x00 ∷ 0x00 ∷ 0x01 ∷ 0x01 ∷ 0x00 ∷ 0x00
    ∷ 0x00 ∷ 0x10 ∷ 0x06 ∷ 0x00 ∷ 0x00 ∷ 0x00 ∷ 0x31 ∷ 0x2E ∷ 0x32 ∷ 0x2E ∷ 0x33 ∷ 0x00 ∷ []

-- N-DELETE of session 1.2.3
abbrev deletes : List ℕ
deletes =
    0x00 ∷ 0x00 ∷ 0x00 ∷ 0x58 ∷ 0x01 ∷ 0x03 ∷ 0x00 ∷ 0x00 ∷ 0x00 ∷ 0x00 ∷ 0x04 ∷ 0x00 ∷ 0x00 ∷ 0x00 ∷ 0x4A ∷ 0x00
    ∷ 0x00 ∷ 0x00 ∷ 0x00 ∷ 0x00 ∷ 0x03 ∷ 0x00 ∷ 0x16 ∷ 0x00 ∷ 0x00 ∷ 0x00 ∷ 0x31 ∷ 0x2E ∷ 0x32 ∷ 0x2E ∷ 0x38 ∷ 0x34
    ∷ 0x30 ∷ 0x2E ∷ 0x31 ∷ 0x30 ∷ 0x30 ∷ 0x30 ∷ 0x38 ∷ 0x2E ∷ 0x35 ∷ 0x2E ∷ 0x31 ∷ 0x2E ∷ 0x31 ∷ 0x2E ∷ 0x31 ∷ 0x00
    ∷ 0x00 ∷ 0x00 ∷ 0x00 ∷ 0x01 ∷ 0x02 ∷ 0x00 ∷ 0x00 ∷ 0x00 ∷ 0x50 ∷ 0x01 ∷ 0x00 ∷ 0x00 ∷ 0x10 ∷ 0x01 ∷ 0x02 ∷ 0x00
    ∷ 0x00 ∷ 0x00 ∷ 0x01 ∷ 0x00 ∷ 0x00 ∷ 0x00 ∷ 0x00 ∷ 0x08 ∷ 0x02 ∷ 0x00 ∷ 0x00 ∷ 0x00 ∷ 0x01 ∷ 0x01 ∷ 0x00 ∷ 0x00
    ∷ 0x01 ∷ 0x10 ∷ 0x06 ∷ 0x00 ∷ 0x00 ∷ 0x00 ∷ 0x31 ∷ 0x2E ∷ 0x32 ∷ 0x2E ∷ 0x33 ∷ 0x00 ∷ []

-- the buffers lent to a feed: just long enough
abbrev lent : Lengths
lent = record { message = 4096; command = 256; data_set = 8192; report = 20 }

abbrev feeds : List (List ℕ) → List (Call handed)
feeds fragments = map (λ bytes. feed bytes lent) fragments

-- what an answer shows: whether a response, and its status
pub data Shown : Type 0 where
  no_response : Shown
  failedWith succeededWith : ℕ → Shown

abbrev shown : Answer Reply (List ℕ) → Shown
shown (machine.refused n) = no_response
shown machine.done = no_response
shown (machine.told t) = no_response
shown machine.ignored = no_response
shown machine.wait = no_response
shown machine.dropped = no_response
shown (machine.failure r d) = failedWith r.status
shown (machine.success r d) = succeededWith r.status

abbrev book : List (List ℕ) → List Shown
book fragments = map shown (answers printing (record { core = nothing_live; input = idle }) (feeds fragments))

-- a fake's records hold one thing more; it has nothing in it yet
abbrev drops : List (List ℕ) → List Shown
drops fragments = map shown (answers (drops_all printing) (record { core = (nothing_live, false); input = idle }) (feeds fragments))

abbrev none : List (List ℕ) → List Shown
none fragments = map shown (answers (stores_none printing) (record { core = (nothing_live, true); input = idle }) (feeds fragments))

abbrev first : List (List ℕ) → List Shown
first fragments = map shown (answers (stores_first printing) (record { core = (nothing_live, false); input = idle }) (feeds fragments))

-- one that fails everything, and one that has a single fixed reply: whatever the reply is
abbrev fails : Reply → List (List ℕ) → List Shown
fails r fragments = map shown (answers (fails_all printing r) (record { core = (nothing_live, false); input = idle }) (feeds fragments))

abbrev fixed : Reply → List (List ℕ) → List Shown
fixed r fragments = map shown (answers (one_reply printing r) (record { core = (nothing_live, false); input = idle }) (feeds fragments))

-- no response 0, a success 1, a failure 2
abbrev kind : Shown → ℕ
kind no_response = 0
kind (succeededWith n) = 1
kind (failedWith n) = 2

pub replies_told_apart : (r : Reply) → (map kind (book (echo7 ∷ [])) ≡ 1 ∷ []) × (map kind (fails r (echo7 ∷ [])) ≡ 2 ∷ [])
    × (map kind (book (deletes ∷ [])) ≡ 2 ∷ []) × (map kind (fixed r (deletes ∷ [])) ≡ 1 ∷ [])
unfolding the_book answers
replies_told_apart r = (refl, refl, refl, refl)

-- one that drops everything, and one that responds rightly but stores nothing, at once or after the first message
pub told_apart : (book (echo7 ∷ []) ≡ succeededWith 0x0000 ∷ []) × (drops (echo7 ∷ []) ≡ no_response ∷ [])
    × (book (makes ∷ makes ∷ []) ≡ succeededWith 0x0000 ∷ failedWith 0x0111 ∷ []) × (none (makes ∷ makes ∷ []) ≡ succeededWith 0x0000 ∷ succeededWith 0x0000 ∷ [])
    × (book (makes ∷ deletes ∷ deletes ∷ []) ≡ succeededWith 0x0000 ∷ succeededWith 0x0000 ∷ failedWith 0x0112 ∷ [])
    × (first (makes ∷ deletes ∷ deletes ∷ []) ≡ succeededWith 0x0000 ∷ succeededWith 0x0000 ∷ succeededWith 0x0000 ∷ [])
unfolding the_book answers
told_apart = (refl, refl, refl, refl, refl, refl)
