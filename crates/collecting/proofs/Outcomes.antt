-- What a fragment comes to, by the state that it is met in and the next one.
-- Assumes nothing.
use Prim.Native.Nat.{ℕ, ◌+◌, ◌≤◌, ◌<◌}
use mathlib.Core.Path.{◌≡◌, refl, sym, ap, ◌∙◌}
use mathlib.Core.Bool.{Bool, true, false}
use mathlib.Core.List.{List, [], ◌++◌}
use lib.Dec.{eqb, leb}
use lib.ListN.{length, take, drop, length-append}
use native.Mathlib.Omega.{arith}
use borrow.Author.Tests.{leb-true, le-leb, lt-leb, eq-eqb, ne_eqb}
use lib.Seq.{length-take-le}
use Rattle.choice.specs.Pick.{pick}
use Rattle.choice.proofs.Picks.{clash}
use Rattle.strike.specs.declared.Reading.{Reading}
use Rattle.strike.specs.declared.Reading.TheVariants.{NotReadable, Alone, WithData}
use Rattle.strike.specs.declared.Came.TheVariants.{Whole, TooLong}
use Rattle.strike.specs.Machine as machine
use Rattle.strike.specs.Machine.{idle, in_command, skipping_command, in_data, skipping_data, command, dataset, skips, gathers, overflows, stores, reads, collect, laid_by}
use Rattle.octets.specs.Octets.{laid}
use Rattle.rules.specs.declared.Input.{Input}
use Rattle.rules.specs.declared.Command.{Command}
use Rattle.rules.specs.declared.Command.TheVariants.{Unreadable, Unknown, Known}
use Rattle.rules.specs.Commands.{understood, has_data}
use Rattle.rules.specs.Sound.{readable}
use Rattle.rules.specs.Lists.{filled_to}
use Rattle.rules.specs.Calls.{reading_of, reading}
use Rattle.rules.specs.Records.{command_held}
use Rattle.rules.specs.Outcomes.{held, input_in, input_held}
use Rattle.collecting.specs.declared.Collecting.{Collecting}
use Rattle.collecting.specs.declared.Collecting.TheVariants.{Idle, InCommand, SkippingCommand, InData, SkippingData}
use Rattle.collecting.specs.declared.Answer.{Answer}
use Rattle.collecting.specs.declared.Answer.TheVariants.{Wait}
use Rattle.collecting.proofs.Filled.{used_length}
use Rattle.collecting.specs.Collecting.{waits_with, bare, of_command, is_last, fragment_of, Filled, stored_in, read_to, state_of, gathers_to, stores_to, command_next, data_next, command_before, holds, kept, collected_of, data_answer, input_by, by_next, gathered_in}

-- What a whole command says.

told : (withSet : Bool) (c : Command) → readable c ≡ false → reading_of withSet c ≡ NotReadable
told withSet Unreadable e = refl
told withSet (Unknown message field) e = absurd (clash e refl)
told withSet (Known r) e = absurd (clash e refl)

read_told : (withSet : Bool) (c : Command) → readable c ≡ true → reading_of withSet c ≡ pick withSet WithData Alone
read_told withSet Unreadable e = absurd (clash refl e)
read_told withSet (Unknown message field) e = refl
read_told withSet (Known r) e = refl

pub reading_none : (c : List ℕ) → readable (understood c) ≡ false → reading c ≡ NotReadable
unfolding reading
reading_none c e = told (has_data c) (understood c) e

pub reading_some : (c : List ℕ) → readable (understood c) ≡ true → reading c ≡ pick (has_data c) WithData Alone
unfolding reading
reading_some c e = read_told (has_data c) (understood c) e

-- A command fragment.

gathers_by : (c : List ℕ) (fits last : Bool) → leb (length c) 1024 ≡ fits → gathers reading c last ≡ by_next (gathers_to fits last) c
unfolding gathers skips
gathers_by c true true e = rw e
gathers_by c true false e = rw e
gathers_by c false true e = rw e
gathers_by c false false e = rw e

skips_by : (c : List ℕ) (last : Bool) → skips last ≡ by_next (gathers_to false last) c
unfolding skips
skips_by c true = refl
skips_by c false = refl

pub by_next_lem : (s : Collecting) (c : List ℕ) (fits last : Bool) → leb (length c) 1024 ≡ fits → gathered_in s c last ≡ by_next (command_next s fits last) c
unfolding gathered_in command_next
by_next_lem Idle c fits last e = gathers_by c fits last e
by_next_lem InCommand c fits last e = gathers_by c fits last e
by_next_lem SkippingCommand c fits last e = skips_by c last
by_next_lem InData c fits last e = gathers_by c fits last e
by_next_lem SkippingData c fits last e = gathers_by c fits last e

-- a command whose bytes are kept fits
abbrev pub keeps : Collecting → Bool
keeps Idle = false
keeps InCommand = true
keeps SkippingCommand = false
keeps InData = true
keeps SkippingData = false

unfit : (s : Collecting) (last : Bool) → command_next s false last ≡ gathers_to false last
unfolding command_next
unfit Idle last = refl
unfit InCommand last = refl
unfit SkippingCommand last = refl
unfit InData last = refl
unfit SkippingData last = refl

unfit_lost : (last : Bool) → keeps (gathers_to false last) ≡ false
unfit_lost true = refl
unfit_lost false = refl

pub kept_fits : (s : Collecting) (fits last : Bool) → keeps (command_next s fits last) ≡ true → fits ≡ true
kept_fits s true last e = refl
kept_fits s false last e = absurd (clash (ap keeps (unfit s last) ∙ unfit_lost last) e)

-- The input, by its state.

input_if : (a b c d : Bool) (i : Input) (message : List ℕ)
    → pick a (in_command (command_held i)) (pick b skipping_command (pick c (in_data (command_held i) (take i.got message)) (pick d (skipping_data (command_held i)) idle)))
    ≡ input_by (pick a InCommand (pick b SkippingCommand (pick c InData (pick d SkippingData Idle)))) i message
input_if true b c d i message = refl
input_if false true c d i message = refl
input_if false false true d i message = refl
input_if false false false true i message = refl
input_if false false false false i message = refl

pub input_by_lem : (i : Input) (message : List ℕ) → input_in i message ≡ input_by (state_of i.phase) i message
unfolding input_in state_of
input_by_lem i message = input_if (eqb i.phase 1) (eqb i.phase 2) (eqb i.phase 3) (eqb i.phase 4) i message

command_if : (a b c d : Bool) (room : ℕ) (i : Input) (message bytes : List ℕ) (last : Bool)
    → collect reading room (input_by (pick a InCommand (pick b SkippingCommand (pick c InData (pick d SkippingData Idle)))) i message) (command last bytes)
    ≡ gathered_in (pick a InCommand (pick b SkippingCommand (pick c InData (pick d SkippingData Idle)))) (pick a (command_held i) [] ++ bytes) last
unfolding collect gathered_in
command_if true b c d room i message bytes last = refl
command_if false true c d room i message bytes last = refl
command_if false false true d room i message bytes last = refl
command_if false false false true room i message bytes last = refl
command_if false false false false room i message bytes last = refl

pub command_met : (room : ℕ) (i : Input) (message bytes : List ℕ) (last : Bool)
    → collect reading room (input_in i message) (command last bytes) ≡ gathered_in (state_of i.phase) (command_before i ++ bytes) last
unfolding state_of
command_met room i message bytes last =
    ap (λ (x : machine.Input). collect reading room x (command last bytes)) (input_by_lem i message)
    ∙ command_if (eqb i.phase 1) (eqb i.phase 2) (eqb i.phase 3) (eqb i.phase 4) room i message bytes last

-- What is held of a message.

holds_kept : (answer : Answer) (state : Collecting) (i : Input) (got : ℕ) (c : List ℕ) → i.used ≡ length c → i.command ≡ filled_to 1024 0 c
    → holds answer state i got ≡ kept answer state c got
holds_kept answer state i got c e f = rw (e, f)

pub holds_filled : (answer : Answer) (state : Collecting) (i : Input) (got : ℕ) → Filled i → holds answer state i got ≡ kept answer state (command_held i) got
holds_filled answer state i got h = holds_kept answer state i got (command_held i) (used_length i h) h.1

-- the command that a command fragment is appended to

module _ (i : Input) where
  pub before_held : Filled i → i.phase ≡ 1 → holds Wait InCommand i 0 ≡ waits_with (held 1 (command_before i) 0)
  before_held h e = holds_filled Wait InCommand i 0 h ∙ rw (eq-eqb i.phase 1 e)

  pub before_used : Filled i → (n : ℕ) → i.phase ≡ 1 → n ≡ i.used → (n ≡ length (command_before i)) × (n ≤ 1024)
  before_used h n e d = (d ∙ rw (eq-eqb i.phase 1 e) (used_length i h), omega (arith, d, h.0))

  pub before_none : (i.phase ≡ 1 → ⊥) → bare Wait InCommand ≡ waits_with (held 1 (command_before i) 0)
  before_none e = rw (ne_eqb i.phase 1 e)

  pub before_unused : (i.phase ≡ 1 → ⊥) → 0 ≡ length (command_before i)
  before_unused e = rw (ne_eqb i.phase 1 e)

pub overflows_kept : (c : List ℕ) (last : Bool) → collected_of (overflows c last) ≡ kept (data_answer last TooLong) (stores_to false last) c 0
unfolding collected_of overflows input_held
overflows_kept c true = refl
overflows_kept c false = refl

pub stores_kept : (room : ℕ) (c d : List ℕ) (last : Bool) → leb (length d) room ≡ true
    → collected_of (stores room c d last) ≡ kept (data_answer last Whole) (stores_to true last) c (length d)
unfolding collected_of stores input_held
stores_kept room c d true e = rw e
stores_kept room c d false e = rw e

-- a whole command, by what it says
reads_as : (x : Reading) (c : List ℕ) → collected_of (reads x c) ≡ read_to x c
unfolding collected_of reads input_held
reads_as NotReadable c = refl
reads_as Alone c = refl
reads_as WithData c = refl

pub read_arm : (i : Input) {x : Reading} → reading (command_held i) ≡ x → collected_of (reads (reading (command_held i)) (command_held i)) ≡ read_to x (command_held i)
read_arm i e = reads_as (reading (command_held i)) (command_held i) ∙ ap (λ (r : Reading). read_to r (command_held i)) e

-- a command fragment, by the next state
pub measured : (s s' : Collecting) (t t' last : Bool) → s ≡ s' → t' ≡ t → command_next s t last ≡ command_next s' t' last
measured s s' t t' last f g = ap (λ (x : Collecting). command_next x t last) f ∙ ap (λ (b : Bool). command_next s' b last) (sym g)

module _ (i : Input) (bytes : List ℕ) (last : Bool) {x : Collecting} (e : command_next (state_of i.phase) (leb (length (command_before i) + length bytes) 1024) last ≡ x) where
  pub command_arm : collected_of (gathered_in (state_of i.phase) (command_before i ++ bytes) last) ≡ collected_of (by_next x (command_before i ++ bytes))
  command_arm =
      ap collected_of
      (by_next_lem (state_of i.phase) (command_before i ++ bytes) (leb (length (command_before i) + length bytes) 1024) last (ap (λ (n : ℕ). leb n 1024) (length-append (command_before i) bytes))
      ∙ ap (λ (s : Collecting). by_next s (command_before i ++ bytes)) e)

  pub command_fits : keeps x ≡ true → length (command_before i) + length bytes ≤ 1024
  command_fits k = leb-true (length (command_before i) + length bytes) 1024 (kept_fits (state_of i.phase) (leb (length (command_before i) + length bytes) 1024) last (ap keeps e ∙ k))

-- data past the message buffer
pub overflow_arm : (i : Input) (last : Bool) (answer : Answer) (next : Collecting) → Filled i → answer ≡ data_answer last TooLong → next ≡ data_next SkippingData false last
    → holds answer next i 0 ≡ collected_of (overflows (command_held i) last)
unfolding data_next
overflow_arm i last answer next h e f = holds_filled answer next i 0 h ∙ rw (e, f) (sym (overflows_kept (command_held i) last))

-- Data in data.

pub stored_none : (got : ℕ) (message bytes : List ℕ) → length message < got + length bytes → message ≡ stored_in got message bytes
stored_none got message bytes h = rw (lt-leb (got + length bytes) (length message) h)

pub stored_all : (got : ℕ) (message bytes : List ℕ) → got + length bytes ≤ length message → laid message got bytes ≡ stored_in got message bytes
stored_all got message bytes h = rw (le-leb (got + length bytes) (length message) h)

module _ (i : Input) (message bytes : List ℕ) (last : Bool) (g : i.got ≤ length message) where
  got_length : length (take i.got message) ≡ i.got
  got_length = length-take-le i.got message g

  stored_length : length (take i.got message ++ bytes) ≡ i.got + length bytes
  stored_length = rw (length-append (take i.got message) bytes, got_length)

  pub stored_over : length message < i.got + length bytes → collected_of (overflows (command_held i) last) ≡ collected_of (stores (length message) (command_held i) (take i.got message ++ bytes) last)
  unfolding stores
  stored_over h = rw (stored_length, lt-leb (i.got + length bytes) (length message) h)

  pub stored_arm : (answer : Answer) (next : Collecting) → Filled i → i.got + length bytes ≤ length message → answer ≡ data_answer last Whole → next ≡ data_next InData true last
      → holds answer next i (i.got + length bytes) ≡ collected_of (stores (length message) (command_held i) (take i.got message ++ bytes) last)
  unfolding data_next
  stored_arm answer next f h e k =
      holds_filled answer next i (i.got + length bytes) f
      ∙ rw (e, k, ← stored_length)
      (sym (stores_kept (length message) (command_held i) (take i.got message ++ bytes) last (ap (λ (n : ℕ). leb n (length message)) stored_length ∙ le-leb (i.got + length bytes) (length message) h)))

  -- the message buffer
  pub laid_in : stored_in i.got message bytes ≡ laid_by (length message) (in_data (command_held i) (take i.got message)) (dataset last bytes) message
  unfolding laid_by
  laid_in = rw (stored_length, got_length)

-- A data fragment, by the state that it is met in.

module _ (room : ℕ) (i : Input) (message bytes : List ℕ) (last : Bool) {x : Collecting} (e : state_of i.phase ≡ x) where
  met : input_in i message ≡ input_by x i message
  met = input_by_lem i message ∙ ap (λ (s : Collecting). input_by s i message) e

  pub data_arm : collect reading room (input_in i message) (dataset last bytes) ≡ collect reading room (input_by x i message) (dataset last bytes)
  data_arm = ap (λ (y : machine.Input). collect reading room y (dataset last bytes)) met

  pub laid_arm : laid_by room (input_in i message) (dataset last bytes) message ≡ laid_by room (input_by x i message) (dataset last bytes) message
  laid_arm = ap (λ (y : machine.Input). laid_by room y (dataset last bytes) message) met

-- A fragment behind its header.

pub fragment_of_lem : (f : List ℕ) (t last : Bool) (bytes : List ℕ) → of_command f ≡ t → last ≡ is_last f → bytes ≡ drop 6 f → pick t command dataset last bytes ≡ fragment_of f
fragment_of_lem f t last bytes e l b =
    ap (λ (x : Bool). pick t command dataset x bytes) l
    ∙ ap (λ (x : List ℕ). pick t command dataset (is_last f) x) b
    ∙ sym (ap (λ (x : Bool). pick x command dataset (is_last f) (drop 6 f)) e)

pub laid_command : (room : ℕ) (x : machine.Input) (last : Bool) (bytes message : List ℕ) → laid_by room x (command last bytes) message ≡ message
unfolding laid_by
laid_command room idle last bytes message = refl
laid_command room (in_command c) last bytes message = refl
laid_command room skipping_command last bytes message = refl
laid_command room (in_data c d) last bytes message = refl
laid_command room (skipping_data c) last bytes message = refl
