-- The input, written where it lies in the records: a part of it alone, or all of it twice.
-- Assumes nothing.
use Prim.Native.Nat.{ℕ, zero, suc, ◌+◌, ◌-◌, ◌≤◌, ◌<◌}
use mathlib.Core.Path.{◌≡◌, refl, sym, ap, subst, ◌∙◌}
use mathlib.Core.Bool.{Bool, true, false}
use mathlib.Core.List.{List, [], ◌∷◌, ◌++◌, append_assoc, append-nil}
use native.Mathlib.Omega.{arith}
use lib.Dec.{eqb}
use lib.ListN.{length, take, drop, replicate, length-append, length-drop, length-replicate, take-append-drop}
use lib.Seq.{take_at, drop_at, length-take-le, drop-drop, drop-nil, take_all, get_or-drop}
use Rattle.choice.specs.Pick.{pick}
use Rattle.octets.specs.Octets.{laid, octets, Bytes}
use Rattle.octets.proofs.Laid.{length_laid}
use Rattle.fields.specs.Format.{write, byte, number, bytes_all}
use Rattle.fields.proofs.Laws.{Laws, read_write, write_read}
use Rattle.fields.proofs.Blocks.{write_block}
use Rattle.rules.specs.declared.Input.{Input}
use Rattle.rules.specs.Lists.{filled_to}
use Rattle.rules.specs.Layout.{input_format, core_size, records_size}
use Rattle.rules.specs.Records.{command_held}
use Rattle.rules.specs.Outcomes.{held}
use Rattle.rules.proofs.Sizes.{input_size_lem}
use Rattle.rules.proofs.Steps.{input_steps}
use Rattle.records.specs.Places.{held_in}
use Rattle.records.proofs.Texts.{text_front}
use Rattle.collecting.specs.Collecting.{Filled, Put, command_before}

-- bytes laid in the midst of others that were laid
laid_within : (b : List ℕ) (p : ℕ) (x y z w : List ℕ) → p + length (x ++ (y ++ z)) ≤ length b → length w ≡ length y
    → laid (laid b p (x ++ (y ++ z))) (p + length x) w ≡ laid b p (x ++ (w ++ z))
laid_within b p x y z w h e =
    let t = take p b in
    let d = drop (p + length (x ++ (y ++ z))) b in
    let lt : length t ≡ p = length-take-le p b (omega arith) in
    let lx : length (t ++ x) ≡ p + length x = rw (length-append t x, lt) in
    let ly : length ((t ++ x) ++ y) ≡ p + length x + length w = rw (length-append (t ++ x) y, lx, e) in
    let one : laid b p (x ++ (y ++ z)) ≡ (t ++ x) ++ (y ++ (z ++ d)) = simp append_assoc in
    let two : laid b p (x ++ (y ++ z)) ≡ ((t ++ x) ++ y) ++ (z ++ d) = simp append_assoc in
    let same : p + length (x ++ (y ++ z)) ≡ p + length (x ++ (w ++ z)) = simp (length-append, e) in
    ap (λ (s : List ℕ). take (p + length x) s ++ (w ++ drop (p + length x + length w) (laid b p (x ++ (y ++ z))))) one
    ∙ ap (λ (s : List ℕ). take (p + length x) ((t ++ x) ++ (y ++ (z ++ d))) ++ (w ++ drop (p + length x + length w) s)) two
    ∙ rw (take_at (t ++ x) (y ++ (z ++ d)) (p + length x) lx, drop_at ((t ++ x) ++ y) (z ++ d) (p + length x + length w) ly)
    (simp append_assoc (ap (λ (n : ℕ). t ++ (x ++ (w ++ (z ++ drop n b)))) same))

-- an array of bytes has its own bytes
block : (a : List ℕ) (n : ℕ) → length a ≡ n → bytes_all byte a n ≡ a
unfolding write
block a n e =
    let x = bytes_all byte a n in
    sym (append-nil x) ∙ ap (λ (s : List ℕ). x ++ s) (sym (drop-nil (0 + length x))) ∙ write_block a [] 0 n e ∙ ap (λ (s : List ℕ). a ++ s) (drop-nil (0 + length a)) ∙ append-nil a

laws : Laws input_format
laws = input_steps.laws

sized : (i : Input) → length (input_format.bytes i) ≡ 1031
sized i = laws.sized i ∙ input_size_lem

module _ (b : List ℕ) (h : records_size ≤ length b) where
  fits : (i : Input) → core_size + length (input_format.bytes i) ≤ length b
  fits i = omega (arith, sized i)

  -- all of it, over another
  pub twice : (i j : Input) → write input_format i (write input_format j b core_size) core_size ≡ write input_format i b core_size
  unfolding write
  twice i j =
      let x = input_format.bytes i in
      let y = input_format.bytes j in
      let e : length x ≡ length y = sized i ∙ sym (sized j) in
      ap (λ (s : List ℕ). laid (laid b core_size s) core_size x) (sym (append-nil y))
      ∙ laid_within b core_size [] y [] x (rw (append-nil y) (fits j)) e
      ∙ ap (λ (s : List ℕ). laid b core_size s) (append-nil x)

  -- its parts
  pub phase_put : (i : Input) (n : ℕ) → write byte n (write input_format i b core_size) core_size
      ≡ write input_format (record { phase = n; used = i.used; got = i.got; command = i.command }) b core_size
  unfolding write input_format octets
  phase_put i n = laid_within b core_size [] (i.phase ∷ []) (octets 2 i.used ++ (octets 4 i.got ++ bytes_all byte i.command 1024)) (n ∷ []) (fits i) refl

  pub used_put : (i : Input) (n : ℕ) → write (number 2) n (write input_format i b core_size) (core_size + 1)
      ≡ write input_format (record { phase = i.phase; used = n; got = i.got; command = i.command }) b core_size
  unfolding write input_format octets
  used_put i n = laid_within b core_size (i.phase ∷ []) (octets 2 i.used) (octets 4 i.got ++ bytes_all byte i.command 1024) (octets 2 n) (fits i) refl

  pub got_put : (i : Input) (n : ℕ) → write (number 4) n (write input_format i b core_size) (core_size + 3)
      ≡ write input_format (record { phase = i.phase; used = i.used; got = n; command = i.command }) b core_size
  unfolding write input_format octets
  got_put i n = laid_within b core_size (i.phase ∷ octets 2 i.used) (octets 4 i.got) (bytes_all byte i.command 1024) (octets 4 n) (fits i) refl

  pub command_put : (i : Input) (k : ℕ) (w : List ℕ) → length i.command ≡ 1024 → k + length w ≤ 1024 → laid (write input_format i b core_size) (core_size + 7 + k) w
      ≡ write input_format (record { phase = i.phase; used = i.used; got = i.got; command = laid i.command k w }) b core_size
  unfolding write input_format octets
  command_put i k w l f =
      let m = i.command in
      let head = i.phase ∷ (octets 2 i.used ++ octets 4 i.got) in
      let c = take k m in
      let y = take (length w) (drop k m) in
      let z = drop (k + length w) m in
      let lc : length c ≡ k = length-take-le k m (omega arith) in
      let lw : length w ≡ length y = sym (length-take-le (length w) (drop k m) (omega (arith, length-drop k m))) in
      let split : m ≡ c ++ (y ++ z) = sym (rw (← drop-drop (length w) k m, take-append-drop (length w) (drop k m)) (take-append-drop k m)) in
      let at : core_size + 7 + k ≡ core_size + length (head ++ c) = omega (arith, lc) in
      let all : bytes_all byte m 1024 ≡ c ++ (y ++ z) = block m 1024 l ∙ split in
      let room : core_size + length (head ++ (c ++ (y ++ z))) ≤ length b = subst (λ (s : List ℕ). core_size + length (head ++ s) ≤ length b) all (fits i) in
      ap (λ (s : List ℕ). laid (laid b core_size (head ++ s)) (core_size + 7 + k) w) all
      ∙ ap (λ (n : ℕ). laid (laid b core_size (head ++ (c ++ (y ++ z)))) n w) at
      ∙ laid_within b core_size (head ++ c) y z w room lw
      ∙ ap (λ (s : List ℕ). laid b core_size (head ++ s)) (sym (block (laid m k w) 1024 (length_laid m k w (omega arith) ∙ l)))

-- What is written is read back.

zeros_bytes : (n : ℕ) → Bytes (replicate n 0)
zeros_bytes zero i = omega arith
zeros_bytes (suc n) zero = omega arith
zeros_bytes (suc n) (suc i) = zeros_bytes n i

pub bytes_append : (a b : List ℕ) → Bytes a → Bytes b → Bytes (a ++ b)
bytes_append [] b p q i = q i
bytes_append (x ∷ a) b p q zero = p 0
bytes_append (x ∷ a) b p q (suc i) = bytes_append a b (λ j. p (suc j)) q i

pub filled_length : (c : List ℕ) → length c ≤ 1024 → length (filled_to 1024 0 c) ≡ 1024
filled_length c l = length-append c (replicate (1024 - length c) 0) ∙ rw (length-replicate {A = ℕ} (1024 - length c) 0) (omega arith)

-- a command of bytes
pub held_good : (n : ℕ) (c : List ℕ) → n < 256 → Bytes c → length c ≤ 1024 → input_format.Good (held n c 0)
unfolding input_format
held_good n c h o l =
    (h, (omega arith, (omega arith, (filled_length c l, λ j k. bytes_append c (replicate (1024 - length c) 0) o (zeros_bytes (1024 - length c)) j))))

module _ (b : List ℕ) (o : Bytes b) where
  -- another state, and other data
  pub holds_good : (n got : ℕ) → n < 256 → got < 4294967296 → input_format.Good (record { phase = n; used = (held_in b).used; got = got; command = (held_in b).command })
  unfolding input_format
  holds_good n got h g = let k = laws.good b core_size o in (h, (k.1.0, (omega arith, k.1.1.1)))

module _ (b : List ℕ) (h : records_size ≤ length b) where
  pub put : (i : Input) (after : List ℕ) → input_format.Good i → Filled i → after ≡ write input_format i b core_size → Put i b after
  put i after g f e = record { bytes = e; back = ap held_in e ∙ read_write laws i b core_size g (omega (arith, input_size_lem)); filled = f }

  -- over another input that was put
  pub put_over : {i j : Input} {s after : List ℕ} → Put j b s → Put i s after → Put i b after
  put_over {i} {j} p q = record { bytes = q.bytes ∙ ap (λ (x : List ℕ). write input_format i x core_size) p.bytes ∙ twice b h i j; back = q.back; filled = q.filled }

  -- the input as it stands
  pub stays : Bytes b → write input_format (held_in b) b core_size ≡ b
  stays o = write_read laws b core_size o (omega (arith, input_size_lem))

-- The command's bytes, where they lie.

bytes_taken : (n : ℕ) (s : List ℕ) → Bytes s → Bytes (take n s)
bytes_taken zero s o i = omega arith
bytes_taken (suc n) [] o i = omega arith
bytes_taken (suc n) (x ∷ s) o zero = o 0
bytes_taken (suc n) (x ∷ s) o (suc i) = bytes_taken n s (λ j. o (suc j)) i

module _ (b : List ℕ) (h : records_size ≤ length b) where
  pub command_in : (held_in b).used ≤ 1024 → (stop : ℕ) → stop ≡ core_size + 7 + (held_in b).used → take (stop - (core_size + 7)) (drop (core_size + 7) b) ≡ command_held (held_in b)
  unfolding input_format
  command_in l stop e = ap (λ (n : ℕ). take (n - (core_size + 7)) (drop (core_size + 7) b)) e ∙ sym (text_front b (core_size + 7) 1024 (omega arith) (held_in b).used l)

  module _ (o : Bytes b) where
    command_part : (held_in b).command ≡ take 1024 (drop (core_size + 7) b)
    unfolding input_format
    command_part = sym (take_all 1024 (held_in b).command (omega (arith, (laws.good b core_size o).1.1.1.0))) ∙ text_front b (core_size + 7) 1024 (omega arith) 1024 (omega arith)

    held_bytes : Bytes (command_held (held_in b))
    held_bytes = bytes_taken (held_in b).used (held_in b).command (subst (λ (s : List ℕ). Bytes s) (sym command_part) (bytes_taken 1024 (drop (core_size + 7) b) (λ i. rw (get_or-drop (core_size + 7) b i 0) (o (core_size + 7 + i)))))

either_bytes : (t : Bool) (s : List ℕ) → Bytes s → Bytes (pick t s [])
either_bytes true s o = o
either_bytes false s o = λ i. omega arith

pub before_bytes : (b : List ℕ) → records_size ≤ length b → Bytes b → Bytes (command_before (held_in b))
before_bytes b h o = either_bytes (eqb (held_in b).phase 1) (command_held (held_in b)) (held_bytes b h o)
