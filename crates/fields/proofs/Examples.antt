-- A toy struct of a byte and an array of two numbers: its bytes, by computing, and its laws and steps, from those of its parts.
-- Assumes nothing.
use Prim.Native.Nat.{ℕ, ◌+◌, ◌≤◌}
use mathlib.Core.Path.{◌≡◌, refl}
use mathlib.Core.List.{List, [], ◌∷◌}
use lib.ListN.{length}
use Rattle.octets.specs.Octets.{number_at, octets}
use Rattle.fields.specs.Format.{Format, write, byte, number, ◌then◌, read_all, bytes_all, array, via}
use Rattle.fields.proofs.Laws.{byte_laws, number_laws, array_laws}
use Rattle.fields.proofs.Steps.{Steps, last, ◌then-steps◌, via_steps}

record Toy : Type 0 where
  kind : ℕ
  counts : List ℕ

abbrev toy : Format Toy
toy =
    via
    (λ t. record { kind = t.0; counts = t.1 })
    (λ x. (x.kind, x.counts))
    (byte then array 2 (number 2))

abbrev sample : Toy
sample = record { kind = 7; counts = 258 ∷ 255 ∷ [] }

toy_size : toy.size ≡ 5
toy_size = refl

toy_read : toy.read (9 ∷ 7 ∷ 2 ∷ 1 ∷ 255 ∷ 0 ∷ 9 ∷ []) 1 ≡ sample
unfolding read_all number_at
toy_read = refl

toy_write : write toy sample (9 ∷ 9 ∷ 9 ∷ 9 ∷ 9 ∷ 9 ∷ 9 ∷ []) 1 ≡ 9 ∷ 7 ∷ 2 ∷ 1 ∷ 255 ∷ 0 ∷ 9 ∷ []
unfolding write bytes_all octets
toy_write = refl

abbrev toy_steps : Steps toy
toy_steps = via_steps _ _ (λ x. refl) (λ t. refl) (byte_laws then-steps last (array_laws 2 (number_laws 2)))

-- one call writes the byte, and one the array behind it
toy_written : (x : Toy) (s : List ℕ) (at : ℕ) → at + 5 ≤ length s
    → write toy x s at ≡ write (array 2 (number 2)) x.counts (write byte x.kind s at) (at + 1)
toy_written x s at h = toy_steps.same x s at h
