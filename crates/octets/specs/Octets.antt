-- Octets: numbers in bytes, parts of a list of bytes, and bytes laid over others.
use Rattle.std.specs.Prelude.{ℕ, zero, suc, ◌+◌, ◌*◌, ◌-◌, ◌<◌, ◌/◌, ◌%◌, Bool, true, false, List, [], ◌∷◌, ◌++◌, eqb, length, get_or, take, drop}
use Rattle.choice.specs.Pick.{both}

-- the number of `width` bytes at a place, little endian
unfoldable pub number_at : ℕ → List ℕ → ℕ → ℕ
number_at zero s at = 0
number_at (suc width) s at = get_or s at 0 + 256 * number_at width s (at + 1)

-- the same, big endian
unfoldable pub big_number_at : ℕ → List ℕ → ℕ → ℕ
big_number_at zero s at = 0
big_number_at (suc width) s at = 256 * big_number_at width s at + get_or s (at + width) 0

-- a number in `width` bytes, little endian
unfoldable pub octets : ℕ → ℕ → List ℕ
octets zero x = []
octets (suc width) x = x % 256 ∷ octets width (x / 256)

-- the bytes from a place up to, and without, another
abbrev pub part : List ℕ → ℕ → ℕ → List ℕ
part s from stop = take (stop - from) (drop from s)

-- a list with other bytes laid over its own, from a place on
abbrev pub laid : List ℕ → ℕ → List ℕ → List ℕ
laid s at bytes = take at s ++ (bytes ++ drop (at + length bytes) s)

-- two lists hold the same bytes
unfoldable pub same : List ℕ → List ℕ → Bool
same [] [] = true
same [] (b ∷ others) = false
same (a ∷ rest) [] = false
same (a ∷ rest) (b ∷ others) = both (eqb a b) (same rest others)

-- every element is a byte
abbrev pub Bytes : List ℕ → Type 0
Bytes s = (i : ℕ) → get_or s i 0 < 256
