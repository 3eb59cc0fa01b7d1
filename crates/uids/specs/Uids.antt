-- Unique identifiers, rule 2.5: what one is, what its padding is, which begin with a root, and those made of a root and a serial.
use Rattle.std.specs.Prelude.{ℕ, zero, suc, ◌+◌, ◌-◌, ◌/◌, ◌%◌, Bool, true, List, [], ◌∷◌, ◌++◌, eqb, leb, ltb, length, get_or, take}
use Rattle.choice.specs.Pick.{pick, both, either, not}
use Rattle.octets.specs.Octets.{same}

-- every character is a digit
unfoldable pub digits : List ℕ → Bool
digits [] = true
digits (c ∷ s) = both (both (leb 48 c) (leb c 57)) (digits s)

-- a component: at least one character, all digits, and no leading 0 but 0 itself
unfoldable pub component : List ℕ → Bool
component s = both (not (eqb (length s) 0)) (both (digits s) (either (eqb (length s) 1) (not (eqb (get_or s 0 0) 48))))

-- components parted by dots, where `front` is what stands before the rest in the same component
unfoldable pub components : List ℕ → List ℕ → Bool
components front [] = component front
components front (c ∷ s) = pick (eqb c 46) (both (component front) (components [] s)) (components (front ++ (c ∷ [])) s)

-- a UID: components parted by dots, at most 64 characters in all
unfoldable pub is_uid : List ℕ → Bool
is_uid s = both (leb (length s) 64) (components [] s)

-- a UI value without its padding, one trailing 00H
unfoldable pub unpadded : List ℕ → List ℕ
unpadded v = pick (eqb (get_or v (length v - 1) 0) 0) (take (length v - 1) v) v

-- a UID begins with a root's characters, and next stands a dot
unfoldable pub begins_with : List ℕ → List ℕ → Bool
begins_with root uid = both (same root (take (length root) uid)) (eqb (get_or uid (length root) 0) 46)

-- the last `most` of a number's decimal digits, without leading zeros
unfoldable pub last_digits : ℕ → ℕ → List ℕ
last_digits zero n = []
last_digits (suc most) n = pick (ltb n 10) [] (last_digits most (n / 10)) ++ ((48 + n % 10) ∷ [])

-- a serial in decimal: ten digits are enough for 32 bits
unfoldable pub decimal : ℕ → List ℕ
decimal n = last_digits 10 n

-- the UID made of a root, a dot and a serial
unfoldable pub made : List ℕ → ℕ → List ℕ
made root serial = root ++ (46 ∷ decimal serial)
