-- Examples, by computation.
-- Assumes nothing.
use Prim.Native.Nat.{ℕ}
use mathlib.Core.Path.{◌≡◌, refl}
use mathlib.Core.Bool.{true, false}
use mathlib.Core.List.{List, [], ◌∷◌}
use Rattle.uids.specs.Uids.{digits, component, components, is_uid, unpadded, begins_with, last_digits, decimal, made}
use Rattle.octets.specs.Octets.{same}

-- "1.9.7"
root : List ℕ
root = 49 ∷ 46 ∷ 57 ∷ 46 ∷ 55 ∷ []

-- "1.2.840.10008.1.1"
verification : is_uid (49 ∷ 46 ∷ 50 ∷ 46 ∷ 56 ∷ 52 ∷ 48 ∷ 46 ∷ 49 ∷ 48 ∷ 48 ∷ 48 ∷ 56 ∷ 46 ∷ 49 ∷ 46 ∷ 49 ∷ []) ≡ true
unfolding is_uid components component digits
verification = refl

-- "1.02"
leading_zero : is_uid (49 ∷ 46 ∷ 48 ∷ 50 ∷ []) ≡ false
unfolding is_uid components component digits
leading_zero = refl

-- "1.0.2"
zero_itself : is_uid (49 ∷ 46 ∷ 48 ∷ 46 ∷ 50 ∷ []) ≡ true
unfolding is_uid components component digits
zero_itself = refl

-- "1..2"
empty_component : is_uid (49 ∷ 46 ∷ 46 ∷ 50 ∷ []) ≡ false
unfolding is_uid components component digits
empty_component = refl

-- ""
empty : is_uid [] ≡ false
unfolding is_uid components component digits
empty = refl

-- "1."
dot_at_end : is_uid (49 ∷ 46 ∷ []) ≡ false
unfolding is_uid components component digits
dot_at_end = refl

-- "1.9.7.100"
hundredth : made root 100 ≡ 49 ∷ 46 ∷ 57 ∷ 46 ∷ 55 ∷ 46 ∷ 49 ∷ 48 ∷ 48 ∷ []
unfolding root made decimal last_digits
hundredth = refl

-- the ten digits of the greatest serial
greatest : decimal 4294967295 ≡ 52 ∷ 50 ∷ 57 ∷ 52 ∷ 57 ∷ 54 ∷ 55 ∷ 50 ∷ 57 ∷ 53 ∷ []
unfolding decimal last_digits
greatest = refl

-- "1.9.70.5"
other_root : begins_with root (49 ∷ 46 ∷ 57 ∷ 46 ∷ 55 ∷ 48 ∷ 46 ∷ 53 ∷ []) ≡ false
unfolding root begins_with same
other_root = refl

-- "1.9.7.5"
same_root : begins_with root (49 ∷ 46 ∷ 57 ∷ 46 ∷ 55 ∷ 46 ∷ 53 ∷ []) ≡ true
unfolding root begins_with same
same_root = refl

-- one zero is padding, a second is not, and a space is none
one_zero : unpadded (49 ∷ 0 ∷ 0 ∷ []) ≡ 49 ∷ 0 ∷ []
unfolding unpadded
one_zero = refl

space : unpadded (49 ∷ 32 ∷ []) ≡ 49 ∷ 32 ∷ []
unfolding unpadded
space = refl
