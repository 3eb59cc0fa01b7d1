-- A UID made of a root and a serial: it is a UID, of at most 51 characters, another for each serial, and begins with root and a dot.
-- Assumes nothing.
use Prim.Native.Nat.{ℕ, ◌+◌, ◌<◌, ◌≤◌}
use mathlib.Core.Path.{◌≡◌, sym, ap, ◌∙◌}
use mathlib.Core.Bool.{true, false}
use mathlib.Core.List.{List, [], ◌∷◌}
use native.Mathlib.Omega.{arith}
use lib.Dec.{leb}
use lib.ListN.{length, drop, length-append}
use lib.Seq.{take-append_seam, drop-append_seam, get_or-append_seam}
use borrow.Author.Tests.{le-leb}
use Rattle.choice.proofs.Picks.{both_true, both_holds, clash}
use Rattle.octets.proofs.Same.{same_self}
use Rattle.uids.specs.Uids.{components, is_uid, begins_with, decimal, made}
use Rattle.uids.proofs.Components.{components_joined, components_one}
use Rattle.uids.proofs.Decimal.{decimal_length, decimal_digits, decimal_component, decimal_apart}

module _ (root : List ℕ) (serial : ℕ) where
  -- a root, a dot and the digits
  pub made_length : length (made root serial) ≡ length root + 1 + length (decimal serial)
  unfolding made
  made_length = rw (length-append root (46 ∷ decimal serial)) (omega arith)

  pub made_short : length root ≤ 40 → length (made root serial) ≤ 51
  made_short h = omega (arith, made_length, decimal_length serial)

  made_components : components [] root ≡ true → serial < 10000000000 → components [] (made root serial) ≡ true
  unfolding made
  made_components e k = rw (components_joined [] root (decimal serial), e, components_one [] (decimal serial) (decimal_digits serial k)) (decimal_component serial k)

  pub made_uid : is_uid root ≡ true → length root ≤ 40 → serial < 4294967296 → is_uid (made root serial) ≡ true
  unfolding is_uid
  made_uid e h k =
      both_holds (leb (length (made root serial)) _) (components [] (made root serial))
      (le-leb (length (made root serial)) _ (omega (arith, made_short h)))
      (made_components (both_true (leb (length root) _) (components [] root) e).1 (omega arith))

  pub made_begins : begins_with root (made root serial) ≡ true
  unfolding begins_with made
  made_begins = rw (take-append_seam root (46 ∷ decimal serial), get_or-append_seam root 46 (decimal serial) 0, same_self root)

  -- what does not begin so was not made
  pub never_made : (uid : List ℕ) → begins_with root uid ≡ false → uid ≡ made root serial → ⊥
  never_made uid n e = clash (sym (ap (begins_with root) e) ∙ n) made_begins

-- two serials make two UIDs
pub made_apart : (root : List ℕ) (a b : ℕ) → a < 4294967296 → b < 4294967296 → made root a ≡ made root b → a ≡ b
unfolding made
made_apart root a b h k e =
    let behind : ◌≡◌ {A = List ℕ} (46 ∷ decimal a) (46 ∷ decimal b) = sym (drop-append_seam root (46 ∷ decimal a)) ∙ ap (drop (length root)) e ∙ drop-append_seam root (46 ∷ decimal b) in
    let digits : decimal a ≡ decimal b = cc in
    decimal_apart a b (omega arith) (omega arith) digits
