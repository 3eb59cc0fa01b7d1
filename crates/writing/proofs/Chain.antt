-- Bytes that are laid one run after the other are what the definitions say.
-- Assumes nothing.
use Prim.Native.Nat.{ℕ, ◌+◌, ◌≤◌, ◌%◌}
use mathlib.Core.Path.{◌≡◌, ap, ◌∙◌}
use mathlib.Core.List.{List, ◌++◌, append-nil}
use native.Mathlib.Omega.{arith}
use lib.ListN.{length, length-append}
use borrow.Author.Tests.{eq-eqb, ne_eqb}
use Rattle.octets.specs.Octets.{octets, laid}
use Rattle.octets.proofs.Laid.{laid_then, length_laid}
use Rattle.octets.proofs.Numbers.{octets_length}
use Rattle.tags.specs.Table.{form_of}
use Rattle.headers.specs.declared.Syntax.{Syntax}
use Rattle.headers.specs.declared.Syntax.TheVariants.{Implicit, Explicit}
use Rattle.writing.specs.Bytes.{padding, padded, tag_octets, vr_octets, plain, header, element}
use Rattle.writing.proofs.Sizes.{header_length, element_length, number_length}

pub laid_next : (s m o a b : List ℕ) (at p : ℕ) → at + length a ≤ length s → p ≡ at + length a → m ≡ laid s at a → o ≡ laid m p b → o ≡ laid s at (a ++ b)
laid_next s m o a b at p h ep em eo = eo ∙ rw (em, ep) (laid_then s at a h b)

-- three runs
pub laid_next_two : (s m n o a b d : List ℕ) (at p q : ℕ) → at + length a + length b ≤ length s → p ≡ at + length a → q ≡ p + length b
    → m ≡ laid s at a → n ≡ laid m p b → o ≡ laid n q d → o ≡ laid s at (a ++ (b ++ d))
laid_next_two s m n o a b d at p q h ep eq em en eo =
    let l = ap length em ∙ length_laid s at a (omega arith) in
    laid_next s m o a (b ++ d) at p (omega arith) ep em (laid_next m n o b d p q (omega arith) eq en eo)

pub vr_long : (vr size : ℕ) → form_of vr ≡ 12 → vr_octets vr size ≡ octets 2 vr ++ (octets 2 0 ++ octets 4 size)
unfolding vr_octets
vr_long vr size e = rw (eq-eqb _ _ e)

pub vr_short : (vr size : ℕ) → (form_of vr ≡ 12 → ⊥) → vr_octets vr size ≡ octets 2 vr ++ octets 2 size
unfolding vr_octets
vr_short vr size e = rw (ne_eqb _ _ e)

pub header_explicit : (syntax : Syntax) (tag vr size : ℕ) → syntax ≡ Explicit → header syntax tag vr size ≡ tag_octets tag ++ vr_octets vr size
unfolding header
header_explicit syntax tag vr size e = rw e

pub header_implicit : (syntax : Syntax) (tag vr size : ℕ) → syntax ≡ Implicit → header syntax tag vr size ≡ plain tag size
unfolding header
header_implicit syntax tag vr size e = rw e

pub element_parts : (syntax : Syntax) (tag vr : ℕ) (bytes : List ℕ)
    → element syntax tag vr bytes ≡ header syntax tag vr (length bytes + length bytes % 2) ++ (bytes ++ octets (length bytes % 2) (padding vr))
unfolding element padded
element_parts syntax tag vr bytes = rw (length-append bytes (octets (length bytes % 2) (padding vr)), octets_length (length bytes % 2) (padding vr))

pub element_number : (syntax : Syntax) (tag vr width x : ℕ) → width % 2 ≡ 0 → element syntax tag vr (octets width x) ≡ header syntax tag vr width ++ octets width x
unfolding octets
element_number syntax tag vr width x e = element_parts syntax tag vr (octets width x) ∙ rw (octets_length width x, e, append-nil) (ap (λ (n : ℕ). header syntax tag vr n ++ octets width x) (omega arith))

-- the same in lengths
pub element_room : (syntax : Syntax) (tag vr : ℕ) (bytes : List ℕ)
    → length (element syntax tag vr bytes) ≡ length (header syntax tag vr (length bytes + length bytes % 2)) + (length bytes + length bytes % 2)
element_room syntax tag vr bytes = omega (arith, element_length syntax tag vr bytes, header_length syntax tag vr (length bytes + length bytes % 2))

pub number_room : (syntax : Syntax) (tag vr width x : ℕ) → width % 2 ≡ 0 → length (element syntax tag vr (octets width x)) ≡ length (header syntax tag vr width) + width
number_room syntax tag vr width x e = omega (arith, number_length syntax tag vr width x e, header_length syntax tag vr width)
