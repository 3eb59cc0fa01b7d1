-- The boxes of a created film, laid one after the other behind the header of their sequence, are its data set.
-- Assumes nothing.
use Prim.Native.Nat.{ℕ, suc, ◌+◌, ◌-◌, ◌<◌, ◌≤◌}
use mathlib.Core.Path.{◌≡◌, refl, sym, ap, ◌∙◌}
use mathlib.Core.List.{List, [], ◌++◌, append-nil, map}
use native.Mathlib.Omega.{arith}
use lib.ListN.{length, take, drop, length-append}
use lib.Seq.{take-append_seam}
use Rattle.octets.specs.Octets.{laid}
use Rattle.octets.proofs.Laid.{laid_none, laid_then}
use Rattle.uids.specs.Uids.{made}
use Rattle.tags.specs.Table.{SQ, UI, form_of}
use Rattle.headers.specs.declared.Syntax.{Syntax}
use Rattle.headers.specs.declared.Syntax.TheVariants.{Implicit, Explicit}
use Rattle.writing.specs.Bytes.{header_size, header, item_header, element, written}
use Rattle.writing.proofs.Sizes.{header_length, item_length, element_length}
use Rattle.writing.proofs.Chain.{laid_next}
use Rattle.rules.specs.Lists.{from}
use Rattle.rules.specs.Text.{chars, box_class}
use Rattle.rules.specs.Responses.{box_items, film_tree}
use Rattle.responses.specs.Parts.{box_tree, box_bytes, boxes_bytes}
use Rattle.responses.proofs.Under.{laid_under}

-- what was laid at the start of a buffer, as a part of it
pub part_laid : (s t bytes : List ℕ) (n : ℕ) → t ≡ laid s 0 bytes → n ≡ 0 + length bytes → take (n - 0) (drop 0 t) ≡ bytes
part_laid s t bytes n e k =
    let z : n - 0 ≡ length bytes = omega arith in
    rw (z, e) (take-append_seam bytes (drop (0 + length bytes) s))

class_length : length box_class ≡ 21
unfolding chars
class_length = refl

uid_header : (syntax : Syntax) → header_size syntax UI ≡ 8
unfolding header_size form_of
uid_header Explicit = refl
uid_header Implicit = refl

pub sequence_explicit : (syntax : Syntax) → syntax ≡ Explicit → header_size syntax SQ ≡ 12
unfolding header_size form_of
sequence_explicit syntax e = rw e

pub sequence_implicit : (syntax : Syntax) → syntax ≡ Implicit → header_size syntax SQ ≡ 8
unfolding header_size form_of
sequence_implicit syntax e = rw e

module _ (syntax : Syntax) where
  pub class_size : length (element syntax 0x0008_1150 UI box_class) ≡ 30
  class_size = omega (arith, element_length syntax 0x0008_1150 UI box_class, uid_header syntax, class_length)

  pub instance_size : (uid : List ℕ) → length uid ≤ 51 → length (element syntax 0x0008_1155 UI uid) ≤ 60
  instance_size uid h = omega (arith, element_length syntax 0x0008_1155 UI uid, uid_header syntax)

  pub box_list_laid : (uid s m o : List ℕ) (at p r : ℕ) → length uid ≤ 51 → at + 90 ≤ length s
      → m ≡ laid s at (element syntax 0x0008_1150 UI box_class) → p ≡ at + length (element syntax 0x0008_1150 UI box_class)
      → o ≡ laid m p (element syntax 0x0008_1155 UI uid) → r ≡ p + length (element syntax 0x0008_1155 UI uid)
      → (o ≡ laid s at (written syntax (box_tree uid))) × (r ≡ at + length (written syntax (box_tree uid))) × (r ≤ at + 90)
  unfolding written
  box_list_laid uid s m o at p r k h em ep eo er =
      let class = element syntax 0x0008_1150 UI box_class in
      let instance = element syntax 0x0008_1155 UI uid in
      let l = class_size in
      let i = instance_size uid k in
      rw (append-nil instance)
      (laid_next s m o class instance at p (omega arith) ep em eo, rw (length-append class instance) (omega arith), omega arith)

  pub box_laid : (uid s m o : List ℕ) (at r : ℕ) → at + 98 ≤ length s
      → m ≡ laid s (at + 8) (written syntax (box_tree uid)) → r ≡ at + 8 + length (written syntax (box_tree uid)) → r ≤ at + 8 + 90
      → o ≡ laid m at (item_header (r - at - 8))
      → (o ≡ laid s at (box_bytes syntax uid)) × (r ≡ at + length (box_bytes syntax uid)) × (r ≤ at + 98)
  unfolding box_bytes
  box_laid uid s m o at r h em er br eo =
      let list = written syntax (box_tree uid) in
      let size : r - at - 8 ≡ length list = omega arith in
      let l = item_length (length list) in
      (laid_under s m o (item_header (length list)) list at (at + 8) (omega arith) (omega arith) em (rw (← size) eo), rw (length-append (item_header (length list)) list) (omega arith), omega arith)

  module _ (root : List ℕ) where
    boxes_more : (n k : ℕ) → boxes_bytes syntax root n (suc k) ≡ box_bytes syntax (made root n) ++ boxes_bytes syntax root (n + 1) k
    unfolding boxes_bytes box_bytes written box_items from
    boxes_more n k = refl

    boxes_none : (n : ℕ) → boxes_bytes syntax root n 0 ≡ []
    unfolding boxes_bytes written box_items from
    boxes_none n = refl

    -- one box more: what is to be laid from here on is what is to be laid behind it
    pub boxes_turn : (s o : List ℕ) (first count i p q : ℕ) → i < count → p + 98 ≤ length s → q ≤ p + 98
        → o ≡ laid s p (box_bytes syntax (made root (first + i))) → q ≡ p + length (box_bytes syntax (made root (first + i)))
        → (laid s p (boxes_bytes syntax root (first + i) (count - i)) ≡ laid o q (boxes_bytes syntax root (first + (i + 1)) (count - (i + 1))))
        × (p + length (boxes_bytes syntax root (first + i) (count - i)) ≡ q + length (boxes_bytes syntax root (first + (i + 1)) (count - (i + 1))))
    boxes_turn s o first count i p q h room bq eo eq =
        let left : count - i ≡ suc (count - (i + 1)) = omega arith in
        let next : first + (i + 1) ≡ first + i + 1 = omega arith in
        let box = box_bytes syntax (made root (first + i)) in
        let rest = boxes_bytes syntax root (first + i + 1) (count - (i + 1)) in
        rw (left, next, boxes_more (first + i) (count - (i + 1)))
        (sym (ap (λ (t : List ℕ). laid t q rest) eo ∙ rw eq (laid_then s p box (omega arith) rest)), rw (length-append box rest) (omega arith))

    -- none left
    pub boxes_done : (s o : List ℕ) (first count at i p : ℕ) → i ≤ count → count ≤ i
        → laid s at (boxes_bytes syntax root first count) ≡ laid o p (boxes_bytes syntax root (first + i) (count - i))
        → at + length (boxes_bytes syntax root first count) ≡ p + length (boxes_bytes syntax root (first + i) (count - i))
        → (o ≡ laid s at (boxes_bytes syntax root first count)) × (p ≡ at + length (boxes_bytes syntax root first count))
    boxes_done s o first count at i p h k e l =
        let none : count - i ≡ 0 = omega arith in
        let e₀ = rw (none, boxes_none (first + i)) at e in
        let l₀ = rw (none, boxes_none (first + i)) at l in
        (sym (e₀ ∙ laid_none o p), omega arith)

    pub film_laid : (s m o : List ℕ) (first count start stop : ℕ) → 12 ≤ length s → start ≡ header_size syntax SQ → start ≤ 12
        → m ≡ laid s start (boxes_bytes syntax root first count) → stop ≡ start + length (boxes_bytes syntax root first count)
        → o ≡ laid m 0 (header syntax 0x2010_0510 SQ (stop - start))
        → (o ≡ laid s 0 (written syntax (film_tree (map (made root) (from first count))))) × (stop ≡ length (written syntax (film_tree (map (made root) (from first count)))))
    unfolding written film_tree boxes_bytes
    film_laid s m o first count start stop h es bs em et eo =
        let boxes = boxes_bytes syntax root first count in
        let front = header syntax 0x2010_0510 SQ (length boxes) in
        let size : stop - start ≡ length boxes = omega arith in
        let l = header_length syntax 0x2010_0510 SQ (length boxes) in
        rw (append-nil (front ++ boxes))
        (laid_under s m o front boxes 0 start (omega arith) (omega arith) em (rw (← size) eo), rw (length-append front boxes) (omega arith))
