-- In implicit VR the watchdog's ceiling is reached for every length that is a multiple of eight (R-6): by a sequence of undefined length.
-- Assumes nothing.
use Prim.Native.Nat.{ℕ, zero, suc, ◌+◌, ◌-◌, ◌*◌, ◌<◌, ◌≤◌}
use mathlib.Core.Path.{◌≡◌, refl, ap, ◌∙◌}
use mathlib.Core.Bool.{true}
use mathlib.Core.List.{List, ◌++◌}
use native.Mathlib.Omega.{arith}
use lib.ListN.{length, length-append}
use borrow.Author.Tests.{le-ltb}
use Rattle.std.specs.Prelude.{Some, None, Ok}
use Rattle.choice.proofs.Picks.{first_kept}
use Rattle.octets.specs.Octets.{octets, number_at}
use Rattle.octets.proofs.Laid.{Stands, stands_first, stands_second}
use Rattle.octets.proofs.Numbers.{number_back}
use Rattle.headers.specs.declared.Syntax.TheVariants.{Implicit}
use Rattle.headers.specs.declared.Inside.{Inside}
use Rattle.headers.specs.declared.Head.TheVariants.{Fault, Nest}
use Rattle.tags.specs.Table.{named_vr, implicit_vr}
use Rattle.headers.specs.Header.{tag_at, size_at, vr_at, length_at, vr_wrong, element_rules, length_head, head_at, item_head_at, close_at}
use Rattle.elements.specs.Reader.{item_end, sequence_end, items_from, element_at, list_at, item_at, data_set}
use Rattle.elements.specs.Passed.{items_passed, element_passed, item_passed_at, passed_in, headers_passed}
use Rattle.elements.proofs.Laws.{element_nest, item_nest, items_done, items_more, list_done, list_more}
use Rattle.elements.proofs.Passed.{passed_nest, passed_item_nest, passed_items_done, passed_items_more, passed_list_done, passed_list_more}
use Rattle.writing.specs.Bytes.{tag_octets, plain, item_header}
use Rattle.writing.specs.Place.{span}
use Rattle.writing.specs.Headers.{items_then_end, loose_sequence}
use Rattle.writing.proofs.Sizes.{tag_length, plain_length}
use Rattle.writing.proofs.HeaderBack.{group_back, tag_back, item_head_back}
use Rattle.writing.proofs.ListBack.{between, not_yet, ended, stands_whole}

-- A header of eight bytes.

module _ (s : List ℕ) (at tag size : ℕ) (e : Stands s at (plain tag size)) where
  tag_stands : Stands s at (tag_octets tag)
  unfolding plain
  tag_stands = stands_first s at (tag_octets tag) (octets 4 size) e

  size_back : size < 4294967296 → number_at 4 s (at + 4) ≡ size
  unfolding plain
  size_back h = number_back 4 size s (at + 4) h (rw (tag_length tag) at (stands_second s at (tag_octets tag) (octets 4 size) e))

behind_plain : (s : List ℕ) (at tag size : ℕ) (more : List ℕ) → Stands s at (plain tag size ++ more) → Stands s (at + 8) more
behind_plain s at tag size more e = rw (plain_length tag size) at (stands_second s at (plain tag size) more e)

-- a sequence of undefined length
abbrev loose : ℕ → Inside
loose stop = record { from = 8; stop = stop; loose = true }

module _ (s : List ℕ) (stop at : ℕ) (h : at + 8 ≤ stop) where
  closed : Stands s at (plain sequence_end 0) → close_at s sequence_end (loose stop) at ≡ Some (at + 8)
  unfolding close_at
  closed e =
      rw (le-ltb (stop - at) 8 (omega arith), tag_back s at sequence_end (omega arith) (tag_stands s at sequence_end 0 e), size_back s at sequence_end 0 e (omega arith))

  unclosed : Stands s at (item_header 0) → close_at s sequence_end (loose stop) at ≡ None
  unfolding close_at
  unclosed e = rw (le-ltb (stop - at) 8 (omega arith), tag_back s at 0xFFFE_E000 (omega arith) (tag_stands s at 0xFFFE_E000 0 e))

  -- an item without elements
  module _ (room : ℕ) (e : Stands s at (item_header 0)) where
    item_head : item_head_at s stop at ≡ Nest (span (at + 8) 0)
    item_head = item_head_back s stop at 0 (omega arith) refl (omega arith) e

    item_empty : item_at s Implicit room stop at ≡ Ok (at + 8)
    unfolding list_at
    item_empty =
        let z : at + 8 + 0 ≡ at + 8 = omega arith in
        item_nest s Implicit room stop at item_head ∙ rw z (list_done s Implicit room (between (at + 8) (at + 8)) (at + 8) (omega arith) 0 (ended s item_end (at + 8) (at + 8)))

    item_one : item_passed_at s Implicit room stop at ≡ 1
    unfolding passed_in
    item_one =
        let z : at + 8 + 0 ≡ at + 8 = omega arith in
        passed_item_nest s Implicit room stop at item_head
        ∙ rw (z, passed_list_done s Implicit room (between (at + 8) (at + 8)) (at + 8) (omega arith) 0 (ended s item_end (at + 8) (at + 8)))

module _ (s : List ℕ) (room stop : ℕ) where
  items_read : (n at : ℕ) → stop ≡ at + 8 * suc n → Stands s at (items_then_end n)
      → (items_from (element_at s Implicit room) s room (loose stop) at ≡ Ok stop) × (items_passed (element_at s Implicit room) (element_passed s Implicit room) s room (loose stop) at ≡ suc n)
  unfolding items_then_end
  items_read zero at l e =
      let k = closed s stop at (omega arith) e in
      (items_done s Implicit room (loose stop) at (omega arith) k ∙ ap Ok (omega arith), passed_items_done s Implicit room (loose stop) at (omega arith) k)
  items_read (suc n) at l e =
      let item = stands_first s at (item_header 0) (items_then_end n) e in
      let k = unclosed s stop at (omega arith) item in
      let p = item_empty s stop at (omega arith) room item in
      let rest = items_read n (at + 8) (omega arith) (behind_plain s at 0xFFFE_E000 0 (items_then_end n) e) in (
        items_more s Implicit room (loose stop) at (omega arith) k p ∙ rest.0,
        passed_items_more s Implicit room (loose stop) at (omega arith) k p ∙ rw (item_one s stop at (omega arith) room item, rest.1) (omega arith),
      )

loose_length : (n : ℕ) → length (items_then_end n) ≡ 8 * suc n
unfolding items_then_end
loose_length zero = plain_length sequence_end 0
loose_length (suc n) = rw (length-append (item_header 0) (items_then_end n), plain_length 0xFFFE_E000 0, loose_length n) (omega arith)

pub loose_sequence_length : (n : ℕ) → length (loose_sequence n) ≡ 8 * (n + 2)
loose_sequence_length n = rw (length-append (plain 0x2010_0510 0xFFFF_FFFF) (items_then_end n), plain_length 0x2010_0510 0xFFFF_FFFF, loose_length n) (omega arith)

-- the reader's parts of a header, under one name
unfoldable the_parts : Unit {0}
unfolding size_at vr_at length_at vr_wrong named_vr implicit_vr length_head
the_parts = tt

sequence_nests : (s : List ℕ) (stop : ℕ) → 8 ≤ stop → Stands s 0 (plain 0x2010_0510 0xFFFF_FFFF) → head_at s Implicit stop 0 0 ≡ Nest (loose stop)
unfolding head_at the_parts
sequence_nests s stop h e =
    let t = tag_stands s 0 0x2010_0510 0xFFFF_FFFF e in
    let g = group_back s 0 0x2010_0510 (omega arith) t in
    let tag = tag_back s 0 0x2010_0510 (omega arith) t in
    first_kept Fault (element_rules s Implicit stop 0 0) (length_head (0 + size_at s Implicit 0) stop (vr_at s Implicit 0) (length_at s Implicit 0))
    (le-ltb (stop - 0) 8 (omega arith), (rw g, (le-ltb (tag_at s 0) 0 (omega arith), (refl, tt))))
    ∙ rw (tag, size_back s 0 0x2010_0510 0xFFFF_FFFF e (omega arith))

-- For each number of headers from two on, a data set of eight bytes for each.
pub ceiling_reached_loose : (n : ℕ) → (length (loose_sequence n) ≡ 8 * (n + 2)) × (data_set (loose_sequence n) Implicit ≡ Ok (8 * (n + 2))) × (headers_passed (loose_sequence n) Implicit ≡ n + 2)
unfolding data_set list_at headers_passed passed_in
ceiling_reached_loose n =
    let s = loose_sequence n in
    let stop = 8 * (n + 2) in
    let l = loose_sequence_length n in
    let stands = stands_whole s in
    let head = sequence_nests s stop (omega arith) (stands_first s 0 (plain 0x2010_0510 0xFFFF_FFFF) (items_then_end n) stands) in
    let items = items_read s 3 stop n 8 (omega arith) (behind_plain s 0 0x2010_0510 0xFFFF_FFFF (items_then_end n) stands) in
    let element = element_nest s Implicit 4 stop 0 0 (λ z. omega arith) head ∙ items.0 in
    let unclosed = not_yet s item_end 0 stop 0 (omega arith) in
    let end = ended s item_end 0 stop in (
      l,
      rw l (list_more s Implicit 4 (between 0 stop) 0 (omega arith) 0 unclosed element ∙ list_done s Implicit 4 (between 0 stop) stop (omega arith) _ end),
      rw l (passed_list_more s Implicit 4 (between 0 stop) 0 (omega arith) 0 unclosed element ∙ rw (passed_nest s Implicit 4 stop 0 0 (λ z. omega arith) head, items.1, passed_list_done s Implicit 4 (between 0 stop) stop (omega arith) (tag_at s 0 + 1) end) (omega arith)),
    )
