-- The reader passes as many headers as were written, in both syntaxes.
-- Assumes nothing.
use Prim.Native.Nat.{ℕ, suc, ◌+◌, ◌-◌, ◌≤◌}
use mathlib.Core.Path.{◌≡◌, refl, ap, ◌∙◌}
use mathlib.Core.List.{List, ◌++◌}
use native.Mathlib.Omega.{arith}
use lib.ListN.{length}
use Rattle.std.specs.Prelude.{Ok}
use Rattle.octets.proofs.Laid.{Stands}
use Rattle.headers.specs.declared.Syntax.{Syntax}
use Rattle.tags.specs.Table.{SQ}
use Rattle.elements.specs.Reader.{item_end, sequence_end, element_at}
use Rattle.elements.specs.Passed.{list_passed, items_passed, element_passed, passed_in, headers_passed}
use Rattle.elements.proofs.Passed.{passed_value, passed_nest, passed_item_nest, passed_items_done, passed_items_more, passed_list_done, passed_list_more}
use Rattle.writing.specs.Tree.{Elements, no_elements, value, sequence, Items, no_items, item}
use Rattle.writing.specs.Bytes.{padded, header_size, headed, element, written, written_items}
use Rattle.writing.specs.Fit.{HeaderFits, Fit, FitItems}
use Rattle.writing.specs.Headers.{headers_of, item_headers_of}
use Rattle.writing.proofs.Sizes.{size_between, padded_even}
use Rattle.writing.proofs.HeaderBack.{header_back, value_head, sequence_head, item_head_back}
use Rattle.writing.proofs.ListBack.{written_even, items_even, between, mark, not_yet, ended, header_stands, held_stands, more_stands, stop_after, value_past, sequence_past, item_header_stands, list_stands, other_items_stand, stop_after_item, item_past_back, list_back, items_back, stands_whole}

-- an element and what it holds, and behind it the list with a higher tag
on : (s : List ℕ) (syntax : Syntax) (room from stop at floor tag vr : ℕ) (held more : List ℕ) → HeaderFits syntax floor tag vr (length held)
    → Stands s at (headed syntax tag vr held ++ more) → at + header_size syntax vr + length held ≤ stop
    → element_at s syntax room stop at floor ≡ Ok (at + header_size syntax vr + length held)
    → {n rest : ℕ} → element_passed s syntax room stop at floor ≡ n
    → list_passed (element_at s syntax room) (element_passed s syntax room) s (between from stop) (mark (at + header_size syntax vr + length held) (tag + 1)) ≡ rest
    → list_passed (element_at s syntax room) (element_passed s syntax room) s (between from stop) (mark at floor) ≡ n + rest
on s syntax room from stop at floor tag vr held more f e r p a b =
    let k = size_between syntax vr in
    passed_list_more s syntax room (between from stop) at (omega arith) floor (not_yet s item_end from stop at (omega arith)) p
    ∙ rw ((header_back s syntax at tag vr (length held) f.1 f.2 (header_stands s syntax at tag vr held more e)).tag_is, a, b)

mutual
  unfolding written element headers_of passed_in

  list_counted : (elements : Elements) (s : List ℕ) (syntax : Syntax) (room from stop at floor : ℕ) → Fit syntax room floor elements → stop ≡ at + length (written syntax elements) → Stands s at (written syntax elements)
      → list_passed (element_at s syntax room) (element_passed s syntax room) s (between from stop) (mark at floor) ≡ headers_of elements
  list_counted no_elements s syntax room from stop at floor f n e =
      let z : stop ≡ at = omega arith in
      rw z (passed_list_done s syntax room (between from at) at (omega arith) floor (ended s item_end from at))
  list_counted (value tag vr bytes more) s syntax room from stop at floor f n e =
      let held = padded vr bytes in
      let rest = written syntax more in
      let k = stop_after syntax stop at tag vr held rest n in
      on s syntax room from stop at floor tag vr held rest f.0 e (omega arith)
      (value_past s syntax room stop at floor tag vr held rest f.0 f.1 (padded_even vr bytes) e (omega arith))
      (passed_value s syntax room stop at floor (value_head s syntax stop at floor tag vr (length held) f.0 (padded_even vr bytes) (omega arith) (header_stands s syntax at tag vr held rest e) f.1))
      (list_counted more s syntax room from stop (at + header_size syntax vr + length held) (tag + 1) f.2 k (more_stands s syntax at tag vr held rest e))
      ∙ omega arith
  list_counted (sequence tag items more) s syntax room from stop at floor f n e =
      let held = written_items syntax items in
      let rest = written syntax more in
      let k = stop_after syntax stop at tag SQ held rest n in
      let inside = at + header_size syntax SQ in
      on s syntax room from stop at floor tag SQ held rest f.0 e (omega arith)
      (sequence_past s syntax room stop at floor tag held rest f.0 f.1 f.2 (items_even syntax items) e (omega arith)
      (items_back items s syntax (room - 1) inside (inside + length held) inside f.3 refl (held_stands s syntax at tag SQ held rest e)))
      (passed_nest s syntax room stop at floor (λ z. omega arith) (sequence_head s syntax stop at floor tag (length held) f.0 (items_even syntax items) (omega arith) (header_stands s syntax at tag SQ held rest e) f.1)
      ∙ ap suc (items_counted items s syntax (room - 1) inside (inside + length held) inside f.3 refl (held_stands s syntax at tag SQ held rest e)))
      (list_counted more s syntax room from stop (inside + length held) (tag + 1) f.4 k (more_stands s syntax at tag SQ held rest e))
      ∙ omega arith

  items_counted : (items : Items) (s : List ℕ) (syntax : Syntax) (room from stop at : ℕ) → FitItems syntax room items → stop ≡ at + length (written_items syntax items) → Stands s at (written_items syntax items)
      → items_passed (element_at s syntax room) (element_passed s syntax room) s room (between from stop) at ≡ item_headers_of items
  items_counted no_items s syntax room from stop at f n e =
      let z : stop ≡ at = omega arith in
      rw z (passed_items_done s syntax room (between from at) at (omega arith) (ended s sequence_end from at))
  items_counted (item list more) s syntax room from stop at f n e =
      let held = written syntax list in
      let rest = written_items syntax more in
      let k = stop_after_item stop at held rest n in
      passed_items_more s syntax room (between from stop) at (omega arith) (not_yet s sequence_end from stop at (omega arith))
      (item_past_back s syntax room stop at held rest f.0 (written_even syntax list) e (omega arith)
      (list_back list s syntax room (at + 8) (at + 8 + length held) (at + 8) 0 f.1 refl (list_stands s at held rest e)))
      ∙ rw (passed_item_nest s syntax room stop at (item_head_back s stop at (length held) f.0 (written_even syntax list) (omega arith) (item_header_stands s at held rest e)), list_counted list s syntax room (at + 8) (at + 8 + length held) (at + 8) 0 f.1 refl (list_stands s at held rest e), items_counted more s syntax room from stop (at + 8 + length held) f.2 k (other_items_stand s at held rest e))
      (omega arith)

-- What was written passes as many headers as were written.
pub passed_back : (syntax : Syntax) (elements : Elements) → Fit syntax 4 0 elements → headers_passed (written syntax elements) syntax ≡ headers_of elements
unfolding headers_passed passed_in
passed_back syntax elements f =
    list_counted elements (written syntax elements) syntax 4 0 (length (written syntax elements)) 0 0 f (omega arith) (stands_whole (written syntax elements))
