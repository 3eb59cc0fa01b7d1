-- A header whose bytes stand below a place says the same over any bytes that agree below it, up to the enclosing end.
-- Assumes nothing.
use mathlib.Core.Path.{◌≡◌, refl, sym, ap, ◌∙◌}
use Prim.Native.Nat.{ℕ, zero, suc, ◌+◌, ◌-◌, ◌≤◌, ◌<◌}
use mathlib.Core.Bool.{Bool, true, false}
use mathlib.Core.List.{List}
use native.Mathlib.Omega.{arith}
use lib.Dec.{ltb, eqb}
use lib.ListN.{get_or, take}
use lib.Seq.{get_or-take}
use borrow.Author.Tests.{ltb-false, ltb-true, lt-ltb, le-ltb}
use Rattle.std.specs.Prelude.{Option, Some, None}
use Rattle.choice.specs.Pick.{pick, both, not}
use Rattle.choice.proofs.Picks.{pick_cases, first_cases, first_kept}
use Rattle.octets.specs.Octets.{number_at}
use Rattle.headers.specs.declared.Syntax.{Syntax}
use Rattle.headers.specs.declared.Inside.{Inside}
use Rattle.headers.specs.declared.Head.{Head}
use Rattle.headers.specs.declared.Head.TheVariants.{Fault, Value, Nest}
use Rattle.tags.specs.Table.{SQ, undefined}
use Rattle.headers.specs.Header.{tag_at, long_at, size_at, vr_at, length_at, vr_wrong, content, length_rules, length_head, element_rules, head_at, item_rules, item_head_at, close_at}
use Rattle.headers.proofs.Within.{size_least}

-- two lists hold the same bytes below a place
abbrev pub Agree : ℕ → List ℕ → List ℕ → Type 0
Agree p s t = (i : ℕ) → i < p → get_or t i 0 ≡ get_or s i 0

pub agree_take : (p : ℕ) (s t : List ℕ) → take p t ≡ take p s → Agree p s t
agree_take p s t e i l = sym (get_or-take p t i 0 l) ∙ ap (λ (x : List ℕ). get_or x i 0) e ∙ get_or-take p s i 0 l

picked_same : (p at : ℕ) (long : Bool) (x y z : ℕ) → at + pick long 12 8 ≤ p → (at + 12 ≤ p → x ≡ y) → pick long x z ≡ pick long y z
picked_same p at true x y z h f = f h
picked_same p at false x y z h f = refl

module _ (p : ℕ) (s t : List ℕ) (agree : Agree p s t) where
  number_same : (width at : ℕ) → at + width ≤ p → number_at width t at ≡ number_at width s at
  unfolding number_at
  number_same zero at h = refl
  number_same (suc width) at h = rw (agree at (omega arith), number_same width (at + 1) (omega arith))

  pub tag_same : (at : ℕ) → at + 8 ≤ p → tag_at t at ≡ tag_at s at
  unfolding tag_at
  tag_same at h = rw (number_same 2 at (omega arith), number_same 2 (at + 2) (omega arith))

  -- the first eight bytes
  module _ (syntax : Syntax) (at : ℕ) (h : at + 8 ≤ p) where
    long_same : long_at t syntax at ≡ long_at s syntax at
    long_same = rw (number_same 2 at (omega arith), number_same 2 (at + 4) (omega arith))

    size_same : size_at t syntax at ≡ size_at s syntax at
    unfolding size_at
    size_same = rw long_same

    vr_same : vr_at t syntax at ≡ vr_at s syntax at
    unfolding vr_at
    vr_same = rw (number_same 2 (at + 4) (omega arith), tag_same at h, number_same 4 (at + 4) (omega arith))

    wrong_same : vr_wrong t syntax at ≡ vr_wrong s syntax at
    unfolding vr_wrong
    wrong_same = rw (number_same 2 (at + 4) (omega arith), tag_same at h, number_same 2 (at + 6) (omega arith))

  length_same : (syntax : Syntax) (at : ℕ) → at + size_at s syntax at ≤ p → length_at t syntax at ≡ length_at s syntax at
  unfolding length_at size_at
  length_same syntax at h =
      let l = size_least s syntax at in
      rw (long_same syntax at (omega arith), number_same 2 (at + 6) (omega arith), number_same 4 (at + 4) (omega arith))
      (picked_same p at (long_at s syntax at) _ _ _ h (λ g. number_same 4 (at + 8) (omega arith)))

  head_same : (syntax : Syntax) (end at floor : ℕ) → at + size_at s syntax at ≤ p → head_at t syntax end at floor ≡ head_at s syntax end at floor
  unfolding head_at
  head_same syntax end at floor h =
      let l = size_least s syntax at in
      let g : at + 8 ≤ p = omega arith in
      rw (size_same syntax at g, number_same 2 at (omega arith), tag_same at g, wrong_same syntax at g, vr_same syntax at g, length_same syntax at h)

  item_head_same : (end at : ℕ) → at + 8 ≤ p → item_head_at t end at ≡ item_head_at s end at
  unfolding item_head_at
  item_head_same end at h = rw (tag_same at h, number_same 4 (at + 4) (omega arith))

-- what a part is within a further end: one of undefined length reaches it
abbrev pub widened : ℕ → Inside → Inside
widened end inside = record { from = inside.from; stop = pick inside.loose end inside.stop; loose = inside.loose }

-- a header that is not at fault says the same before a further end
abbrev HeadWider : ℕ → ℕ → Head → Head → Type 0
HeadWider low end (Fault n) d = Unit {0}
HeadWider low end (Value part) d = (low ≤ part.from) × (d ≡ Value part)
HeadWider low end (Nest inside) d = (low ≤ inside.from) × (d ≡ Nest (widened end inside))

both_less : (a b c : Bool) → both a b ≡ false → (b ≡ false → c ≡ false) → both a c ≡ false
both_less true b c e f = f e
both_less false b c e f = refl

content_wider : (from end end' length : ℕ) (sequence open-ended : Bool) → HeadWider from end'
    (pick sequence (Nest (pick open-ended (record { from = from; stop = end; loose = true }) (record { from = from; stop = from + length; loose = false }))) (Value (record { from = from; stop = from + length })))
    (pick sequence (Nest (pick open-ended (record { from = from; stop = end'; loose = true }) (record { from = from; stop = from + length; loose = false }))) (Value (record { from = from; stop = from + length })))
content_wider from end end' length true true = (omega arith, refl)
content_wider from end end' length true false = (omega arith, refl)
content_wider from end end' length false open-ended = (omega arith, refl)

length_wider : (from end end' vr length : ℕ) → end ≤ end' → HeadWider from end' (length_head from end vr length) (length_head from end' vr length)
unfolding length_head
length_wider from end end' vr length h =
    first_cases (λ d. HeadWider from end' d (length_head from end' vr length)) Fault (length_rules from end vr length) (content from end vr length) (λ n. tt)
    (λ k. rw (first_kept Fault (length_rules from end' vr length) (content from end' vr length)
    (k.0, (k.1.0, (both_less (not (undefined length)) (ltb (end - from) length) _ k.1.1.0 (λ e. let g = ltb-false (end - from) length e in le-ltb (end' - from) length (omega arith)), tt))))
    (content_wider from end end' length (eqb vr SQ) (undefined length)))

head_wider : (s : List ℕ) (syntax : Syntax) (end end' at floor : ℕ) → end ≤ end' → HeadWider (at + size_at s syntax at) end' (head_at s syntax end at floor) (head_at s syntax end' at floor)
unfolding head_at
head_wider s syntax end end' at floor h =
    first_cases (λ d. HeadWider (at + size_at s syntax at) end' d (head_at s syntax end' at floor)) Fault (element_rules s syntax end at floor) (length_head (at + size_at s syntax at) end (vr_at s syntax at) (length_at s syntax at)) (λ n. tt)
    (λ k. let g = ltb-false (end - at) (size_at s syntax at) k.0 in
    rw (first_kept Fault (element_rules s syntax end' at floor) (length_head (at + size_at s syntax at) end' (vr_at s syntax at) (length_at s syntax at)) (le-ltb (end' - at) (size_at s syntax at) (omega arith), k.1))
    (length_wider (at + size_at s syntax at) end end' (vr_at s syntax at) (length_at s syntax at) h))

item_head_wider : (s : List ℕ) (end end' at : ℕ) → end ≤ end' → HeadWider (at + 8) end' (item_head_at s end at) (item_head_at s end' at)
unfolding item_head_at
item_head_wider s end end' at h =
    first_cases (λ d. HeadWider (at + 8) end' d (item_head_at s end' at)) Fault (item_rules s end at) (length_head (at + 8) end SQ (number_at 4 s (at + 4))) (λ n. tt)
    (λ k. let g = ltb-false (end - at) 8 k.0 in
    rw (first_kept Fault (item_rules s end' at) (length_head (at + 8) end' SQ (number_at 4 s (at + 4))) (le-ltb (end' - at) 8 (omega arith), k.1))
    (length_wider (at + 8) end end' SQ (number_at 4 s (at + 4)) h))

-- a header that holds something, and ends at the place at the latest, says the same over the other bytes and before a further end
abbrev pub HeadBefore : ℕ → ℕ → Head → Head → Type 0
HeadBefore p end (Fault n) d = Unit {0}
HeadBefore p end (Value part) d = part.from ≤ p → d ≡ Value part
HeadBefore p end (Nest inside) d = inside.from ≤ p → d ≡ Nest (widened end inside)

before_of : (p low end : ℕ) (d d' d'' : Head) → HeadWider low end d d' → (low ≤ p → d'' ≡ d') → HeadBefore p end d d''
before_of p low end (Fault n) d' d'' g f = tt
before_of p low end (Value part) d' d'' g f = λ l. f (omega arith) ∙ g.1
before_of p low end (Nest inside) d' d'' g f = λ l. f (omega arith) ∙ g.1

-- what a part is before a further end: no shorter, and the same where its length is defined and it ends below the place
abbrev pub InsideBefore : ℕ → Inside → Inside → Type 0
InsideBefore p inside inside' = (inside'.loose ≡ inside.loose) × (inside.stop ≤ inside'.stop) × (inside.loose ≡ false → inside.stop < p → inside'.stop ≡ inside.stop)

-- where a list closes, and where it goes on with a part that has a header
abbrev pub CloseBefore : ℕ → ℕ → ℕ → Option ℕ → Option ℕ → Type 0
CloseBefore p at stop (Some q) k = q ≤ p → k ≡ Some q
CloseBefore p at stop None k = at + 8 ≤ p → at + 8 ≤ stop → k ≡ None

module _ (p : ℕ) (s t : List ℕ) (agree : Agree p s t) where
  pub head_before : (syntax : Syntax) (end end' at floor : ℕ) → end ≤ end' → HeadBefore p end' (head_at s syntax end at floor) (head_at t syntax end' at floor)
  head_before syntax end end' at floor h =
      before_of p (at + size_at s syntax at) end' (head_at s syntax end at floor) (head_at s syntax end' at floor) (head_at t syntax end' at floor) (head_wider s syntax end end' at floor h) (head_same p s t agree syntax end' at floor)

  pub item_head_before : (end end' at : ℕ) → end ≤ end' → HeadBefore p end' (item_head_at s end at) (item_head_at t end' at)
  item_head_before end end' at h = before_of p (at + 8) end' (item_head_at s end at) (item_head_at s end' at) (item_head_at t end' at) (item_head_wider s end end' at h) (item_head_same p s t agree end' at)

  pub close_before : (mark : ℕ) (inside inside' : Inside) (at : ℕ) → at < p → InsideBefore p inside inside' → CloseBefore p at inside.stop (close_at s mark inside at) (close_at t mark inside' at)
  unfolding close_at
  close_before mark inside inside' at h w =
      pick_cases P inside.loose _ _
      (λ loose. pick_cases P (ltb (inside.stop - at) 8) _ _
      (λ e. let g = ltb-true (inside.stop - at) 8 e in λ l m. absurd (omega arith))
      (λ e. let g = ltb-false (inside.stop - at) 8 e in
      let e' = le-ltb (inside'.stop - at) 8 (omega arith) in
      pick_cases P (eqb (tag_at s at) mark) _ _
      (λ f. pick_cases P (eqb (number_at 4 s (at + 4)) 0) _ _
      (λ z l. rw (w.0, loose, e', tag_same p s t agree at l, f, number_same p s t agree 4 (at + 4) (omega arith), z))
      (λ z l m. rw (w.0, loose, e', tag_same p s t agree at l, f, number_same p s t agree 4 (at + 4) (omega arith), z)))
      (λ f l m. rw (w.0, loose, e', tag_same p s t agree at l, f))))
      (λ loose. pick_cases P (ltb at inside.stop) _ _
      (λ e l m. let g = ltb-true at inside.stop e in rw (w.0, loose, lt-ltb at inside'.stop (omega arith)))
      (λ e l. let g = ltb-false at inside.stop e in rw (w.0, loose, w.2 loose (omega arith), e)))
    where
      P : Option ℕ → Type 0
      P k = CloseBefore p at inside.stop k (close_at t mark inside' at)
