-- What a header holds, and where a list closes, lies between its place and the enclosing end.
-- Assumes nothing.
use mathlib.Core.Path.{◌≡◌, refl, ap}
use Prim.Native.Nat.{ℕ, ◌+◌, ◌-◌, ◌*◌, ◌≤◌}
use mathlib.Core.Bool.{Bool}
use mathlib.Core.List.{List}
use native.Mathlib.Omega.{arith}
use lib.Dec.{ltb, eqb}
use borrow.Author.Tests.{ltb-false, eq-eqb}
use Rattle.std.specs.Prelude.{Option, Some, None}
use Rattle.choice.specs.Pick.{pick, not}
use Rattle.choice.proofs.Picks.{pick_cases, number_cases, both_second, both_first}
use Rattle.octets.specs.Octets.{number_at}
use Rattle.headers.specs.declared.Syntax.{Syntax}
use Rattle.headers.specs.declared.Syntax.TheVariants.{Implicit, Explicit}
use Rattle.headers.specs.declared.Inside.{Inside}
use Rattle.headers.specs.declared.Head.{Head}
use Rattle.headers.specs.declared.Head.TheVariants.{Fault, Value, Nest}
use Rattle.tags.specs.Table.{SQ, undefined}
use Rattle.headers.specs.Header.{tag_at, group_at, long_at, size_at, vr_at, length_at, content, length_rules, length_head, element_rules, head_at, item_rules, item_head_at, close_at}

abbrev pub CloseIn : ℕ → ℕ → Option ℕ → Type 0
CloseIn at end (Some q) = (at ≤ q) × (q ≤ end)
CloseIn at end None = Unit {0}

-- a place with room behind it
abbrev pub Fits : ℕ → ℕ → ℕ → ℕ → Type 0
Fits low from stop end = (low ≤ from) × ((from ≤ stop) × (stop ≤ end))

-- the reader's refusals are 1 to 7
abbrev pub most_refusal : ℕ
most_refusal = 7

abbrev pub HeadIn : ℕ → ℕ → Head → Type 0
HeadIn low end (Fault n) = (1 ≤ n) × (n ≤ most_refusal)
HeadIn low end (Value part) = Fits low part.from part.stop end
HeadIn low end (Nest inside) = Fits low inside.from inside.stop end

pub close_in : (s : List ℕ) (mark : ℕ) (inside : Inside) (at : ℕ) → at ≤ inside.stop → CloseIn at inside.stop (close_at s mark inside at)
unfolding close_at
close_in s mark inside at h =
    pick_cases (CloseIn at inside.stop) inside.loose _ _
    (λ _. pick_cases (CloseIn at inside.stop) (ltb (inside.stop - at) 8) _ _ (λ _. tt)
    (λ e. let g : 8 ≤ inside.stop - at = ltb-false _ _ e in
    pick_cases (CloseIn at inside.stop) (eqb (tag_at s at) mark) _ _
    (λ _. pick_cases (CloseIn at inside.stop) (eqb (number_at 4 s (at + 4)) 0) _ _ (λ _. (omega arith, omega arith)) (λ _. tt))
    (λ _. tt)))
    (λ _. pick_cases (CloseIn at inside.stop) (ltb at inside.stop) _ _ (λ _. tt) (λ _. (omega arith, h)))

-- a list or a sequence of undefined length ends behind its delimiter
abbrev pub Delimited : ℕ → Bool → Option ℕ → Type 0
Delimited at loose (Some q) = at + 8 * pick loose 1 0 ≤ q
Delimited at loose None = Unit {0}

pub close_behind : (s : List ℕ) (mark : ℕ) (inside : Inside) (at : ℕ) → Delimited at inside.loose (close_at s mark inside at)
unfolding close_at
close_behind s mark inside at =
    pick_cases (Delimited at inside.loose) inside.loose _ _
    (λ z. pick_cases (Delimited at inside.loose) (ltb (inside.stop - at) 8) _ _ (λ _. tt)
    (λ _. pick_cases (Delimited at inside.loose) (eqb (tag_at s at) mark) _ _
    (λ _. pick_cases (Delimited at inside.loose) (eqb (number_at 4 s (at + 4)) 0) _ _ (λ _. rw z (omega arith)) (λ _. tt))
    (λ _. tt)))
    (λ z. pick_cases (Delimited at inside.loose) (ltb at inside.stop) _ _ (λ _. tt) (λ _. rw z (omega arith)))

pub size_least : (s : List ℕ) (syntax : Syntax) (at : ℕ) → 8 ≤ size_at s syntax at
unfolding size_at
size_least s syntax at = pick_cases (λ (n : ℕ). 8 ≤ n) (long_at s syntax at) 12 8 (λ _. omega arith) (λ _. omega arith)

-- a header of group FFFE has no VR, and eight bytes
pub mark_size : (s : List ℕ) (syntax : Syntax) (at : ℕ) → group_at s at ≡ 0xFFFE → size_at s syntax at ≡ 8
unfolding size_at
mark_size s Explicit at e = rw (eq-eqb _ _ e)
mark_size s Implicit at e = refl

length_in : (low from end vr length : ℕ) → low ≤ from → from ≤ end → HeadIn low end (length_head from end vr length)
unfolding length_head
length_in low from end vr length l h =
    number_cases (HeadIn low end) (λ n. (1 ≤ n) × (n ≤ most_refusal)) Fault (length_rules from end vr length) (content from end vr length) (omega arith) (λ n g. g)
    (λ k. pick_cases (HeadIn low end) (eqb vr SQ) _ _
    (λ q. pick_cases (λ (i : Inside). Fits low i.from i.stop end) (undefined length) _ _
    (λ u. (l, (h, omega arith)))
    (λ d. let g : length ≤ end - from = ltb-false _ _ (both_second (not (undefined length)) _ k.1.1.0 (ap not d)) in (l, (omega arith, omega arith))))
    (λ q. let d = both_first (undefined length) (not (eqb vr SQ)) k.0 (ap not q) in
    let g : length ≤ end - from = ltb-false _ _ (both_second (not (undefined length)) _ k.1.1.0 (ap not d)) in (l, (omega arith, omega arith))))

-- what a header holds lies behind its eight bytes at least
pub head_in : (s : List ℕ) (syntax : Syntax) (end at floor : ℕ) → at ≤ end → HeadIn (at + 8) end (head_at s syntax end at floor)
unfolding head_at
head_in s syntax end at floor h =
    number_cases (HeadIn (at + 8) end) (λ n. (1 ≤ n) × (n ≤ most_refusal)) Fault (element_rules s syntax end at floor) (length_head (at + size_at s syntax at) end (vr_at s syntax at) (length_at s syntax at)) (omega arith) (λ n g. g)
    (λ k. let r : size_at s syntax at ≤ end - at = ltb-false _ _ k.0 in
    let l = size_least s syntax at in
    length_in (at + 8) (at + size_at s syntax at) end (vr_at s syntax at) (length_at s syntax at) (omega arith) (omega arith))

pub item_head_in : (s : List ℕ) (end at : ℕ) → at ≤ end → HeadIn (at + 8) end (item_head_at s end at)
unfolding item_head_at
item_head_in s end at h =
    number_cases (HeadIn (at + 8) end) (λ n. (1 ≤ n) × (n ≤ most_refusal)) Fault (item_rules s end at) (length_head (at + 8) end SQ (number_at 4 s (at + 4))) (omega arith) (λ n g. g)
    (λ k. let r : 8 ≤ end - at = ltb-false _ _ k.0 in length_in (at + 8) (at + 8) end SQ (number_at 4 s (at + 4)) (omega arith) (omega arith))
