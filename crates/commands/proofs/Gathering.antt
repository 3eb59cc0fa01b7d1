-- The walk that gathers the places of a command: one law for each way through it.
-- Assumes nothing.
use Prim.Native.Nat.{ℕ, ◌+◌, ◌≤◌, ◌<◌}
use mathlib.Core.Path.{◌≡◌, refl, sym, ap, ◌∙◌}
use mathlib.Core.Bool.{Bool, true, false}
use mathlib.Core.List.{List, [], ◌∷◌}
use native.Mathlib.Omega.{arith}
use lib.Dec.{ltb, eqb}
use lib.ListN.{length, get_or, set, replicate, length-set, get_or-replicate}
use lib.Seq.{get_or-set_same, get_or-set_other}
use borrow.Author.Tests.{ltb-true, ltb-false, eqb-true, eqb-false, lt-ltb, le-ltb}
use Rattle.std.specs.Prelude.{Option, Some, None, Result, Ok, Err}
use Rattle.choice.specs.Pick.{both}
use Rattle.choice.proofs.Picks.{pick_cases, both_fails}
use Rattle.headers.specs.declared.Syntax.TheVariants.{Implicit}
use Rattle.headers.specs.declared.Part.{Part}
use Rattle.headers.specs.declared.Head.{Head}
use Rattle.headers.specs.Header.{tag_at, head_at, close_at}
use Rattle.elements.specs.declared.Stop.{Stop}
use Rattle.elements.specs.declared.Found.{Found}
use Rattle.elements.specs.Reader.{Mark, whole, item_end, element_at, list_from, list_at, data_set, data_scope}
use Rattle.elements.specs.Find.{elements_from, among, found, find_at}
use Rattle.elements.proofs.Laws.{element_past, element_above, list_done, list_refused, list_more, elements_done, elements_more, find_done, find_here, find_more, find_below}
use Rattle.rules.specs.Lists.{every}
use Rattle.rules.specs.Commands.{in_command, no_part, placed, is_read, group_zero}
use Rattle.commands.specs.Places.{slot_of, Holds, whole_command, Gathers}

abbrev mark : ℕ → ℕ → Mark
mark at floor = record { at = at; floor = floor }

-- Whether a command is whole.

-- from a mark on it is read to its end, with all elements in group 0000
unfoldable pub whole_from : List ℕ → ℕ → ℕ → Bool
whole_from c at floor =
    both (is_read (list_from (element_at c Implicit 4) c (whole c) (mark at floor)))
    (every (λ m. ltb (tag_at c m.at) 65536) (elements_from c (data_scope c Implicit) (mark at floor)))

pub whole_start : (c : List ℕ) → whole_command c ≡ whole_from c 0 0
unfolding whole_command whole_from group_zero data_set list_at
whole_start c = refl

module _ (c : List ℕ) (at floor : ℕ) (h : at ≤ length c) where
  whole_done : {q : ℕ} → close_at c item_end (whole c) at ≡ Some q → whole_from c at floor ≡ true
  unfolding whole_from every
  whole_done k = rw (list_done c Implicit 4 (whole c) at h floor k, elements_done c (data_scope c Implicit) at h floor k)

  whole_refused : {stop : Stop} → close_at c item_end (whole c) at ≡ None → element_at c Implicit 4 (length c) at floor ≡ Err stop → whole_from c at floor ≡ false
  unfolding whole_from
  whole_refused k e = rw (list_refused c Implicit 4 (whole c) at h floor k e)

  whole_other : {q : ℕ} → close_at c item_end (whole c) at ≡ None → element_at c Implicit 4 (length c) at floor ≡ Ok q → 65536 ≤ tag_at c at → whole_from c at floor ≡ false
  unfolding whole_from every
  whole_other k e t = rw (elements_more c (data_scope c Implicit) at h floor k e, le-ltb (tag_at c at) 65536 t) (both_fails (is_read (list_from (element_at c Implicit 4) c (whole c) (mark at floor))))

  whole_more : {q : ℕ} → close_at c item_end (whole c) at ≡ None → element_at c Implicit 4 (length c) at floor ≡ Ok q → tag_at c at < 65536 → whole_from c at floor ≡ whole_from c q (tag_at c at + 1)
  unfolding whole_from every
  whole_more k e t = rw (list_more c Implicit 4 (whole c) at h floor k e, elements_more c (data_scope c Implicit) at h floor k e, lt-ltb (tag_at c at) 65536 t)

-- The place of one tag.

-- what a command holds under a tag from a mark on
abbrev find_from : List ℕ → ℕ → ℕ → ℕ → Found
find_from c tag at floor = among c Implicit (length c) tag (elements_from c (data_scope c Implicit) (mark at floor))

-- what is known of it at a mark: below the floor it is told, and above it is empty as yet
pub record Known (c : List ℕ) (at floor tag : ℕ) (p : Part) : Type 0 where
  pub below : tag < floor → p ≡ placed (in_command c tag)
  pub above : floor ≤ tag → (p ≡ no_part) × (placed (in_command c tag) ≡ placed (find_from c tag at floor))

by_order : {P : Type 0} (a b : ℕ) → (a < b → P) → (b ≤ a → P) → P
by_order {P} a b f g = decide (ltb a b) refl
  where
    decide : (t : Bool) → ltb a b ≡ t → P
    decide true e = f (ltb-true a b e)
    decide false e = g (ltb-false a b e)

known_start : (c : List ℕ) (tag : ℕ) → Known c 0 0 tag no_part
unfolding find_at
known_start c tag = record { below = λ l. absurd (omega arith); above = λ l. (refl, refl) }

module _ (c : List ℕ) (at floor : ℕ) (h : at ≤ length c) (tag : ℕ) (p : Part) (known : Known c at floor tag p) where
  known_done : {q : ℕ} → close_at c item_end (whole c) at ≡ Some q → p ≡ placed (in_command c tag)
  known_done k =
      by_order tag floor known.below
      (λ l. (known.above l).0 ∙ sym ((known.above l).1 ∙ ap placed (find_done c (data_scope c Implicit) at h floor tag k)))

  module _ {q : ℕ} (k : close_at c item_end (whole c) at ≡ None) (e : element_at c Implicit 4 (length c) at floor ≡ Ok q) where
    known_here : tag_at c at ≡ tag → Known c q (tag_at c at + 1) tag (placed (found (head_at c Implicit (length c) at floor)))
    known_here t =
        let l = element_above c Implicit 4 (length c) at floor q e in
        record {
          below = λ _. sym ((known.above (omega arith)).1 ∙ ap placed (find_here c (data_scope c Implicit) at h floor tag k e t));
          above = λ g. absurd (omega arith);
        }

    known_more : (tag_at c at ≡ tag → ⊥) → Known c q (tag_at c at + 1) tag p
    known_more t =
        let l = element_above c Implicit 4 (length c) at floor q e in
        let on = find_more c (data_scope c Implicit) at h floor tag k e t in
        record {
          below = λ g. by_order tag floor known.below
              (λ f. (known.above f).0 ∙ sym ((known.above f).1 ∙ ap placed (on ∙ find_below c (data_scope c Implicit) tag (mark q (tag_at c at + 1)) g)));
          above = λ g. ((known.above (omega arith)).0, (known.above (omega arith)).1 ∙ ap placed on);
        }

-- All places.

abbrev tag_of : ℕ → ℕ
tag_of i = get_or (0x0000_0000 ∷ 0x0000_0002 ∷ 0x0000_0003 ∷ 0x0000_0100 ∷ 0x0000_0110 ∷ 0x0000_0800 ∷ 0x0000_1000 ∷ 0x0000_1001 ∷ 0x0000_1008 ∷ []) i 0

tag_of_slot : (tag : ℕ) → slot_of tag < 9 → tag_of (slot_of tag) ≡ tag
unfolding slot_of
tag_of_slot tag =
    let P : ℕ → Type 0 = λ i. i < 9 → tag_of i ≡ tag in
    pick_cases P (eqb tag 0x0000_0000) _ _ (λ e _. sym (eqb-true _ _ e))
    (λ _. pick_cases P (eqb tag 0x0000_0002) _ _ (λ e _. sym (eqb-true _ _ e))
    (λ _. pick_cases P (eqb tag 0x0000_0003) _ _ (λ e _. sym (eqb-true _ _ e))
    (λ _. pick_cases P (eqb tag 0x0000_0100) _ _ (λ e _. sym (eqb-true _ _ e))
    (λ _. pick_cases P (eqb tag 0x0000_0110) _ _ (λ e _. sym (eqb-true _ _ e))
    (λ _. pick_cases P (eqb tag 0x0000_0800) _ _ (λ e _. sym (eqb-true _ _ e))
    (λ _. pick_cases P (eqb tag 0x0000_1000) _ _ (λ e _. sym (eqb-true _ _ e))
    (λ _. pick_cases P (eqb tag 0x0000_1001) _ _ (λ e _. sym (eqb-true _ _ e))
    (λ _. pick_cases P (eqb tag 0x0000_1008) _ _ (λ e _. sym (eqb-true _ _ e)) (λ _ h. absurd (omega arith))))))))))

slot_same : (a b : ℕ) → slot_of b < 9 → slot_of a ≡ slot_of b → a ≡ b
slot_same a b h e = sym (tag_of_slot a (omega arith)) ∙ ap tag_of e ∙ tag_of_slot b h

-- what is known of them at a mark
pub record Gathering (c : List ℕ) (at floor : ℕ) (parts : List Part) : Type 0 where
  pub all : length parts ≡ 10
  pub each : (tag : ℕ) → slot_of tag < 9 → Known c at floor tag (get_or parts (slot_of tag) no_part)

pub gathering_start : (c : List ℕ) → Gathering c 0 0 (replicate 10 no_part)
gathering_start c =
    record {
      all = refl;
      each = λ tag h. rw (get_or-replicate 10 (slot_of tag) no_part no_part (omega arith)) (known_start c tag);
    }

module _ (c : List ℕ) (at floor : ℕ) (h : at ≤ length c) (parts : List Part) (g : Gathering c at floor parts) where
  gathering_done : {q : ℕ} → close_at c item_end (whole c) at ≡ Some q → Holds c parts
  gathering_done k = record { all = g.all; each = λ tag l. known_done c at floor h tag _ (g.each tag l) k }

  module _ {q : ℕ} (k : close_at c item_end (whole c) at ≡ None) (e : element_at c Implicit 4 (length c) at floor ≡ Ok q) where
    told_each : (tag : ℕ) → slot_of tag < 9 → (t : Bool) → eqb (slot_of (tag_at c at)) (slot_of tag) ≡ t → Known c q (tag_at c at + 1) tag (get_or (set parts (slot_of (tag_at c at)) (placed (found (head_at c Implicit (length c) at floor)))) (slot_of tag) no_part)
    told_each tag l true t =
        let same = eqb-true (slot_of (tag_at c at)) (slot_of tag) t in
        rw (same, get_or-set_same parts (slot_of tag) (placed (found (head_at c Implicit (length c) at floor))) no_part (omega (arith, g.all)))
        (known_here c at floor h tag _ (g.each tag l) k e (slot_same (tag_at c at) tag l same))
    told_each tag l false t =
        let other = eqb-false (slot_of (tag_at c at)) (slot_of tag) t in
        rw (get_or-set_other parts (slot_of (tag_at c at)) (slot_of tag) (placed (found (head_at c Implicit (length c) at floor))) no_part (λ d. other (sym d)))
        (known_more c at floor h tag _ (g.each tag l) k e (λ d. other (ap slot_of d)))

    gathering_more : Gathering c q (tag_at c at + 1) (set parts (slot_of (tag_at c at)) (placed (found (head_at c Implicit (length c) at floor))))
    gathering_more = record { all = length-set parts _ _ ∙ g.all; each = λ tag l. told_each tag l (eqb (slot_of (tag_at c at)) (slot_of tag)) refl }

-- One turn of the walk, by what the code tells on its way.

module _ (c : List ℕ) (at floor : ℕ) (parts : List Part) (inv : (at ≤ length c) × (whole_command c ≡ whole_from c at floor) × Gathering c at floor parts)
    (x : Option ℕ) (closes : x ≡ close_at c item_end (whole c) at) where
  pub walk_done : {q : ℕ} → x ≡ Some q → Gathers c (Some parts)
  walk_done e =
      let k = sym closes ∙ e in
      (inv.1 ∙ whole_done c at floor inv.0 k, gathering_done c at floor inv.0 parts inv.2 k)

  module _ (on : x ≡ None) (y : Result ℕ Stop) (reads : y ≡ element_at c Implicit 4 (length c) at floor) where
    stops : whole_from c at floor ≡ false → Gathers c None
    stops e = inv.1 ∙ e

    pub walk_refused : {stop : Stop} → y ≡ Err stop → Gathers c None
    walk_refused e = stops (whole_refused c at floor inv.0 (sym closes ∙ on) (sym reads ∙ e))

    module _ {q : ℕ} (past : y ≡ Ok q) where
      pub walk_past : (at + 8 ≤ q) × (q ≤ length c)
      walk_past = element_past c Implicit (length c) at floor inv.0 4 (sym reads ∙ past)

      module _ (t : ℕ) (tag : t ≡ tag_at c at) where
        pub walk_other : 65536 ≤ t → Gathers c None
        walk_other h = stops (whole_other c at floor inv.0 (sym closes ∙ on) (sym reads ∙ past) (rw tag at h))

        pub walk_on : t < 65536 → (head : Head) → head ≡ head_at c Implicit (length c) at floor → (i : ℕ) → i ≡ slot_of t → (p : Part) → p ≡ placed (found head)
            → (q ≤ length c) × (whole_command c ≡ whole_from c q (t + 1)) × Gathering c q (t + 1) (set parts i p)
        walk_on h head eh i ei p ep = (
          walk_past.1,
          rw tag (inv.1 ∙ whole_more c at floor inv.0 (sym closes ∙ on) (sym reads ∙ past) (rw tag at h)),
          rw (ei, ep, eh, tag) (gathering_more c at floor inv.0 parts inv.2 (sym closes ∙ on) (sym reads ∙ past)),
        )
