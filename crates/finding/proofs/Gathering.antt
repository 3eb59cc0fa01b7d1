-- The walk that gathers what a list holds under several tags: one law for each way through it.
-- Assumes nothing.
use Prim.Native.Nat.{ℕ, zero, suc, ◌+◌, ◌-◌, ◌≤◌, ◌<◌}
use mathlib.Core.Path.{◌≡◌, refl, sym, ap, ◌∙◌}
use mathlib.Core.Bool.{Bool, true, false}
use mathlib.Core.List.{List}
use native.Mathlib.Omega.{arith}
use lib.Dec.{ltb}
use lib.ListN.{length, get_or, set, replicate, length-set, length-replicate, get_or-replicate}
use lib.Seq.{get_or-set_same, get_or-set_other}
use borrow.Author.Tests.{ltb-true, ltb-false}
use Rattle.std.specs.Prelude.{Some, None, Ok, Err}
use Rattle.choice.proofs.Picks.{both_true}
use Rattle.headers.specs.declared.Scope.{Scope}
use Rattle.headers.specs.Header.{tag_at, head_at, close_at}
use Rattle.elements.specs.declared.Stop.{Stop}
use Rattle.elements.specs.declared.Found.{Found}
use Rattle.elements.specs.declared.Found.TheVariants.{Missing}
use Rattle.elements.specs.Reader.{item_end, element_in}
use Rattle.elements.specs.Find.{found, among, elements_from, find_at}
use Rattle.elements.proofs.Laws.{element_past, find_done, find_short, find_above, find_refused, find_here, find_more}
use Rattle.finding.specs.Gives.{gives}
use Rattle.finding.specs.Gathered.{ascending, Gathered}

by_order : {P : Type 0} (a b : ℕ) → (a < b → P) → (b ≤ a → P) → P
by_order {P} a b f g = decide (ltb a b) refl
  where
    decide : (t : Bool) → ltb a b ≡ t → P
    decide true e = f (ltb-true a b e)
    decide false e = g (ltb-false a b e)

-- of tags that ascend, a later one is above
pub rises : (tags : List ℕ) (n : ℕ) → ascending tags n ≡ true → (i j : ℕ) → i < j → j < n → get_or tags i 0 < get_or tags j 0
unfolding ascending
rises tags zero h i j l m = absurd (omega arith)
rises tags (suc zero) h i j l m = absurd (omega arith)
rises tags (suc (suc n)) h i j l m =
    let b = both_true (ascending tags (suc n)) (ltb (get_or tags n 0) (get_or tags (suc n) 0)) h in
    let front = rises tags (suc n) b.0 in
    let last = ltb-true (get_or tags n 0) (get_or tags (suc n) 0) b.1 in
    by_order j (suc n) (front i j l)
    (λ r. let e : j ≡ suc n = omega arith in
    rw e (by_order i n (λ f. let u = front i n f (omega arith) in omega arith) (λ f. let d : i ≡ n = omega arith in rw d last)))

-- what a list holds under a tag from a place on
abbrev find_from : List ℕ → Scope → ℕ → ℕ → ℕ → Found
find_from s scope at floor tag = among s scope.syntax scope.inside.stop tag (elements_from s scope (record { at = at; floor = floor }))

-- before a place the first k tags are told, and the others stand behind it, where they stand
pub record Gathering (s : List ℕ) (scope : Scope) (tags : List ℕ) (n : ℕ) (founds : List Found) (at floor k : ℕ) : Type 0 where
  pub within : at ≤ scope.inside.stop
  pub all : length founds ≡ n
  pub told : Gathered s scope tags k founds
  pub ahead : (i : ℕ) → k ≤ i → i < n → (get_or founds i Missing ≡ Missing) × (find_at s scope (get_or tags i 0) ≡ find_from s scope at floor (get_or tags i 0))

pub gathering_start : (s : List ℕ) (scope : Scope) (tags : List ℕ) (n : ℕ) → scope.inside.from ≤ scope.inside.stop → Gathering s scope tags n (replicate n Missing) scope.inside.from 0 0
unfolding find_at
gathering_start s scope tags n h =
    record {
      within = h;
      all = length-replicate n Missing;
      told = λ i f. absurd (omega arith);
      ahead = λ i f g. (get_or-replicate n i Missing Missing (omega arith), refl);
    }

module _ (s : List ℕ) (scope : Scope) (tags : List ℕ) (n : ℕ) (founds : List Found) (at floor k : ℕ) (g : Gathering s scope tags n founds at floor k) where
  -- none of the others stands there
  none : ((tag : ℕ) → find_from s scope at floor tag ≡ Missing) → Gathered s scope tags n founds
  none f i l = by_order i k (g.told i) (λ h. (g.ahead i h l).0 ∙ sym ((g.ahead i h l).1 ∙ f (get_or tags i 0)))

  pub all_told : n ≤ k → Gathered s scope tags n founds
  all_told h i l = g.told i (omega arith)

  pub at_the_end : {q : ℕ} → close_at s item_end scope.inside at ≡ Some q → Gathered s scope tags n founds
  at_the_end e = none (λ tag. find_done s scope at g.within floor tag e)

  module _ (c : close_at s item_end scope.inside at ≡ None) where
    pub too_short : scope.inside.stop - at < 8 → Gathered s scope tags n founds
    too_short h = none (λ tag. find_short s scope at g.within floor tag c h)

    pub refused_here : {stop : Stop} → element_in s scope scope.inside.stop at floor ≡ Err stop → Gathered s scope tags n founds
    refused_here e = none (λ tag. find_refused s scope at g.within floor tag c e)

    module _ (before : k < n) (t : ℕ) (tag : t ≡ tag_at s at) where
      -- the next tag is passed by
      pub skips : get_or tags k 0 < t → Gathering s scope tags n founds at floor (k + 1)
      skips h =
          record {
            within = g.within;
            all = g.all;
            told = λ i l. by_order i k (g.told i)
                (λ f. let e : i ≡ k = omega arith in (g.ahead i f (omega arith)).0 ∙ sym ((g.ahead i f (omega arith)).1 ∙ find_above s scope at g.within floor (get_or tags i 0) c (rw (e, ← tag) h)));
            ahead = λ i f l. g.ahead i (omega arith) l;
          }

      module _ (rising : ascending tags n ≡ true) {q : ℕ} (e : element_in s scope scope.inside.stop at floor ≡ Ok q) where
        pub past : (at + 8 ≤ q) × (q ≤ scope.inside.stop)
        past = element_past s scope.syntax scope.inside.stop at floor g.within scope.room e

        behind : (i : ℕ) → k ≤ i → i < n → (t ≡ get_or tags i 0 → ⊥) → (get_or founds i Missing ≡ Missing) × (find_at s scope (get_or tags i 0) ≡ find_from s scope q (t + 1) (get_or tags i 0))
        behind i f l d = ((g.ahead i f l).0, rw tag ((g.ahead i f l).1 ∙ find_more s scope at g.within floor (get_or tags i 0) c e (λ x. d (tag ∙ x))))

        -- another element
        pub passes : t < get_or tags k 0 → Gathering s scope tags n founds q (t + 1) k
        passes h =
            record {
              within = past.1;
              all = g.all;
              told = g.told;
              ahead = λ i f l. behind i f l
                  (λ d. by_order k i (λ r. let u = rises tags n rising k i r l in omega arith) (λ r. let e : i ≡ k = omega arith in let u = ap (λ j. get_or tags j 0) e in omega arith));
            }

        -- the element that is looked for
        is_found : {f : Found} → f ≡ gives (element_in s scope scope.inside.stop at floor) (head_at s scope.syntax scope.inside.stop at floor) → f ≡ found (head_at s scope.syntax scope.inside.stop at floor)
        is_found h = rw e at h

        pub takes : t ≡ get_or tags k 0 → (f : Found) → f ≡ gives (element_in s scope scope.inside.stop at floor) (head_at s scope.syntax scope.inside.stop at floor)
            → Gathering s scope tags n (set founds k f) q (t + 1) (k + 1)
        takes h f ef =
            record {
              within = past.1;
              all = length-set founds k f ∙ g.all;
              told = λ i l. by_order i k
                  (λ r. get_or-set_other founds k i f Missing (λ d. omega arith) ∙ g.told i r)
                  (λ r. let d : i ≡ k = omega arith in
                  rw d (get_or-set_same founds k f Missing (omega (arith, g.all)) ∙ is_found ef
                  ∙ sym ((g.ahead k (omega arith) before).1 ∙ find_here s scope at g.within floor (get_or tags k 0) c e (sym tag ∙ h))));
              ahead = λ i r l. let b = behind i (omega arith) l (λ d. let u = rises tags n rising k i (omega arith) l in omega arith) in
                  (get_or-set_other founds k i f Missing (λ d. omega arith) ∙ b.0, b.1);
            }
