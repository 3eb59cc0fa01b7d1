-- Serials that stand in ascending order do not overlap.
-- Assumes nothing.
use Prim.Native.Nat.{ℕ, ◌+◌, ◌<◌, ◌≤◌}
use mathlib.Core.Path.{◌≡◌, refl, sym, ap, ◌∙◌}
use mathlib.Core.Bool.{Bool, true, false}
use mathlib.Core.List.{List, [], ◌∷◌}
use native.Mathlib.Omega.{arith}
use Rattle.std.specs.declared.option.Option.{Option}
use Rattle.std.specs.declared.option.Option.TheVariants.{Some, None}
use Rattle.std.specs.Option.{is_some, option_and_then}
use lib.Dec.{eqb, ltb}
use lib.ListN.{drop}
use borrow.Author.Tests.{eqb-true, ltb-false, le-ltb}
use Rattle.choice.specs.Pick.{not}
use Rattle.choice.proofs.Picks.{both_fails, both_holds}
use Rattle.rules.specs.Bounds.{most_films}
use Rattle.rules.specs.Layout.{film_format}
use Rattle.rules.specs.Lists.{every, apart}
use Rattle.rules.specs.Sound.{Serials, overlap, own_serial, serials_of}
use Rattle.distinct.specs.Films.{film_place, films_in}
use Rattle.distinct.specs.Apart.{box_serials}
use Rattle.distinct.specs.Ascending.{reach, film_reach, reaches}
use Rattle.distinct.proofs.Steps.{next_film, no_film_lem}

-- of none, and of those that begin behind the end
clear_of_none : (a s : Serials) → s.from + s.count ≡ 0 → overlap a s ≡ false
clear_of_none a s e = rw (le-ltb a.from (s.from + s.count) (omega arith))

clear_behind : (a s : Serials) → a.from + a.count ≤ s.from → overlap a s ≡ false
clear_behind a s h = rw (le-ltb s.from (a.from + a.count) h) (both_fails (ltb a.from (s.from + s.count)))

record Next (a s : Serials) (r : ℕ) : Type 0 where
  clear : overlap a s ≡ false
  later : a.from + a.count ≤ r

-- one that ended before is clear of the next
next : (a : Serials) (stop : ℕ) (s : Serials) (r : ℕ) (none before : Bool) → eqb (s.from + s.count) 0 ≡ none → ltb s.from stop ≡ before
    → a.from + a.count ≤ stop → reach stop s ≡ Some r → Next a s r
next a stop s r true before e d h l =
    let k : Some stop ≡ Some r = rw e at l in
    let same : stop ≡ r = cc in
    record { clear = clear_of_none a s (eqb-true (s.from + s.count) 0 e); later = omega arith }
next a stop s r false true e d h l =
    let k : None ≡ Some r = rw (e, d) at l in
    absurd cc
next a stop s r false false e d h l =
    let k : Some (s.from + s.count) ≡ Some r = rw (e, d) at l in
    let same : s.from + s.count ≡ r = cc in
    let behind = ltb-false s.from stop d in
    record { clear = clear_behind a s (omega arith); later = omega arith }

-- what is reached is behind the end
past : (stop : ℕ) (s : Serials) (r : ℕ) (none before : Bool) → eqb (s.from + s.count) 0 ≡ none → ltb s.from stop ≡ before → reach stop s ≡ Some r → s.from + s.count ≤ r
past stop s r true before e d l = omega (arith, eqb-true (s.from + s.count) 0 e)
past stop s r false true e d l =
    let k : None ≡ Some r = rw (e, d) at l in
    absurd cc
past stop s r false false e d l =
    let k : Some (s.from + s.count) ≡ Some r = rw (e, d) at l in
    let same : s.from + s.count ≡ r = cc in
    omega arith

record Going (reached : Option ℕ) (others : List Serials) (end : ℕ) : Type 0 where
  stop : ℕ
  so : reached ≡ Some stop
  on : reaches stop others ≡ Some end

going : (reached : Option ℕ) (others : List Serials) (end : ℕ) → option_and_then (λ n. reaches n others) reached ≡ Some end → Going reached others end
going None others end e = absurd cc
going (Some stop) others end e = record { stop = stop; so = refl; on = e }

clear_of_all : (a : Serials) (stop : ℕ) (all : List Serials) (end : ℕ) → a.from + a.count ≤ stop → reaches stop all ≡ Some end → every (λ t. not (overlap a t)) all ≡ true
unfolding reaches every
clear_of_all a stop [] end h l = refl
clear_of_all a stop (s ∷ all) end h l =
    let g = going (reach stop s) all end l in
    let n = next a stop s g.stop _ _ refl refl h g.so in
    rw n.clear (clear_of_all a g.stop all end n.later g.on)

ascending_apart : (stop : ℕ) (all : List Serials) (end : ℕ) → reaches stop all ≡ Some end → apart overlap all ≡ true
unfolding reaches apart
ascending_apart stop [] end l = refl
ascending_apart stop (s ∷ all) end l =
    let g = going (reach stop s) all end l in
    both_holds _ _ (clear_of_all s g.stop all end (past stop s g.stop _ _ refl refl g.so) g.on) (ascending_apart g.stop all end g.on)

pub in_order_apart : (all : List Serials) (reached : Option ℕ) → reached ≡ reaches 0 all → is_some reached ≡ true → apart overlap all ≡ true
in_order_apart all None e h = absurd cc
in_order_apart all (Some end) e h = ascending_apart 0 all end (sym e)

regrouped : (reached : Option ℕ) (f g : ℕ → Option ℕ) → option_and_then (λ n. option_and_then g (f n)) reached ≡ option_and_then g (option_and_then f reached)
regrouped None f g = refl
regrouped (Some n) f g = refl

-- a film's own serial, then its boxes
pub reach_on : (b : List ℕ) (n i p stop : ℕ) → i < n → n ≤ most_films → p ≡ film_place i
    → reaches stop (serials_of (drop i (films_in b n))) ≡ option_and_then (λ m. reaches m (serials_of (drop (i + 1) (films_in b n)))) (film_reach stop (film_format.read b p))
unfolding reaches serials_of
reach_on b n i p stop l h e =
    let f = film_format.read b p in
    ap (λ films. reaches stop (serials_of films)) (next_film b n i p l h e)
    ∙ regrouped (reach stop (own_serial f.name)) (λ m. reach m (box_serials f)) (λ m. reaches m (serials_of (drop (i + 1) (films_in b n))))

pub reach_end : (b : List ℕ) (n i stop : ℕ) → n ≤ i → reaches stop (serials_of (drop i (films_in b n))) ≡ Some stop
unfolding reaches serials_of
reach_end b n i stop h = ap (λ films. reaches stop (serials_of films)) (no_film_lem b n i h)
