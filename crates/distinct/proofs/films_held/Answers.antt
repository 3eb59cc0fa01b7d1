use Prim.Native.Nat.{ℕ, ◌<◌, min}
use mathlib.Core.Path.{◌≡◌, refl, sym, ap, ◌∙◌}
use mathlib.Core.Bool.{Bool, true, false}
use mathlib.Core.List.{List}
use native.Mathlib.Omega.{arith}
use lib.Dec.{leb}
use lib.ListN.{get_or}
use lib.Seq.{take_all}
use borrow.Author.Tests.{leb-true, leb-false}
use Rattle.rules.specs.Records.{films_of}
use Rattle.records.specs.Places.{shelf_place, shelf_in}
use Rattle.distinct.specs.Films.{films_in}
use Rattle.distinct.proofs.InPlace.{shelf_count, film_places}
use Rattle.distinct.proofs.films_held.Goals as goal

held : (b : List ℕ) → films_in b (get_or b shelf_place 0) ≡ films_of (shelf_in b)
unfolding films_of
held b = ap (films_in b) (sym (shelf_count b))

all_held : (b : List ℕ) → 8 < get_or b shelf_place 0 → films_in b 8 ≡ films_of (shelf_in b)
all_held b l =
    let films = (shelf_in b).films in
    take_all 8 films (omega (arith, film_places b)) ∙ sym (take_all (get_or b shelf_place 0) films (omega (arith, film_places b))) ∙ held b

few_held : (b : List ℕ) (n : ℕ) (few : Bool) → leb n 8 ≡ few → n ≡ get_or b shelf_place 0 → films_in b (min n 8) ≡ films_of (shelf_in b)
few_held b n true t e =
    let l = leb-true n 8 t in
    let k : min n 8 ≡ get_or b shelf_place 0 = omega arith in
    ap (films_in b) k ∙ held b
few_held b n false t e =
    let l = leb-false n 8 t in
    let k : min n 8 ≡ 8 = omega arith in
    ap (films_in b) k ∙ all_held b (omega arith)

pub returns : goal.returns
returns c =
    let b = c.args.b.now in
    (omega (arith, c.min.ensures), ap (films_in b) c.min.ensures ∙ few_held b c.from.result _ refl c.from.ensures)
