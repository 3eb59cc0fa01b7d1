use Prim.Native.Nat.{ℕ, ◌+◌}
use mathlib.Core.Path.{◌≡◌, sym, ◌∙◌}
use mathlib.Core.Bool.{Bool, true, false}
use mathlib.Core.List.{List, ◌∷◌}
use Rattle.choice.specs.Pick.{both}
use Rattle.rules.specs.Layout.{numbers_size, session_format}
use Rattle.rules.specs.Lists.{apart}
use Rattle.rules.specs.Sound.{Serials, overlap, own_serial, serials_of}
use Rattle.records.specs.Places.{session_in}
use Rattle.distinct.specs.Films.{films_in}
use Rattle.distinct.specs.Apart.{serials_free, serials_apart}
use Rattle.distinct.proofs.Films.{first_serials}
use Rattle.distinct.proofs.Told.{own_told}
use Rattle.distinct.proofs.Ascending.{in_order_apart}
use Rattle.distinct.proofs.serials_apart.Goals as goal

paired : (b : List ℕ) (n : ℕ) (s : Serials) (t : Bool) → s ≡ own_serial (session_in b).name → t ≡ serials_free s (films_in b n)
    → both t (serials_apart (films_in b n)) ≡ apart overlap (own_serial (session_in b).name ∷ serials_of (films_in b n))
paired b n s t e d = sym (first_serials (own_serial (session_in b).name) (films_in b n) ∙ rw (d, e))

pub returns-then-is_some : goal.returns-then-is_some
returns-then-is_some c = sym (in_order_apart _ c.all_reach.result c.all_reach.ensures (sym c.is_some.ensures ∙ c.if-is_some.true))

pub returns-then-serials_free : goal.returns-then-serials_free
unfolding session_format
returns-then-serials_free c =
    let b = c.args.b.now in
    let own = own_told b (numbers_size + 1) _ _ c.made_at-own.ensures.0 c.own_count.ensures.0 in
    c.films_apart.ensures ∙ paired b c.args.n _ true own (sym (c.if-serials_free.true) ∙ c.serials_free.ensures)

pub returns-else-serials_free : goal.returns-else-serials_free
unfolding session_format
returns-else-serials_free c =
    let b = c.args.b.now in
    let own = own_told b (numbers_size + 1) _ _ c.made_at-own.ensures.0 c.own_count.ensures.0 in
    c.if-serials_free.false ∙ paired b c.args.n _ false own (sym (c.if-serials_free.false) ∙ c.serials_free.ensures)
