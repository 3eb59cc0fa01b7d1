use Prim.Native.Nat.{ℕ, ◌+◌}
use mathlib.Core.Path.{sym, ap, ◌∙◌}
use lib.ListN.{drop}
use Rattle.std.specs.Option.{option_and_then}
use Rattle.rules.specs.Layout.{numbers_size, session_format}
use Rattle.rules.specs.Sound.{Serials, serials_of}
use Rattle.distinct.specs.Films.{films_in}
use Rattle.distinct.specs.Ascending.{reach, reaches}
use Rattle.distinct.proofs.Told.{own_told}
use Rattle.distinct.proofs.Ascending.{reach_on, reach_end}
use Rattle.distinct.proofs.all_reach.Goals as goal

pub returns-in_err-stop : goal.returns-in_err-stop
unfolding reaches session_format
returns-in_err-stop c =
    let b = c.args.b.now in
    let own = own_told b (numbers_size + 1) _ _ c.made_at-own.ensures.0 c.own_count.ensures.0 in
    c.from_residual.ensures
    ∙ sym (ap (option_and_then (λ (n : ℕ). reaches n (serials_of (films_in b c.args.n)))) (sym (ap (λ (s : Serials). reach 0 s) own) ∙ sym c.reach_of.ensures ∙ c.in_err-stop.was))

pub loop-i-init : goal.loop-i-init
unfolding reaches session_format
loop-i-init c =
    let b = c.args.b.now in
    let own = own_told b (numbers_size + 1) _ _ c.made_at-own.ensures.0 c.own_count.ensures.0 in
    ap (option_and_then (λ (n : ℕ). reaches n (serials_of (films_in b c.args.n)))) (sym (ap (λ (s : Serials). reach 0 s) own) ∙ sym c.reach_of.ensures ∙ c.in_ok-stop.was)

pub loop-i-preserved : goal.loop-i-preserved
loop-i-preserved c =
    let b = c.args.b.now in
    let n = c.args.n in
    let o = c.loop-i in
    o.invariant ∙ reach_on b n o.i _ o.stop c.loop-i-test.true c.requires c.film_place.ensures.0
    ∙ ap (option_and_then (λ (stop : ℕ). reaches stop (serials_of (drop (o.i + 1) (films_in b n))))) (sym c.film_reach.ensures ∙ c.in_ok-stop-2.was)

pub returns-in_err-stop-2 : goal.returns-in_err-stop-2
returns-in_err-stop-2 c =
    let b = c.args.b.now in
    let n = c.args.n in
    let o = c.loop-i in
    c.from_residual-in_err-stop-2.ensures
    ∙ sym (o.invariant ∙ reach_on b n o.i _ o.stop c.loop-i-test.true c.requires c.film_place.ensures.0
    ∙ ap (option_and_then (λ (stop : ℕ). reaches stop (serials_of (drop (o.i + 1) (films_in b n))))) (sym c.film_reach.ensures ∙ c.in_err-stop-2.was))

pub returns : goal.returns
returns c =
    let o = c.loop-i in
    sym (o.invariant ∙ reach_end c.args.b.now c.args.n o.i o.stop c.loop-i-test.false)
