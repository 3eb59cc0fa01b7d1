use Prim.Native.Nat.{ℕ}
use mathlib.Core.Path.{sym, ap, ◌∙◌}
use Rattle.std.specs.Option.{option_and_then}
use Rattle.rules.specs.Layout.{film_format}
use Rattle.rules.specs.Sound.{Serials}
use Rattle.distinct.specs.Apart.{box_serials}
use Rattle.distinct.specs.Ascending.{reach}
use Rattle.distinct.proofs.Told.{film_told, boxes_told}
use Rattle.distinct.proofs.film_reach.Goals as goal

pub returns-in_err-between : goal.returns-in_err-between
returns-in_err-between c =
    let b = c.args.b.now in
    let p = c.args.p in
    let own = film_told b p _ _ c.made_at-own.ensures.0 c.own_count.ensures.0 in
    c.from_residual.ensures
    ∙ sym (ap (option_and_then (λ (n : ℕ). reach n (box_serials (film_format.read b p)))) (sym (ap (λ (s : Serials). reach c.args.stop s) own) ∙ sym c.reach_of.ensures ∙ c.in_err-between.was))

pub returns : goal.returns
returns c =
    let b = c.args.b.now in
    let p = c.args.p in
    let f = film_format.read b p in
    let own = film_told b p _ _ c.made_at-own.ensures.0 c.own_count.ensures.0 in
    let boxes = boxes_told f _ _ c.first_at.ensures.0 c.box_count.ensures.0 in
    c.reach_of-2.ensures ∙ ap (λ (s : Serials). reach c.in_ok-between.between s) boxes
    ∙ sym (ap (option_and_then (λ (n : ℕ). reach n (box_serials f))) (sym (ap (λ (s : Serials). reach c.args.stop s) own) ∙ sym c.reach_of.ensures ∙ c.in_ok-between.was))
