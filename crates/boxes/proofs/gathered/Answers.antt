use Prim.Native.Nat.{ℕ, ◌<◌}
use mathlib.Core.Path.{refl, ap, ◌∙◌}
use mathlib.Core.List.{List, [], ◌∷◌}
use native.Mathlib.Omega.{arith}
use lib.ListN.{get_or}
use Rattle.headers.specs.declared.Scope.{Scope}
use Rattle.elements.specs.Find.{find_at}
use Rattle.finding.specs.Gathered.{ascending}
use Rattle.boxes.proofs.gathered.Goals as goal

abbrev own : List ℕ
own = 0x2020_0010 ∷ 0x2020_0020 ∷ 0x2020_0110 ∷ []

pub gathered-own-requires : goal.gathered-own-requires
unfolding ascending
gathered-own-requires c = (omega arith, (omega arith, (c.data_scope.ensures.1, c.data_scope.ensures.2, refl)))

pub image_in-image-requires : goal.image_in-image-requires
image_in-image-requires c =
    let a = c.args in
    c.gathered-own.ensures 2 (omega arith) ∙ ap (λ (x : Scope). find_at a.d.now x (get_or own 2 0)) c.data_scope.ensures.0

pub returns : goal.returns
returns c =
    let a = c.args in
    let found = λ (i : ℕ) (h : i < 3). c.gathered-own.ensures i h ∙ ap (λ (x : Scope). find_at a.d.now x (get_or own i 0)) c.data_scope.ensures.0 in
    record { position = found 0 (omega arith); polarity = found 1 (omega arith); image = c.image_in-image.ensures }
