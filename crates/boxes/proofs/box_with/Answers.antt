use Prim.Native.Nat.{◌<◌}
use mathlib.Core.Path.{ap, ◌∙◌}
use native.Mathlib.Omega.{arith}
use Rattle.rules.specs.Values.{us_in, polarities}
use Rattle.rules.specs.Attributes.{listing_of, box_with, picture_after}
use Rattle.boxes.specs.Founds.{value_in, kept_code}
use Rattle.boxes.proofs.Laws.{look_in, kept_found}
use Rattle.boxes.proofs.box_with.Goals as goal

pub sent_at-position-requires : goal.sent_at-position-requires
sent_at-position-requires c =
    rw c.requires.1.position (look_in c.args.d.now c.args.syntax 0x2020_0010)

pub overflow_cast-position : goal.overflow_cast-position
overflow_cast-position c =
    let h : c.sent_at-position.result.number < 256 = rw (c.sent_at-position.ensures.2, c.requires.1.position) c.requires.0 in
    omega (arith, h)

pub code_or-polarity-requires : goal.code_or-polarity-requires
code_or-polarity-requires c =
    rw c.requires.1.polarity (look_in c.args.d.now c.args.syntax 0x2020_0020)

pub returns : goal.returns
unfolding box_with kept_code
returns c =
    let a = c.args in
    let l = listing_of a.d.now a.syntax in
    let position = c.sent_at-position.ensures.2 ∙ ap (λ f. us_in (value_in a.d.now f)) c.requires.1.position in
    let polarity = c.code_or-polarity.ensures ∙ ap (λ f. kept_code polarities a.d.now f a.b.polarity) c.requires.1.polarity ∙ kept_found polarities l 0x2020_0020 a.b.polarity in
    let picture = c.picture_after.ensures ∙ ap (λ i. picture_after a.next i a.b.picture.0) c.requires.1.image.0 in
    rw (position, polarity, picture)
