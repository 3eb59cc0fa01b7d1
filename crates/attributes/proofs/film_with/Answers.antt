use Rattle.rules.specs.Values.{code_in, orientations, magnifications}
use Rattle.rules.specs.Attributes.{listing_of, film_with}
use Rattle.attributes.proofs.Laws.{found_placed, kept_listed}
use Rattle.attributes.proofs.film_with.Goals as goal

pub code_or-orientation-requires : goal.code_or-orientation-requires
code_or-orientation-requires c =
    found_placed c.args.d.now c.args.syntax 0x2010_0040 c.requires.orientation

pub code_or-magnification-requires : goal.code_or-magnification-requires
code_or-magnification-requires c =
    found_placed c.args.d.now c.args.syntax 0x2010_0060 c.requires.magnification

pub returns : goal.returns
unfolding film_with
returns c =
    let a = c.args in
    let l = listing_of a.d.now a.syntax in
    rw (
      kept_listed (code_in magnifications) l 0x2010_0060 a.f.magnification c.requires.magnification c.code_or-magnification.ensures,
      kept_listed (code_in orientations) l 0x2010_0040 a.f.orientation c.requires.orientation c.code_or-orientation.ensures,
    )
