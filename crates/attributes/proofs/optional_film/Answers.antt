use mathlib.Core.Path.{sym, ◌∙◌}
use Rattle.rules.specs.Values.{orientations, magnifications}
use Rattle.rules.specs.Attributes.{listing_of, code_allowed, optional_film}
use Rattle.attributes.proofs.Laws.{found_placed, optional_listed, worst_one, worst_next}
use Rattle.attributes.proofs.optional_film.Goals as goal

pub optional_code_severity-orientation-requires : goal.optional_code_severity-orientation-requires
optional_code_severity-orientation-requires c =
    found_placed c.args.d.now c.args.syntax 0x2010_0040 c.requires.orientation

pub optional_code_severity-magnification-requires : goal.optional_code_severity-magnification-requires
optional_code_severity-magnification-requires c =
    found_placed c.args.d.now c.args.syntax 0x2010_0060 c.requires.magnification

pub returns : goal.returns
unfolding optional_film
returns c =
    let a = c.args in
    let l = listing_of a.d.now a.syntax in
    worst_next _ _ (optional_listed (code_allowed orientations) l 0x2010_0040 c.requires.orientation c.optional_code_severity-orientation.ensures)
    (optional_listed (code_allowed magnifications) l 0x2010_0060 c.requires.magnification c.optional_code_severity-magnification.ensures ∙ sym (worst_one _))
    c.worse.ensures
