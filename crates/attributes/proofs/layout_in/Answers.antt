use mathlib.Core.Path.{ap, ◌∙◌}
use Rattle.rules.specs.Values.{kind_in, counts_in}
use Rattle.rules.specs.Attributes.{layout_from, layout_in}
use Rattle.standings.specs.Founds.{bytes_found}
use Rattle.attributes.proofs.Laws.{found_placed}
use Rattle.attributes.proofs.layout_in.Goals as goal

pub value-requires : goal.value-requires
value-requires c =
    found_placed c.args.d.now c.args.syntax 0x2010_0010 c.requires.format

pub returns : goal.returns
unfolding layout_in
returns c =
    c.layout_in.ensures ∙ ap (λ v. layout_from (kind_in v) (counts_in v)) (c.value.ensures ∙ ap (bytes_found c.args.d.now) c.requires.format)
