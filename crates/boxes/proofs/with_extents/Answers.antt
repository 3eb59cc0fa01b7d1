use mathlib.Core.Path.{◌∙◌}
use native.Mathlib.Omega.{arith}
use Rattle.boxes.specs.Founds.{with_extents, code_by}
use Rattle.boxes.proofs.with_extents.Goals as goal

pub exactly_severity-samples-requires : goal.exactly_severity-samples-requires
exactly_severity-samples-requires c = c.requires 0 (omega arith)

pub code_severity-photometric-requires : goal.code_severity-photometric-requires
code_severity-photometric-requires c = c.requires 1 (omega arith)

pub extent_severity-rows-requires : goal.extent_severity-rows-requires
extent_severity-rows-requires c = c.requires 2 (omega arith)

pub extent_severity-columns-requires : goal.extent_severity-columns-requires
extent_severity-columns-requires c = c.requires 3 (omega arith)

pub returns : goal.returns
unfolding with_extents code_by
returns c =
    c.worse-3.ensures
    ∙ rw (c.worse-2.ensures, c.worse-extent.ensures, c.worse.ensures, c.extent_severity-columns.ensures, c.extent_severity-rows.ensures, c.code_severity-photometric.ensures, c.exactly_severity-samples.ensures)
