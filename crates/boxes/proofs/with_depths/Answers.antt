use mathlib.Core.Path.{◌∙◌}
use native.Mathlib.Omega.{arith}
use Rattle.boxes.specs.Founds.{with_depths}
use Rattle.boxes.proofs.with_depths.Goals as goal

pub depth_severity-allocated-requires : goal.depth_severity-allocated-requires
depth_severity-allocated-requires c = c.requires 4 (omega arith)

pub depth_severity-stored-requires : goal.depth_severity-stored-requires
depth_severity-stored-requires c = c.requires 5 (omega arith)

pub depth_severity-high-requires : goal.depth_severity-high-requires
depth_severity-high-requires c = c.requires 6 (omega arith)

pub returns : goal.returns
unfolding with_depths
returns c =
    c.worse-3.ensures ∙ rw (c.worse-2.ensures, c.worse.ensures, c.depth_severity-high.ensures, c.depth_severity-stored.ensures, c.depth_severity-allocated.ensures)
