use mathlib.Core.Path.{◌∙◌}
use native.Mathlib.Omega.{arith}
use Rattle.boxes.specs.Founds.{image_worst}
use Rattle.boxes.proofs.Laws.{eight_told}
use Rattle.boxes.proofs.image_worst.Goals as goal

pub pixel_bytes-bytes-requires : goal.pixel_bytes-bytes-requires
pixel_bytes-bytes-requires c =
    (c.requires, eight_told c.args.d.now c.args.item c.depth_in-depth.result.allocated c.depth_in-depth.result.stored c.depth_in-depth.result.high c.eq-eight.ensures c.depth_in-depth.ensures.0 c.depth_in-depth.ensures.1 c.depth_in-depth.ensures.2)

pub pixels_severity-data-requires : goal.pixels_severity-data-requires
pixels_severity-data-requires c =
    (c.requires 8 (omega arith), c.pixel_bytes-bytes.ensures.1)

pub exactly_severity-sign-requires : goal.exactly_severity-sign-requires
exactly_severity-sign-requires c = c.requires 7 (omega arith)

pub returns : goal.returns
unfolding image_worst
returns c =
    c.with_extents.ensures
    ∙ rw (c.with_depths-depths.ensures, c.worse.ensures, c.depth_allowed-allowed.ensures, c.exactly_severity-sign.ensures, c.pixels_severity-data.ensures, c.pixel_bytes-bytes.ensures.0, eight_told c.args.d.now c.args.item c.depth_in-depth.result.allocated c.depth_in-depth.result.stored c.depth_in-depth.result.high c.eq-eight.ensures c.depth_in-depth.ensures.0 c.depth_in-depth.ensures.1 c.depth_in-depth.ensures.2, c.depth_in-depth.ensures.0, c.depth_in-depth.ensures.1, c.depth_in-depth.ensures.2)
