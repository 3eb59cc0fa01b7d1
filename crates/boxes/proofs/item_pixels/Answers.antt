use native.Mathlib.Omega.{arith}
use Rattle.boxes.proofs.Laws.{eight_told, pixels_in_lem}
use borrow.Author.Rules.{rules}
use Rattle.boxes.proofs.item_pixels.Goals as goal

pub pixel_bytes-bytes-requires : goal.pixel_bytes-bytes-requires
pixel_bytes-bytes-requires c =
    (c.requires.0, eight_told c.args.d.now c.args.item c.depth_in-depth.result.allocated c.depth_in-depth.result.stored c.depth_in-depth.result.high c.eq-eight.ensures c.depth_in-depth.ensures.0 c.depth_in-depth.ensures.1 c.depth_in-depth.ensures.2)

pub overflow_add-result : goal.overflow_add-result
overflow_add-result c =
    let w = pixels_in_lem c.args.d.now c.args.item c.place-place.result c.pixel_bytes-bytes.result c.place-place.ensures c.pixel_bytes-bytes.ensures.0 c.requires.1 (c.requires.0 8 (omega arith)) in
    search rules

pub returns : goal.returns
returns c =
    pixels_in_lem c.args.d.now c.args.item c.place-place.result c.pixel_bytes-bytes.result c.place-place.ensures c.pixel_bytes-bytes.ensures.0 c.requires.1 (c.requires.0 8 (omega arith))
