use Prim.Native.Nat.{◌-◌}
use native.Mathlib.Omega.{arith}
use Rattle.tags.specs.Table.{SQ}
use Rattle.writing.proofs.Sizes.{header_length}
use Rattle.responses.proofs.Film.{film_laid}
use Rattle.responses.proofs.put_film_boxes.Goals as goal

pub put_header-requires : goal.put_header-requires
put_header-requires c =
    let a = c.args in
    omega (arith, header_length a.syntax 0x2010_0510 SQ (c.put_boxes-stop.result - c.sequence_header-start.result))

pub returns : goal.returns
returns c =
    let a = c.args in
    let header = c.sequence_header-start in
    let boxes = c.put_boxes-stop in
    film_laid a.syntax a.root.now a.out.now _ _ a.first a.count header.result boxes.result (omega arith) header.ensures.0 header.ensures.1 boxes.ensures.0 boxes.ensures.1 c.put_header.ensures.0
