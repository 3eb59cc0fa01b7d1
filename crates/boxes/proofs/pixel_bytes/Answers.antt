use native.Mathlib.Omega.{arith}
use Rattle.boxes.proofs.pixel_bytes.Goals as goal

pub sent_at-rows-requires : goal.sent_at-rows-requires
sent_at-rows-requires c = c.requires.0 2 (omega arith)

pub sent_at-columns-requires : goal.sent_at-columns-requires
sent_at-columns-requires c = c.requires.0 3 (omega arith)
