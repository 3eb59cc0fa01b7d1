use native.Mathlib.Omega.{arith}
use Rattle.boxes.proofs.depth_in.Goals as goal

pub sent_at-allocated-requires : goal.sent_at-allocated-requires
sent_at-allocated-requires c = c.requires 4 (omega arith)

pub sent_at-stored-requires : goal.sent_at-stored-requires
sent_at-stored-requires c = c.requires 5 (omega arith)

pub sent_at-high-requires : goal.sent_at-high-requires
sent_at-high-requires c = c.requires 6 (omega arith)
