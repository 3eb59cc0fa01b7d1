use mathlib.Core.Path.{ap, ◌∙◌}
use lib.ListN.{take}
use Rattle.uids.proofs.Padding.{unpadded_front}
use Rattle.uids.proofs.unpadded.Goals as goal

pub returns : goal.returns
returns c = ap (λ n. take n c.args.v.now) c.unpadded_length.ensures.0 ∙ unpadded_front c.args.v.now
