use mathlib.Core.Path.{◌∙◌}
use Rattle.tags.proofs.Entries.{vr_given}
use Rattle.tags.proofs.named_vr.Goals as goal

pub returns : goal.returns
returns c = c.look_up.ensures ∙ rw c.named.ensures (vr_given c.args.tag)
