use mathlib.Core.Path.{◌∙◌}
use Rattle.tags.proofs.Entries.{form_given}
use Rattle.tags.proofs.form_of.Goals as goal

pub returns : goal.returns
returns c = c.look_up.ensures ∙ rw c.forms.ensures (form_given c.args.vr)
