use mathlib.Core.Path.{ap, ◌∙◌}
use Rattle.uids.specs.Uids.{begins_with}
use Rattle.instances.proofs.is_rooted.Goals as goal

pub returns : goal.returns
returns c =
    c.begins_with.ensures ∙ ap (λ root. begins_with root c.args.uid.now) c.root_in.ensures
