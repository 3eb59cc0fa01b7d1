use mathlib.Core.Path.{sym, ap, subst, ◌∙◌}
use Prim.Native.Nat.{◌≤◌}
use lib.ListN.{length}
use Rattle.rules.specs.Records.{sent_name}
use Rattle.uids.proofs.Length.{uid_short}
use Rattle.verdicts.proofs.name_at.Goals as goal

pub sent_name-requires : goal.sent_name-requires
sent_name-requires c = subst (λ u. length u ≤ 64) (sym c.uid_at.ensures) (uid_short _ c.requires.1)

pub returns : goal.returns
returns c = c.sent_name.ensures ∙ ap sent_name c.uid_at.ensures
