use Rattle.rules.specs.declared.Core.{Core}
use Rattle.changes.specs.Changes.{affected, EffectFits}
use Rattle.verdicts.proofs.failed.Goals as goal

pub returns : goal.returns
unfolding affected EffectFits
returns c = λ (k : Core). (rw (c.failed_name-name.ensures, c.change_by-change.ensures, c.from.ensures), rw c.change_by-change.ensures tt)
