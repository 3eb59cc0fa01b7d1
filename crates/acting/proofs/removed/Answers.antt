use mathlib.Core.Path.{ap, subst, ◌∙◌}
use Rattle.rules.specs.declared.Core.{Core}
use Rattle.rules.specs.Checks.{quietly, delete_plan}
use Rattle.promises.proofs.Places.{films_beside}
use Rattle.changes.specs.declared.Change.{Change}
use Rattle.changes.specs.Changes.{affected, changed, EffectFits}
use Rattle.instances.specs.There.{There}
use Rattle.acting.proofs.removed.Goals as goal

pub returns-in-Nobody : goal.returns-in-Nobody
unfolding delete_plan
returns-in-Nobody c =
    λ (k : Core) ready there.
    let quiet = c.quiet.ensures k in
    (quiet.0 ∙ rw c.in-Nobody.is (ap (quietly k) c.no_name.ensures), quiet.1)

pub returns-in-TheSession : goal.returns-in-TheSession
unfolding delete_plan affected EffectFits
returns-in-TheSession c =
    λ (k : Core) ready there.
    let change = c.change_by.ensures in
    (c.with_change.ensures.0 k ∙ rw c.in-TheSession.is (ap (λ (change : Change). quietly (changed k change) c.args.name) change), rw (c.with_change.ensures.1, change) (films_beside k ready.0))

pub returns-in-TheFilm : goal.returns-in-TheFilm
unfolding delete_plan affected EffectFits
returns-in-TheFilm c =
    λ (k : Core) ready there.
    let change = c.change_by-in-TheFilm.ensures in
    let whom = c.in-TheFilm.is in
    (c.with_change-in-TheFilm.ensures.0 k ∙ rw whom (ap (λ (change : Change). quietly (changed k change) c.args.name) change), rw (c.with_change-in-TheFilm.ensures.1, change) (subst (There k) whom there))

pub returns-in-TheBox : goal.returns-in-TheBox
unfolding delete_plan
returns-in-TheBox c =
    λ (k : Core) ready there.
    let quiet = c.quiet-in-TheBox.ensures k in
    (quiet.0 ∙ rw c.in-TheBox.is (ap (quietly k) c.no_name-in-TheBox.ensures), quiet.1)
