use Prim.Native.Nat.{ℕ}
use mathlib.Core.Path.{ap, subst, ◌∙◌}
use mathlib.Core.List.{List}
use Rattle.rules.specs.declared.Request.{Request}
use Rattle.rules.specs.Checks.{quietly, set_plan}
use Rattle.records.specs.Places.{core_in}
use Rattle.instances.specs.There.{There}
use Rattle.setting.proofs.decided.Goals as goal

pub film_decided-requires : goal.film_decided-requires
film_decided-requires c =
    (c.requires.0, subst (There (core_in c.args.b.now)) c.in-TheFilm.is c.requires.1)

pub box_decided-requires : goal.box_decided-requires
box_decided-requires c =
    let t = subst (There (core_in c.args.b.now)) c.in-TheBox.is c.requires.1 in
    (c.requires.0, t.0, t.1, c.requires.2)

pub returns-in-Nobody : goal.returns-in-Nobody
unfolding set_plan
returns-in-Nobody c =
    let k = core_in c.args.b.now in
    let quiet = c.quiet.ensures k in
    λ (command : List ℕ) (r : Request). (quiet.0 ∙ rw c.in-Nobody.is (ap (quietly k) c.no_name.ensures), quiet.1)

pub returns-in-TheSession : goal.returns-in-TheSession
returns-in-TheSession c = rw c.in-TheSession.is c.session_decided.ensures

pub returns-in-TheFilm : goal.returns-in-TheFilm
returns-in-TheFilm c = rw c.in-TheFilm.is c.film_decided.ensures

pub returns-in-TheBox : goal.returns-in-TheBox
returns-in-TheBox c = rw c.in-TheBox.is c.box_decided.ensures
