use Prim.Native.Nat.{ℕ}
use mathlib.Core.Path.{sym, ap, subst, ◌∙◌}
use mathlib.Core.List.{List}
use Rattle.rules.specs.declared.Core.{Core}
use Rattle.rules.specs.declared.Request.{Request}
use Rattle.rules.specs.declared.Instance.TheVariants.{TheSession, TheFilm}
use Rattle.rules.specs.Checks.{quietly, action_plan}
use Rattle.records.specs.Places.{core_in}
use Rattle.instances.specs.There.{There}
use Rattle.verdicts.specs.Ready.{Ready}
use Rattle.verdicts.specs.Decided.{Follows}
use Rattle.acting.proofs.printed.Goals as goal

pub session_printed-requires : goal.session_printed-requires
session_printed-requires c = subst Ready (sym c.read_at-core.ensures) c.requires.0.1

pub film_printed-requires : goal.film_printed-requires
film_printed-requires c =
    let k = sym c.read_at-core.ensures in
    let i = c.in-TheFilm.i in
    (subst Ready k c.requires.0.1, subst (λ (k : Core). There k (TheFilm i)) k (subst (There (core_in c.args.b.now)) c.in-TheFilm.is c.requires.1))

pub returns-in-Nobody : goal.returns-in-Nobody
unfolding action_plan
returns-in-Nobody c =
    let k = core_in c.args.b.now in
    let quiet = c.quiet.ensures k in
    λ (command : List ℕ) (r : Request). (quiet.0 ∙ rw c.in-Nobody.is (ap (quietly k) c.no_name.ensures), quiet.1)

pub returns-in-TheSession : goal.returns-in-TheSession
returns-in-TheSession c =
    rw c.in-TheSession.is
    (subst (λ (k : Core). Follows k (action_plan k TheSession c.args.name) c.session_printed.result) c.read_at-core.ensures c.session_printed.ensures)

pub returns-in-TheFilm : goal.returns-in-TheFilm
returns-in-TheFilm c =
    rw c.in-TheFilm.is
    (subst (λ (k : Core). Follows k (action_plan k (TheFilm c.in-TheFilm.i) c.args.name) c.film_printed.result) c.read_at-core.ensures c.film_printed.ensures)

pub returns-in-TheBox : goal.returns-in-TheBox
unfolding action_plan
returns-in-TheBox c =
    let k = core_in c.args.b.now in
    let quiet = c.quiet-in-TheBox.ensures k in
    λ (command : List ℕ) (r : Request). (quiet.0 ∙ rw c.in-TheBox.is (ap (quietly k) c.no_name-in-TheBox.ensures), quiet.1)
