use Rattle.std.proofs.lemmas.Result.{err_from_is_err_and}
use Rattle.records.specs.Places.{core_in}
use Rattle.setting.proofs.Laws.{names_none, names_one}
use Rattle.setting.proofs.set_planned.Goals as goal

pub returns-in_err-target_broken : goal.returns-in_err-target_broken
returns-in_err-target_broken c =
    let a = c.args in
    let p = err_from_is_err_and c.from_residual.result c.from_residual.ensures.1 in
    rw (p.1, p.2) (names_none (core_in a.b.now) a.c.now a.d.now a.target _ c.in_err-target_broken.ensures)

pub returns : goal.returns
returns c =
    let a = c.args in
    names_one (core_in a.b.now) a.c.now a.d.now a.target c.in_ok-target_broken.ensures _ c.uid_at.ensures _ c.named-whom.ensures.0 _ c.syntax_in-syntax.ensures _ c.name_at.ensures c.decided.result c.decided.ensures
