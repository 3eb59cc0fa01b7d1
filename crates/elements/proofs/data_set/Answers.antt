use mathlib.Core.Path.{ap, ◌∙◌}
use Rattle.elements.specs.Reader.{list_at, data_set}
use Rattle.elements.specs.Passed.{passed_in, headers_passed}
use Rattle.elements.proofs.data_set.Goals as goal

pub returns : goal.returns
unfolding data_set headers_passed
returns c =
    let s = c.args.s.now in
    let all = c.data_scope.ensures.0 in
    (c.list.ensures.0 ∙ ap (list_at s) all, c.list.ensures.1 ∙ ap (passed_in s) all)
