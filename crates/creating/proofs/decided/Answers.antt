use Prim.Native.Nat.{ℕ}
use mathlib.Core.Path.{ap, ◌∙◌}
use mathlib.Core.List.{List}
use Rattle.rules.specs.declared.Request.{Request}
use Rattle.rules.specs.Checks.{quietly, create_plan}
use Rattle.records.specs.Places.{core_in}
use Rattle.creating.proofs.decided.Goals as goal

pub returns-in-Verification : goal.returns-in-Verification
unfolding create_plan
returns-in-Verification c =
    let k = core_in c.args.b.now in
    let quiet = c.quiet.ensures k in
    λ (command : List ℕ) (r : Request). (quiet.0 ∙ rw c.in-Verification.is (ap (quietly k) c.no_name.ensures), quiet.1)

pub returns-in-Sessions : goal.returns-in-Sessions
returns-in-Sessions c = rw (c.in-Sessions.is, ← c.syntax_in.ensures) c.session_decided.ensures

pub returns-in-Films : goal.returns-in-Films
returns-in-Films c = rw (c.in-Films.is, ← c.syntax_in-in-Films.ensures) c.film_decided.ensures

pub returns-in-Boxes : goal.returns-in-Boxes
unfolding create_plan
returns-in-Boxes c =
    let k = core_in c.args.b.now in
    let quiet = c.quiet-in-Boxes.ensures k in
    λ (command : List ℕ) (r : Request). (quiet.0 ∙ rw c.in-Boxes.is (ap (quietly k) c.no_name-in-Boxes.ensures), quiet.1)

pub returns-in-UnknownClass : goal.returns-in-UnknownClass
unfolding create_plan
returns-in-UnknownClass c =
    let k = core_in c.args.b.now in
    let quiet = c.quiet-in-UnknownClass.ensures k in
    λ (command : List ℕ) (r : Request). (quiet.0 ∙ rw c.in-UnknownClass.is (ap (quietly k) c.no_name-in-UnknownClass.ensures), quiet.1)
