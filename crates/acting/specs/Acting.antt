-- Checks 6 and 7 of N-ACTION, and the decision that films are queued.
use Rattle.std.specs.Prelude.{ℕ, None, true, List, [], ◌∷◌, ◌++◌, eqb}
use Rattle.choice.specs.Pick.{not}
use Rattle.choice.specs.Rules.{Rule, ◌⇒◌}
use Rattle.rules.specs.declared.Name.{Name}
use Rattle.rules.specs.declared.Core.{Core}
use Rattle.rules.specs.declared.Action.{Action}
use Rattle.rules.specs.declared.Note.TheVariants.{FilmsQueued}
use Rattle.rules.specs.Checks.{target_rules}
use Rattle.changes.specs.declared.Effect.{Effect}
use Rattle.changes.specs.declared.Decision.{Decision}
use Rattle.changes.specs.Changes.{change_by}

-- check 7: Print, type 1, is the one action
abbrev pub other_action : Action → List Rule
other_action a = (not (eqb a.kind 1) ⇒ 0x0123) ∷ []

abbrev pub action_rules : Core → List ℕ → Action → List Rule
action_rules k c a = target_rules k c a.class a.instance ++ other_action a

abbrev pub queuing : Effect → Name → ℕ → ℕ → Decision
queuing effect name status films = record {
  done = true;
  status = status;
  change = change_by effect;
  instance = name;
  note = FilmsQueued films;
  contents = None;
}
