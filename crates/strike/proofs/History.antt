-- The events of a run have its answers.
-- Assumes nothing.
use mathlib.Core.Path.{◌≡◌, refl, ap}
use mathlib.Core.List.{List, [], ◌∷◌}
use Rattle.strike.specs.Service.{Call, Service}
use Rattle.strike.specs.Machine.{Answer, Records, step}
use Rattle.strike.specs.Messages.{Count, answers_of, event_of, history_from, answers}

pub history_answers : (G : Service) (cs : List (Call G.handed)) (s : Records G.Core) (n : Count) → answers_of (history_from G s n cs) ≡ answers G s cs
unfolding history_from answers event_of
history_answers G [] s n = refl
history_answers G (c ∷ cs) s n = ap (λ (rest : List (Answer G.Response G.Told)). (step G s c).answer ∷ rest) (history_answers G cs _ _)
