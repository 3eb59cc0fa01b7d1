use mathlib.Core.Path.{◌∙◌}
use Rattle.instances.proofs.Classes.{session_offers, film_offers}
use Rattle.instances.proofs.offers.Goals as goal

pub returns-in-Sessions : goal.returns-in-Sessions
returns-in-Sessions c = rw (c.in-Sessions.is, c.is_echo-in-Sessions.ensures) (session_offers c.args.operation)

pub returns-in-Films : goal.returns-in-Films
returns-in-Films c = rw (c.in-Films.is, c.is_echo-in-Films.ensures) (let o = c.args.operation in session_offers o ∙ film_offers o)
