use Rattle.rules.specs.Layout.{film_format}
use Rattle.distinct.proofs.film_text.Goals as goal

pub returns : goal.returns
unfolding film_format
returns c = c.sent_text.ensures
