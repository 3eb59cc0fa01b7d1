use mathlib.Core.Path.{refl, ◌∙◌}
use borrow.Author.Tests.{ne_eqb}
use Rattle.choice.proofs.Picks.{nots}
use Rattle.rules.specs.Layout.{serial_format, name_format, session_format, film_format}
use Rattle.records.specs.Places.{session_in}
use Rattle.films.proofs.Films.{elsewhere, there}
use Rattle.films.proofs.has_session.Goals as goal

pub returns-then-b-p-eq0 : goal.returns-then-b-p-eq0
unfolding film_format name_format serial_format session_format
returns-then-b-p-eq0 c = nots _ ∙ there (session_in c.args.b.now) _ _ c.if-b-p-eq0.true refl

pub returns-else-b-p-eq0 : goal.returns-else-b-p-eq0
unfolding film_format name_format serial_format
returns-else-b-p-eq0 c = ne_eqb _ _ c.if-b-p-eq0.false ∙ elsewhere (session_in c.args.b.now) _ c.if-b-p-eq0.false
