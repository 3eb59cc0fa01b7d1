-- The name of what is created, the new session, and the decision on a new film: its answer tells the UIDs of its boxes.
use Rattle.std.specs.Prelude.{ℕ, true, List, eqb, length}
use Rattle.choice.specs.Pick.{pick}
use Rattle.rules.specs.declared.Name.{Name}
use Rattle.rules.specs.declared.Numbers.{Numbers}
use Rattle.rules.specs.declared.Session.{Session}
use Rattle.rules.specs.declared.Film.{Film}
use Rattle.rules.specs.declared.Note.TheVariants.{NoNote}
use Rattle.rules.specs.Records.{made_name, sent_name, new_session}
use Rattle.rules.specs.Attributes.{Listing, session_with}
use Rattle.rules.specs.Effects.{name_from, renamed}
use Rattle.rules.specs.Checks.{boxes_in}
use Rattle.changes.specs.declared.Effect.TheVariants.{FilmCreated}
use Rattle.changes.specs.declared.Decision.{Decision}
use Rattle.changes.specs.Changes.{change_with_film}

-- by the next serial, where no UID was sent
abbrev pub name_by : ℕ → List ℕ → Name
name_by serial sent = pick (eqb (length sent) 0) (made_name serial) (sent_name sent)

abbrev pub session_made : Numbers → List ℕ → Listing → Session
session_made n sent l = renamed (name_from n sent) (session_with l new_session)

abbrev pub with_new_film : ℕ → Film → Decision
with_new_film serials film = record {
  done = true;
  status = 0;
  change = change_with_film (FilmCreated serials) film;
  instance = film.name;
  note = NoNote;
  contents = boxes_in film;
}
