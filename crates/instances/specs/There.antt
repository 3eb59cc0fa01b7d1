-- Films and boxes have their places, and serials their 32 bits.
use Rattle.std.specs.Prelude.{ℕ, ◌+◌, ◌≤◌, ◌<◌, List, length, get_or}
use Rattle.rules.specs.declared.Film.{Film}
use Rattle.rules.specs.declared.Core.{Core}
use Rattle.rules.specs.declared.Instance.{Instance}
use Rattle.rules.specs.declared.Instance.TheVariants.{Nobody, TheSession, TheFilm, TheBox}
use Rattle.rules.specs.Bounds.{none_left}
use Rattle.rules.specs.Records.{no_film, box_count, films_of}

-- an instance is there: the film and the box have their places
abbrev pub There : Core → Instance → Type 0
There k Nobody = Unit {0}
There k TheSession = Unit {0}
There k (TheFilm i) = i < length (films_of k.shelf)
There k (TheBox i place) = (i < length (films_of k.shelf)) × (place < box_count (get_or (films_of k.shelf) i no_film).layout)

-- the serials of a film's boxes are above 0 and not above the last
abbrev pub SerialsFit : Film → Type 0
SerialsFit f = (0 < f.first.0) × (f.first.0 + box_count f.layout ≤ none_left)

abbrev pub AllFit : List Film → Type 0
AllFit films = (i : ℕ) (d : Film) → i < length films → SerialsFit (get_or films i d)
