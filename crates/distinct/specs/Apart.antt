-- "UIDs differ", film by film: serials and texts that no film has, and films that differ from one another.
use Rattle.std.specs.Prelude.{ℕ, Bool, List, map}
use Rattle.choice.specs.Pick.{both, not}
use Rattle.rules.specs.declared.Film.{Film}
use Rattle.rules.specs.Lists.{every, apart}
use Rattle.rules.specs.Records.{box_count}
use Rattle.rules.specs.Sound.{Serials, overlap, own_serial, serials_of, sent_text, same_text}

abbrev pub serials : ℕ → ℕ → Serials
serials first count = record { from = first; count = count }

abbrev pub box_serials : Film → Serials
box_serials f = serials f.first.0 (box_count f.layout)

-- the film and its boxes have none of these serials
abbrev pub free_of_film : Serials → Film → Bool
free_of_film s f = both (not (overlap s (own_serial f.name))) (not (overlap s (box_serials f)))

-- the films have none of these serials
unfoldable pub serials_free : Serials → List Film → Bool
serials_free s films = every (λ t. not (overlap s t)) (serials_of films)

-- a film's serials differ from one another and from those of these films
abbrev pub film_apart : Film → List Film → Bool
film_apart f films = both (not (overlap (own_serial f.name) (box_serials f))) (both (serials_free (own_serial f.name) films) (serials_free (box_serials f) films))

unfoldable pub serials_apart : List Film → Bool
serials_apart films = apart overlap (serials_of films)

abbrev pub film_text : Film → List ℕ
film_text f = sent_text f.name

-- no film has this text
unfoldable pub text_free : List ℕ → List Film → Bool
text_free text films = every (λ t. not (same_text text t)) (map film_text films)

unfoldable pub texts_apart : List Film → Bool
texts_apart films = apart same_text (map film_text films)
