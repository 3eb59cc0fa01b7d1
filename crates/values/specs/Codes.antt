-- The texts of each code.
use Rattle.std.specs.Prelude.{ℕ, List, map}
use denote.Ref.{Bor}
use Rattle.rules.specs.Values.{priorities, media, destinations, orientations, magnifications, polarities, photometrics}
use Rattle.values.specs.declared.Code.{Code}
use Rattle.values.specs.declared.Code.TheVariants.{Priority, Medium, Destination, Orientation, Magnification, Polarity, Photometric}

abbrev pub code_texts : Code → List (List ℕ)
code_texts Priority = priorities
code_texts Medium = media
code_texts Destination = destinations
code_texts Orientation = orientations
code_texts Magnification = magnifications
code_texts Polarity = polarities
code_texts Photometric = photometrics

-- what references to texts point to
abbrev pub texts_of : List (Bor (List ℕ)) → List (List ℕ)
texts_of texts = map (λ text. text.now) texts
