-- Texts and classes as they stand in bytes.
use Rattle.std.specs.Prelude.{ℕ, List, [], ◌∷◌}
use Prim.Native.Char.{code}
use Prim.Native.String as string
use Prim.Native.String.{String}

unfoldable pub chars : String → List ℕ
chars string.[] = []
chars (string.◌∷◌ c s) = code c ∷ chars s

abbrev pub verification_class : List ℕ
verification_class = chars "1.2.840.10008.1.1"

abbrev pub session_class : List ℕ
session_class = chars "1.2.840.10008.5.1.1.1"

abbrev pub film_class : List ℕ
film_class = chars "1.2.840.10008.5.1.1.2"

abbrev pub box_class : List ℕ
box_class = chars "1.2.840.10008.5.1.1.4"
