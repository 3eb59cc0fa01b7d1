-- The records: values as rules 7.2, 7.12 and 7.13 (docs/RULES.md) read them.
use Rattle.std.specs.Prelude.{ℕ, ◌+◌, ◌*◌, ◌-◌, Bool, false, List, [], ◌∷◌, eqb, leb, length, get_or, take, drop, replicate}
use Rattle.choice.specs.Pick.{pick, both, either, not}
use Rattle.octets.specs.Octets.{number_at, same}
use Rattle.uids.specs.Uids.{digits}
use Rattle.rules.specs.Text.{chars}
use Rattle.rules.specs.Lists.{every, place_of}

-- "Leading and trailing spaces don't count in CS, IS, LO, trailing ones in ST."
unfoldable pub without_leading : List ℕ → List ℕ
without_leading [] = []
without_leading (c ∷ s) = pick (eqb c 0x20) (without_leading s) (c ∷ s)

abbrev pub unless_space : ℕ → List ℕ → List ℕ
unless_space c [] = pick (eqb c 0x20) [] (c ∷ [])
unless_space c (d ∷ s) = c ∷ (d ∷ s)

unfoldable pub without_trailing : List ℕ → List ℕ
without_trailing [] = []
without_trailing (c ∷ s) = unless_space c (without_trailing s)

unfoldable pub trimmed : List ℕ → List ℕ
trimmed v = without_trailing (without_leading v)

abbrev pub no_bytes : List ℕ → Bool
no_bytes v = eqb (length v) 0

-- "A text with nothing left but spaces is empty."
unfoldable pub blank : List ℕ → Bool
blank v = no_bytes (trimmed v)

-- IS: at most 12 characters, a sign or none, and digits
unfoldable pub without_plus : List ℕ → List ℕ
without_plus [] = []
without_plus (c ∷ s) = pick (eqb c 0x2B) s (c ∷ s)

unfoldable pub decimal_value : ℕ → List ℕ → ℕ
decimal_value front [] = front
decimal_value front (c ∷ s) = decimal_value (10 * front + (c - 48)) s

abbrev pub unsigned : List ℕ → List ℕ
unsigned v = without_plus (trimmed v)

-- the number that an IS gives, 0 where it gives none from 1 to `most`
unfoldable pub count_in : ℕ → List ℕ → ℕ
count_in most v =
    pick (both (leb (length (trimmed v)) 12) (both (not (no_bytes (unsigned v))) (both (digits (unsigned v)) (leb (decimal_value 0 (unsigned v)) most))))
    (decimal_value 0 (unsigned v))
    0

-- CS: the place of its text among those allowed; how many those are where it is none of them
unfoldable pub code_in : List (List ℕ) → List ℕ → ℕ
code_in texts v = place_of (λ text. same text (trimmed v)) texts

abbrev pub priorities : List (List ℕ)
priorities = chars "LOW" ∷ chars "MED" ∷ chars "HIGH" ∷ []

abbrev pub media : List (List ℕ)
media = chars "PAPER" ∷ chars "CLEAR FILM" ∷ chars "BLUE FILM" ∷ []

abbrev pub destinations : List (List ℕ)
destinations = chars "MAGAZINE" ∷ chars "PROCESSOR" ∷ []

abbrev pub orientations : List (List ℕ)
orientations = chars "PORTRAIT" ∷ chars "LANDSCAPE" ∷ []

abbrev pub magnifications : List (List ℕ)
magnifications = chars "NONE" ∷ chars "REPLICATE" ∷ chars "BILINEAR" ∷ chars "CUBIC" ∷ []

abbrev pub polarities : List (List ℕ)
polarities = chars "NORMAL" ∷ chars "REVERSE" ∷ []

abbrev pub photometrics : List (List ℕ)
photometrics = chars "MONOCHROME1" ∷ chars "MONOCHROME2" ∷ []

-- "Label has bytes 20H to 7EH without backslash"
abbrev pub label_byte : ℕ → Bool
label_byte c = both (leb 0x20 c) (both (leb c 0x7E) (not (eqb c 0x5C)))

-- LO to 64
unfoldable pub label_allowed : List ℕ → Bool
label_allowed v = both (leb (length (trimmed v)) 64) (every label_byte (trimmed v))

-- "C and R 1 to 6 without leading zero": one digit
abbrev pub one_to_six : ℕ → Bool
one_to_six c = both (leb 49 c) (leb c 54)

-- `STANDARD\C,R`
unfoldable pub standard : List ℕ → Bool
standard t =
    both (same (take 9 t) (chars "STANDARD\\"))
    (both (eqb (length t) 12)
    (both (one_to_six (get_or t 9 0)) (both (eqb (get_or t 10 0) 0x2C) (one_to_six (get_or t 11 0)))))

-- numbers of one digit, 1 to 6, with a comma between two
unfoldable pub listed : List ℕ → Bool
listed [] = false
listed (d ∷ []) = one_to_six d
listed (d ∷ (c ∷ ds)) = both (one_to_six d) (both (eqb c 0x2C) (listed ds))

unfoldable pub numbers_in : List ℕ → List ℕ
numbers_in [] = []
numbers_in (d ∷ []) = (d - 48) ∷ []
numbers_in (d ∷ (c ∷ ds)) = (d - 48) ∷ numbers_in ds

-- R-1: `ROW\r1,r2,..` and `COL\c1,c2,..`, "1 to 6 numbers, each 1 to 6"
unfoldable pub uneven : List ℕ → Bool
uneven t =
    both (either (same (take 4 t) (chars "ROW\\")) (same (take 4 t) (chars "COL\\")))
    (both (leb (length t) 15) (listed (drop 4 t)))

-- Which format it is.

abbrev pub kind_standard : ℕ
kind_standard = 0

abbrev pub kind_row : ℕ
kind_row = 1

abbrev pub kind_col : ℕ
kind_col = 2

unfoldable pub kind_in : List ℕ → ℕ
kind_in v = pick (same (take 4 v) (chars "ROW\\")) kind_row (pick (same (take 4 v) (chars "COL\\")) kind_col kind_standard)

-- ST, read as a layout: how many boxes each line has; none where it is not allowed
unfoldable pub counts_in : List ℕ → List ℕ
counts_in v =
    pick (standard (without_trailing v))
    (replicate (get_or (without_trailing v) 11 0 - 48) (get_or (without_trailing v) 9 0 - 48))
    (pick (uneven (without_trailing v)) (numbers_in (drop 4 (without_trailing v))) [])

-- US: one value of two bytes
abbrev pub is_us : List ℕ → Bool
is_us v = eqb (length v) 2

abbrev pub us_in : List ℕ → ℕ
us_in v = number_at 2 v 0
