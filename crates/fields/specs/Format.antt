-- Formats: how values of a type stand in bytes. A format is a byte, a number of a width, two formats one after the other,
-- an array of one format, or one of these seen as a struct.
use Rattle.std.specs.Prelude.{ℕ, zero, suc, ◌+◌, ◌*◌, ◌<◌, ◌^◌, ◌≡◌, List, [], ◌∷◌, ◌++◌, length, get_or}
use Rattle.octets.specs.Octets.{number_at, octets, laid}

pub record Format (A : Type 0) : Type 1 where
  -- how many bytes a value has
  pub size : ℕ
  -- what an array's place holds that is behind its end
  pub blank : A
  -- the value that stands in a list at a place
  pub read : List ℕ → ℕ → A
  -- a value's bytes
  pub bytes : A → List ℕ
  -- a value is one of those that the format holds
  pub Good : A → Type 0

-- a list with a value's bytes laid over its own, from a place on
unfoldable pub write : {A : Type 0} → Format A → A → List ℕ → ℕ → List ℕ
write f a s at = laid s at (f.bytes a)

-- one byte
abbrev pub byte : Format ℕ
byte = record {
  size = 1;
  blank = 0;
  read = λ s at. get_or s at 0;
  bytes = λ x. x ∷ [];
  Good = λ x. x < 256;
}

-- a number of `width` bytes, little endian
abbrev pub number : ℕ → Format ℕ
number width = record {
  size = width;
  blank = 0;
  read = number_at width;
  bytes = octets width;
  Good = λ x. x < 256 ^ width;
}

-- a value of the one, and behind it a value of the other
infixr 40 ◌then◌
abbrev pub ◌then◌ : {A B : Type 0} → Format A → Format B → Format (A × B)
◌then◌ f g = record {
  size = f.size + g.size;
  blank = (f.blank, g.blank);
  read = λ s at. (f.read s at, g.read s (at + f.size));
  bytes = λ a. f.bytes a.0 ++ g.bytes a.1;
  Good = λ a. f.Good a.0 × g.Good a.1;
}

-- n values that stand one after the other from a place on
unfoldable pub read_all : {A : Type 0} → Format A → List ℕ → ℕ → ℕ → List A
read_all f s at zero = []
read_all f s at (suc n) = read_all f s at n ++ (f.read s (at + n * f.size) ∷ [])

-- the bytes of the first n values of a list
unfoldable pub bytes_all : {A : Type 0} → Format A → List A → ℕ → List ℕ
bytes_all f xs zero = []
bytes_all f xs (suc n) = bytes_all f xs n ++ f.bytes (get_or xs n f.blank)

-- an array of n values
abbrev pub array : {A : Type 0} → ℕ → Format A → Format (List A)
array n f = record {
  size = n * f.size;
  blank = [];
  read = λ s at. read_all f s at n;
  bytes = λ xs. bytes_all f xs n;
  Good = λ xs. (length xs ≡ n) × ((i : ℕ) → i < n → f.Good (get_or xs i f.blank));
}

-- the same bytes, seen as another type
abbrev pub via : {A B : Type 0} → (A → B) → (B → A) → Format A → Format B
via to from f = record {
  size = f.size;
  blank = to f.blank;
  read = λ s at. to (f.read s at);
  bytes = λ b. f.bytes (from b);
  Good = λ b. f.Good (from b);
}
