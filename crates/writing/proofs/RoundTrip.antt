-- The round trip: what fits to be written is read back as it was meant, in both syntaxes, wherever it stands.
-- Assumes nothing.
use Prim.Native.Nat.{ℕ, ◌+◌, ◌-◌}
use mathlib.Core.Path.{◌≡◌}
use mathlib.Core.List.{List}
use lib.ListN.{length}
use Rattle.std.specs.Prelude.{Ok}
use Rattle.octets.specs.Octets.{part}
use Rattle.octets.proofs.Laid.{Stands}
use Rattle.headers.specs.declared.Syntax.{Syntax}
use Rattle.headers.specs.declared.Part.{Part}
use Rattle.headers.specs.declared.Inside.{Inside}
use Rattle.elements.specs.declared.Found.TheVariants.{Value, Sequence}
use Rattle.elements.specs.Reader.{list_at, scope_of}
use Rattle.elements.specs.Find.{find_at, items_at}
use Rattle.writing.specs.Tree.{Elements}
use Rattle.writing.specs.Bytes.{written}
use Rattle.writing.specs.Fit.{Fit}
use Rattle.writing.specs.Place.{span, place_in, value_under, items_under, told}
use Rattle.writing.proofs.ListBack.{reads_back}
use Rattle.writing.proofs.FindBack.{ItemsStand, find_back, value_meant, items_meant}
use Rattle.writing.proofs.ItemsBack.{found_items_told}

pub record ReadBack (s : List ℕ) (syntax : Syntax) (room at : ℕ) (elements : Elements) : Type 0 where
  -- the reader takes the list to its end
  pub taken : list_at s (scope_of syntax room (span at (length (written syntax elements)))) ≡ Ok (at + length (written syntax elements))
  -- under each tag it finds what was written there, and where it was written
  pub found : (tag : ℕ) → find_at s (scope_of syntax room (span at (length (written syntax elements)))) tag ≡ place_in syntax at tag elements
  -- a value that is found has the bytes that were meant
  pub values : (tag : ℕ) (p : Part) → place_in syntax at tag elements ≡ Value p → part s p.from p.stop ≡ value_under tag elements
  -- a sequence that is found has the items that were meant, one level down
  pub sequences : (tag : ℕ) (i : Inside) → place_in syntax at tag elements ≡ Sequence i → ItemsStand s syntax (room - 1) i (items_under tag elements)
  -- and the reader counts them, and finds the list of an only one
  pub items : (tag : ℕ) (i : Inside) → place_in syntax at tag elements ≡ Sequence i → items_at s (scope_of syntax (room - 1) i) ≡ told syntax i.from (items_under tag elements)

pub round_trip : (s : List ℕ) (syntax : Syntax) (room at : ℕ) (elements : Elements) → Fit syntax room 0 elements → Stands s at (written syntax elements) → ReadBack s syntax room at elements
round_trip s syntax room at elements f e = record {
  taken = reads_back s syntax room at elements f e;
  found = λ tag. find_back s syntax room at tag elements f e;
  values = λ tag p. value_meant elements s syntax at tag p e;
  sequences = λ tag i. items_meant elements s syntax room at 0 tag i f e;
  items = λ tag i. found_items_told elements s syntax room at tag i f e;
}
