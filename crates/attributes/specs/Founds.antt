-- What one walk of a data set finds for a session and for a film.
use Rattle.std.specs.Prelude.{◌≡◌, List, get_or}
use Rattle.elements.specs.declared.Found.{Found}
use Rattle.elements.specs.declared.Found.TheVariants.{Missing}
use Rattle.rules.specs.Attributes.{Listing, look}

-- in the order of the tags

pub record SessionFound (l : Listing) (found : List Found) : Type 0 where
  pub copies : get_or found 0 Missing ≡ look l 0x2000_0010
  pub priority : get_or found 1 Missing ≡ look l 0x2000_0020
  pub medium : get_or found 2 Missing ≡ look l 0x2000_0030
  pub destination : get_or found 3 Missing ≡ look l 0x2000_0040
  pub label : get_or found 4 Missing ≡ look l 0x2000_0050

pub record FilmFound (l : Listing) (found : List Found) : Type 0 where
  pub format : get_or found 0 Missing ≡ look l 0x2010_0010
  pub orientation : get_or found 1 Missing ≡ look l 0x2010_0040
  pub magnification : get_or found 2 Missing ≡ look l 0x2010_0060
  pub reference : get_or found 3 Missing ≡ look l 0x2010_0500
