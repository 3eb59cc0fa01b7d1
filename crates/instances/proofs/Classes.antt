-- Session and film offer all but C-ECHO.
-- Assumes nothing.
use mathlib.Core.Path.{◌≡◌, refl}
use mathlib.Core.Bool.{not}
use Rattle.rules.specs.declared.Operation.{Operation}
use Rattle.rules.specs.declared.Operation.TheVariants.{Echo, Create, Set, Act, Delete}
use Rattle.rules.specs.declared.Class.TheVariants.{Verification, Sessions, Films}
use Rattle.rules.specs.Checks.{offers}

pub session_offers : (o : Operation) → not (offers Verification o) ≡ offers Sessions o
session_offers (Echo r) = refl
session_offers (Create r) = refl
session_offers (Set r) = refl
session_offers (Act r) = refl
session_offers (Delete r) = refl

pub film_offers : (o : Operation) → offers Sessions o ≡ offers Films o
film_offers (Echo r) = refl
film_offers (Create r) = refl
film_offers (Set r) = refl
film_offers (Act r) = refl
film_offers (Delete r) = refl
