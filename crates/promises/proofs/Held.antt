-- What the reader finds under a tag of a list that was written: the bytes that were meant, or nothing.
-- Assumes nothing.
use Prim.Native.Nat.{ℕ, ◌+◌, ◌-◌}
use mathlib.Core.Path.{◌≡◌, refl, sym, ap, ◌∙◌, subst}
use mathlib.Core.Bool.{false}
use mathlib.Core.List.{List}
use native.Mathlib.Omega.{arith}
use lib.Dec.{eqb}
use lib.ListN.{length}
use lib.Seq.{take-length}
use borrow.Author.Tests.{eq-eqb}
use Rattle.octets.specs.Octets.{part}
use Rattle.octets.proofs.Laid.{Stands}
use Rattle.headers.specs.declared.Syntax.{Syntax}
use Rattle.headers.specs.declared.Part.{Part}
use Rattle.headers.specs.declared.Inside.{Inside}
use Rattle.elements.specs.declared.Found.TheVariants.{Missing, Value}
use Rattle.elements.specs.Reader.{whole, scope_of, data_scope}
use Rattle.elements.specs.Find.{find_at}
use Rattle.writing.specs.Tree.{Elements, no_elements, value}
use Rattle.writing.specs.Bytes.{padded, header_size, written}
use Rattle.writing.specs.Fit.{Fit}
use Rattle.writing.specs.Place.{span, place_in, value_under}
use Rattle.writing.proofs.ListBack.{between}
use Rattle.writing.proofs.RoundTrip.{ReadBack, round_trip}

-- the first value with the tag has these bytes
pub data Has (tag : ℕ) (bytes : List ℕ) : Elements → Type 0 where
  here : {vr : ℕ} {held : List ℕ} {more : Elements} → padded vr held ≡ bytes → Has tag bytes (value tag vr held more)
  later : {t vr : ℕ} {held : List ℕ} {more : Elements} → eqb t tag ≡ false → Has tag bytes more → Has tag bytes (value t vr held more)

-- there are only values, none with the tag
pub data Lacks (tag : ℕ) : Elements → Type 0 where
  never : Lacks tag no_elements
  other : {t vr : ℕ} {held : List ℕ} {more : Elements} → eqb t tag ≡ false → Lacks tag more → Lacks tag (value t vr held more)

record Placed (syntax : Syntax) (at tag : ℕ) (bytes : List ℕ) (elements : Elements) : Type 0 where
  place : Part
  at_place : place_in syntax at tag elements ≡ Value place
  sized : place.stop ≡ place.from + length bytes
  under : value_under tag elements ≡ bytes

has_placed : {tag : ℕ} {bytes : List ℕ} {elements : Elements} → Has tag bytes elements → (syntax : Syntax) (at : ℕ) → Placed syntax at tag bytes elements
unfolding place_in value_under
has_placed {tag} (here {vr} {held} {more} e) syntax at = record {
  place = record { from = at + header_size syntax vr; stop = at + header_size syntax vr + length (padded vr held) };
  at_place = rw (eq-eqb tag tag refl);
  sized = ap (λ (n : ℕ). at + header_size syntax vr + n) (ap length e);
  under = rw (eq-eqb tag tag refl) e;
}
has_placed (later {t} {vr} {held} {more} e h) syntax at =
    let p = has_placed h syntax (at + header_size syntax vr + length (padded vr held)) in
    record { place = p.place; at_place = rw e p.at_place; sized = p.sized; under = rw e p.under }

lacks_place : {tag : ℕ} {elements : Elements} → Lacks tag elements → (syntax : Syntax) (at : ℕ) → place_in syntax at tag elements ≡ Missing
unfolding place_in
lacks_place never syntax at = refl
lacks_place (other {t} {vr} {held} {more} e h) syntax at = rw e (lacks_place h syntax (at + header_size syntax vr + length (padded vr held)))

-- the reader finds a value under the tag, and it is these bytes
pub record Holds (s : List ℕ) (syntax : Syntax) (room : ℕ) (inside : Inside) (tag : ℕ) (bytes : List ℕ) : Type 0 where
  pub place : Part
  pub found : find_at s (scope_of syntax room inside) tag ≡ Value place
  pub means : part s place.from place.stop ≡ bytes
  pub sized : place.stop ≡ place.from + length bytes

module _ (s : List ℕ) (syntax : Syntax) (room at : ℕ) (elements : Elements) (back : ReadBack s syntax room at elements) where
  pub holds : (tag : ℕ) (bytes : List ℕ) → Has tag bytes elements → Holds s syntax room (span at (length (written syntax elements))) tag bytes
  holds tag bytes h =
      let p = has_placed h syntax at in
      record {
        place = p.place;
        found = back.found tag ∙ p.at_place;
        means = back.values tag p.place p.at_place ∙ p.under;
        sized = p.sized;
      }

  pub lacks : (tag : ℕ) → Lacks tag elements → find_at s (scope_of syntax room (span at (length (written syntax elements)))) tag ≡ Missing
  lacks tag h = back.found tag ∙ lacks_place h syntax at

-- All the bytes are one list.

pub whole_span : (s : List ℕ) → span 0 (length s) ≡ whole s
whole_span s = ap (between 0) (omega arith)

pub stands_whole : (s : List ℕ) → Stands s 0 s
stands_whole s = let z : 0 + length s - 0 ≡ length s = omega arith in rw z (take-length s)

module _ (syntax : Syntax) (elements : Elements) (f : Fit syntax 4 0 elements) where
  pub whole_back : ReadBack (written syntax elements) syntax 4 0 elements
  whole_back = round_trip (written syntax elements) syntax 4 0 elements f (stands_whole (written syntax elements))

  pub whole_holds : (tag : ℕ) (bytes : List ℕ) → Has tag bytes elements → Holds (written syntax elements) syntax 4 (whole (written syntax elements)) tag bytes
  whole_holds tag bytes h =
      subst (λ (i : Inside). Holds (written syntax elements) syntax 4 i tag bytes) (whole_span (written syntax elements))
      (holds (written syntax elements) syntax 4 0 elements whole_back tag bytes h)

  pub whole_lacks : (tag : ℕ) → Lacks tag elements → find_at (written syntax elements) (data_scope (written syntax elements) syntax) tag ≡ Missing
  whole_lacks tag h =
      ap (λ (i : Inside). find_at (written syntax elements) (scope_of syntax 4 i) tag) (sym (whole_span (written syntax elements)))
      ∙ lacks (written syntax elements) syntax 4 0 elements whole_back tag h
