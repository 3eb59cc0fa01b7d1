-- What a tag and a VR that may be written tell of how the reader takes them.
-- Assumes nothing.
use Prim.Native.Nat.{ℕ, ◌<◌, ◌/◌}
use mathlib.Core.Path.{◌≡◌, refl, ap}
use mathlib.Core.Bool.{Bool, true, false}
use mathlib.Core.List.{List, [], ◌∷◌}
use native.Mathlib.Omega.{arith}
use lib.Dec.{ltb, eqb}
use borrow.Author.Tests.{ltb-true, eqb-true, lt-ltb, ne_eqb}
use Rattle.choice.specs.declared.Row.{Row}
use Rattle.choice.specs.Pick.{pick, both, not}
use Rattle.choice.specs.Table.{lookup}
use Rattle.choice.proofs.Picks.{pick_cases, both_true, not_true, clash}
use Rattle.tags.specs.Table.{SQ, named, forms, form_of, named_vr, implicit_vr, differs, undefined}
use Rattle.headers.specs.declared.Syntax.{Syntax}
use Rattle.headers.specs.declared.Syntax.TheVariants.{Implicit, Explicit}
use Rattle.headers.specs.Header.{is_explicit}
use Rattle.writing.specs.Fit.{allowed, limit}

-- which VRs a tag may have, under one name
unfoldable pub the_forms : Unit {0}
unfolding allowed form_of named_vr differs
the_forms = tt

module _ (tag vr : ℕ) (a : allowed tag vr ≡ true) where
  pub four_bytes : tag < 4294967296
  unfolding allowed
  four_bytes = ltb-true _ _ (both_true (ltb tag 4294967296) _ a).0

  behind_tag : both (not (eqb (tag / 65536) 0xFFFE)) (both (not (eqb (form_of vr) 0)) (not (differs tag vr))) ≡ true
  unfolding allowed
  behind_tag = (both_true (ltb tag 4294967296) _ a).1

  pub not_FFFE : eqb (tag / 65536) 0xFFFE ≡ false
  not_FFFE = not_true _ (both_true (not (eqb (tag / 65536) 0xFFFE)) _ behind_tag).0

  pub known : eqb (form_of vr) 0 ≡ false
  known = not_true _ (both_true (not (eqb (form_of vr) 0)) _ (both_true (not (eqb (tag / 65536) 0xFFFE)) _ behind_tag).1).0

  pub own : differs tag vr ≡ false
  own = not_true _ (both_true (not (eqb (form_of vr) 0)) _ (both_true (not (eqb (tag / 65536) 0xFFFE)) _ behind_tag).1).1

-- every key of a table is below a bound
below : ℕ → List Row → Bool
below n [] = true
below n (row ∷ rows) = both (ltb row.0 n) (below n rows)

key_below : (n key : ℕ) (rows : List Row) → below n rows ≡ true → eqb (lookup key rows) 0 ≡ false → key < n
unfolding below
key_below n key [] b e = absurd (clash e refl)
key_below n key (row ∷ rows) b e = by (eqb row.0 key) refl (key_below n key rows (both_true (ltb row.0 n) _ b).1)
  where
    by : (t : Bool) → eqb row.0 key ≡ t → (eqb (lookup key rows) 0 ≡ false → key < n) → key < n
    by true h on = omega (arith, ltb-true row.0 n (both_true (ltb row.0 n) (below n rows) b).0, eqb-true row.0 key h)
    by false h on = on (rw h at e)

-- a known VR has two bytes
pub two_bytes : (vr : ℕ) → eqb (form_of vr) 0 ≡ false → vr < 65536
unfolding form_of below
two_bytes vr k = key_below 65536 vr forms refl k

-- a length below the limit is defined
pub below_undefined : (syntax : Syntax) (vr size : ℕ) → size < limit syntax vr → size < 0xFFFF_FFFF
unfolding limit
below_undefined syntax vr size = pick_cases (λ (n : ℕ). size < n → size < 0xFFFF_FFFF) (both (is_explicit syntax) (not (eqb (form_of vr) 12))) _ _ (λ _ h. omega arith) (λ _ h. omega arith)

-- a length of 16 bits is below the limit, whatever the syntax and the VR
pub below_limit : (syntax : Syntax) (vr size : ℕ) → size < 65536 → size < limit syntax vr
unfolding limit
below_limit syntax vr size h = pick_cases (λ (n : ℕ). size < n) (both (is_explicit syntax) (not (eqb (form_of vr) 12))) _ _ (λ _. omega arith) (λ _. omega arith)

pixels_vr : (tag : ℕ) → tag ≡ 0x7FE0_0010 → eqb (named_vr tag) SQ ≡ false
unfolding named_vr
pixels_vr tag e = ap (λ (t : ℕ). eqb (named_vr t) SQ) e

-- a named tag whose VR is not a sequence's is not named a sequence
no_sequence : (tag vr : ℕ) → differs tag vr ≡ false → eqb (named_vr tag) 0 ≡ false → eqb vr SQ ≡ false → eqb (named_vr tag) SQ ≡ false
unfolding differs
no_sequence tag vr d n q = by (eqb (named_vr tag) vr) refl (eqb tag 0x7FE0_0010) refl
  where
    by : (same : Bool) → eqb (named_vr tag) vr ≡ same → (pixels : Bool) → eqb tag 0x7FE0_0010 ≡ pixels → eqb (named_vr tag) SQ ≡ false
    by true e pixels f = rw (eqb-true (named_vr tag) vr e) q
    by false e true f = pixels_vr tag (eqb-true tag 0x7FE0_0010 f)
    by false e false f = absurd (clash {b = true} (rw (n, e, f) at d) refl)

-- the VR that the reader takes an element of a defined length to have
abbrev pub read_vr : Syntax → ℕ → ℕ → ℕ → ℕ
read_vr syntax tag vr size = pick (is_explicit syntax) vr (implicit_vr tag size)

pub value_vr : (syntax : Syntax) (tag vr size : ℕ) → allowed tag vr ≡ true → eqb vr SQ ≡ false → size < 0xFFFF_FFFF → eqb (read_vr syntax tag vr size) SQ ≡ false
unfolding implicit_vr
value_vr Explicit tag vr size a q h = q
value_vr Implicit tag vr size a q h = by (eqb (named_vr tag) 0) refl
  where
    by : (t : Bool) → eqb (named_vr tag) 0 ≡ t → eqb (pick (eqb (named_vr tag) 0) (pick (undefined size) SQ 0x4E55) (named_vr tag)) SQ ≡ false
    by true e = rw (e, ne_eqb size 0xFFFF_FFFF (λ z. omega arith))
    by false e = rw e (no_sequence tag vr (own tag vr a) e q)

pub sequence_vr : (syntax : Syntax) (tag size : ℕ) → named_vr tag ≡ SQ → read_vr syntax tag SQ size ≡ SQ
unfolding implicit_vr
sequence_vr Explicit tag size e = refl
sequence_vr Implicit tag size e = rw e

-- no tag above Pixel Data is named
unnamed : (tag : ℕ) → 0x7FE0_0010 < tag → eqb (named_vr tag) 0 ≡ true
unfolding named_vr below
unnamed tag h = by (eqb (named_vr tag) 0) refl
  where
    by : (t : Bool) → eqb (named_vr tag) 0 ≡ t → eqb (named_vr tag) 0 ≡ true
    by true e = e
    by false e = let b = key_below 0x7FE0_0011 tag named refl e in absurd (omega arith)

-- such a tag may have any known VR
pub allowed_above : (tag vr : ℕ) → 0x7FE0_0010 < tag → tag < 0xFFFE_0000 → eqb (form_of vr) 0 ≡ false → allowed tag vr ≡ true
unfolding allowed differs
allowed_above tag vr h l k = rw (lt-ltb tag 4294967296 (omega arith), ne_eqb (tag / 65536) 0xFFFE (λ e. omega arith), k, unnamed tag h)
