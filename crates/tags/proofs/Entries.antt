-- What a table has for a key is the number that the look-up comes to, where no row has the number 0.
-- Assumes nothing.
use mathlib.Core.Path.{◌≡◌, refl, sym, ◌∙◌}
use mathlib.Core.Bool as bool
use mathlib.Core.Bool.{Bool, true, false}
use mathlib.Core.List.{List, [], ◌∷◌}
use Prim.Native.Nat.{ℕ, zero, suc}
use lib.Dec.{eqb}
use native.Mathlib.Omega.{arith}
use borrow.Author.Rules.{rules}
use borrow.Author.Tests.{ne_eqb}
use Rattle.std.specs.Prelude.{Option, Some, None, is_some}
use Rattle.std.specs.Option.{option_eq}
use Rattle.choice.specs.declared.Row.{Row}
use Rattle.choice.specs.Table.{lookup}
use Rattle.tags.specs.Table.{entry, given, forms, form_of, named, named_vr}

-- no row has the number 0
abbrev pub Numbered : List Row → Type 0
Numbered [] = Unit {0}
Numbered (row ∷ rows) = (eqb row.1 0 ≡ false) × Numbered rows

given_number : (n : ℕ) → eqb n 0 ≡ false → given n ≡ Some n
given_number zero h = absurd (cc)
given_number (suc n) h = refl

entry_given : (key : ℕ) (rows : List Row) → Numbered rows → entry key rows ≡ given (lookup key rows)
entry_given key [] h = refl
entry_given key (row ∷ rows) h = by (eqb row.0 key) refl (entry_given key rows h.1)
  where
    by : (t : Bool) → eqb row.0 key ≡ t → entry key rows ≡ given (lookup key rows) → entry key (row ∷ rows) ≡ given (lookup key (row ∷ rows))
    by true e f = rw (e, given_number row.1 h.0)
    by false e f = rw e f

pub form_given : (vr : ℕ) → entry vr forms ≡ given (form_of vr)
unfolding form_of
form_given vr = entry_given vr forms (search rules)

pub vr_given : (tag : ℕ) → entry tag named ≡ given (named_vr tag)
unfolding named_vr
vr_given tag = entry_given tag named (search rules)

-- what it tells that a number is given, or that none is
pub given_none : (n : ℕ) → None ≡ given n → n ≡ 0
given_none zero e = refl
given_none (suc n) e = absurd (cc)

pub given_some : (n : ℕ) {m : ℕ} → Some m ≡ given n → (n ≡ m) × (m ≡ 0 → ⊥)
given_some zero e = absurd (cc)
given_some (suc n) e = (cc, λ z. absurd (cc))

-- whether it is this number, or none
pub is_given : {o : Option ℕ} {t : Bool} (n m : ℕ) → (m ≡ 0 → ⊥) → o ≡ given n → t ≡ option_eq eqb o (Some m) → eqb n m ≡ t
is_given zero m h e f = ne_eqb _ _ (λ z. h (sym z)) ∙ sym (f ∙ rw e)
is_given (suc n) m h e f = sym (f ∙ rw e)

none_given : (n : ℕ) (none : Bool) → is_some (given n) ≡ bool.not none → eqb n 0 ≡ none
none_given zero true e = refl
none_given zero false e = absurd (cc)
none_given (suc n) true e = absurd (cc)
none_given (suc n) false e = ne_eqb _ _ (omega arith)

pub is_not_given : {o : Option ℕ} {none : Bool} (n : ℕ) → o ≡ given n → is_some o ≡ bool.not none → eqb n 0 ≡ none
is_not_given n e f = none_given n _ (rw e at f)
