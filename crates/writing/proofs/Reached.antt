-- The watchdog's ceiling is reached (R-6): for each length that is a multiple of eight, a data set that passes a header for each eight
-- bytes, in both syntaxes, as long as the tags last.
-- Assumes nothing.
use Prim.Native.Nat.{ℕ, zero, suc, ◌+◌, ◌*◌, ◌≤◌}
use mathlib.Core.Path.{◌≡◌, refl, ap, ◌∙◌}
use mathlib.Core.List.{[]}
use native.Mathlib.Omega.{arith}
use lib.ListN.{length, length-append}
use Rattle.std.specs.Prelude.{Ok}
use Rattle.headers.specs.declared.Syntax.{Syntax}
use Rattle.headers.specs.declared.Syntax.TheVariants.{Implicit, Explicit}
use Rattle.tags.specs.Table.{CS, form_of}
use Rattle.elements.specs.Reader.{data_set}
use Rattle.elements.specs.Passed.{headers_passed}
use Rattle.writing.specs.Bytes.{padded, header_size, element, written}
use Rattle.writing.specs.Fit.{Fit}
use Rattle.writing.specs.Headers.{headers_of, empties}
use Rattle.writing.proofs.Sizes.{padded_length, element_length}
use Rattle.writing.proofs.Allowed.{allowed_above, below_limit}
use Rattle.writing.proofs.ListBack.{data_set_back}
use Rattle.writing.proofs.Counted.{passed_back}

-- the tags from here on, below group FFFE, are not named
abbrev pub first_empty : ℕ
first_empty = 0x8000_0000

abbrev pub most_empties : ℕ
most_empties = 0x7FFE_0000

eight : (syntax : Syntax) → header_size syntax CS ≡ 8
unfolding header_size form_of
eight Implicit = refl
eight Explicit = refl

empties_length : (syntax : Syntax) (n tag : ℕ) → length (written syntax (empties tag n)) ≡ 8 * n
unfolding written empties
empties_length syntax zero tag = refl
empties_length syntax (suc n) tag =
    rw (length-append (element syntax tag CS []) (written syntax (empties (tag + 1) n)), element_length syntax tag CS [], eight syntax, empties_length syntax n (tag + 1))
    (omega arith)

empties_counted : (n tag : ℕ) → headers_of (empties tag n) ≡ n
unfolding headers_of empties
empties_counted zero tag = refl
empties_counted (suc n) tag = ap suc (empties_counted n (tag + 1))

empties_fit : (syntax : Syntax) (n floor tag : ℕ) → floor ≤ tag → first_empty ≤ tag → tag + n ≤ first_empty + most_empties → Fit syntax 4 floor (empties tag n)
unfolding empties form_of
empties_fit syntax zero floor tag h l r = tt
empties_fit syntax (suc n) floor tag h l r =
    ((h, allowed_above tag CS (omega arith) (omega arith) refl, below_limit syntax CS (length (padded CS [])) (omega (arith, padded_length CS []))), refl, empties_fit syntax n (tag + 1) (tag + 1) (omega arith) (omega arith) (omega arith))

pub ceiling_reached : (syntax : Syntax) (n : ℕ) → n ≤ most_empties
    → (length (written syntax (empties first_empty n)) ≡ 8 * n) × (data_set (written syntax (empties first_empty n)) syntax ≡ Ok (8 * n)) × (headers_passed (written syntax (empties first_empty n)) syntax ≡ n)
ceiling_reached syntax n h =
    let l = empties_length syntax n first_empty in
    let f = empties_fit syntax n 0 first_empty (omega arith) (omega arith) (omega arith) in
    (l, data_set_back syntax (empties first_empty n) f ∙ ap Ok l, passed_back syntax (empties first_empty n) f ∙ empties_counted n first_empty)
