-- Where a reading stops: a number from 1 to 7, a place in the data set or at its end, in four sequences at most.
-- Assumes nothing.
use mathlib.Core.Path.{◌≡◌, subst}
use mathlib.Core.List.{List}
use Prim.Native.Nat.{ℕ, ◌≤◌}
use native.Mathlib.Omega.{arith}
use lib.ListN.{length}
use Rattle.std.specs.Prelude.{Err}
use Rattle.headers.specs.declared.Syntax.{Syntax}
use Rattle.headers.proofs.Within.{most_refusal}
use Rattle.elements.specs.declared.Stop.{Stop}
use Rattle.elements.specs.Reader.{most_nested, start, element_at, list_at, whole, data_set}
use Rattle.elements.proofs.Within.{ReadIn}
use Rattle.elements.proofs.Grammar.{element_in_lem, list_in}
use Rattle.elements.proofs.Beyond.{ReadsTo, list_to, element_to}

pub stop_within : (s : List ℕ) (syntax : Syntax) {stop : Stop} → data_set s syntax ≡ Err stop → (1 ≤ stop.number) × (stop.number ≤ most_refusal) × (stop.place ≤ length s) × (stop.depth ≤ most_nested)
unfolding data_set list_at
stop_within s syntax e =
    let element = element_at s syntax most_nested in
    let within = subst (ReadIn 0 (length s)) e (list_in element (element_in_lem s syntax most_nested) s most_nested (whole s) (start (whole s)) (omega arith)) in
    let told = subst (ReadsTo 0) e (list_to element (element_in_lem s syntax most_nested) (element_to s syntax most_nested) s most_nested (whole s) (start (whole s)) (omega arith)) in
    (told.1, within.0, within.1, within.2)
