-- What each test of a code says.
-- Assumes nothing.
use Rattle.std.proofs.Common.{ℕ, ◌+◌, ◌<◌, arith, true, false, List, [], ◌∷◌, length, ◌≡◌, refl, sym, ap, ◌∙◌, Option, None, Some, MatchOption}
use Rattle.std.specs.Option.{unwrap_or, is_some}
use Rattle.std.specs.List.{AllWithin, HoldsAt}
use denote.Ref.{Bor}
use lib.Dec.{ltb}
use borrow.Author.Tests.{lt-ltb, le-ltb}
use Rattle.octets.specs.Octets.{same}
use Rattle.rules.specs.Lists.{place_of}
use Rattle.rules.specs.Values.{trimmed, code_in}
use Rattle.values.specs.Codes.{texts_of}

-- A code, text by text.

module _ (s w : List ℕ) (e : w ≡ trimmed s) where
  pub code_here : (t : Bor (List ℕ)) (ts : List (Bor (List ℕ))) → same t.now w ≡ true → code_in (texts_of (t ∷ ts)) s ≡ 0
  unfolding code_in place_of
  code_here t ts h =
      let g : same t.now (trimmed s) ≡ true = ap (same t.now) (sym e) ∙ h in
      rw g

  pub code_next : (t : Bor (List ℕ)) (ts : List (Bor (List ℕ))) → same t.now w ≡ false → code_in (texts_of (t ∷ ts)) s ≡ code_in (texts_of ts) s + 1
  unfolding code_in place_of
  code_next t ts h =
      let g : same t.now (trimmed s) ≡ false = ap (same t.now) (sym e) ∙ h in
      rw g (omega arith)

  pub code_end : code_in [] s ≡ 0
  unfolding code_in place_of
  code_end = refl

-- the first text that fits is one of them, where there is one
pub told : {X : Type 0} (Yes No : X → Type 0) (xs : List X) (n : ℕ) (r : Option ℕ)
    → MatchOption r (AllWithin No xs 0 (length xs)) (λ i. (i < length xs) × HoldsAt Yes xs i × AllWithin No xs 0 i) → n ≡ unwrap_or r (length xs) → is_some r ≡ ltb n (length xs)
told Yes No xs n None m e = rw e (sym (le-ltb (length xs) (length xs) (omega arith)))
told Yes No xs n (Some i) m e = rw e (sym (lt-ltb i (length xs) m.0))
