-- What a list holds under each of several tags.
use Rattle.std.specs.Prelude.{ℕ, zero, suc, ◌<◌, ◌≡◌, Bool, true, List, ltb, get_or}
use Rattle.choice.specs.Pick.{both}
use Rattle.headers.specs.declared.Scope.{Scope}
use Rattle.elements.specs.declared.Found.{Found}
use Rattle.elements.specs.declared.Found.TheVariants.{Missing}
use Rattle.elements.specs.Find.{find_at}

-- the first n tags ascend
unfoldable pub ascending : List ℕ → ℕ → Bool
ascending tags zero = true
ascending tags (suc zero) = true
ascending tags (suc (suc n)) = both (ascending tags (suc n)) (ltb (get_or tags n 0) (get_or tags (suc n) 0))

-- under each of the first n tags
abbrev pub Gathered : List ℕ → Scope → List ℕ → ℕ → List Found → Type 0
Gathered s scope tags n founds = (i : ℕ) → i < n → get_or founds i Missing ≡ find_at s scope (get_or tags i 0)
