-- What was found under a tag: its bytes, how badly it stands, and what it gives.
use Rattle.std.specs.Prelude.{ℕ, ◌≤◌, Bool, List, length}
use Rattle.choice.specs.Pick.{pick}
use Rattle.elements.specs.declared.Found.{Found}
use Rattle.rules.specs.Values.{blank}
use Rattle.rules.specs.Commands.{placed, bytes_of}
use Rattle.standings.specs.Severity.{kind_of, severity_by, optional_by, given_by}

-- what was found lies within the bytes
abbrev pub Placed : List ℕ → Found → Type 0
Placed d found = ((placed found).from ≤ (placed found).stop) × ((placed found).stop ≤ length d)

-- its bytes, none where it is no value
abbrev pub bytes_found : List ℕ → Found → List ℕ
bytes_found d found = bytes_of d (placed found)

-- how badly a mandatory attribute stands that was found so
abbrev pub mandatory_found : (List ℕ → Bool) → (List ℕ → Bool) → List ℕ → Found → ℕ
mandatory_found is_empty allowed d found = severity_by (kind_of found) (is_empty (bytes_found d found)) (allowed (bytes_found d found))

-- an optional one
abbrev pub optional_found : (List ℕ → Bool) → List ℕ → Found → ℕ
optional_found allowed d found = optional_by (kind_of found) (blank (bytes_found d found)) (allowed (bytes_found d found))

-- what it gives, or what is kept where it is absent
abbrev pub found_or : {A : Type 0} → (List ℕ → A) → List ℕ → Found → A → A
found_or read d found kept = pick (given_by (kind_of found) (blank (bytes_found d found))) (read (bytes_found d found)) kept
