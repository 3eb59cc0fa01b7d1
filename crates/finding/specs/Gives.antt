-- What an element gives to the one who looks for its tag.
use Rattle.std.specs.Prelude.{ℕ, Result, Ok, Err}
use Rattle.headers.specs.declared.Head.{Head}
use Rattle.elements.specs.declared.Stop.{Stop}
use Rattle.elements.specs.declared.Found.{Found}
use Rattle.elements.specs.declared.Found.TheVariants.{Missing}
use Rattle.elements.specs.Find.{found}

-- what its header says, if the whole element is read
abbrev pub gives : Result ℕ Stop → Head → Found
gives (Ok q) head = found head
gives (Err stop) head = Missing
