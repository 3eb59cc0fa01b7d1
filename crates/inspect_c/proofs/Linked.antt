-- What is known of a call that C made: what the export's own contract, as it stands in the source, tells whoever called it. It is what
-- the library's function tells, and what the definition says. Assumes nothing.
use mathlib.Core.Path.{◌≡◌}
use mathlib.Core.List.{List}
use Prim.Native.Nat.{ℕ}
use contract.Lifetimes.{Lfts}
use denote.Ref.{Bor, MutBor}
use Rattle.inspect.specs.Inspected.{inspected}
use Rattle.inspect.proofs.inspect_data_set.Reads as library
use Rattle.inspect_c.proofs.inspect_data_set.Reads as linked

-- for some lifetimes and places of the buffers, of which the one that is written stays where it is
module _ (lifetimes : Lfts 2) (data_set : Bor (List ℕ)) (syntax : ℕ) (before after : MutBor (List ℕ)) (r : ℕ) where
  -- It is the contract's one text: delete or weaken the `ensures` of the source, and this is refused.
  pub tells_the_same :
      linked.Learnt lifetimes (data_set, (syntax, (before, tt))) r (data_set, (syntax, (after, tt)))
      → library.Learnt lifetimes (data_set, (syntax, (before, tt))) r (data_set, (syntax, (after, tt)))
  tells_the_same told = told

  pub tells :
      linked.Learnt lifetimes (data_set, (syntax, (before, tt))) r (data_set, (syntax, (after, tt)))
      → (r ≡ (inspected data_set.now syntax before.now).answer) × (after.now ≡ (inspected data_set.now syntax before.now).reading)
  tells told = told
