-- Where a value stands, and what its bytes say.
-- Assumes nothing.
use Prim.Native.Nat.{ℕ, ◌+◌, ◌*◌}
use mathlib.Core.Path.{◌≡◌, subst, ap, ◌∙◌}
use mathlib.Core.List.{List}
use native.Mathlib.Omega.{arith}
use lib.ListN.{length, get_or, take}
use Rattle.octets.specs.Octets.{number_at}
use Rattle.uids.specs.Uids.{is_uid, unpadded}
use Rattle.uids.proofs.Padding.{unpadded_front}
use Rattle.headers.specs.declared.Syntax.TheVariants.{Implicit}
use Rattle.headers.specs.declared.Part.{Part}
use Rattle.headers.proofs.Within.{Fits}
use Rattle.elements.specs.declared.Found.TheVariants.{Value}
use Rattle.elements.specs.Reader.{data_scope}
use Rattle.elements.proofs.Within.{FoundIn}
use Rattle.elements.proofs.Laws.{find_within}
use Rattle.rules.specs.Commands.{in_command}

-- a value that is found stands behind a header, within the command
pub value_in : (c : List ℕ) (tag : ℕ) {p : Part} → in_command c tag ≡ Value p → Fits 8 p.from p.stop (length c)
value_in c tag e = subst (FoundIn 8 (length c)) e (find_within c (data_scope c Implicit) tag (omega arith))

-- a number of two bytes, byte by byte
pub two_bytes : (s : List ℕ) (at : ℕ) → get_or s at 0 + 256 * get_or s (at + 1) 0 ≡ number_at 2 s at
unfolding number_at
two_bytes s at = omega arith

-- a UID is read without its padding
pub uid_of_lem : (v : List ℕ) (n : ℕ) → n ≡ length (unpadded v) → is_uid (take n v) ≡ is_uid (unpadded v)
uid_of_lem v n h = ap (λ k. is_uid (take k v)) h ∙ ap is_uid (unpadded_front v)
