-- Whether a command is well formed, by each test in its turn.
-- Assumes nothing.
use Prim.Native.Nat.{ℕ}
use mathlib.Core.Path.{◌≡◌, ap, sym, ◌∙◌}
use mathlib.Core.Bool.{true, false, false≢true}
use mathlib.Core.List.{List}
use Rattle.choice.specs.Pick.{pick, both}
use Rattle.choice.proofs.Picks.{both_fails, both_assoc}
use Rattle.headers.specs.declared.Syntax.TheVariants.{Implicit}
use Rattle.rules.specs.declared.Command.{Command}
use Rattle.rules.specs.declared.Command.TheVariants.{Unreadable}
use Rattle.elements.specs.Reader.{data_set}
use Rattle.rules.specs.Sound.{readable}
use Rattle.rules.specs.Commands.{is_read, group_zero, length_told, well_formed, request_in, understood}
use Rattle.commands.specs.Places.{whole_command}
use Rattle.commands.specs.Requests.{has_numbers}

-- a command is whole, tells its length, and has its numbers
by_tests : (c : List ℕ) → understood c ≡ pick (both (whole_command c) (both (length_told c) (has_numbers c))) (request_in c) Unreadable
unfolding understood well_formed whole_command has_numbers
by_tests c = ap (λ t. pick t (request_in c) Unreadable) (both_assoc (is_read (data_set c Implicit)) (group_zero c) (both (length_told c) (has_numbers c)))

module _ (c : List ℕ) where
  pub not_whole : whole_command c ≡ false → Unreadable ≡ understood c
  not_whole w = rw (by_tests c, w)

  pub not_told : length_told c ≡ false → Unreadable ≡ understood c
  not_told t = rw (by_tests c, t, both_fails (whole_command c))

  pub not_numbered : has_numbers c ≡ false → Unreadable ≡ understood c
  not_numbered n = rw (by_tests c, n, both_fails (length_told c), both_fails (whole_command c))

  pub asks : whole_command c ≡ true → length_told c ≡ true → has_numbers c ≡ true → request_in c ≡ understood c
  asks w t n = rw (by_tests c, w, t, n)

-- of a command that is unreadable nothing is told of a data set
pub nothing_told : {k u : Command} {A : Type 0} → k ≡ Unreadable → Unreadable ≡ u → (k ≡ u) × (readable k ≡ true → A)
nothing_told e u = (e ∙ u, λ r. absurd (false≢true (sym (ap readable e) ∙ r)))
