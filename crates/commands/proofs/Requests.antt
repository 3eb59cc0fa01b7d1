-- What a command says, by what the code tells of it on its way: `search` finds the way that a return took.
-- Assumes nothing.
use Prim.Native.Nat.{ℕ}
use mathlib.Core.Path.{◌≡◌, ◌∙◌}
use mathlib.Core.Bool.{Bool, true, false}
use mathlib.Core.List.{List}
use native.Mathlib.Omega.{arith}
use lib.Dec.{eqb, ltb}
use lib.ListN.{get_or}
use borrow.Author.Tests.{eq-eqb, ne_eqb}
use Rattle.octets.specs.Octets.{number_at}
use Rattle.headers.specs.declared.Part.{Part}
use Rattle.rules.specs.declared.Command.{Command}
use Rattle.rules.specs.declared.Command.TheVariants.{Unreadable, Unknown}
use Rattle.rules.specs.declared.Operation.TheVariants.{Act}
use Rattle.rules.specs.Commands.{no_part, size, field, has_target, request_in}
use Rattle.commands.specs.Places.{slot_of, Holds}
use Rattle.commands.specs.Requests.{has_numbers, known_as, echo_in, creation_in, setting_in, action_in, deletion_in}
use Rattle.commands.proofs.Held.{held_size, held_number}

module _ {c : List ℕ} {places : List Part} (held : Holds c places) where
  abbrev Sized : Bool → ℕ → Type 0
  Sized test i = test ≡ eqb (size (get_or places i no_part)) 2

  abbrev Read : ℕ → ℕ → Type 0
  Read n i = n ≡ number_at 2 c (get_or places i no_part).from

  -- the numbers of every request
  module _ (f : Bool) (has-f : Sized f 3) where
    pub field_lacks : f ≡ false → false ≡ has_numbers c
    unfolding has_numbers slot_of
    field_lacks h = simp (← (has-f ∙ held_size held 0x0000_0100 (omega arith)), h)

    module _ (f-is : f ≡ true) (m : Bool) (has-m : Sized m 4) where
      pub message_lacks : m ≡ false → false ≡ has_numbers c
      unfolding has_numbers slot_of
      message_lacks h = simp (← (has-f ∙ held_size held 0x0000_0100 (omega arith)), f-is, ← (has-m ∙ held_size held 0x0000_0110 (omega arith)), h)

      module _ (m-is : m ≡ true) (d : Bool) (has-d : Sized d 5) where
        pub type_lacks : d ≡ false → false ≡ has_numbers c
        unfolding has_numbers slot_of
        type_lacks h =
            simp (← (has-f ∙ held_size held 0x0000_0100 (omega arith)), f-is, ← (has-m ∙ held_size held 0x0000_0110 (omega arith)), m-is, ← (has-d ∙ held_size held 0x0000_0800 (omega arith)), h)

        pub field_decides : d ≡ true → (n : ℕ) → Read n 3 → ltb n 0x8000 ≡ has_numbers c
        unfolding has_numbers slot_of
        field_decides h n e =
            simp (← (has-f ∙ held_size held 0x0000_0100 (omega arith)), f-is, ← (has-m ∙ held_size held 0x0000_0110 (omega arith)), m-is, ← (has-d ∙ held_size held 0x0000_0800 (omega arith)), h, ← (e ∙ held_number held 0x0000_0100 (omega arith)))

  -- an N-ACTION
  module _ (t : Bool) (has-t : t ≡ has_target c) where
    pub target_lacks : t ≡ false → Unreadable ≡ action_in c
    unfolding action_in
    target_lacks h = simp (← has-t, h)

    module _ (t-is : t ≡ true) (s : Bool) (has-s : Sized s 8) where
      pub kind_lacks : s ≡ false → Unreadable ≡ action_in c
      unfolding action_in slot_of
      kind_lacks h = simp (← has-t, t-is, ← (has-s ∙ held_size held 0x0000_1008 (omega arith)), h)

      pub action_known : s ≡ true → (n : ℕ) → Read n 8 → (r : Command) → r ≡ known_as c (Act (record { class = get_or places 2 no_part; instance = get_or places 7 no_part; kind = n })) → r ≡ action_in c
      unfolding action_in known_as slot_of
      action_known h n e r k =
          k ∙ simp (← has-t, t-is, ← (has-s ∙ held_size held 0x0000_1008 (omega arith)), h)
          (simp (← (e ∙ held_number held 0x0000_1008 (omega arith)), ← (held.each 0x0000_0003 (omega arith)), ← (held.each 0x0000_1001 (omega arith))))

  -- the request, by its field
  module _ (n : ℕ) (told : Read n 3) where
    is_field : n ≡ field c
    unfolding slot_of
    is_field = told ∙ held_number held 0x0000_0100 (omega arith)

    module _ (r : Command) where
      pub asks_echo : n ≡ 0x0030 → r ≡ echo_in c → r ≡ request_in c
      unfolding request_in echo_in
      asks_echo e k = k ∙ simp (← is_field, eq-eqb n 0x0030 e)

      pub asks_creation : n ≡ 0x0140 → r ≡ creation_in c → r ≡ request_in c
      unfolding request_in creation_in
      asks_creation e k = k ∙ simp (← is_field, e)

      pub asks_setting : n ≡ 0x0120 → r ≡ setting_in c → r ≡ request_in c
      unfolding request_in setting_in
      asks_setting e k = k ∙ simp (← is_field, e)

      pub asks_action : n ≡ 0x0130 → r ≡ action_in c → r ≡ request_in c
      unfolding request_in action_in
      asks_action e k = k ∙ simp (← is_field, e)

      pub asks_deletion : n ≡ 0x0150 → r ≡ deletion_in c → r ≡ request_in c
      unfolding request_in deletion_in
      asks_deletion e k = k ∙ simp (← is_field, e)

    pub asks_other : (n ≡ 0x0030 → ⊥) → (n ≡ 0x0140 → ⊥) → (n ≡ 0x0120 → ⊥) → (n ≡ 0x0130 → ⊥) → (n ≡ 0x0150 → ⊥) → (m : ℕ) → Read m 4 → Unknown m n ≡ request_in c
    unfolding request_in slot_of
    asks_other e1 e2 e3 e4 e5 m k =
        simp (← is_field, ne_eqb n 0x0030 e1, ne_eqb n 0x0140 e2, ne_eqb n 0x0120 e3, ne_eqb n 0x0130 e4, ne_eqb n 0x0150 e5, ← (k ∙ held_number held 0x0000_0110 (omega arith)))

pub ruleset numbers = (field_lacks, message_lacks, type_lacks, field_decides)

pub ruleset actions = (target_lacks, kind_lacks, action_known)

pub ruleset requests = (asks_echo, asks_creation, asks_setting, asks_action, asks_deletion, asks_other)
