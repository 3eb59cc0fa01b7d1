-- The request of each field, as the book's `request_in` has it.
use Rattle.std.specs.Prelude.{ℕ, Bool, List, ltb}
use Rattle.choice.specs.Pick.{pick, both}
use Rattle.rules.specs.declared.Command.{Command}
use Rattle.rules.specs.declared.Command.TheVariants.{Unreadable}
use Rattle.rules.specs.declared.Target.{Target}
use Rattle.rules.specs.declared.Operation.{Operation}
use Rattle.rules.specs.declared.Operation.TheVariants.{Echo, Create, Set, Act, Delete}
use Rattle.rules.specs.Commands.{in_command, placed, has_number, number_in, has_uid, field, known, affected, requested, requested_instance, has_target}

-- the numbers that every request has, and a field that is a request's
unfoldable pub has_numbers : List ℕ → Bool
has_numbers c = both (has_number c 0x0000_0100) (both (has_number c 0x0000_0110) (both (has_number c 0x0000_0800) (ltb (field c) 0x8000)))

unfoldable pub known_as : List ℕ → Operation → Command
known_as c operation = known c operation

unfoldable pub target_in : List ℕ → Target
target_in c = record { class = requested c; instance = requested_instance c }

unfoldable pub echo_in : List ℕ → Command
echo_in c = pick (has_uid c 0x0000_0002) (known c (Echo (record { class = affected c }))) Unreadable

unfoldable pub creation_in : List ℕ → Command
creation_in c = pick (has_uid c 0x0000_0002) (known c (Create (record { class = affected c; sent = placed (in_command c 0x0000_1000) }))) Unreadable

unfoldable pub setting_in : List ℕ → Command
setting_in c = pick (has_target c) (known c (Set (record { class = requested c; instance = requested_instance c }))) Unreadable

unfoldable pub action_in : List ℕ → Command
action_in c =
    pick (both (has_target c) (has_number c 0x0000_1008))
    (known c (Act (record { class = requested c; instance = requested_instance c; kind = number_in c 0x0000_1008 })))
    Unreadable

unfoldable pub deletion_in : List ℕ → Command
deletion_in c = pick (has_target c) (known c (Delete (record { class = requested c; instance = requested_instance c }))) Unreadable
