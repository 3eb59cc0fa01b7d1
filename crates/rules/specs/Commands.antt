-- Requests, rules 6.12 to 6.17: readable commands, and the request that one is.
use Rattle.std.specs.Prelude.{ℕ, ◌-◌, Bool, true, false, List, eqb, ltb, length, Result, Ok, Err}
use Rattle.choice.specs.Pick.{pick, both, not}
use Rattle.octets.specs.Octets.{number_at, part}
use Rattle.uids.specs.Uids.{is_uid, unpadded}
use Rattle.headers.specs.declared.Syntax.TheVariants.{Implicit}
use Rattle.headers.specs.declared.Part.{Part}
use Rattle.headers.specs.Header.{tag_at}
use Rattle.elements.specs.declared.Stop.{Stop}
use Rattle.elements.specs.declared.Found.{Found}
use Rattle.elements.specs.declared.Found.TheVariants.{Missing, Value, Sequence}
use Rattle.elements.specs.Reader.{start, whole, data_set, data_scope}
use Rattle.elements.specs.Find.{elements_from, find_at}
use Rattle.rules.specs.declared.Operation.{Operation}
use Rattle.rules.specs.declared.Operation.TheVariants.{Echo, Create, Set, Act, Delete}
use Rattle.rules.specs.declared.Command.{Command}
use Rattle.rules.specs.declared.Command.TheVariants.{Unreadable, Unknown, Known}
use Rattle.rules.specs.Lists.{every}

-- "Command sets are implicit VR little endian."
abbrev pub in_command : List ℕ → ℕ → Found
in_command c tag = find_at c (data_scope c Implicit) tag

abbrev pub no_part : Part
no_part = record { from = 0; stop = 0 }

-- where a value stands; nowhere where there is none
abbrev pub placed : Found → Part
placed Missing = no_part
placed (Value p) = p
placed (Sequence inside) = no_part

abbrev pub size : Part → ℕ
size p = p.stop - p.from

unfoldable pub bytes_of : List ℕ → Part → List ℕ
bytes_of s p = part s p.from p.stop

unfoldable pub uid_at : List ℕ → Part → List ℕ
uid_at s p = unpadded (bytes_of s p)

-- a number of 2 bytes is there
abbrev pub has_number : List ℕ → ℕ → Bool
has_number c tag = eqb (size (placed (in_command c tag))) 2

abbrev pub number_in : List ℕ → ℕ → ℕ
number_in c tag = number_at 2 c (placed (in_command c tag)).from

-- a UID is there that keeps PS3.5's rules
abbrev pub has_uid : List ℕ → ℕ → Bool
has_uid c tag = is_uid (uid_at c (placed (in_command c tag)))

abbrev pub is_read : Result ℕ Stop → Bool
is_read (Ok q) = true
is_read (Err stop) = false

-- "elements all in group 0000"
unfoldable pub group_zero : List ℕ → Bool
group_zero c = every (λ m. ltb (tag_at c m.at) 65536) (elements_from c (data_scope c Implicit) (start (whole c)))

-- "the first (0000,0000) equal to the bytes after it"
unfoldable pub length_told : List ℕ → Bool
length_told c = both (eqb (size (placed (in_command c 0x0000_0000))) 4) (eqb (number_at 4 c (placed (in_command c 0x0000_0000)).from) (length c - 12))

abbrev pub field : List ℕ → ℕ
field c = number_in c 0x0000_0100

abbrev pub message_id : List ℕ → ℕ
message_id c = number_in c 0x0000_0110

-- "Field 8000H and above: unreadable."
unfoldable pub well_formed : List ℕ → Bool
well_formed c =
    both (is_read (data_set c Implicit))
    (both (group_zero c)
    (both (length_told c)
    (both (has_number c 0x0000_0100)
    (both (has_number c 0x0000_0110)
    (both (has_number c 0x0000_0800) (ltb (field c) 0x8000))))))

-- "Data Set Type" 0101H: no data set comes
unfoldable pub has_data : List ℕ → Bool
has_data c = not (eqb (number_in c 0x0000_0800) 0x0101)

abbrev pub known : List ℕ → Operation → Command
known c operation = Known (record { message = message_id c; operation = operation })

abbrev pub affected : List ℕ → Part
affected c = placed (in_command c 0x0000_0002)

abbrev pub requested : List ℕ → Part
requested c = placed (in_command c 0x0000_0003)

abbrev pub requested_instance : List ℕ → Part
requested_instance c = placed (in_command c 0x0000_1001)

-- the class and the instance that N-SET, N-ACTION and N-DELETE need
abbrev pub has_target : List ℕ → Bool
has_target c = both (has_uid c 0x0000_0003) (has_uid c 0x0000_1001)

-- the request, by its field
unfoldable pub request_in : List ℕ → Command
request_in c =
    pick (eqb (field c) 0x0030)
    (pick (has_uid c 0x0000_0002) (known c (Echo (record { class = affected c }))) Unreadable)
    (pick (eqb (field c) 0x0140)
    (pick (has_uid c 0x0000_0002) (known c (Create (record { class = affected c; sent = placed (in_command c 0x0000_1000) }))) Unreadable)
    (pick (eqb (field c) 0x0120)
    (pick (has_target c) (known c (Set (record { class = requested c; instance = requested_instance c }))) Unreadable)
    (pick (eqb (field c) 0x0130)
    (pick (both (has_target c) (has_number c 0x0000_1008))
    (known c (Act (record { class = requested c; instance = requested_instance c; kind = number_in c 0x0000_1008 })))
    Unreadable)
    (pick (eqb (field c) 0x0150)
    (pick (has_target c) (known c (Delete (record { class = requested c; instance = requested_instance c }))) Unreadable)
    (Unknown (message_id c) (field c))))))

-- what a whole command set says
unfoldable pub understood : List ℕ → Command
understood c = pick (well_formed c) (request_in c) Unreadable
