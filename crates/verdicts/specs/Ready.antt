-- What a request that is decided may rest on: sound records, and a command whose places and UIDs are in order.
use Rattle.std.specs.Prelude.{ℕ, ◌≤◌, ◌≡◌, true, List, length}
use Rattle.headers.specs.declared.Part.{Part}
use Rattle.uids.specs.Uids.{is_uid}
use Rattle.rules.specs.declared.Core.{Core}
use Rattle.rules.specs.declared.Operation.{Operation}
use Rattle.rules.specs.declared.Operation.TheVariants.{Echo, Create, Set, Act, Delete}
use Rattle.rules.specs.Records.{films_of, shelved, entries_of, queued}
use Rattle.rules.specs.Commands.{uid_at}
use Rattle.rules.specs.Sound.{core_sound}
use Rattle.rules.specs.Layout.{records_size}
use Rattle.records.specs.Places.{core_in}
use Rattle.commands.specs.Within.{PartIn}

-- the rules are kept, and unused places are blank
abbrev pub Ready : Core → Type 0
Ready k = (core_sound k ≡ true) × (shelved (films_of k.shelf) ≡ k.shelf) × (queued (entries_of k.queue) ≡ k.queue)

-- of the records' bytes
abbrev pub ReadyIn : List ℕ → Type 0
ReadyIn b = (records_size ≤ length b) × Ready (core_in b)

-- a place of the command with a UID that keeps PS3.5's rules
abbrev pub UidIn : List ℕ → Part → Type 0
UidIn c p = PartIn (length c) p × (is_uid (uid_at c p) ≡ true)

abbrev pub UidsIn : List ℕ → Operation → Type 0
UidsIn c (Echo r) = UidIn c r.class
UidsIn c (Create r) = UidIn c r.class × PartIn (length c) r.sent
UidsIn c (Set r) = UidIn c r.class × UidIn c r.instance
UidsIn c (Act r) = UidIn c r.class × UidIn c r.instance
UidsIn c (Delete r) = UidIn c r.class × UidIn c r.instance
