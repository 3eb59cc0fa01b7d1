-- Arrays have their lengths, and the command half collected fits its field, in whatever bytes are unpacked; the input fits its fields after every call.
-- Assumes nothing.
use Prim.Native.Nat.{ℕ, ◌/◌, ◌%◌, ◌≤◌}
use mathlib.Core.Path.{◌≡◌}
use mathlib.Core.Bool.{Bool}
use mathlib.Core.List.{List, ◌++◌}
use mathlib.Core.Option.{Option, none, some}
use native.Mathlib.Omega.{arith}
use lib.Dec.{eqb, leb}
use lib.ListN.{length, get_or, drop, length-take}
use borrow.Author.Tests.{leb-true}
use Rattle.choice.specs.Pick.{pick}
use Rattle.choice.proofs.Picks.{pick_cases}
use Rattle.octets.specs.Octets.{Bytes}
use Rattle.strike.specs.declared.Reading.{Reading}
use Rattle.strike.specs.declared.Reading.TheVariants.{NotReadable, Alone, WithData}
use Rattle.strike.specs.Service.{DataSet, whole, too_long, Result, fails, does, Call, start, opening, feed, close, aside, passes}
use Rattle.strike.specs.Machine as machine
use Rattle.strike.specs.Machine.{command, command_limit, Fragment, dataset, idle, in_command, skipping_command, in_data, skipping_data, Outcome, ignores, waits, drops, asks, Records, control_byte, header_wrong, fragment_in, skips, reads, gathers, overflows, stores, collect, carried_out, fed, checked, step}
use Rattle.rules.specs.Bounds.{most_room, most_films, most_entries, most_sessions}
use Rattle.rules.specs.declared.Name.{Name}
use Rattle.rules.specs.declared.Session.{Session}
use Rattle.rules.specs.declared.Film.{Film}
use Rattle.rules.specs.declared.Shelf.{Shelf}
use Rattle.rules.specs.declared.Entry.{Entry}
use Rattle.rules.specs.declared.Queue.{Queue}
use Rattle.rules.specs.declared.Numbers.{Numbers}
use Rattle.rules.specs.declared.Core.{Core}
use Rattle.rules.specs.declared.Input.{Input}
use Rattle.rules.specs.Layout.{name_format, session_format, layout_format, film_format, shelf_format, entry_format, queue_format, numbers_format, core_format, input_format, state_format, unpack}
use Rattle.rules.specs.Responses.{Reply}
use Rattle.rules.specs.Checks.{decide}
use Rattle.rules.specs.Calls.{taking, handed, printing, reading}
use Rattle.rules.specs.Records.{command_held}
use Rattle.promises.proofs.ListLaws.{Each, each_all, each_append, each_take, each_drop}
use Rattle.promises.proofs.Steps.{step_cases}
use Rattle.promises.proofs.Packed.{state_laws}
use Rattle.promises.proofs.Sized.{NameSized, SessionSized, SessionsSized, FilmSized, ShelfSized, EntrySized, QueueSized, NumbersSized, Sized}
use Rattle.promises.proofs.Good.{Byte, CommandFits, InputFits}
use Rattle.fields.specs.Format.{array}

-- Records that fit their fields have arrays of their lengths.

name_long : (name : Name) → name_format.Good name → NameSized name
unfolding name_format
name_long name g = g.1.1.0

session_long : (s : Session) → session_format.Good s → SessionSized s
unfolding session_format
session_long s g = record { name = name_long s.name (search); label = search }

film_long : (f : Film) → film_format.Good f → FilmSized f
unfolding film_format layout_format
film_long f g = record { name = name_long f.name (search); counts = search; boxes = search }

entry_long : (x : Entry) → entry_format.Good x → EntrySized x
unfolding entry_format
entry_long x g = record { pictures = search; ticket = search; film = name_long x.film (search) }

shelf_long : (shelf : Shelf) → shelf_format.Good shelf → ShelfSized shelf
unfolding shelf_format
shelf_long shelf g =
    let e : length shelf.films ≡ most_films = g.1.0 in
    record {
      films = e;
      each = each_all FilmSized shelf.films film_format.blank (λ i h. film_long (get_or shelf.films i film_format.blank) (g.1.1 i (omega arith)));
    }

queue_long : (q : Queue) → queue_format.Good q → QueueSized q
unfolding queue_format
queue_long q g =
    let e : length q.entries ≡ most_entries = g.1.0 in
    record {
      entries = e;
      each = each_all EntrySized q.entries entry_format.blank (λ i h. entry_long (get_or q.entries i entry_format.blank) (g.1.1 i (omega arith)));
    }

numbers_long : (n : Numbers) → numbers_format.Good n → NumbersSized n
unfolding numbers_format
numbers_long n g = search

sessions_long : (sessions : List Session) → (array most_sessions session_format).Good sessions → SessionsSized sessions
sessions_long sessions g =
    let e : length sessions ≡ most_sessions = g.0 in
    record {
      places = e;
      each = each_all SessionSized sessions session_format.blank (λ i h. session_long (get_or sessions i session_format.blank) (g.1 i (omega arith)));
    }

core_long : (k : Core) → core_format.Good k → Sized k
unfolding core_format
core_long k g = record {
  numbers = numbers_long k.numbers g.0;
  sessions = sessions_long k.sessions g.1.0;
  shelf = shelf_long k.shelf g.1.1.0;
  queue = queue_long k.queue g.1.1.1.0;
}

pub unpacked_good : (b : List ℕ) → Bytes b → state_format.Good (unpack b)
unfolding unpack
unpacked_good b o = state_laws.good b 0 o

-- whatever bytes they are
pub unpacked_sized : (b : List ℕ) → Bytes b → Sized (unpack b).core
unfolding state_format
unpacked_sized b o = core_long (unpack b).core (unpacked_good b o).0

-- The input.

command_held_lem : (i : Input) → input_format.Good i → CommandFits (command_held i)
unfolding input_format
command_held_lem i g =
    let e : length i.command ≡ command_limit = g.1.1.1.0 in
    (simp length-take (omega arith), each_take Byte i.used i.command (each_all Byte i.command 0 (λ j h. g.1.1.1.1 j (omega arith))))

pub unpacked_command : (b : List ℕ) → Bytes b → CommandFits (command_held (unpack b).input)
unfolding state_format
unpacked_command b o = command_held_lem (unpack b).input (unpacked_good b o).1

-- A fragment.

abbrev FragmentFits : Fragment → Type 0
FragmentFits (command last bytes) = Each Byte bytes
FragmentFits (dataset last bytes) = Unit {0}

abbrev OptionFits : Option Fragment → Type 0
OptionFits none = Unit {0}
OptionFits (some f) = FragmentFits f

fragment_fits : (context : ℕ) (bytes : List ℕ) → Each Byte bytes → OptionFits (fragment_in context bytes)
unfolding fragment_in
fragment_fits context bytes h =
    let last = eqb (control_byte bytes / 2 % 2) 1 in
    pick_cases OptionFits (header_wrong context bytes) none _ (λ e. tt)
    (λ e. pick_cases (λ (f : Bool → List ℕ → Fragment). FragmentFits (f last (drop 6 bytes))) (eqb (control_byte bytes % 2) 1) command dataset
    (λ f. each_drop Byte 6 bytes h) (λ f. tt))

abbrev OutcomeFits : Outcome → Type 0
OutcomeFits ignores = Unit {0}
OutcomeFits (waits i) = InputFits i
OutcomeFits drops = Unit {0}
OutcomeFits (asks c d) = Unit {0}

skips_fits : (last : Bool) → OutcomeFits (skips last)
unfolding skips
skips_fits last = pick_cases OutcomeFits last drops (waits skipping_command) (λ e. tt) (λ e. tt)

reads_fits : (r : Reading) (c : List ℕ) → CommandFits c → OutcomeFits (reads r c)
unfolding reads
reads_fits NotReadable c h = tt
reads_fits Alone c h = tt
reads_fits WithData c h = (h, omega arith)

gathers_fits : (c : List ℕ) (last : Bool) → Each Byte c → OutcomeFits (gathers reading c last)
unfolding gathers
gathers_fits c last h =
    pick_cases OutcomeFits (leb (length c) command_limit) (pick last (reads (reading c) c) (waits (in_command c))) (skips last)
    (λ e.
    let fits : CommandFits c = (leb-true (length c) command_limit e, h) in
    pick_cases OutcomeFits last (reads (reading c) c) (waits (in_command c)) (λ f. reads_fits (reading c) c fits) (λ f. fits))
    (λ e. skips_fits last)

overflows_fits : (c : List ℕ) (last : Bool) → CommandFits c → OutcomeFits (overflows c last)
unfolding overflows
overflows_fits c last h = pick_cases OutcomeFits last (asks c too_long) (waits (skipping_data c)) (λ e. tt) (λ e. h)

stores_fits : (room : ℕ) (c d : List ℕ) (last : Bool) → room ≤ most_room → CommandFits c → OutcomeFits (stores room c d last)
unfolding stores
stores_fits room c d last k h =
    pick_cases OutcomeFits (leb (length d) room) (pick last (asks c (whole d)) (waits (in_data c d))) (overflows c last)
    (λ e.
    let short : length d ≤ room = leb-true (length d) room e in
    pick_cases OutcomeFits last (asks c (whole d)) (waits (in_data c d)) (λ f. tt) (λ f. (h, omega arith)))
    (λ e. overflows_fits c last h)

collect_fits : (room : ℕ) (i : machine.Input) (f : Fragment) → room ≤ most_room → InputFits i → FragmentFits f → OutcomeFits (collect reading room i f)
unfolding collect
collect_fits room idle (command last bytes) k h g = gathers_fits bytes last g
collect_fits room (in_data c d) (command last bytes) k h g = gathers_fits bytes last g
collect_fits room (skipping_data c) (command last bytes) k h g = gathers_fits bytes last g
collect_fits room (in_command c) (command last bytes) k h g = gathers_fits (c ++ bytes) last (each_append Byte c bytes h.1 g)
collect_fits room skipping_command (command last bytes) k h g = skips_fits last
collect_fits room (in_command c) (dataset last bytes) k h g = tt
collect_fits room skipping_command (dataset last bytes) k h g = tt
collect_fits room (in_data c d) (dataset last bytes) k h g = stores_fits room c (d ++ bytes) last k h.0
collect_fits room (skipping_data c) (dataset last bytes) k h g = overflows_fits c last h
collect_fits room idle (dataset last bytes) k h g = tt

-- A call.

-- the fragment handed over is of bytes
abbrev pub CallBytes : Call handed → Type 0
CallBytes (start h) = Unit {0}
CallBytes (opening h) = Unit {0}
CallBytes (feed bytes h) = Each Byte bytes
CallBytes close = Unit {0}
CallBytes (aside h) = Unit {0}

answered_fits : (k : Core) (d : DataSet) (r : Result Core Reply) → InputFits (machine.answered printing k d r).records.input
unfolding machine.answered
answered_fits k d (fails r) = tt
answered_fits k d (does m r) = tt

carried_fits : (k : Core) (o : Outcome) → OutcomeFits o → InputFits (carried_out printing k o).records.input
unfolding carried_out
carried_fits k ignores h = tt
carried_fits k (waits i) h = h
carried_fits k drops h = tt
carried_fits k (asks c d) h = answered_fits k d (decide k c d)

fed_fits : (s : Records Core) (f : Option Fragment) → s.core.opened.room ≤ most_room → InputFits s.input → OptionFits f → InputFits (fed printing s f).records.input
unfolding fed
fed_fits s none k h g = tt
fed_fits s (some f) k h g = carried_fits s.core (collect reading s.core.opened.room s.input f) (collect_fits s.core.opened.room s.input f k h g)

passed_fits : (s : Records Core) (c : Call handed) → s.core.opened.room ≤ most_room → InputFits s.input → CallBytes c → InputFits (checked printing passes s c).records.input
unfolding checked
passed_fits s (start a) k h g = tt
passed_fits s (opening a) k h g = tt
passed_fits s (feed bytes a) k h g = fed_fits s (fragment_in s.core.opened.context bytes) k h (fragment_fits s.core.opened.context bytes g)
passed_fits s close k h g = tt
passed_fits s (aside (taking entry)) k h g = h

-- the input fits its fields after every call
pub step_fits : (s : Records Core) (c : Call handed) → s.core.opened.room ≤ most_room → InputFits s.input → CallBytes c → InputFits (step printing s c).records.input
step_fits s c k h g = step_cases (λ (x : Records Core). InputFits x.input) s c h (λ r. passed_fits s c k h g)
