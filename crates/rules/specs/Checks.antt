-- Requests, rules 6.1 to 6.11, 6.18 to 6.22: status checks 1 to 11, first that applies, and what is done where none of 1 to 10 does.
use Rattle.std.specs.Prelude.{ℕ, Bool, true, false, List, [], ◌∷◌, ◌++◌, eqb, ltb, length, Some, None, Ok, Err}
use Rattle.std.specs.Prelude as std
use Rattle.std.proofs.Math.Option.{Option, none, some}
use Rattle.choice.specs.Pick.{pick, both, either, not}
use Rattle.choice.specs.Rules.{Rule, ◌⇒◌, first_or}
use Rattle.octets.specs.Octets.{same}
use Rattle.uids.specs.Uids.{is_uid, begins_with}
use Rattle.headers.specs.declared.Syntax.{Syntax}
use Rattle.headers.specs.declared.Part.{Part}
use Rattle.elements.specs.declared.Stop.{Stop}
use Rattle.elements.specs.Reader.{data_set}
use Rattle.strike.specs.declared.Came.{Came}
use Rattle.strike.specs.declared.Came.TheVariants.{Absent, Whole, TooLong}
use Rattle.strike.specs.Service.{DataSet, Result, fails, does}
use Rattle.rules.specs.declared.ImageBox.{ImageBox}
use Rattle.rules.specs.declared.Film.{Film}
use Rattle.rules.specs.declared.Name.{Name}
use Rattle.rules.specs.declared.Core.{Core}
use Rattle.rules.specs.declared.NewBoxes.{NewBoxes}
use Rattle.rules.specs.declared.Verdict.{Verdict}
use Rattle.rules.specs.declared.Class.{Class}
use Rattle.rules.specs.declared.Class.TheVariants.{Verification, Sessions, Films, Boxes, UnknownClass}
use Rattle.rules.specs.declared.Operation.{Operation}
use Rattle.rules.specs.declared.Operation.TheVariants.{Echo, Create, Set, Act, Delete}
use Rattle.rules.specs.declared.Request.{Request}
use Rattle.rules.specs.declared.Command.{Command}
use Rattle.rules.specs.declared.Command.TheVariants.{Unreadable, Unknown, Known}
use Rattle.rules.specs.Bounds.{most_films}
use Rattle.rules.specs.Text.{verification_class, session_class, film_class, box_class}
use Rattle.rules.specs.Lists.{every, any, apart}
use Rattle.rules.specs.declared.Instance.{Instance}
use Rattle.rules.specs.declared.Instance.TheVariants.{Nobody, TheSession, TheFilm, TheBox}
use Rattle.rules.specs.Records.{box_count, boxes_of, films_of, root_of, uid_of, is_live, syntax_in, named, no_name, sent_name, instance_of, films_under, sessions_of}
use Rattle.rules.specs.Commands.{size, uid_at, understood}
use Rattle.rules.specs.declared.Image.{Image}
use Rattle.rules.specs.Attributes.{Listing, listing_of, attribute_rules, session_standings, film_create_standings, film_set_standings, box_standings, image_in, is_fill, pixels}
use Rattle.rules.specs.declared.Note.{Note}
use Rattle.rules.specs.declared.Note.TheVariants.{NoNote, FilmsQueued, PictureAt, StoppedAt}
use Rattle.rules.specs.Responses.{Says, Reply, reply, data_set_of}
use Rattle.rules.specs.Effects.{own_serials, name_from, too_few_serials, no_picture_left, session_created, new_film, film_serials, film_created, session_set, film_at, film_set, box_set, session_deleted, film_deleted, printed, filled_boxes, none_filled, queue_room}

-- Classes.

unfoldable pub class_of : List ℕ → Class
class_of uid =
    pick (same uid verification_class) Verification
    (pick (same uid session_class) Sessions
    (pick (same uid film_class) Films
    (pick (same uid box_class) Boxes UnknownClass)))

abbrev pub is_unknown : Class → Bool
is_unknown Verification = false
is_unknown Sessions = false
is_unknown Films = false
is_unknown Boxes = false
is_unknown UnknownClass = true

-- "session, film: the four N; image box: N-SET; Verification: C-ECHO"
abbrev pub offers : Class → Operation → Bool
offers Verification (Echo r) = true
offers Verification (Create r) = false
offers Verification (Set r) = false
offers Verification (Act r) = false
offers Verification (Delete r) = false
offers Sessions (Echo r) = false
offers Sessions (Create r) = true
offers Sessions (Set r) = true
offers Sessions (Act r) = true
offers Sessions (Delete r) = true
offers Films (Echo r) = false
offers Films (Create r) = true
offers Films (Set r) = true
offers Films (Act r) = true
offers Films (Delete r) = true
offers Boxes (Echo r) = false
offers Boxes (Create r) = false
offers Boxes (Set r) = true
offers Boxes (Act r) = false
offers Boxes (Delete r) = false
offers UnknownClass o = false

abbrev pub class_part : Operation → Part
class_part (Echo r) = r.class
class_part (Create r) = r.class
class_part (Set r) = r.class
class_part (Act r) = r.class
class_part (Delete r) = r.class

-- Data sets.

abbrev pub is_too_long : Came → Bool
is_too_long Absent = false
is_too_long Whole = false
is_too_long TooLong = true

-- what the reader says of a data set; there is nothing to read where none came, or it was not kept
abbrev pub reading_of : Syntax → Came → List ℕ → std.Result ℕ Stop
reading_of syntax Absent d = Ok 0
reading_of syntax Whole d = data_set d syntax
reading_of syntax TooLong d = Ok 0

-- Checks 2 to 4.

unfoldable pub general_rules : List ℕ → Came → Operation → List Rule
general_rules c came o =
    (is_unknown (class_of (uid_at c (class_part o))) ⇒ 0x0118)
    ∷ (not (offers (class_of (uid_at c (class_part o))) o) ⇒ 0x0211)
    ∷ (is_too_long came ⇒ 0x0213)
    ∷ []

-- Check 6.

abbrev pub is_nobody : Instance → Bool
is_nobody Nobody = true
is_nobody TheSession = false
is_nobody (TheFilm i) = false
is_nobody (TheBox i j) = false

abbrev pub of_class : Class → Instance → Bool
of_class Verification x = false
of_class Sessions Nobody = false
of_class Sessions TheSession = true
of_class Sessions (TheFilm i) = false
of_class Sessions (TheBox i j) = false
of_class Films Nobody = false
of_class Films TheSession = false
of_class Films (TheFilm i) = true
of_class Films (TheBox i j) = false
of_class Boxes Nobody = false
of_class Boxes TheSession = false
of_class Boxes (TheFilm i) = false
of_class Boxes (TheBox i j) = true
of_class UnknownClass x = false

-- the UID sent with N-CREATE; "an empty one is not sent"
abbrev pub is_sent : Part → Bool
is_sent p = not (eqb (size p) 0)

unfoldable pub create_rules : Core → List ℕ → Part → List Rule
create_rules k c sent =
    (both (is_sent sent) (either (not (is_uid (uid_at c sent))) (begins_with (root_of k.numbers) (uid_at c sent))) ⇒ 0x0117)
    ∷ (both (is_sent sent) (not (is_nobody (named k (uid_at c sent)))) ⇒ 0x0111)
    ∷ []

unfoldable pub target_rules : Core → List ℕ → Part → Part → List Rule
target_rules k c class instance =
    (is_nobody (named k (uid_at c instance)) ⇒ 0x0112)
    ∷ (not (of_class (class_of (uid_at c class)) (named k (uid_at c instance))) ⇒ 0x0119)
    ∷ []

-- Checks 8 and 9.

-- "second session, ninth film, or too few serials"
abbrev pub new_session_rules : Core → List ℕ → Listing → List Rule
new_session_rules k sent l =
    attribute_rules (session_standings l)
    ++ ((every is_live (sessions_of k) ⇒ 0x0213) ∷ (too_few_serials k.numbers (own_serials sent) ⇒ 0x0213) ∷ [])

abbrev pub new_film_rules : Core → List ℕ → Listing → List Rule
new_film_rules k sent l =
    attribute_rules (film_create_standings k l)
    ++ ((eqb (length (films_of k.shelf)) most_films ⇒ 0x0213) ∷ (too_few_serials k.numbers (film_serials sent l) ⇒ 0x0213) ∷ [])

abbrev pub box_rules : Core → ℕ → Listing → List Rule
box_rules k i l =
    attribute_rules (box_standings (box_count (film_at k i).layout) l)
    ++ ((both (is_fill (image_in l)) (no_picture_left k.numbers) ⇒ 0x0213) ∷ [])

-- Check 10.

abbrev pub same_position : ImageBox → ImageBox → Bool
same_position a b = eqb a.position b.position

-- "two filled boxes of one film at one position"
abbrev pub collides : Film → Bool
collides f = not (apart same_position (filled_boxes (boxes_of f)))

abbrev pub session_print_rules : Core → ℕ → List Rule
session_print_rules k i =
    (eqb (length (films_under i k.shelf)) 0 ⇒ 0xC600)
    ∷ (any collides (films_under i k.shelf) ⇒ 0xC604)
    ∷ (ltb (queue_room k) (length (films_under i k.shelf)) ⇒ 0xC601)
    ∷ []

abbrev pub film_print_rules : Core → ℕ → List Rule
film_print_rules k i =
    (collides (film_at k i) ⇒ 0xC604)
    ∷ (ltb (queue_room k) 1 ⇒ 0xC602)
    ∷ []

-- What is done, and check 11.

abbrev pub quietly : Core → Name → Verdict
quietly k name = record { done = true; status = 0x0000; core = k; instance = name; note = NoNote; contents = None }

abbrev pub printed_with : Core → ℕ → List Film → Name → Verdict
printed_with k warning printing name = record {
  done = true;
  status = pick (any none_filled printing) warning 0x0000;
  core = printed k printing;
  instance = name;
  note = FilmsQueued (length printing);
  contents = None;
}

-- the rules of an operation on what it names, and what it comes to where none is broken
pub record Plan : Type 0 where
  pub rules : List Rule
  pub verdict : Verdict

abbrev pub nothing : Core → Plan
nothing k = record { rules = []; verdict = quietly k no_name }

abbrev pub sent_uid : List ℕ → Part → List ℕ
sent_uid c sent = pick (is_sent sent) (uid_at c sent) []

abbrev pub new_uid : Core → List ℕ → List ℕ
new_uid k sent = uid_of k.numbers (name_from k.numbers sent)

abbrev pub boxes_in : Film → std.Option NewBoxes
boxes_in f = Some (record { first = f.first.0; count = box_count f.layout })

unfoldable pub create_plan : Core → Class → List ℕ → Listing → Plan
create_plan k Verification sent l = nothing k
create_plan k Sessions sent l = record {
  rules = new_session_rules k sent l;
  verdict = quietly (session_created k sent l) (name_from k.numbers sent);
}
create_plan k Films sent l = record {
  rules = new_film_rules k sent l;
  verdict = record {
    done = true;
    status = 0x0000;
    core = film_created k sent l;
    instance = name_from k.numbers sent;
    note = NoNote;
    contents = boxes_in (new_film k sent l);
  };
}
create_plan k Boxes sent l = nothing k
create_plan k UnknownClass sent l = nothing k

abbrev pub image_note : Core → Listing → Image → Note
image_note k l image = pick (is_fill image) (PictureAt k.numbers.picture (pixels l image).from (size (pixels l image))) NoNote

unfoldable pub set_plan : Core → Instance → Name → Listing → Plan
set_plan k Nobody name l = nothing k
set_plan k TheSession name l = record {
  rules = attribute_rules (session_standings l);
  verdict = quietly (session_set k 0 l) name;
}
set_plan k (TheFilm i) name l = record {
  rules = attribute_rules (film_set_standings l);
  verdict = quietly (film_set k i l) name;
}
set_plan k (TheBox i j) name l = record {
  rules = box_rules k i l;
  verdict = record {
    done = true;
    status = 0x0000;
    core = box_set k i j l;
    instance = name;
    note = image_note k l (image_in l);
    contents = None;
  };
}

unfoldable pub action_plan : Core → Instance → Name → Plan
action_plan k Nobody name = nothing k
action_plan k TheSession name = record {
  rules = session_print_rules k 0;
  verdict = printed_with k 0xB602 (films_under 0 k.shelf) name;
}
action_plan k (TheFilm i) name = record {
  rules = film_print_rules k i;
  verdict = printed_with k 0xB603 (film_at k i ∷ []) name;
}
action_plan k (TheBox i j) name = nothing k

unfoldable pub delete_plan : Core → Instance → Name → Plan
delete_plan k Nobody name = nothing k
delete_plan k TheSession name = record { rules = []; verdict = quietly (session_deleted k 0) name }
delete_plan k (TheFilm i) name = record { rules = []; verdict = quietly (film_deleted k i) name }
delete_plan k (TheBox i j) name = nothing k

abbrev pub also : List Rule → Plan → Plan
also rules p = record { rules = rules ++ p.rules; verdict = p.verdict }

-- Checks 6 to 11, by the operation; N-CREATE or N-SET without data set is as with an empty one.
unfoldable pub plan_of : Core → List ℕ → List ℕ → Operation → Plan
plan_of k c d (Echo r) = nothing k
plan_of k c d (Create r) =
    also (create_rules k c r.sent)
    (create_plan k (class_of (uid_at c r.class)) (sent_uid c r.sent) (listing_of d (syntax_in k)))
plan_of k c d (Set r) =
    also (target_rules k c r.class r.instance)
    (set_plan k (named k (uid_at c r.instance)) (sent_name (uid_at c r.instance)) (listing_of d (syntax_in k)))
plan_of k c d (Act r) =
    also (target_rules k c r.class r.instance ++ ((not (eqb r.kind 1) ⇒ 0x0123) ∷ []))
    (action_plan k (named k (uid_at c r.instance)) (sent_name (uid_at c r.instance)))
plan_of k c d (Delete r) =
    also (target_rules k c r.class r.instance)
    (delete_plan k (named k (uid_at c r.instance)) (sent_name (uid_at c r.instance)))

-- What a request comes to.

-- "a failed create leaves it out if none was sent .. or it breaks PS3.5; C-ECHO has none"
abbrev pub sent_or_none : List ℕ → Part → Name
sent_or_none c sent = pick (both (is_sent sent) (is_uid (uid_at c sent))) (sent_name (uid_at c sent)) no_name

abbrev pub failed_name : List ℕ → Operation → Name
failed_name c (Echo r) = no_name
failed_name c (Create r) = sent_or_none c r.sent
failed_name c (Set r) = sent_name (uid_at c r.instance)
failed_name c (Act r) = sent_name (uid_at c r.instance)
failed_name c (Delete r) = sent_name (uid_at c r.instance)

-- a failure changes no record, and may have a note
abbrev pub failed : Core → List ℕ → Request → Note → ℕ → Verdict
failed k c r note status = record {
  done = false;
  status = status;
  core = k;
  instance = failed_name c r.operation;
  note = note;
  contents = None;
}

-- the first rule that is broken fails, and where none is the plan holds
abbrev pub decided_by : Core → List ℕ → Request → Plan → Verdict
decided_by k c r plan = first_or (failed k c r NoNote) plan.rules plan.verdict

-- Check 5: a data set that is not read fails, and the note says where the reading stopped
abbrev pub unless_stopped : Core → List ℕ → Request → std.Result ℕ Stop → Verdict → Verdict
unless_stopped k c r (Ok q) v = v
unless_stopped k c r (Err stop) v = failed k c r (StoppedAt stop) 0x0110

unfoldable pub decide_request : Core → List ℕ → DataSet → Request → Verdict
decide_request k c d r =
    first_or (failed k c r NoNote) (general_rules c d.came r.operation)
    (unless_stopped k c r (reading_of (syntax_in k) d.came d.bytes) (decided_by k c r (plan_of k c d.bytes r.operation)))

-- The response.

abbrev pub field_of : Operation → ℕ
field_of (Echo r) = 0x0030
field_of (Create r) = 0x0140
field_of (Set r) = 0x0120
field_of (Act r) = 0x0130
field_of (Delete r) = 0x0150

abbrev pub action_of : Operation → Option ℕ
action_of (Echo r) = none
action_of (Create r) = none
action_of (Set r) = none
action_of (Act r) = some r.kind
action_of (Delete r) = none

abbrev pub says : List ℕ → Request → Option (List ℕ) → Says
says c r instance = record {
  class = some (uid_at c (class_part r.operation));
  field = field_of r.operation;
  message = r.message;
  instance = instance;
  action = action_of r.operation;
}

-- "An unknown field's response has no class, instance or action."
abbrev pub says_unknown : ℕ → ℕ → Says
says_unknown message field = record { class = none; field = field; message = message; instance = none; action = none }

abbrev pub reply_to : Core → List ℕ → Request → Verdict → Reply
reply_to k c r v = reply (says c r (instance_of k.numbers v.instance)) v.status (data_set_of k v.contents) v.note

abbrev pub result_of : Core → List ℕ → Request → Verdict → Result Core Reply
result_of k c r v = pick v.done (does v.core (reply_to k c r v)) (fails (reply_to k c r v))

-- a request decided: it fails, or does what it asks; check 1 is that its field is unknown
abbrev pub decide_command : Core → List ℕ → DataSet → Command → Result Core Reply
decide_command k c d Unreadable = fails (reply (says_unknown 0 0) 0x0211 [] NoNote)
decide_command k c d (Unknown message field) = fails (reply (says_unknown message field) 0x0211 [] NoNote)
decide_command k c d (Known r) = result_of k c r (decide_request k c d r)

unfoldable pub decide : Core → List ℕ → DataSet → Result Core Reply
decide k c d = decide_command k c d (understood c)
