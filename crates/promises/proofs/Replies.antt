-- Whatever is replied to a request is read back from its bytes as it was meant, and fits its buffer.
-- Assumes nothing but records that keep their rules.
use Prim.Native.Nat.{ℕ, ◌-◌, ◌≤◌}
use mathlib.Core.Path.{◌≡◌, refl}
use mathlib.Core.Bool.{true, false}
use mathlib.Core.List.{List, []}
use mathlib.Core.Option.{Option, none, some}
use native.Mathlib.Omega.{arith}
use lib.Dec.{eqb}
use lib.ListN.{length, replicate}
use lib.Seq.{take-append_seam}
use Rattle.choice.specs.Pick.{both}
use Rattle.choice.proofs.Picks.{pick_cases, Kept, both_true}
use Rattle.uids.specs.Uids.{is_uid}
use Rattle.strike.specs.Service.{DataSet, Result, fails, does}
use Rattle.rules.specs.declared.Name.{Name}
use Rattle.rules.specs.declared.Numbers.{Numbers}
use Rattle.rules.specs.declared.Core.{Core}
use Rattle.rules.specs.declared.Verdict.{Verdict}
use Rattle.rules.specs.declared.Operation.{Operation}
use Rattle.rules.specs.declared.Operation.TheVariants.{Echo, Create, Set, Act, Delete}
use Rattle.rules.specs.declared.Request.{Request}
use Rattle.rules.specs.declared.Command.{Command}
use Rattle.rules.specs.declared.Command.TheVariants.{Unreadable, Unknown, Known}
use Rattle.rules.specs.Bounds.{command_room, data_room}
use Rattle.rules.specs.declared.Instance.{Instance}
use Rattle.rules.specs.declared.Instance.TheVariants.{Nobody, TheSession, TheFilm, TheBox}
use Rattle.rules.specs.Records.{no_name, sent_name, root_of, uid_of, instance_of, named, syntax_in, box_uids, serials_used}
use Rattle.rules.specs.Effects.{own_serials, name_from, too_few_serials, new_film, film_serials}
use Rattle.rules.specs.Attributes.{Listing, listing_of}
use Rattle.rules.specs.Commands.{uid_at, has_uid, has_target, has_number, field, request_in, well_formed, understood}
use Rattle.rules.specs.declared.Note.{Note}
use Rattle.rules.specs.declared.Note.TheVariants.{NoNote}
use Rattle.rules.specs.Responses.{Reply, reply, data_set_of, ContentsFit}
use Rattle.rules.specs.declared.Class.{Class}
use Rattle.rules.specs.declared.Class.TheVariants.{Verification, Sessions, Films, Boxes, UnknownClass}
use Rattle.rules.specs.Checks.{class_of, class_part, is_sent, create_rules, quietly, create_plan, set_plan, action_plan, delete_plan, plan_of, sent_uid, new_uid, failed_name, says, says_unknown, result_of, decide_request, decide_command, decide}
use Rattle.rules.specs.Sound.{numbers_sound, core_sound}
use Rattle.promises.proofs.Facts.{core_facts, counted, name_uid}
use Rattle.promises.proofs.Later.{serials_sound}
use Rattle.promises.proofs.NewNames.{Sendable, sendable, name_from_sound}
use Rattle.promises.proofs.Decided.{kept_both, request_cases, reply_of, reply_of_lem}
use Rattle.promises.proofs.ReplySizes.{UidOrNone, SaysUids, reply_fits}
use Rattle.promises.proofs.ReadBack.{UidMeant, ResponseMeans, response_means}
use Rattle.promises.proofs.FilmBack.{FilmMeans, new_film_few, new_film_left, new_film_fits, new_film_means}

-- Requests that are known name their class and their instance by UIDs.

abbrev pub UidsKnown : List ℕ → Operation → Type 0
UidsKnown c (Echo r) = is_uid (uid_at c r.class) ≡ true
UidsKnown c (Create r) = is_uid (uid_at c r.class) ≡ true
UidsKnown c (Set r) = (is_uid (uid_at c r.class) ≡ true) × (is_uid (uid_at c r.instance) ≡ true)
UidsKnown c (Act r) = (is_uid (uid_at c r.class) ≡ true) × (is_uid (uid_at c r.instance) ≡ true)
UidsKnown c (Delete r) = (is_uid (uid_at c r.class) ≡ true) × (is_uid (uid_at c r.instance) ≡ true)

abbrev KnownSound : List ℕ → Command → Type 0
KnownSound c Unreadable = Unit {0}
KnownSound c (Unknown message field) = Unit {0}
KnownSound c (Known r) = UidsKnown c r.operation

request_sound : (c : List ℕ) → KnownSound c (request_in c)
unfolding request_in
request_sound c =
    pick_cases (KnownSound c) (eqb (field c) 0x0030) _ _
    (λ _. pick_cases (KnownSound c) (has_uid c 0x0000_0002) _ _ (λ e. e) (λ _. tt))
    (λ _. pick_cases (KnownSound c) (eqb (field c) 0x0140) _ _
    (λ _. pick_cases (KnownSound c) (has_uid c 0x0000_0002) _ _ (λ e. e) (λ _. tt))
    (λ _. pick_cases (KnownSound c) (eqb (field c) 0x0120) _ _
    (λ _. pick_cases (KnownSound c) (has_target c) _ _ (λ e. both_true _ _ e) (λ _. tt))
    (λ _. pick_cases (KnownSound c) (eqb (field c) 0x0130) _ _
    (λ _. pick_cases (KnownSound c) (both (has_target c) (has_number c 0x0000_1008)) _ _ (λ e. both_true _ _ (both_true (has_target c) _ e).0) (λ _. tt))
    (λ _. pick_cases (KnownSound c) (eqb (field c) 0x0150) _ _
    (λ _. pick_cases (KnownSound c) (has_target c) _ _ (λ e. both_true _ _ e) (λ _. tt))
    (λ _. tt)))))

understood_sound : (c : List ℕ) → KnownSound c (understood c)
unfolding understood
understood_sound c = pick_cases (KnownSound c) (well_formed c) _ _ (λ _. request_sound c) (λ _. tt)

class_uid : (c : List ℕ) (o : Operation) → UidsKnown c o → is_uid (uid_at c (class_part o)) ≡ true
class_uid c (Echo r) s = s
class_uid c (Create r) s = s
class_uid c (Set r) s = s.0
class_uid c (Act r) s = s.0
class_uid c (Delete r) s = s.0

-- The instance that a response names is a UID, or none.

named_uid : (n : Numbers) (name : Name) → is_uid (uid_of n name) ≡ true → UidOrNone (instance_of n name)
named_uid n name e = pick_cases UidOrNone (both (eqb name.made.0 0) (eqb name.used 0)) none (some (uid_of n name)) (λ _. tt) (λ _. e)

sent_uid_lem : (n : Numbers) (uid : List ℕ) → is_uid uid ≡ true → UidOrNone (instance_of n (sent_name uid))
unfolding uid_of
sent_uid_lem n uid e = named_uid n (sent_name uid) (rw (take-append_seam uid (replicate (64 - length uid) 0)) e)

failed_uid : (n : Numbers) (c : List ℕ) (o : Operation) → UidsKnown c o → UidOrNone (instance_of n (failed_name c o))
failed_uid n c (Echo r) s = tt
failed_uid n c (Create r) s =
    pick_cases (λ name. UidOrNone (instance_of n name)) (both (is_sent r.sent) (is_uid (uid_at c r.sent))) (sent_name (uid_at c r.sent)) no_name
    (λ e. sent_uid_lem n (uid_at c r.sent) (both_true (is_sent r.sent) (is_uid (uid_at c r.sent)) e).1)
    (λ _. tt)
failed_uid n c (Set r) s = sent_uid_lem n (uid_at c r.instance) s.1
failed_uid n c (Act r) s = sent_uid_lem n (uid_at c r.instance) s.1
failed_uid n c (Delete r) s = sent_uid_lem n (uid_at c r.instance) s.1

-- The instance of a request that is done.

-- a new one, made or sent, where serials are left for it
new_uid_lem : (k : Core) (sent : List ℕ) (used : ℕ) → numbers_sound k.numbers ≡ true → Sendable k sent → own_serials sent ≤ used → too_few_serials k.numbers used ≡ false → is_uid (new_uid k sent) ≡ true
unfolding uid_of root_of
new_uid_lem k sent used n s h e =
    let m = serials_used used k.numbers in
    name_uid m (name_from k.numbers sent) (serials_sound k.numbers used n e)
    (name_from_sound k sent m s refl (counted k.numbers n).serials (omega arith))

-- The data set of a request that is done: none, or that of a new film, which is read back and fits its buffer.

pub data Carries (k : Core) : List ℕ → Type 0 where
  no_data : Carries k []
  box_data : {b : List ℕ} → (sent : List ℕ) (l : Listing) → FilmMeans b (syntax_in k) (box_uids k.numbers (new_film k sent l)) → length b ≤ data_room → Carries k b

pub carries_fits : {k : Core} {b : List ℕ} → Carries k b → length b ≤ data_room
carries_fits no_data = omega arith
carries_fits (box_data sent l means fits) = fits

-- What is told of a request: an instance that is a UID or none, contents that fit, and such a data set.
record Told (k : Core) (v : Verdict) : Type 0 where
  instance : UidOrNone (instance_of k.numbers v.instance)
  fit : ContentsFit v.contents
  carries : Carries k (data_set_of k v.contents)

quiet_told : (k after : Core) (name : Name) → UidOrNone (instance_of k.numbers name) → Told k (quietly after name)
quiet_told k after name u = record { instance = u; fit = tt; carries = no_data }

create_told : (k : Core) (class : Class) (sent : List ℕ) (l : Listing) → numbers_sound k.numbers ≡ true → Sendable k sent → Kept (create_plan k class sent l).rules → Told k (create_plan k class sent l).verdict
unfolding create_plan box_uids
create_told k Verification sent l n s kept = quiet_told k k no_name tt
create_told k Sessions sent l n s kept = quiet_told k _ _ (named_uid k.numbers _ (new_uid_lem k sent (own_serials sent) n s (omega arith) kept.1.1.1.1.0))
create_told k Films sent l n s kept =
    let enough = kept.1.1.1.1.0 in
    record {
      instance = named_uid k.numbers _ (new_uid_lem k sent (film_serials sent l) n s (omega arith) enough);
      fit = (new_film_few k sent l, new_film_left k sent l n enough);
      carries = box_data sent l (new_film_means k sent l n enough (syntax_in k)) (new_film_fits k sent l n enough (syntax_in k));
    }
create_told k Boxes sent l n s kept = quiet_told k k no_name tt
create_told k UnknownClass sent l n s kept = quiet_told k k no_name tt

module _ (k : Core) (uid : List ℕ) (s : is_uid uid ≡ true) where
  named_told : UidOrNone (instance_of k.numbers (sent_name uid))
  named_told = sent_uid_lem k.numbers uid s

  set_told : (i : Instance) (l : Listing) → Told k (set_plan k i (sent_name uid) l).verdict
  unfolding set_plan
  set_told Nobody l = quiet_told k k no_name tt
  set_told TheSession l = quiet_told k _ _ named_told
  set_told (TheFilm i) l = quiet_told k _ _ named_told
  set_told (TheBox i j) l = record { instance = named_told; fit = tt; carries = no_data }

  action_told : (i : Instance) → Told k (action_plan k i (sent_name uid)).verdict
  unfolding action_plan
  action_told Nobody = quiet_told k k no_name tt
  action_told TheSession = record { instance = named_told; fit = tt; carries = no_data }
  action_told (TheFilm i) = record { instance = named_told; fit = tt; carries = no_data }
  action_told (TheBox i j) = quiet_told k k no_name tt

  delete_told : (i : Instance) → Told k (delete_plan k i (sent_name uid)).verdict
  unfolding delete_plan
  delete_told Nobody = quiet_told k k no_name tt
  delete_told TheSession = quiet_told k _ _ named_told
  delete_told (TheFilm i) = quiet_told k _ _ named_told
  delete_told (TheBox i j) = quiet_told k k no_name tt

done_told : (k : Core) (c : List ℕ) (d : DataSet) (o : Operation) → numbers_sound k.numbers ≡ true → UidsKnown c o → Kept (plan_of k c d.bytes o).rules → Told k (plan_of k c d.bytes o).verdict
unfolding plan_of
done_told k c d (Echo r) n s kept = quiet_told k k no_name tt
done_told k c d (Create r) n s kept =
    let b = kept_both (create_rules k c r.sent) (create_plan k (class_of (uid_at c r.class)) (sent_uid c r.sent) (listing_of d.bytes (syntax_in k))).rules kept in
    create_told k (class_of (uid_at c r.class)) (sent_uid c r.sent) (listing_of d.bytes (syntax_in k)) n (sendable k c r.sent b.0) b.1
done_told k c d (Set r) n s kept = set_told k (uid_at c r.instance) s.1 (named k (uid_at c r.instance)) (listing_of d.bytes (syntax_in k))
done_told k c d (Act r) n s kept = action_told k (uid_at c r.instance) s.1 (named k (uid_at c r.instance))
done_told k c d (Delete r) n s kept = delete_told k (uid_at c r.instance) s.1 (named k (uid_at c r.instance))

verdict_told : (k : Core) (c : List ℕ) (d : DataSet) (r : Request) → numbers_sound k.numbers ≡ true → UidsKnown c r.operation → Told k (decide_request k c d r)
verdict_told k c d r h s =
    request_cases (Told k) k c d r
    (λ stop _. record { instance = failed_uid k.numbers c r.operation s; fit = tt; carries = no_data })
    (λ kept. done_told k c d r.operation h s kept)
    (λ status. record { instance = failed_uid k.numbers c r.operation s; fit = tt; carries = no_data })

-- Replies.

-- a reply to a request says its class, field, message number and action type, and an instance or none, and each is read back as it was
-- meant; it fits, and so does its data set
pub record Answers (k : Core) (c : List ℕ) (r : Request) (instance : Option (List ℕ)) (p : Reply) : Type 0 where
  pub means : ResponseMeans p.command (says c r instance) p.status p.data_set
  -- the instance keeps PS3.5's rules
  pub instance_uid : UidOrNone instance
  pub fits : length p.command ≤ command_room
  pub carries : Carries k p.data_set

-- the instance is that of the verdict
abbrev pub Answered : Core → List ℕ → DataSet → Request → Reply → Type 0
Answered k c d r p = Answers k c r (instance_of k.numbers (decide_request k c d r).instance) p

answers : (k : Core) (c : List ℕ) (r : Request) (instance : Option (List ℕ)) (status : ℕ) (b : List ℕ) (note : Note) → UidsKnown c r.operation → UidOrNone instance → Carries k b → Answers k c r instance (reply (says c r instance) status b note)
unfolding reply
answers k c r instance status b note s h e =
    let u : SaysUids (says c r instance) = record { class = class_uid c r.operation s; instance = h } in
    record { means = response_means (says c r instance) status b u note; instance_uid = h; fits = reply_fits (says c r instance) status b u note; carries = e }

request_answered : (k : Core) (c : List ℕ) (d : DataSet) (r : Request) → numbers_sound k.numbers ≡ true → UidsKnown c r.operation → Answered k c d r (reply_of (result_of k c r (decide_request k c d r)))
request_answered k c d r h s =
    let v = decide_request k c d r in
    let t = verdict_told k c d r h s in
    rw (reply_of_lem k c r v) (answers k c r (instance_of k.numbers v.instance) v.status (data_set_of k v.contents) v.note s t.instance t.carries)

-- A command that is not known is answered with its field and message number alone, and 0211H.
pub record AnswersUnknown (message field : ℕ) (p : Reply) : Type 0 where
  pub means : ResponseMeans p.command (says_unknown message field) 0x0211 []
  pub fits : length p.command ≤ command_room
  pub status_is : p.status ≡ 0x0211
  pub no_data_lem : p.data_set ≡ []

abbrev pub AnsweredUnknown : ℕ → ℕ → Result Core Reply → Type 0
AnsweredUnknown message field (fails p) = AnswersUnknown message field p
AnsweredUnknown message field (does k p) = ⊥

abbrev pub AnsweredCommand : Core → List ℕ → DataSet → Command → Result Core Reply → Type 0
AnsweredCommand k c d Unreadable x = AnsweredUnknown 0 0 x
AnsweredCommand k c d (Unknown message field) x = AnsweredUnknown message field x
AnsweredCommand k c d (Known r) x = Answered k c d r (reply_of x)

answers_unknown : (message field : ℕ) → AnswersUnknown message field (reply (says_unknown message field) 0x0211 [] NoNote)
unfolding reply
answers_unknown message field =
    let b : SaysUids (says_unknown message field) = record { class = tt; instance = tt } in
    record { means = response_means (says_unknown message field) 0x0211 [] b NoNote; fits = reply_fits (says_unknown message field) 0x0211 [] b NoNote; status_is = refl; no_data_lem = refl }

command_answered : (k : Core) (c : List ℕ) (d : DataSet) (command : Command) → numbers_sound k.numbers ≡ true → KnownSound c command → AnsweredCommand k c d command (decide_command k c d command)
command_answered k c d Unreadable h s = answers_unknown 0 0
command_answered k c d (Unknown message field) h s = answers_unknown message field
command_answered k c d (Known r) h s = request_answered k c d r h s

-- Whatever the book decides, what its reply says is read back from the reply's bytes.
pub decide_answered : (k : Core) (c : List ℕ) (d : DataSet) → core_sound k ≡ true → AnsweredCommand k c d (understood c) (decide k c d)
unfolding decide
decide_answered k c d e = command_answered k c d (understood c) (core_facts k e).numbers (understood_sound c)

-- The instance that a reply means: that of the verdict; none where the field is unknown.
abbrev pub instance_meant : Core → List ℕ → DataSet → Command → Option (List ℕ)
instance_meant k c d Unreadable = none
instance_meant k c d (Unknown message field) = none
instance_meant k c d (Known r) = instance_of k.numbers (decide_request k c d r).instance

-- it keeps PS3.5's rules, and (0000,1000) of the response's bytes is exactly it; where none is meant, (0000,1000) is missing
pub record InstanceBack (p : Reply) (instance : Option (List ℕ)) : Type 0 where
  pub uid : UidOrNone instance
  pub back : UidMeant p.command 0x0000_1000 instance

instance_told : (k : Core) (c : List ℕ) (d : DataSet) (command : Command) (x : Result Core Reply) → AnsweredCommand k c d command x → InstanceBack (reply_of x) (instance_meant k c d command)
instance_told k c d Unreadable (fails p) a = record { uid = tt; back = a.means.instance }
instance_told k c d Unreadable (does after p) a = absurd a
instance_told k c d (Unknown message field) (fails p) a = record { uid = tt; back = a.means.instance }
instance_told k c d (Unknown message field) (does after p) a = absurd a
instance_told k c d (Known r) x a = record { uid = a.instance_uid; back = a.means.instance }

-- The instance UID of a response always reads back.
pub instance_reads_back : (k : Core) (c : List ℕ) (d : DataSet) → core_sound k ≡ true → InstanceBack (reply_of (decide k c d)) (instance_meant k c d (understood c))
instance_reads_back k c d e = instance_told k c d (understood c) (decide k c d) (decide_answered k c d e)

-- The contents of an answer's data set fit.
pub contents_fit : (k : Core) (c : List ℕ) (d : DataSet) (r : Request) → core_sound k ≡ true → UidsKnown c r.operation → ContentsFit (decide_request k c d r).contents
contents_fit k c d r e s = (verdict_told k c d r (core_facts k e).numbers s).fit
