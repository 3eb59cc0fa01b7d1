-- A response's parts, laid one by one, are the reply of a verdict.
-- Assumes nothing.
use Prim.Native.Nat.{ℕ, zero, suc, ◌+◌, ◌≤◌}
use mathlib.Core.Path.{◌≡◌, refl, sym, ap, ◌∙◌}
use mathlib.Core.Bool.{true, false}
use mathlib.Core.List.{List, [], ◌∷◌, map}
use mathlib.Core.Option.{Option}
use Rattle.std.specs.Prelude as declared
use Rattle.std.specs.Prelude.{None, Some}
use native.Mathlib.Omega.{arith}
use lib.Dec.{eqb, ltb}
use lib.ListN.{length, take, length-append, length-take}
use borrow.Author.Tests.{eq-eqb, ne_eqb, lt-ltb}
use Rattle.choice.specs.Pick.{not}
use Rattle.octets.specs.Octets.{octets, laid}
use Rattle.uids.specs.Uids.{is_uid, made, decimal}
use Rattle.uids.proofs.Length.{uid_some}
use Rattle.uids.proofs.Made.{made_short}
use Rattle.headers.specs.declared.Syntax.{Syntax}
use Rattle.headers.specs.declared.Syntax.TheVariants.{Implicit}
use Rattle.writing.specs.Bytes.{written}
use Rattle.rules.specs.declared.Name.{Name}
use Rattle.rules.specs.declared.Numbers.{Numbers}
use Rattle.rules.specs.declared.Core.{Core}
use Rattle.rules.specs.declared.NewBoxes.{NewBoxes}
use Rattle.rules.specs.declared.Verdict.{Verdict}
use Rattle.rules.specs.declared.Operation.{Operation}
use Rattle.rules.specs.declared.Operation.TheVariants.{Echo, Create, Set, Act, Delete}
use Rattle.rules.specs.declared.Note.{Note}
use Rattle.rules.specs.declared.Request.{Request}
use Rattle.rules.specs.Lists.{from}
use Rattle.rules.specs.Records.{root_of, uid_of, instance_of, syntax_in}
use Rattle.rules.specs.Commands.{uid_at}
use Rattle.rules.specs.declared.Note.TheVariants.{NoNote, FilmsQueued, PictureAt, StoppedAt}
use Rattle.rules.specs.Responses.{reply, response_tree, film_tree, data_set_of}
use Rattle.rules.specs.Checks.{class_part, field_of, action_of, says, reply_to}
use Rattle.rules.specs.Outcomes.{report_bytes}
use Rattle.responses.specs.Parts.{given, action_by, says_by, data_shown, report_by}
use Rattle.responses.proofs.Response.{data_shown_lem}
use Rattle.verdicts.specs.Ready.{UidIn, UidsIn}
use Rattle.feeding.specs.Feeding.{command_bytes, numbers_of, report_of, unknown_reply}

pub front_short : (s front : List ℕ) (n most : ℕ) → front ≡ take n s → n ≤ most → length front ≤ most
front_short s front n most e h = rw e (omega (arith, length-take n s))

pub front_fits : (s front : List ℕ) (n room : ℕ) → front ≡ take n s → length s ≤ room → 0 + length front ≤ room
front_fits s front n room e h = rw e (omega (arith, h, length-take n s))

-- a root has room for a dot and a serial behind it
pub root_fits : (s root : List ℕ) (n room : ℕ) → root ≡ take n s → n ≤ 40 → 64 ≤ room → 0 + length root + 11 ≤ room
root_fits s root n room e h g = omega (arith, g, front_short s root n 40 e h)

-- The UID of a name.

-- the instance that is shown, with as many characters as there are
abbrev Shown : Numbers → Name → List ℕ → List ℕ → ℕ → Type 0
Shown n name s out r = (out ≡ laid s 0 (uid_of n name)) × (r ≡ length (uid_of n name)) × (r ≤ 64) × (given (uid_of n name) ≡ instance_of n name)

take_empty : (n : ℕ) (s : List ℕ) → length s ≡ 64 → eqb (length (take n s)) 0 ≡ eqb n 0
take_empty zero s e = refl
take_empty (suc n) [] e = absurd (omega (arith, e))
take_empty (suc n) (x ∷ s) e = ne_eqb (suc (length (take n s))) 0 (λ d. omega (arith, d)) ∙ sym (ne_eqb (suc n) 0 (λ d. omega (arith, d)))

made_some : (root : List ℕ) (serial : ℕ) → length (made root serial) ≡ 0 → ⊥
unfolding made
made_some root serial e = omega (arith, e, length-append root (46 ∷ decimal serial))

module _ (n : Numbers) (name : Name) (s out : List ℕ) (r : ℕ) where
  pub text_shown : name.made.0 ≡ 0 → (out ≡ laid s 0 (take name.used name.text)) × (r ≡ length (take name.used name.text)) × (length name.text ≡ 64)
      → Shown n name s out r
  unfolding uid_of
  text_shown e h =
      let zero-made = eq-eqb name.made.0 0 e in
      (rw zero-made h.0, rw zero-made h.1, omega (arith, h.1, h.2, length-take name.used name.text), rw (zero-made, take_empty name.used name.text h.2))

  pub made_shown : (root : List ℕ) → (name.made.0 ≡ 0 → ⊥) → n.used ≤ 40 → root ≡ take n.used n.root
      → (out ≡ laid s 0 (made root name.made.0)) × (r ≡ 0 + length (made root name.made.0)) → Shown n name s out r
  unfolding uid_of root_of
  made_shown root f short e h =
      let some-made = ne_eqb name.made.0 0 f in
      let few = made_short root name.made.0 (front_short n.root root n.used 40 e short) in
      let shown = ne_eqb (length (made root name.made.0)) 0 (made_some root name.made.0) in
      (rw (some-made, ← e) h.0, rw (some-made, ← e) (omega (arith, h.1)), omega (arith, h.1, few), rw (some-made, ← e, shown))

-- The data set.

pub new_boxes_laid : (k : Core) (boxes : NewBoxes) (s out root : List ℕ) (r : ℕ) (syntax : Syntax) → root ≡ take k.numbers.used k.numbers.root → syntax ≡ syntax_in k
    → (out ≡ laid s 0 (written syntax (film_tree (map (made root) (from boxes.first boxes.count))))) × (r ≡ length (written syntax (film_tree (map (made root) (from boxes.first boxes.count)))))
    → (out ≡ laid s 0 (data_set_of k (Some boxes))) × (r ≡ length (data_set_of k (Some boxes)))
unfolding root_of
new_boxes_laid k boxes s out root r syntax e i h = (rw (← e, ← i) h.0, rw (← e, ← i) h.1)

-- The command set.

pub class_uid : (c : List ℕ) (o : Operation) → UidsIn c o → UidIn c (class_part o)
class_uid c (Echo r) h = h
class_uid c (Create r) h = h.0
class_uid c (Set r) h = h.0
class_uid c (Act r) h = h.0
class_uid c (Delete r) h = h.0

pub says_by_lem : (c : List ℕ) (r : Request) (class instance : List ℕ) (field : ℕ) (action : declared.Option ℕ)
    → is_uid (uid_at c (class_part r.operation)) ≡ true → class ≡ uid_at c (class_part r.operation) → field ≡ field_of r.operation → action_by action ≡ action_of r.operation
    → says_by class field r.message instance action ≡ says c r (given instance)
unfolding says_by
says_by_lem c r class instance field action h ec ef ea =
    rw (ec, ef, ea, ne_eqb (length (uid_at c (class_part r.operation))) 0 (uid_some (uid_at c (class_part r.operation)) h))

-- The report.

pub note_told : (status command size : ℕ) (note : Note)
    → report_by status command size (numbers_of note).kind (numbers_of note).first (numbers_of note).second (numbers_of note).third ≡ report_of status command size note
unfolding report_by report_of octets
note_told status command size NoNote = refl
note_told status command size (FilmsQueued films) = refl
note_told status command size (PictureAt number place extent) = refl
note_told status command size (StoppedAt stop) = refl

-- The whole response.

some_bytes : (n : ℕ) → eqb n 0 ≡ not (ltb 0 n)
some_bytes zero = refl
some_bytes (suc n) = rw (ne_eqb (suc n) 0 (λ d. omega (arith, d)), lt-ltb 0 (suc n) (omega arith))

module _ (k : Core) (c : List ℕ) (r : Request) (v : Verdict) (size stop : ℕ) (uid : List ℕ) where
  abbrev bytes : List ℕ
  bytes = command_bytes c r (given uid) v.status (data_shown (ltb 0 size))

  replied : given uid ≡ instance_of k.numbers v.instance → size ≡ length (data_set_of k v.contents) → bytes ≡ (reply_to k c r v).command
  unfolding reply
  replied e d =
      let shown : eqb (length (data_set_of k v.contents)) 0 ≡ not (ltb 0 size) = rw (← d) (some_bytes size) in
      ap (λ (i : Option (List ℕ)). command_bytes c r i v.status (data_shown (ltb 0 size))) e
      ∙ ap (written Implicit) (sym (data_shown_lem (says c r (instance_of k.numbers v.instance)) v.status (data_set_of k v.contents) (ltb 0 size) shown))

  reported : stop ≡ length (reply_to k c r v).command → size ≡ length (data_set_of k v.contents) → report_of v.status stop size v.note ≡ report_bytes (reply_to k c r v)
  unfolding reply report_of report_bytes
  reported e d = rw (e, d)

  pub responded : (command commandAfter data_set dataAfter report reportAfter : List ℕ) → given uid ≡ instance_of k.numbers v.instance
      → (dataAfter ≡ laid data_set 0 (data_set_of k v.contents)) × (size ≡ length (data_set_of k v.contents))
      → (commandAfter ≡ laid command 0 bytes) × (stop ≡ length bytes)
      → reportAfter ≡ laid report 0 (report_of v.status stop size v.note)
      → (commandAfter ≡ laid command 0 (reply_to k c r v).command) × (dataAfter ≡ laid data_set 0 (reply_to k c r v).data_set) × (reportAfter ≡ laid report 0 (report_bytes (reply_to k c r v)))
  unfolding reply
  responded command commandAfter data_set dataAfter report reportAfter i d s t =
      let whole = replied i d.1 in
      let size-told = reported (s.1 ∙ ap length whole) d.1 in
      (s.0 ∙ ap (λ (x : List ℕ). laid command 0 x) whole, d.0, t ∙ ap (λ (x : List ℕ). laid report 0 x) size-told)

-- The response to an unknown field.
pub unknown_responded : (message field stop : ℕ) (command commandAfter report reportAfter : List ℕ)
    → (commandAfter ≡ laid command 0 (written Implicit (response_tree (says_by [] field message [] None) 0x0211 (data_shown false)))) × (stop ≡ length (written Implicit (response_tree (says_by [] field message [] None) 0x0211 (data_shown false))))
    → reportAfter ≡ laid report 0 (report_of 0x0211 stop 0 NoNote)
    → (commandAfter ≡ laid command 0 (unknown_reply message field).command) × (reportAfter ≡ laid report 0 (report_bytes (unknown_reply message field)))
unfolding says_by reply report_bytes report_of
unknown_responded message field stop command commandAfter report reportAfter s t =
    (s.0, t ∙ ap (λ (n : ℕ). laid report 0 (report_of 0x0211 n 0 NoNote)) s.1)
