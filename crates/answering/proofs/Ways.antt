-- A feed by each way out of it, with the records as the code read them where they lie.
-- Assumes nothing.
use Prim.Native.Nat.{ℕ, ◌+◌, ◌≤◌, ◌<◌}
use mathlib.Core.Path.{◌≡◌, refl, sym, ap, subst, subst⁻¹, ◌∙◌}
use mathlib.Core.Bool.{Bool, true, false}
use mathlib.Core.List.{List, []}
use native.Mathlib.Omega.{arith}
use lib.ListN.{length, get_or, take}
use borrow.Author.Tests.{ltb-false}
use Rattle.choice.specs.Rules.{first_broken}
use Rattle.choice.proofs.Broken.{none_broken}
use Rattle.octets.specs.Octets.{Bytes}
use Rattle.fields.proofs.Steps.{length_write}
use Rattle.strike.specs.declared.Came.{Came}
use Rattle.strike.specs.Service.{DataSet, Result, fails, does}
use Rattle.strike.specs.Machine.{idle, header_wrong, asks, collect, laid_by}
use Rattle.rules.specs.declared.Core.{Core}
use Rattle.rules.specs.declared.Input.{Input}
use Rattle.rules.specs.Bounds.{command_room, data_room, report_room}
use Rattle.rules.specs.Records.{command_held}
use Rattle.rules.specs.Layout.{core_size, records_size, unpack}
use Rattle.rules.specs.Responses.{Reply}
use Rattle.rules.specs.Checks.{decide}
use Rattle.rules.specs.Calls.{feed_rules, closed, reading}
use Rattle.rules.specs.Outcomes.{input_in, written, records_rules, Lent, nothing_fed, lengths, feeds}
use Rattle.rules.proofs.Sizes.{input_size_lem}
use Rattle.rules.proofs.Steps.{input_steps}
use Rattle.rules.proofs.Accepted.{long_enough, rules_kept}
use Rattle.records.specs.Places.{opened_place, core_in, held_in}
use Rattle.records.proofs.Parts.{unpack_core, unpack_held}
use Rattle.collecting.specs.declared.Answer.{Answer}
use Rattle.collecting.specs.declared.Answer.TheVariants.{Ignored, Wait, Dropped, Asks}
use Rattle.collecting.specs.Collecting.{Collected, Met, Filled, fragment_of, collected_of, meant_by}
use Rattle.collecting.proofs.Meant.{header_room}
use Rattle.promises.proofs.Kept.{sound_parts}
use Rattle.promises.proofs.Tidy.{tidy_shelf, tidy_queue}
use Rattle.promises.proofs.Unpacked.{unpacked_sized}
use Rattle.verdicts.specs.Ready.{Ready}
use Rattle.feeding.specs.Feeding.{input_written}
use Rattle.feeding.proofs.Records.{input_alone, context_in, core_kept}
use Rattle.feeding.proofs.Feeds.{feeds_refused, feeds_room, feeds_ready, feeds_wrong, feeds_ignored, feeds_waits, feeds_dropped, feeds_failed, feeds_done}
use Rattle.answering.specs.Answered.{RoomFor, Leaves, settled_by}
use Rattle.answering.proofs.Laws.{settled_over}

-- no rule of a feed is broken
pub record Passed (l : Lent) : Type 0 where
  pub bytes : Bytes l.records
  pub unbroken : first_broken (records_rules l.records) ≡ 0
  pub rules : first_broken (feed_rules (unpack l.records).core (lengths l)) ≡ 0

-- and the fragment's header is right
pub record Right (l : Lent) (fragment : List ℕ) : Type 0 where
  pub passed : Passed l
  pub header : header_wrong (unpack l.records).core.opened.context fragment ≡ false

-- records that a call accepts
pub long : (b : List ℕ) {n : ℕ} → n ≡ first_broken (records_rules b) → n ≡ 0 → records_size ≤ length b
long b e z = long_enough b (none_broken (records_rules b) refl (sym e ∙ z))

module _ (l : Lent) (n : ℕ) (told : n ≡ first_broken (feed_rules (core_in l.records) (lengths l))) where
  broken : n ≡ first_broken (feed_rules (unpack l.records).core (lengths l))
  broken = told ∙ ap (λ (k : Core). first_broken (feed_rules k (lengths l))) (sym (unpack_core l.records))

  module _ (unbroken : first_broken (records_rules l.records) ≡ 0) where
    pub fed_refused : (fragment : List ℕ) → (n ≡ 0 → ⊥) → nothing_fed l n ≡ feeds l fragment
    fed_refused fragment = feeds_refused l fragment unbroken n broken

    pub passed_by : Bytes l.records → n ≡ 0 → Passed l
    passed_by o z = record { bytes = o; unbroken = unbroken; rules = sym broken ∙ z }

module _ {l : Lent} (passed : Passed l) where
  room : records_size ≤ length l.records
  room = long l.records refl passed.unbroken

  pub ready : Ready (core_in l.records)
  ready =
      let right = (sound_parts (unpack l.records) (rules_kept l.records (none_broken (records_rules l.records) refl passed.unbroken))).0 in
      let sized = unpacked_sized l.records passed.bytes in
      subst Ready (unpack_core l.records) (right, tidy_shelf (unpack l.records).core right sized, tidy_queue (unpack l.records).core right sized)

  pub message_short : length l.message ≤ 16777216
  message_short = (feeds_room l [] passed.rules).1

  pub room_for : RoomFor l.records l.command l.data_set l.report
  room_for =
      let kept = none_broken (feed_rules (unpack l.records).core (lengths l)) refl passed.rules in
      (room, ltb-false (length l.command) command_room kept.1.0, ltb-false (length l.data_set) data_room kept.1.1.0, ltb-false (length l.report) report_room kept.1.1.1.0)

  module _ (fragment : List ℕ) (w : Bool) (told : w ≡ header_wrong (get_or l.records (opened_place + 1) 0) fragment) where
    header : header_wrong (unpack l.records).core.opened.context fragment ≡ w
    header = ap (λ (n : ℕ). header_wrong n fragment) (ap (λ (k : Core). k.opened.context) (unpack_core l.records) ∙ context_in l.records) ∙ sym told

    pub fed_wrong : w ≡ true → (b : List ℕ) → b ≡ written (record { core = closed (core_in l.records); input = idle }) l.records
        → record { number = 5; records = b; message = l.message; command = l.command; data_set = l.data_set; report = l.report } ≡ feeds l fragment
    fed_wrong f b e =
        feeds_wrong l fragment passed.unbroken passed.rules (header ∙ f) b
        (e ∙ ap (λ (k : Core). written (record { core = closed k; input = idle }) l.records) (sym (unpack_core l.records)))

    pub right_by : w ≡ false → Right l fragment
    right_by f = record { passed = passed; header = header ∙ f }

-- a request is asked for
asked_meant : (r : Collected) (came : Came) (d m : List ℕ) → r.answer ≡ Asks came → d ≡ take r.input.got m → meant_by r.answer r.input m ≡ asks (command_held r.input) (record { came = came; bytes = d })
asked_meant r came d m e f = rw (e, f)

module _ {l : Lent} {fragment : List ℕ} (right : Right l fragment) where
  abbrev passed : Passed l
  passed = right.passed

  abbrev outcome : Collected
  outcome = collected_of (collect reading (length l.message) (input_in (held_in l.records) l.message) (fragment_of fragment))

  prepared : Filled (unpack l.records).input × ((unpack l.records).input.got ≤ length l.message) × (length l.message < 4294967296)
  prepared = feeds_ready l fragment passed.bytes (rules_kept l.records (none_broken (records_rules l.records) refl passed.unbroken)) passed.rules

  pub collect_ready : Filled (held_in l.records) × ((held_in l.records).got ≤ length l.message) × (length l.message < 4294967296) × (6 ≤ length fragment)
  collect_ready =
      let same = unpack_held l.records in
      (subst Filled same prepared.0, subst (λ (i : Input). i.got ≤ length l.message) same prepared.1, prepared.2, header_room (unpack l.records).core.opened.context fragment right.header)

  -- b is the records' bytes, and m the message buffer, when the fragment is collected
  module _ (answer : Answer) (b m : List ℕ)
      (told : Met outcome answer l.records b × (m ≡ laid_by (length l.message) (input_in (held_in l.records) l.message) (fragment_of fragment) l.message)) where
    told_r : outcome ≡ collected_of (collect reading (length l.message) (input_in (unpack l.records).input l.message) (fragment_of fragment))
    told_r = ap (λ (i : Input). collected_of (collect reading (length l.message) (input_in i l.message) (fragment_of fragment))) (sym (unpack_held l.records))

    told_m : m ≡ laid_by (length l.message) (input_in (unpack l.records).input l.message) (fragment_of fragment) l.message
    told_m = told.1 ∙ ap (λ (i : Input). laid_by (length l.message) (input_in i l.message) (fragment_of fragment) l.message) (sym (unpack_held l.records))

    left : b ≡ input_written outcome.input l.records
    left = told.0.put.bytes ∙ input_alone l.records outcome.input passed.bytes (room passed)

    abbrev Only : ℕ → Type 0
    Only number = record { number = number; records = b; message = m; command = l.command; data_set = l.data_set; report = l.report } ≡ feeds l fragment

    pub fed_ignored : answer ≡ Ignored → Only 18
    fed_ignored e = feeds_ignored l fragment passed.unbroken passed.rules right.header outcome m prepared.1 told_r told_m (sym told.0.told ∙ e) b left

    pub fed_waits : answer ≡ Wait → Only 16
    fed_waits e = feeds_waits l fragment passed.unbroken passed.rules right.header outcome m prepared.1 told_r told_m (sym told.0.told ∙ e) b left

    pub fed_dropped : answer ≡ Dropped → Only 17
    fed_dropped e = feeds_dropped l fragment passed.unbroken passed.rules right.header outcome m prepared.1 told_r told_m (sym told.0.told ∙ e) b left

    same_core : core_in b ≡ core_in l.records
    same_core = ap core_in told.0.put.bytes ∙ core_kept l.records outcome.input passed.bytes (room passed)

    -- what a request rests on
    pub asked_ready : (records_size ≤ length b) × Filled (held_in b) × Ready (core_in b)
    asked_ready =
        let size = ap length told.0.put.bytes ∙ length_write input_steps.laws outcome.input l.records core_size (omega (arith, input_size_lem, room passed)) in
        (omega (arith, size, room passed), subst⁻¹ Filled told.0.put.back told.0.put.filled, subst⁻¹ Ready same_core (ready passed))

    module _ (after command data_set report : List ℕ) where
      abbrev Left : Result Core Reply → Type 0
      Left x = Leaves x l.records after l.command command l.data_set data_set l.report report

      abbrev Answered : Type 0
      Answered = record { number = 19; records = after; message = m; command = command; data_set = data_set; report = report } ≡ feeds l fragment

      by_result : (d : DataSet) → meant_by outcome.answer outcome.input m ≡ asks (command_held outcome.input) d → (x : Result Core Reply) → decide (unpack l.records).core (command_held outcome.input) d ≡ x → Left x → Answered
      by_result d a (fails reply) e h = feeds_failed l fragment passed.unbroken passed.rules right.header outcome m prepared.1 told_r told_m d a reply after command data_set report h.1 h.2 h.3 e h.0
      by_result d a (does k reply) e h = feeds_done l fragment passed.unbroken passed.rules right.header outcome m prepared.1 told_r told_m d a reply after command data_set report h.1 h.2 h.3 k e h.0

      pub fed_asked : (came : Came) → answer ≡ Asks came → (d : List ℕ) (n : ℕ) → n ≡ (held_in b).got → d ≡ take n m
          → Leaves (decide (core_in b) (command_held (held_in b)) (record { came = came; bytes = d })) b after l.command command l.data_set data_set l.report report → Answered
      fed_asked came e d n g f h =
          let sent : DataSet = record { came = came; bytes = d } in
          let back = told.0.put.back in
          let x = decide (core_in b) (command_held (held_in b)) sent in
          by_result sent (asked_meant outcome came d m (sym told.0.told ∙ e) (f ∙ ap (λ (x : ℕ). take x m) (g ∙ ap (λ (i : Input). i.got) back))) x
          (ap (λ (k : Core). decide k (command_held outcome.input) sent) (unpack_core l.records ∙ sym same_core) ∙ ap (λ (i : Input). decide (core_in b) (command_held i) sent) (sym back))
          (h.0 ∙ ap (settled_by x) told.0.put.bytes ∙ settled_over l.records outcome.input passed.bytes (room passed) x, h.1, h.2, h.3)
