-- A feed by each way out of it: what was refused, collected or answered is the book's feed.
-- Assumes nothing.
use Prim.Native.Nat.{ℕ, ◌<◌, ◌≤◌}
use mathlib.Core.Path.{◌≡◌, refl, sym, ap, ◌∙◌}
use mathlib.Core.Bool.{Bool, true, false}
use mathlib.Core.List.{List, [], ◌∷◌}
use mathlib.Core.Option.{Option, none, some}
use native.Mathlib.Omega.{arith}
use lib.Dec.{eqb, leb, ltb}
use lib.ListN.{length}
use borrow.Author.Tests.{ne_eqb, eqb-true, leb-true, ltb-false}
use Rattle.choice.specs.Pick.{pick, both, either, not}
use Rattle.choice.specs.Rules.{Rule, ◌⇒◌, first_broken}
use Rattle.choice.proofs.Picks.{both_true, both_second, either_false, not_false}
use Rattle.choice.proofs.Broken.{first_by_number, first_refused, first_unbroken, none_broken}
use Rattle.octets.specs.Octets.{laid, Bytes}
use Rattle.strike.specs.Service.{Check, passes, refuses, DataSet, Result, fails, does, feed}
use Rattle.strike.specs.Machine as machine
use Rattle.strike.specs.Machine.{command_limit, idle, Fragment, header_wrong, fragment_in, Outcome, ignores, waits, drops, asks, collect, laid_by, Records, checked, fed, carried_out, answered, step, laid_if, message_after}
use Rattle.rules.specs.declared.Core.{Core}
use Rattle.rules.specs.declared.Input.{Input}
use Rattle.rules.specs.Bounds.{least_room, most_room, command_room, data_room, report_room}
use Rattle.rules.specs.Records.{is_open, command_held}
use Rattle.rules.specs.Layout.{input_format, state_format, unpack}
use Rattle.rules.specs.Lists.{every}
use Rattle.rules.specs.Commands.{understood}
use Rattle.rules.specs.Sound.{zeros, readable, phase_sound, input_sound, sound}
use Rattle.rules.specs.Responses.{Reply}
use Rattle.rules.specs.Checks.{decide}
use Rattle.rules.specs.Calls.{message_wrong, feed_rules, check, closed, reading, printing}
use Rattle.rules.specs.Outcomes.{input_in, input_held, records_in, written, report_bytes, records_rules, Lent, nothing_fed, fed_only, fed_to, lengths, feeds}
use Rattle.collecting.specs.declared.Answer.TheVariants.{Ignored, Wait, Dropped}
use Rattle.collecting.specs.Collecting.{Collected, Filled, fragment_of, collected_of, meant_by, outcome_meant}
use Rattle.collecting.proofs.Meant.{collected_meant, fragment_in_lem, sound_filled}
use Rattle.promises.proofs.ListLaws.{all_true}
use Rattle.promises.proofs.Kept.{sound_parts}
use Rattle.promises.proofs.Packed.{state_laws}
use Rattle.feeding.specs.Feeding.{input_written}

-- no rule of a feed has the number of a wrong header
never_header : (a b c d e : Bool) → eqb (first_broken ((a ⇒ 2) ∷ (b ⇒ 2) ∷ (c ⇒ 2) ∷ (d ⇒ 2) ∷ (e ⇒ 4) ∷ [])) 5 ≡ false
never_header true b c d e = refl
never_header false true c d e = refl
never_header false false true d e = refl
never_header false false false true e = refl
never_header false false false false true = refl
never_header false false false false false = refl

-- while open, the message buffer has the length that open fixed
room_fixed : (k : Core) (room : ℕ) → message_wrong k room ≡ false → not (is_open k) ≡ false
    → (k.opened.room ≡ room) × (room ≤ most_room)
room_fixed k room wrong shut =
    let w = either_false (either (ltb room least_room) (ltb most_room room)) (both (is_open k) (not (eqb room k.opened.room))) wrong in
    let same = both_second (is_open k) (not (eqb room k.opened.room)) w.1 (not_false (is_open k) shut) in
    (sym (eqb-true room k.opened.room (not_false (eqb room k.opened.room) same)), ltb-false most_room room (either_false (ltb room least_room) (ltb most_room room) w.0).1)

-- the command's bytes have their place in the records
command_length : (b : List ℕ) → Bytes b → length (unpack b).input.command ≡ command_limit
unfolding unpack state_format input_format
command_length b o = (state_laws.good b 0 o).1.1.1.1.0

no_more : (n most : ℕ) → eqb n 0 ≡ true → n ≤ most
no_more n most e = let z = eqb-true n 0 e in omega (arith, z)

-- data fits the message buffer that open fixed
got_by : (room got used : ℕ) (readable a b c : Bool) → pick a (eqb got 0) (pick b (both readable (leb got room)) (pick c (both readable (eqb got 0)) (zeros (used ∷ got ∷ [])))) ≡ true → got ≤ room
unfolding every
got_by room got used readable true b c e = no_more got room e
got_by room got used readable false true c e = leb-true got room (both_true readable (leb got room) e).1
got_by room got used readable false false true e = no_more got room (both_true readable (eqb got 0) e).1
got_by room got used readable false false false e = no_more got room (both_true (eqb got 0) true (both_true (eqb used 0) (zeros (got ∷ [])) e).1).0

got_fits : (room : ℕ) (i : Input) → phase_sound room i ≡ true → i.got ≤ room
got_fits room i e = got_by room i.got i.used (readable (understood (command_held i))) (eqb i.phase 1) (eqb i.phase 3) (eqb i.phase 4) e

module _ (l : Lent) (fragment : List ℕ) where
  abbrev core : Core
  core = (unpack l.records).core

  abbrev input : Input
  input = (unpack l.records).input

  abbrev held : machine.Input
  held = input_in input l.message

  abbrev before : Records Core
  before = records_in (unpack l.records) l.message

  abbrev rules : List Rule
  rules = feed_rules core (lengths l)

  pub feeds_unread : (n : ℕ) → n ≡ first_broken (records_rules l.records) → (n ≡ 0 → ⊥) → nothing_fed l n ≡ feeds l fragment
  unfolding feeds
  feeds_unread = first_refused (nothing_fed l) (records_rules l.records) _ refl

  by_number : check core (feed fragment (lengths l)) ≡ pick (eqb (first_broken rules) 0) passes (refuses (first_broken rules))
  unfolding check
  by_number = first_by_number refuses rules passes refl

  -- what the rules leave: the message buffer that open fixed
  pub feeds_room : first_broken rules ≡ 0 → (core.opened.room ≡ length l.message) × (length l.message ≤ most_room)
  feeds_room e = let kept = none_broken rules refl e in room_fixed core (length l.message) kept.0 kept.1.1.1.1.0

  -- what collecting rests on
  pub feeds_ready : Bytes l.records → sound (unpack l.records) ≡ true → first_broken rules ≡ 0
      → Filled input × (input.got ≤ length l.message) × (length l.message < 4294967296)
  unfolding input_sound
  feeds_ready o e passed =
      let t = all_true _ (sound_parts (unpack l.records) e).1 in
      let room = feeds_room passed in
      let got = got_fits core.opened.room input t.1.1.1.0 in
      (sound_filled input (leb-true input.used 1024 t.1.0) (command_length l.records o) t.1.1.0, omega (arith, room.0, got), omega (arith, room.1))

  module _ (accepted : first_broken (records_rules l.records) ≡ 0) where
    by_check : (x : Check) → check core (feed fragment (lengths l)) ≡ x
        → feeds l fragment ≡ fed_to l (laid_if printing x before (fragment_in core.opened.context fragment) l.message) (checked printing x before (feed fragment (lengths l)))
    unfolding feeds step message_after
    by_check x e =
        sym (first_unbroken (nothing_fed l) (records_rules l.records) _ refl accepted)
        ∙ ap (λ (y : Check). fed_to l (laid_if printing y before (fragment_in core.opened.context fragment) l.message) (checked printing y before (feed fragment (lengths l)))) e

    pub feeds_refused : (n : ℕ) → n ≡ first_broken rules → (n ≡ 0 → ⊥) → nothing_fed l n ≡ feeds l fragment
    unfolding laid_if checked
    feeds_refused n e f =
        let refusal : check core (feed fragment (lengths l)) ≡ refuses n = by_number ∙ rw (← e, ne_eqb n 0 f) in
        let other : eqb n 5 ≡ false = ap (λ (m : ℕ). eqb m 5) e ∙ never_header (message_wrong core (length l.message)) (ltb (length l.command) command_room) (ltb (length l.data_set) data_room) (ltb (length l.report) report_room) (not (is_open core)) in
        sym (by_check (refuses n) refusal ∙ rw other)

    module _ (passed : first_broken rules ≡ 0) where
      by_fragment : (f : Option Fragment) → fragment_in core.opened.context fragment ≡ f
          → feeds l fragment ≡ fed_to l (laid_if printing passes before f l.message) (fed printing before f)
      unfolding checked
      by_fragment f e =
          by_check passes (by_number ∙ rw passed)
          ∙ ap (λ (g : Option Fragment). fed_to l (laid_if printing passes before g l.message) (fed printing before g)) e

      -- a wrong header ends the association
      pub feeds_wrong : header_wrong core.opened.context fragment ≡ true → (b : List ℕ) → b ≡ written (record { core = closed core; input = idle }) l.records
          → record { number = 5; records = b; message = l.message; command = l.command; data_set = l.data_set; report = l.report } ≡ feeds l fragment
      unfolding fragment_in laid_if fed
      feeds_wrong e b d = rw d (sym (by_fragment none (rw e)))

      module _ (right : header_wrong core.opened.context fragment ≡ false) (r : Collected) (m : List ℕ) (got : input.got ≤ length l.message)
          (er : r ≡ collected_of (collect reading (length l.message) held (fragment_of fragment))) (em : m ≡ laid_by (length l.message) held (fragment_of fragment) l.message) where
        outcome : collect reading (length l.message) held (fragment_of fragment) ≡ meant_by r.answer r.input m
        unfolding outcome_meant
        outcome =
            sym (collected_meant input (fragment_of fragment) l.message got)
            ∙ ap (λ (x : Collected). outcome_meant x (laid_by (length l.message) held (fragment_of fragment) l.message)) (sym er)
            ∙ ap (λ (x : List ℕ). outcome_meant r x) (sym em)

        by_outcome : (o : Outcome) → meant_by r.answer r.input m ≡ o → feeds l fragment ≡ fed_to l m (carried_out printing core o)
        unfolding laid_if fed
        by_outcome o e =
            by_fragment (some (fragment_of fragment)) (fragment_in_lem core.opened.context fragment right)
            ∙ ap (λ (n : ℕ). fed_to l (laid_by n held (fragment_of fragment) l.message) (carried_out printing core (collect reading n held (fragment_of fragment)))) (feeds_room passed).0
            ∙ ap (λ (x : List ℕ). fed_to l x (carried_out printing core (collect reading (length l.message) held (fragment_of fragment)))) (sym em)
            ∙ ap (λ (x : Outcome). fed_to l m (carried_out printing core x)) (outcome ∙ e)

        -- only the input changes
        collected : (o : Outcome) (x : machine.Input) (n : ℕ) → meant_by r.answer r.input m ≡ o → (collected_of o).input ≡ input_held x
            → fed_to l m (carried_out printing core o) ≡ fed_only l (record { core = core; input = x }) m n
            → (b : List ℕ) → b ≡ input_written r.input l.records
            → record { number = n; records = b; message = m; command = l.command; data_set = l.data_set; report = l.report } ≡ feeds l fragment
        unfolding input_written written
        collected o x n e h f b d =
            let same : r.input ≡ input_held x = ap (λ (y : Collected). y.input) (er ∙ ap collected_of (outcome ∙ e)) ∙ h in
            rw (d, same) (sym (by_outcome o e ∙ f))

        pub feeds_ignored : r.answer ≡ Ignored → (b : List ℕ) → b ≡ input_written r.input l.records
            → record { number = 18; records = b; message = m; command = l.command; data_set = l.data_set; report = l.report } ≡ feeds l fragment
        unfolding collected_of carried_out input_held
        feeds_ignored e = collected ignores idle 18 (rw e) refl refl

        pub feeds_waits : r.answer ≡ Wait → (b : List ℕ) → b ≡ input_written r.input l.records
            → record { number = 16; records = b; message = m; command = l.command; data_set = l.data_set; report = l.report } ≡ feeds l fragment
        unfolding collected_of carried_out
        feeds_waits e = collected (waits (input_in r.input m)) (input_in r.input m) 16 (rw e) refl refl

        pub feeds_dropped : r.answer ≡ Dropped → (b : List ℕ) → b ≡ input_written r.input l.records
            → record { number = 17; records = b; message = m; command = l.command; data_set = l.data_set; report = l.report } ≡ feeds l fragment
        unfolding collected_of carried_out input_held
        feeds_dropped e = collected drops idle 17 (rw e) refl refl

        module _ (d : DataSet) (asked : meant_by r.answer r.input m ≡ asks (command_held r.input) d) (reply : Reply) (b command data_set report : List ℕ)
            (ec : command ≡ laid l.command 0 reply.command) (ed : data_set ≡ laid l.data_set 0 reply.data_set) (et : report ≡ laid l.report 0 (report_bytes reply)) where
          by_result : (x : Result Core Reply) → decide core (command_held r.input) d ≡ x → feeds l fragment ≡ fed_to l m (answered printing core d x)
          unfolding carried_out
          by_result x e = by_outcome (asks (command_held r.input) d) asked ∙ ap (λ (y : Result Core Reply). fed_to l m (answered printing core d y)) e

          pub feeds_failed : decide core (command_held r.input) d ≡ fails reply → b ≡ input_written (input_held idle) l.records
              → record { number = 19; records = b; message = m; command = command; data_set = data_set; report = report } ≡ feeds l fragment
          unfolding answered input_written written
          feeds_failed e eb = rw (eb, ec, ed, et) (sym (by_result (fails reply) e))

          pub feeds_done : (k : Core) → decide core (command_held r.input) d ≡ does k reply → b ≡ written (record { core = k; input = idle }) l.records
              → record { number = 19; records = b; message = m; command = command; data_set = data_set; report = report } ≡ feeds l fragment
          unfolding answered
          feeds_done k e eb = rw (eb, ec, ed, et) (sym (by_result (does k reply) e))
