-- Every call that meets its contract, over any bytes, leaves and shows what one step of the machine does and answers.
-- Assumes nothing.
use mathlib.Core.Path.{◌≡◌, refl, ap, ◌∙◌}
use mathlib.Core.Bool.{Bool, true, false}
use mathlib.Core.List.{List}
use Prim.Native.Nat.{ℕ}
use native.Mathlib.Omega.{arith}
use borrow.Author.Tests.{ne_eqb, eqb-true}
use lib.Dec.{eqb}
use lib.ListN.{length}
use Rattle.choice.proofs.Picks.{pick_cases}
use Rattle.octets.specs.Octets.{Bytes}
use Rattle.strike.specs.Service as service
use Rattle.strike.specs.Service.{Call, Check, passes, refuses}
use Rattle.strike.specs.Machine.{Answer, refused, Records, Step, checked, step, idle}
use Rattle.strike.proofs.Lies.{AnswerLies}
use Rattle.rules.specs.declared.Core.{Core}
use Rattle.rules.specs.Responses.{Reply}
use Rattle.rules.specs.Layout.{unpack}
use Rattle.rules.specs.Calls as calls
use Rattle.rules.specs.Calls.{handed, printing}
use Rattle.rules.specs.Outcomes.{records_in, records_rules, number_of, Outcome, unchanged, opens, closes, Taking, nothing_taken, takes, Feeding, nothing_fed, feeds}
use Rattle.runs.specs.Host.{Kept, HostCall, starting, opening, feeding, closing, taking, start_handed, open_handed, lent, call_of, no_buffers, lent_by, Shown}
use Rattle.runs.specs.CallContracts.{by_contract, associated, CallMade}
use Rattle.runs.specs.Runs.{Store, useless, usable, store_check, over_bytes, view_of}
use Rattle.runs.proofs.Does.{number_shown, take_shown, fed_shown, does, shows, the_call, met_does, met_shows}
use Rattle.runs.proofs.Answers.{written_by, shown_of, Proper}
use Rattle.runs.proofs.Buffers.{RecordsGood}
use Rattle.runs.proofs.Refusals.{Broken, useless_broken}
use Rattle.runs.proofs.Stored.{records_good, step_good, step_good_lem, usable_good, good_usable, good_view, useless_view}
use Rattle.runs.proofs.Begins.{starts_right}
use Rattle.runs.proofs.Opens.{opens_right, closes_right}
use Rattle.runs.proofs.Takes.{takes_right}
use Rattle.runs.proofs.Feeds.{feeds_right}

-- the machine's step for a call
abbrev pub step_of : Kept → HostCall → Step Store Reply (List ℕ)
step_of k h = step over_bytes (view_of k) (call_of k h)

-- what is left and shown is what a step does and answers; the answer fits, and the data set that it answers lies in the message buffer
pub record Stepped (x : Step Store Reply (List ℕ)) (h : HostCall) (l : Kept) (s : Shown) : Type 0 where
  pub bytes : Bytes l.records
  pub view : view_of l ≡ x.records
  pub same : s ≡ shown_of h x.answer
  pub lies : AnswerLies x.answer l.message
  pub proper : Proper (lent_by h) x.answer

-- a number and nothing else
quiet_shown : (n : ℕ) (a : Answer Reply (List ℕ)) → n ≡ number_of a → written_by a ≡ no_buffers → number_shown n ≡ shown_of closing a
quiet_shown n a e q = rw (e, q)

-- Over good records.

module _ (k : Kept) (g : RecordsGood k.records) where
  abbrev before : Records Core
  before = records_in (unpack k.records) k.message

  good_step : (c : Call handed) → step over_bytes (view_of k) c ≡ step_good (step printing before c)
  good_step c = ap (λ (v : Records Store). step over_bytes v c) (good_view k (good_usable k.records g)) ∙ step_good_lem before c

  left_view : (l : Kept) (r : Records Core) → RecordsGood l.records → records_in (unpack l.records) l.message ≡ r → view_of l ≡ records_good r
  left_view l r good e = good_view l (good_usable l.records good) ∙ ap records_good e

  open_good : (message : List ℕ) (context syntax : ℕ) → Stepped (step_of k (opening message context syntax)) (opening message context syntax) (does k (opening message context syntax)) (shows k (opening message context syntax))
  unfolding the_call
  open_good message context syntax =
      let c = service.opening (open_handed context syntax (length message)) in
      let o = opens k.records (open_handed context syntax (length message)) in
      let x = opens_right k.records k.message g (open_handed context syntax (length message)) in
      rw (good_step c)
      (record {
        bytes = x.good.bytes;
        view = left_view (record { records = o.records; message = associated o.number message k.message }) _ x.good
            (pick_cases (λ (now : List ℕ). records_in (unpack o.records) now ≡ (step printing before c).records) (eqb o.number 0) message k.message
            (λ e. x.done_view (eqb-true o.number 0 e) message) (λ e. x.view));
        same = quiet_shown o.number (step printing before c).answer x.number x.quiet;
        lies = x.lies _;
        proper = x.proper;
      })

  close_good : Stepped (step_of k closing) closing (does k closing) (shows k closing)
  unfolding the_call
  close_good =
      let c = service.close in
      let x = closes_right k.records k.message g in
      rw (good_step c)
      (record {
        bytes = x.good.bytes;
        view = left_view (record { records = (closes k.records).records; message = k.message }) _ x.good x.view;
        same = quiet_shown (closes k.records).number (step printing before c).answer x.number x.quiet;
        lies = x.lies _;
        proper = x.proper;
      })

  take_good : (entry : List ℕ) → Stepped (step_of k (taking entry)) (taking entry) (does k (taking entry)) (shows k (taking entry))
  unfolding the_call
  take_good entry =
      let c = service.aside (calls.taking (length entry)) in
      let x = takes_right k.records k.message entry g in
      rw (good_step c)
      (record {
        bytes = x.good.bytes;
        view = left_view (record { records = (takes k.records entry).records; message = k.message }) _ x.good x.view;
        same = x.same;
        lies = x.lies;
        proper = x.proper;
      })

  feed_good : (fragment : List ℕ) (bytes : Bytes fragment) (command data_set report : List ℕ) → Stepped (step_of k (feeding fragment bytes command data_set report)) (feeding fragment bytes command data_set report) (does k (feeding fragment bytes command data_set report)) (shows k (feeding fragment bytes command data_set report))
  unfolding the_call
  feed_good fragment bytes command data_set report =
      let x = feeds_right (lent k command data_set report) fragment g bytes in
      let f = feeds (lent k command data_set report) fragment in
      rw (good_step (call_of k (feeding fragment bytes command data_set report)))
      (record {
        bytes = x.good.bytes;
        view = left_view (record { records = f.records; message = f.message }) _ x.good x.view;
        same = x.same;
        lies = x.lies;
        proper = x.proper;
      })

-- the same with how it is refused
unfoldable the_calls : Unit {0}
unfolding the_call store_check number_of
the_calls = tt

-- Over useless bytes every call but start is refused, and changes nothing.

module _ (k : Kept) (o : Bytes k.records) (useless-records : usable k.records ≡ false) where
  abbrev broken : Broken (records_rules k.records)
  broken = useless_broken k.records useless-records

  abbrev refusal : Step Store Reply (List ℕ)
  refusal = record { records = record { core = useless k.records; input = idle }; answer = refused broken.number }

  refused_step : (c : Call handed) → store_check (useless k.records) c ≡ refuses broken.number → step over_bytes (view_of k) c ≡ refusal
  unfolding step checked
  refused_step c e =
      ap (λ (v : Records Store). step over_bytes v c) (useless_view k useless-records)
      ∙ ap (λ (x : Check). checked over_bytes x (record { core = useless k.records; input = idle }) c) e

  useless_right : (h : HostCall) → store_check (useless k.records) (call_of k h) ≡ refuses broken.number → does k h ≡ k → shows k h ≡ shown_of h (refused broken.number) → Stepped (step_of k h) h (does k h) (shows k h)
  useless_right h e d s = rw (refused_step (call_of k h) e, d, s) (record { bytes = o; view = useless_view k useless-records; same = refl; lies = tt; proper = omega (arith, broken.small) })

  open_useless : (message : List ℕ) (context syntax : ℕ) → Stepped (step_of k (opening message context syntax)) (opening message context syntax) (does k (opening message context syntax)) (shows k (opening message context syntax))
  unfolding the_calls opens
  open_useless message context syntax =
      let e = broken.gives (unchanged k.records) in
      useless_right (opening message context syntax) (broken.gives refuses passes)
      (ap (λ (x : Outcome). record { records = x.records; message = associated x.number message k.message }) (e _)
      ∙ ap (λ (now : List ℕ). record { records = k.records; message = now }) (rw (ne_eqb broken.number 0 (λ z. omega (arith, z, broken.some)))))
      (ap (λ (x : Outcome). number_shown x.number) (e _))

  close_useless : Stepped (step_of k closing) closing (does k closing) (shows k closing)
  unfolding the_calls closes
  close_useless =
      let e = broken.gives (unchanged k.records) in
      useless_right closing (broken.gives refuses passes)
      (ap (λ (x : Outcome). record { records = x.records; message = k.message }) (e _))
      (ap (λ (x : Outcome). number_shown x.number) (e _))

  take_useless : (entry : List ℕ) → Stepped (step_of k (taking entry)) (taking entry) (does k (taking entry)) (shows k (taking entry))
  unfolding the_calls takes
  take_useless entry =
      let e = broken.gives (nothing_taken k.records entry) in
      useless_right (taking entry) (broken.gives refuses passes)
      (ap (λ (x : Taking). record { records = x.records; message = k.message }) (e _))
      (ap take_shown (e _))

  feed_useless : (fragment : List ℕ) (bytes : Bytes fragment) (command data_set report : List ℕ) → Stepped (step_of k (feeding fragment bytes command data_set report)) (feeding fragment bytes command data_set report) (does k (feeding fragment bytes command data_set report)) (shows k (feeding fragment bytes command data_set report))
  unfolding the_calls feeds
  feed_useless fragment bytes command data_set report =
      let e = broken.gives (nothing_fed (lent k command data_set report)) in
      useless_right (feeding fragment bytes command data_set report) (broken.gives refuses passes)
      (ap (λ (x : Feeding). record { records = x.records; message = x.message }) (e _))
      (ap fed_shown (e _))

-- Over any bytes.

module _ (k : Kept) (o : Bytes k.records) where
  either_way : (h : HostCall) → (RecordsGood k.records → Stepped (step_of k h) h (does k h) (shows k h)) → (usable k.records ≡ false → Stepped (step_of k h) h (does k h) (shows k h)) → (t : Bool) → usable k.records ≡ t → Stepped (step_of k h) h (does k h) (shows k h)
  either_way h f g true e = f (usable_good k.records o e)
  either_way h f g false e = g e

  start_steps : (root : List ℕ) (serial picture : ℕ) → Stepped (step_of k (starting root serial picture)) (starting root serial picture) (does k (starting root serial picture)) (shows k (starting root serial picture))
  unfolding the_call
  start_steps root serial picture =
      let x = starts_right k.records k.message (start_handed root serial picture) o in
      record { bytes = x.bytes; view = x.view; same = quiet_shown _ _ x.number x.quiet; lies = x.lies; proper = x.proper }

  does_steps : (h : HostCall) → Stepped (step_of k h) h (does k h) (shows k h)
  does_steps (starting root serial picture) = start_steps root serial picture
  does_steps (opening message context syntax) =
      either_way (opening message context syntax) (λ g. open_good k g message context syntax) (λ e. open_useless k o e message context syntax) (usable k.records) refl
  does_steps (feeding fragment bytes command data_set report) =
      either_way (feeding fragment bytes command data_set report) (λ g. feed_good k g fragment bytes command data_set report) (λ e. feed_useless k o e fragment bytes command data_set report) (usable k.records) refl
  does_steps closing = either_way closing (λ g. close_good k g) (λ e. close_useless k o e) (usable k.records) refl
  does_steps (taking entry) = either_way (taking entry) (λ g. take_good k g entry) (λ e. take_useless k o e entry) (usable k.records) refl

  -- a feed leaves as long a message buffer as it was lent
  feed_room : (fragment : List ℕ) (bytes : Bytes fragment) (command data_set report : List ℕ) (t : Bool) → usable k.records ≡ t → length (does k (feeding fragment bytes command data_set report)).message ≡ length k.message
  unfolding does feeds
  feed_room fragment bytes command data_set report true e = (feeds_right (lent k command data_set report) fragment (usable_good k.records o e) bytes).fixed
  feed_room fragment bytes command data_set report false e =
      ap (λ (x : Feeding). length x.message) ((useless_broken k.records e).gives (nothing_fed (lent k command data_set report)) _)

  pub feed_fixed : (fragment : List ℕ) (bytes : Bytes fragment) (command data_set report : List ℕ) → length (does k (feeding fragment bytes command data_set report)).message ≡ length k.message
  feed_fixed fragment bytes command data_set report = feed_room fragment bytes command data_set report (usable k.records) refl

  pub does_bytes : (h : HostCall) → Bytes (does k h).records
  does_bytes h = (does_steps h).bytes

  -- A call that meets its contract, whatever made it.
  pub met_steps : (h : HostCall) (l : Kept) (s : Shown) → CallMade by_contract k h l s → Stepped (step_of k h) h l s
  met_steps h l s m = rw (met_does k h l s m, met_shows k h l s m) (does_steps h)
