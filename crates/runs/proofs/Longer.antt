-- Records that are lent with more bytes behind them: each call does with them what it does with the records alone, and those bytes stay.
-- Assumes nothing.
use Prim.Native.Nat.{ℕ, ◌+◌, ◌<◌, ◌≤◌}
use mathlib.Core.Path.{◌≡◌, refl, sym, ap, ◌∙◌}
use mathlib.Core.Bool.{Bool, true, false}
use mathlib.Core.List.{List, [], ◌∷◌, ◌++◌}
use native.Mathlib.Omega.{arith}
use lib.Dec.{eqb, leb, ltb}
use lib.ListN.{length, take, drop, take-append-drop}
use lib.Seq.{length-take-le}
use borrow.Author.Tests.{le-leb, lt-leb, le-ltb, lt-ltb}
use Rattle.choice.specs.Pick.{pick, both, not}
use Rattle.choice.specs.Rules.{Rule, ◌⇒◌, first_or, first_broken}
use Rattle.octets.specs.Octets.{laid, Bytes}
use Rattle.strike.specs.Machine.{Records, Step, step, message_after, Answer, refused, done, told, ignored, wait, dropped, failure, success}
use Rattle.strike.specs.Service.{Call, start, opening, feed, close}
use Rattle.rules.specs.declared.Core.{Core}
use Rattle.rules.specs.Responses.{Reply}
use Rattle.rules.specs.Sound.{sound}
use Rattle.rules.specs.Layout.{state_format, records_size, unpack, pack}
use Rattle.rules.specs.Calls.{Starting, Opening, handed, printing, take_rules, taken}
use Rattle.rules.specs.Outcomes.{Outcome, Taking, Feeding, Lent, written, core_written, input_held, records_in, records_rules, short_rules, starts, opens, closes, takes, feeds, called, changed, unchanged, or_unchanged, number_of, nothing_taken, took, nothing_fed, fed_only, responded, refused_with, fed_from, fed_to, lengths}
use Rattle.rules.proofs.Sizes.{records_size_lem}
use Rattle.promises.proofs.Packed.{state_laws}
use Rattle.runs.specs.Host.{start_handed, open_handed}
use Rattle.runs.specs.CallContracts.{StartMet, OpenMet, CloseMet, TakeMet, FeedMet}
use Rattle.runs.proofs.Front.{laid_front, read_front}

-- what is done with every outcome of rules is done with each
first_or_through : {A B : Type 0} (g : A → B) (f : ℕ → A) (h : ℕ → B) → ((n : ℕ) → g (f n) ≡ h n) → (rules : List Rule) (kept : A) (x : B) → g kept ≡ x → g (first_or f rules kept) ≡ first_or h rules x
first_or_through g f h e [] kept x k = k
first_or_through g f h e ((true ⇒ n) ∷ rules) kept x k = e n
first_or_through g f h e ((false ⇒ n) ∷ rules) kept x k = first_or_through g f h e rules kept x k

pick_through : {A B : Type 0} (g : A → B) (b : Bool) (x y : A) (v w : B) → g x ≡ v → g y ≡ w → g (pick b x y) ≡ pick b v w
pick_through g true x y v w e f = e
pick_through g false x y v w e f = f

-- records that are too short are refused with 2
pub too_short : (b : List ℕ) → length b < records_size → 2 ≡ first_broken (records_rules b)
too_short b h = rw (lt-leb records_size (length b) h, lt-ltb (length b) records_size h) refl

module _ (s : List ℕ) (o : Bytes s) (h : records_size ≤ length s) where
  -- the records, and what lies behind them
  abbrev pub alone : List ℕ
  alone = take records_size s

  abbrev pub behind : List ℕ
  behind = drop records_size s

  pub whole : alone ++ behind ≡ s
  whole = take-append-drop records_size s

  pub unpacked_alone : unpack alone ≡ unpack s
  unfolding unpack
  unpacked_alone = read_front s records_size state_laws o 0 (omega (arith, records_size_lem)) h

  laid_alone : (bytes : List ℕ) → length bytes ≡ records_size → laid alone 0 bytes ++ behind ≡ laid s 0 bytes
  laid_alone bytes e = laid_front s records_size 0 bytes (omega arith)

  pub written_alone : (r : Records Core) → written r alone ++ behind ≡ written r s
  unfolding written pack
  written_alone r = laid_alone _ (state_laws.sized (record { core = r.core; input = input_held r.input }) ∙ records_size_lem)

  pub core_written_alone : (k : Core) → core_written k alone ++ behind ≡ core_written k s
  unfolding core_written pack
  core_written_alone k =
      ap (λ u. laid alone 0 (state_format.bytes (record { core = k; input = u.input })) ++ behind) unpacked_alone
      ∙ laid_alone _ (state_laws.sized (record { core = k; input = (unpack s).input }) ∙ records_size_lem)

  alone_length : length alone ≡ records_size
  alone_length = length-take-le records_size s h

  short_same : short_rules alone ≡ short_rules s
  short_same = rw (le-ltb (length alone) records_size (omega (arith, alone_length)), le-ltb (length s) records_size h) refl

  rules_same : records_rules alone ≡ records_rules s
  rules_same = rw (unpacked_alone, le-leb records_size (length alone) (omega (arith, alone_length)), le-leb records_size (length s) h, short_same) refl

  -- a call's outcome, with the bytes behind
  abbrev longer : Outcome → Outcome
  longer r = record { number = r.number; records = r.records ++ behind }

  unchanged_longer : (n : ℕ) → longer (unchanged alone n) ≡ unchanged s n
  unchanged_longer n = ap (unchanged_by n) whole
    where
      unchanged_by : ℕ → List ℕ → Outcome
      unchanged_by n b = record { number = n; records = b }

  step_longer : (p : Step Core Reply (List ℕ)) → longer (or_unchanged alone p) ≡ or_unchanged s p
  step_longer p =
      pick_through longer (eqb (number_of p.answer) 0) (changed alone p) (unchanged alone (number_of p.answer)) _ _
      (ap (λ b. record { number = number_of p.answer; records = b }) (written_alone p.records))
      (unchanged_longer (number_of p.answer))

  called_longer : (rules : List Rule) (c : Call handed) → longer (called rules alone c) ≡ called rules s c
  called_longer rules c =
      first_or_through longer (unchanged alone) (unchanged s) unchanged_longer rules _ _
      (ap (λ u. longer (or_unchanged alone (step printing (records_in u []) c))) unpacked_alone
      ∙ step_longer (step printing (records_in (unpack s) []) c))

  pub starts_longer : (a : Starting) → longer (starts alone a) ≡ starts s a
  unfolding starts
  starts_longer a = called_longer (short_rules alone) (start a) ∙ ap (λ r. called r s (start a)) short_same

  pub opens_longer : (a : Opening) → longer (opens alone a) ≡ opens s a
  unfolding opens
  opens_longer a = called_longer (records_rules alone) (opening a) ∙ ap (λ r. called r s (opening a)) rules_same

  pub closes_longer : longer (closes alone) ≡ closes s
  unfolding closes
  closes_longer = called_longer (records_rules alone) close ∙ ap (λ r. called r s close) rules_same

  -- Take.

  abbrev longer_taking : Taking → Taking
  longer_taking t = record { number = t.number; records = t.records ++ behind; entry = t.entry }

  module _ (entry : List ℕ) where
    nothing_taken_longer : (n : ℕ) → longer_taking (nothing_taken alone entry n) ≡ nothing_taken s entry n
    nothing_taken_longer n = ap (λ b. record { number = n; records = b; entry = entry }) whole

    took_longer : (t : Core × List ℕ) → longer_taking (took alone entry t) ≡ took s entry t
    took_longer t = ap (λ b. record { number = 0; records = b; entry = laid entry 0 t.1 }) (core_written_alone t.0)

    taken_longer : longer_taking (first_or (nothing_taken alone entry) (take_rules (unpack alone).core (length entry)) (took alone entry (taken (unpack alone).core))) ≡ first_or (nothing_taken s entry) (take_rules (unpack s).core (length entry)) (took s entry (taken (unpack s).core))
    taken_longer =
        ap (λ u. longer_taking (first_or (nothing_taken alone entry) (take_rules u.core (length entry)) (took alone entry (taken u.core)))) unpacked_alone
        ∙ first_or_through longer_taking (nothing_taken alone entry) (nothing_taken s entry) nothing_taken_longer (take_rules (unpack s).core (length entry)) _ _ (took_longer (taken (unpack s).core))

    pub takes_longer : longer_taking (takes alone entry) ≡ takes s entry
    unfolding takes
    takes_longer =
        first_or_through longer_taking (nothing_taken alone entry) (nothing_taken s entry) nothing_taken_longer (records_rules alone) _ _ taken_longer
        ∙ ap (λ r. first_or (nothing_taken s entry) r (first_or (nothing_taken s entry) (take_rules (unpack s).core (length entry)) (took s entry (taken (unpack s).core)))) rules_same

  -- Feed.

  abbrev longer_feeding : Feeding → Feeding
  longer_feeding f = record { number = f.number; records = f.records ++ behind; message = f.message; command = f.command; data_set = f.data_set; report = f.report }

  module _ (message command data_set report : List ℕ) where
    abbrev pub with_records : List ℕ → Lent
    with_records b = record { records = b; message = message; command = command; data_set = data_set; report = report }

    nothing_fed_longer : (n : ℕ) → longer_feeding (nothing_fed (with_records alone) n) ≡ nothing_fed (with_records s) n
    nothing_fed_longer n = ap (λ b. nothing_fed (with_records b) n) whole

    fed_only_longer : (r : Records Core) (m : List ℕ) (n : ℕ) → longer_feeding (fed_only (with_records alone) r m n) ≡ fed_only (with_records s) r m n
    fed_only_longer r m n = ap (λ b. record { number = n; records = b; message = m; command = command; data_set = data_set; report = report }) (written_alone r)

    responded_longer : (r : Records Core) (m : List ℕ) (reply : Reply) → longer_feeding (responded (with_records alone) r m reply) ≡ responded (with_records s) r m reply
    responded_longer r m reply = let d = responded (with_records s) r m reply in
        ap (λ b. record { number = 19; records = b; message = m; command = d.command; data_set = d.data_set; report = d.report }) (written_alone r)

    fed_longer : (r : Records Core) (m : List ℕ) (a : Answer Reply (List ℕ)) → longer_feeding (fed_from (with_records alone) r m a) ≡ fed_from (with_records s) r m a
    fed_longer r m (refused n) =
        pick_through longer_feeding (eqb n 5) (fed_only (with_records alone) r m 5) (nothing_fed (with_records alone) n) _ _ (fed_only_longer r m 5) (nothing_fed_longer n)
    fed_longer r m done = nothing_fed_longer 0
    fed_longer r m (told entry) = nothing_fed_longer 0
    fed_longer r m ignored = fed_only_longer r m 18
    fed_longer r m wait = fed_only_longer r m 16
    fed_longer r m dropped = fed_only_longer r m 17
    fed_longer r m (failure reply d) = responded_longer r m reply
    fed_longer r m (success reply d) = responded_longer r m reply

    pub feeds_longer : (fragment : List ℕ) → longer_feeding (feeds (with_records alone) fragment) ≡ feeds (with_records s) fragment
    unfolding feeds
    feeds_longer fragment =
        let sizes = lengths (with_records s) in
        first_or_through longer_feeding (nothing_fed (with_records alone)) (nothing_fed (with_records s)) nothing_fed_longer (records_rules alone) _ _
        (ap (λ u. longer_feeding (fed_to (with_records alone) (message_after printing (records_in u message) fragment sizes message) (step printing (records_in u message) (feed fragment sizes)))) unpacked_alone
        ∙ fed_longer (step printing (records_in (unpack s) message) (feed fragment sizes)).records (message_after printing (records_in (unpack s) message) fragment sizes message) (step printing (records_in (unpack s) message) (feed fragment sizes)).answer)
        ∙ ap (λ r. first_or (nothing_fed (with_records s)) r (fed_to (with_records s) (message_after printing (records_in (unpack s) message) fragment sizes message) (step printing (records_in (unpack s) message) (feed fragment sizes)))) rules_same

-- Each call's contract over the records alone is its contract over all that is lent.

module _ (s : List ℕ) (o : Bytes s) (h : records_size ≤ length s) (b after : List ℕ) (e : b ≡ take records_size s) (n : ℕ) where
  pub start_longer : (root : List ℕ) (serial picture : ℕ) → StartMet b root serial picture n after → StartMet s root serial picture n (after ++ drop records_size s)
  start_longer root serial picture m = let a = start_handed root serial picture in
      ap (longer s o h) (m ∙ ap (λ t. starts t a) e) ∙ starts_longer s o h a

  pub open_longer : (message : List ℕ) (context syntax : ℕ) → OpenMet b message context syntax n after → OpenMet s message context syntax n (after ++ drop records_size s)
  open_longer message context syntax m = let a = open_handed context syntax (length message) in
      ap (longer s o h) (m ∙ ap (λ t. opens t a) e) ∙ opens_longer s o h a

  pub close_longer : CloseMet b n after → CloseMet s n (after ++ drop records_size s)
  close_longer m = ap (longer s o h) (m ∙ ap closes e) ∙ closes_longer s o h

  pub take_longer : (entry entry_after : List ℕ) → TakeMet b entry n after entry_after → TakeMet s entry n (after ++ drop records_size s) entry_after
  take_longer entry entry_after m = ap (longer_taking s o h) (m ∙ ap (λ t. takes t entry) e) ∙ takes_longer s o h entry

  pub feed_longer : (message command data_set report fragment : List ℕ) (l : Lent) → FeedMet (with_records s o h message command data_set report b) fragment n (record { records = after; message = l.message; command = l.command; data_set = l.data_set; report = l.report }) → FeedMet (with_records s o h message command data_set report s) fragment n (record { records = after ++ drop records_size s; message = l.message; command = l.command; data_set = l.data_set; report = l.report })
  feed_longer message command data_set report fragment l m =
      ap (longer_feeding s o h) (m ∙ ap (λ t. feeds (with_records s o h message command data_set report t) fragment) e) ∙ feeds_longer s o h message command data_set report fragment
