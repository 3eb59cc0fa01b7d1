-- Each call over its buffers leaves records that keep their rules, so that the next call is not refused for them.
-- Assumes nothing.
use Prim.Native.Nat.{ℕ, ◌≤◌}
use mathlib.Core.Path.{◌≡◌, refl, sym, ap, ◌∙◌, subst}
use mathlib.Core.Bool.{Bool, true, false}
use mathlib.Core.List.{List, [], ◌∷◌}
use native.Mathlib.Omega.{arith}
use lib.Dec.{eqb, leb}
use lib.ListN.{length}
use borrow.Author.Tests.{le-ltb}
use Rattle.choice.specs.Pick.{both, not}
use Rattle.choice.proofs.Picks.{Kept, both_holds, pick_cases, first_cases, first_kept}
use Rattle.octets.specs.Octets.{Bytes}
use Rattle.strike.specs.Service.{Call, start, opening, feed, close, Check, passes, refuses}
use Rattle.strike.specs.Machine as machine
use Rattle.strike.specs.Machine.{idle, Outcome, Answer, refused, done, told, ignored, wait, dropped, failure, success, Records, checked, step, message_after}
use Rattle.rules.specs.declared.Core.{Core}
use Rattle.rules.specs.Responses.{Reply}
use Rattle.rules.specs.Layout.{state_format, records_size, unpack, pack}
use Rattle.rules.specs.Sound.{core_sound, input_sound, sound}
use Rattle.rules.specs.Calls.{Starting, Opening, handed, take_rules, start_rules, check, started, taken, printing}
use Rattle.rules.proofs.Sizes.{records_size_lem}
use Rattle.rules.proofs.Accepted.{long_enough}
use Rattle.rules.specs.Outcomes as outcomes
use Rattle.rules.specs.Outcomes.{records_in, input_held, written, core_written, number_of, short_rules, records_rules, changed, unchanged, or_unchanged, called, starts, opens, closes, Taking, nothing_taken, took, takes, Feeding, Lent, nothing_fed, fed_from, fed_to, lengths, feeds}
use Rattle.promises.proofs.ListLaws.{Each}
use Rattle.promises.proofs.Calls.{started_sound, taken_sound}
use Rattle.fields.specs.Format.{write}
use Rattle.fields.proofs.Laws.{read_write}
use Rattle.promises.proofs.Packed.{state_laws}
use Rattle.promises.proofs.Sized.{Sized}
use Rattle.promises.proofs.SizedAfter.{started_sized, taken_sized}
use Rattle.promises.proofs.Collecting.{fits_sound}
use Rattle.promises.proofs.Kept.{state_of, sound_parts}
use Rattle.promises.proofs.Good.{Byte, good_core, written_back}
use Rattle.promises.proofs.Unpacked.{unpacked_good, unpacked_sized, CallBytes}
use Rattle.promises.proofs.Next.{after_call, next_sound}

-- The calls over their buffers.

abbrev pub RulesKept : List ℕ → Type 0
RulesKept b = sound (unpack b) ≡ true

-- records that keep the rules are not refused for them
pub no_refusal : (b : List ℕ) → RulesKept b → both (leb records_size (length b)) (not (sound (unpack b))) ≡ false
no_refusal b e = rw e (pick_cases (λ (x : Bool). x ≡ false) (leb records_size (length b)) false false (λ f. refl) (λ f. refl))

stepped : (b message : List ℕ) (c : Call handed) → Bytes b → CallBytes c → RulesKept b → Kept (records_rules b) → RulesKept (written (after_call b message c) b)
stepped b message c o bytes e r = next_sound b message c o bytes e (long_enough b r)

abbrev LeavesKept : outcomes.Outcome → Type 0
LeavesKept x = RulesKept x.records

or_unchanged_lem : (b : List ℕ) (x : machine.Step Core Reply (List ℕ)) → RulesKept b → RulesKept (written x.records b) → LeavesKept (or_unchanged b x)
or_unchanged_lem b x e f = pick_cases LeavesKept (eqb (number_of x.answer) 0) (changed b x) (unchanged b (number_of x.answer)) (λ p. f) (λ p. e)

called_sound : (b : List ℕ) (c : Call handed) → Bytes b → CallBytes c → RulesKept b → LeavesKept (called (records_rules b) b c)
called_sound b c o bytes e =
    let x = step printing (records_in (unpack b) []) c in
    first_cases LeavesKept (unchanged b) (records_rules b) (or_unchanged b x) (λ n. e) (λ r. or_unchanged_lem b x e (stepped b [] c o bytes e r))

pub opens_sound : (b : List ℕ) (h : Opening) → Bytes b → RulesKept b → RulesKept (opens b h).records
unfolding opens
opens_sound b h o e = called_sound b (opening h) o tt e

pub closes_sound : (b : List ℕ) → Bytes b → RulesKept b → RulesKept (closes b).records
unfolding closes
closes_sound b o e = called_sound b close o tt e

-- A take: the input's bytes stay.

-- the next call unpacks the new core, and the input that was there
pub core_written_back : (k : Core) (b : List ℕ) → Bytes b → records_size ≤ length b → core_sound k ≡ true → Sized k → unpack (core_written k b) ≡ record { core = k; input = (unpack b).input }
unfolding core_written pack unpack write state_format
core_written_back k b o long e z =
    read_write state_laws (record { core = k; input = (unpack b).input }) b 0 (good_core k e z, (unpacked_good b o).1) (omega (arith, records_size_lem))

core_written_sound : (k : Core) (b : List ℕ) → Bytes b → records_size ≤ length b → core_sound k ≡ true → Sized k → input_sound k.opened (unpack b).input ≡ true → RulesKept (core_written k b)
unfolding sound
core_written_sound k b o long e z i = ap sound (core_written_back k b o long e z) ∙ both_holds (core_sound k) (input_sound k.opened (unpack b).input) e i

taken_kept : (b : List ℕ) → Bytes b → RulesKept b → Kept (records_rules b) → RulesKept (core_written (taken (unpack b).core).0 b)
unfolding taken
taken_kept b o e r =
    let k = (unpack b).core in
    let parts = sound_parts (unpack b) e in
    core_written_sound (taken k).0 b o (long_enough b r) (taken_sound k parts.0) (taken_sized k (unpacked_sized b o)) parts.1

pub takes_sound : (b entry : List ℕ) → Bytes b → RulesKept b → RulesKept (takes b entry).records
unfolding takes
takes_sound b entry o e =
    let k = (unpack b).core in
    let So : Taking → Type 0 = λ t. RulesKept t.records in
    let refused = nothing_taken b entry in
    first_cases So refused (records_rules b) _ (λ n. e)
    (λ r. first_cases So refused (take_rules k (length entry)) (took b entry (taken k)) (λ n. e) (λ q. taken_kept b o e r))

fed_from_sound : (l : Lent) (r : Records Core) (message : List ℕ) (a : Answer Reply (List ℕ)) → RulesKept l.records → RulesKept (written r l.records) → RulesKept (fed_from l r message a).records
fed_from_sound l r message (refused n) p q = pick_cases (λ (f : Feeding). RulesKept f.records) (eqb n 5) (outcomes.fed_only l r message 5) (nothing_fed l n) (λ e. q) (λ e. p)
fed_from_sound l r message done p q = p
fed_from_sound l r message (told entry) p q = p
fed_from_sound l r message ignored p q = q
fed_from_sound l r message wait p q = q
fed_from_sound l r message dropped p q = q
fed_from_sound l r message (failure reply d) p q = q
fed_from_sound l r message (success reply d) p q = q

pub feeds_sound : (l : Lent) (fragment : List ℕ) → Bytes l.records → Each Byte fragment → RulesKept l.records → RulesKept (feeds l fragment).records
unfolding feeds
feeds_sound l fragment o bytes e =
    let s = records_in (unpack l.records) l.message in
    let x = step printing s (feed fragment (lengths l)) in
    let message = message_after printing s fragment (lengths l) l.message in
    first_cases (λ (f : Feeding). RulesKept f.records) (nothing_fed l) (records_rules l.records) (fed_to l message x)
    (λ n. e)
    (λ r. fed_from_sound l x.records message x.answer e (stepped l.records l.message (feed fragment (lengths l)) o bytes e r))

-- Start: whatever bytes were there before.

start_passes : (k : Core) (h : Starting) → Kept (start_rules h) → check k (start h) ≡ passes
unfolding check
start_passes k h r = first_kept refuses (start_rules h) passes r

started_records : (b : List ℕ) (s : Records Core) (h : Starting) (x : Check) → x ≡ passes → (or_unchanged b (checked printing x s (start h))).records ≡ written (record { core = started h; input = idle }) b
unfolding checked number_of
started_records b s h passes e = refl
started_records b s h (refuses n) e = absurd (let z : ◌≡◌ {A = ℕ} 0 1 = cc in omega arith)

pub fresh_sound : (h : Starting) → Kept (start_rules h) → sound (state_of (record { core = started h; input = idle })) ≡ true
unfolding sound
fresh_sound h r = both_holds (core_sound (started h)) (input_sound (started h).opened (input_held idle)) (started_sound h r) (fits_sound (started h).opened idle tt)

pub starts_sound : (b : List ℕ) (h : Starting) → records_size ≤ length b → Kept (start_rules h) → RulesKept (starts b h).records
unfolding starts step
starts_sound b h long r =
    let s = records_in (unpack b) [] in
    let x = or_unchanged b (checked printing (check (unpack b).core (start h)) s (start h)) in
    let e = first_kept (unchanged b) (short_rules b) x (le-ltb (length b) records_size long, tt) in
    let f : (starts b h).records ≡ written (record { core = started h; input = idle }) b =
    ap (λ (y : outcomes.Outcome). y.records) e ∙ started_records b s h (check (unpack b).core (start h)) (start_passes (unpack b).core h r) in
    let m : Records Core = record { core = started h; input = idle } in
    subst RulesKept (sym f) (ap sound (written_back m b long (started_sound h r) (started_sized h r) tt) ∙ fresh_sound h r)
