-- A run of calls that met their contracts, with the buffers handed back: the machine's answers are shown, and its records are left.
-- Assumes nothing.
use mathlib.Core.Path.{◌≡◌, refl, sym, ap, ◌∙◌, subst}
use mathlib.Core.Bool.{Bool, true, false}
use mathlib.Core.List.{List, [], ◌∷◌}
use Prim.Native.Nat.{ℕ}
use lib.Dec.{eqb, leb}
use lib.ListN.{length}
use Rattle.choice.specs.Pick.{pick}
use Rattle.choice.proofs.Picks.{both_true, both_holds, not_false, clash}
use Rattle.octets.specs.Octets.{Bytes}
use Rattle.strike.specs.Machine as machine
use Rattle.strike.specs.Machine.{idle, in_command, skipping_command, in_data, skipping_data, Answer, Records}
use Rattle.strike.specs.Messages.{answers, after}
use Rattle.strike.proofs.Lies.{AnswerLies}
use Rattle.rules.specs.declared.Opened.{Opened}
use Rattle.rules.specs.Records.{is_open}
use Rattle.rules.specs.Responses.{Reply}
use Rattle.rules.specs.Sound.{sound}
use Rattle.rules.specs.Layout.{records_size, unpack}
use Rattle.rules.specs.Outcomes.{input_in}
use Rattle.promises.proofs.Kept.{sound_parts}
use Rattle.promises.proofs.Collecting.{Fits, in_fits}
use Rattle.runs.specs.Host.{Kept, lent_by}
use Rattle.runs.specs.CallContracts.{by_contract, Made}
use Rattle.runs.specs.Runs.{Store, usable, store_in, over_bytes, view_of, in_association, HandedBack, Ran, last_left, calls_read}
use Rattle.runs.proofs.Answers.{shown_of, Proper}
use Rattle.runs.proofs.Right.{met_steps}

-- Buffers handed back hold the records that were left.

closed_idle : (o : Opened) (i : machine.Input) → eqb o.live 0 ≡ true → Fits o i → i ≡ idle
closed_idle o idle e f = refl
closed_idle o (in_command c) e f = absurd (clash f.0 e)
closed_idle o skipping_command e f = absurd (clash f e)
closed_idle o (in_data c d) e f = absurd (clash f.0 e)
closed_idle o (skipping_data c) e f = absurd (clash f.0 e)

module _ (b now before : List ℕ) (same : in_association b ≡ true → now ≡ before) where
  input_back : (used live : Bool) → usable b ≡ used → is_open (unpack b).core ≡ live → pick used (input_in (unpack b).input now) idle ≡ pick used (input_in (unpack b).input before) idle
  input_back false live e f = refl
  input_back true true e f = ap (input_in (unpack b).input) (same (both_holds (usable b) (is_open (unpack b).core) e f))
  input_back true false e f =
      let o = (unpack b).core.opened in
      let closed : eqb o.live 0 ≡ true = not_false (eqb o.live 0) f in
      let fits : (message : List ℕ) → Fits o (input_in (unpack b).input message) = λ message. in_fits o (unpack b).input message (sound_parts (unpack b) (both_true (leb records_size (length b)) (sound (unpack b)) e).1).1 in
      closed_idle o (input_in (unpack b).input now) closed (fits now) ∙ sym (closed_idle o (input_in (unpack b).input before) closed (fits before))

  records_back : view_of (record { records = b; message = now }) ≡ view_of (record { records = b; message = before })
  records_back = ap (λ (i : machine.Input). record { core = store_in b; input = i }) (input_back (usable b) (is_open (unpack b).core) refl refl)

pub back_view : (left lent : Kept) → HandedBack left lent → view_of lent ≡ view_of left
back_view left lent h =
    ap (λ (b : List ℕ). view_of (record { records = b; message = lent.message })) h.records
    ∙ records_back left.records lent.message left.message h.message

-- While no association is open the host may do with the message buffer what it likes.
pub free_message : (records before now : List ℕ) → in_association records ≡ false → HandedBack (record { records = records; message = before }) (record { records = records; message = now })
free_message records before now closed = record { records = refl; message = λ open-now. absurd (clash closed open-now) }

-- a made call shows an answer of the machine, which fits
pub record ShownAs (m : Made) (a : Answer Reply (List ℕ)) : Type 0 where
  pub same : m.shown ≡ shown_of m.call a
  pub lies : AnswerLies a m.left.message
  pub proper : Proper (lent_by m.call) a

unfoldable pub AllShown : List Made → List (Answer Reply (List ℕ)) → Type 0
AllShown [] [] = Unit {0}
AllShown [] (a ∷ rest) = ⊥
AllShown (m ∷ ms) [] = ⊥
AllShown (m ∷ ms) (a ∷ rest) = ShownAs m a × AllShown ms rest

-- what is shown of a run, and what is left at its end
pub record RunShown (r : Records Store) (ms : List Made) (l : Kept) : Type 0 where
  pub all : AllShown ms (answers over_bytes r (calls_read ms))
  pub ended : view_of l ≡ after over_bytes r (calls_read ms)
  pub bytes : Bytes l.records

pub run_shown : (k : Kept) (ms : List Made) → Bytes k.records → Ran by_contract k ms → RunShown (view_of k) ms (last_left k ms)
unfolding Ran last_left AllShown answers after
run_shown k [] o r = record { all = tt; ended = refl; bytes = o }
run_shown k (m ∷ ms) o r =
    let back = back_view k m.lent r.0 in
    let x = met_steps m.lent (subst Bytes (sym r.0.records) o) m.call m.left m.shown r.1 in
    let rest = run_shown m.left ms x.bytes r.2 in
    subst (λ (v : Records Store). RunShown v (m ∷ ms) (last_left m.left ms)) back
    (record {
      all = (record { same = x.same; lies = x.lies; proper = x.proper }, subst (λ (v : Records Store). AllShown ms (answers over_bytes v (calls_read ms))) x.view rest.all);
      ended = rest.ended ∙ ap (λ (v : Records Store). after over_bytes v (calls_read ms)) x.view;
      bytes = rest.bytes;
    })
