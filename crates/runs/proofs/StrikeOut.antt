-- DEMAND 3 over the bytes of the calls, of calls that meet their contracts.
-- Assumes nothing.
use mathlib.Core.Path.{◌≡◌, refl, sym, ap, ◌∙◌, subst}
use mathlib.Core.Bool.{Bool, true, false}
use mathlib.Core.List.{List, [], ◌∷◌}
use Prim.Native.Nat.{ℕ}
use Rattle.choice.specs.Pick.{pick}
use Rattle.octets.specs.Octets.{Bytes}
use Rattle.strike.specs.Service.{Call}
use Rattle.strike.specs.Machine.{Answer, Records, step}
use Rattle.strike.specs.Messages as messages
use Rattle.strike.specs.Messages.{Count, count_after, Event, struck, without, calls_of, answers_of, strikeable, role_of, event_of, history_from, history, answers, after}
use Rattle.strike.proofs.Fate.{strike_out}
use Rattle.strike.proofs.History.{history_answers}
use Rattle.rules.specs.Responses.{Reply}
use Rattle.rules.specs.Calls.{handed}
use Rattle.runs.specs.Host.{Kept}
use Rattle.runs.specs.CallContracts.{by_contract, Made}
use Rattle.runs.specs.Runs.{Store, over_bytes, view_of, core_in, Ran, last_left, calls_read, events_of, SameAnswer, Pairwise, left_of, StrikeOut}
use Rattle.runs.proofs.Stored.{core_of, store_core}
use Rattle.runs.proofs.Ran.{AllShown, run_shown}
use Rattle.runs.proofs.Same.{same_answer, fate_shown_lem}

abbrev Events : Type 0
Events = List (Event handed Reply (List ℕ))

-- The calls that are left, and what they show.

calls_if : (b : Bool) (c : Call handed) (cs : List (Call handed)) (e : Event handed Reply (List ℕ)) (es : Events) → c ≡ e.call → cs ≡ calls_of es → pick b cs (c ∷ cs) ≡ calls_of (pick b es (e ∷ es))
calls_if true c cs e es p q = q
calls_if false c cs e es p q = rw (p, q)

calls_left_lem : (S : ℕ → Bool) (cs : List (Call handed)) (r : Records Store) (n : Count) → left_of S (history_from over_bytes r n cs) cs ≡ calls_of (without S (history_from over_bytes r n cs))
unfolding left_of without history_from event_of
calls_left_lem S [] r n = refl
calls_left_lem S (c ∷ cs) r n =
    let e = event_of over_bytes r n c in
    let es = history_from over_bytes (step over_bytes r c).records (count_after (role_of over_bytes r c) n) cs in
    calls_if (struck S e.message) c (left_of S es cs) e (without S es) refl (calls_left_lem S cs (step over_bytes r c).records (count_after (role_of over_bytes r c) n))

shown_if : (b : Bool) (m : Made) (ms : List Made) (e : Event handed Reply (List ℕ)) (es : Events) → AllShown (m ∷ []) (e.answer ∷ []) → AllShown ms (answers_of es) → AllShown (pick b ms (m ∷ ms)) (answers_of (pick b es (e ∷ es)))
unfolding AllShown
shown_if true m ms e es x y = y
shown_if false m ms e es x y = (x.0, y)

shown_left : (S : ℕ → Bool) (es : Events) (ms : List Made) → AllShown ms (answers_of es) → AllShown (left_of S es ms) (answers_of (without S es))
unfolding left_of without AllShown
shown_left S [] [] x = tt
shown_left S [] (m ∷ ms) x = absurd x
shown_left S (e ∷ es) [] x = absurd x
shown_left S (e ∷ es) (m ∷ ms) x = shown_if (struck S e.message) m (left_of S es ms) e (without S es) (x.0, tt) (shown_left S es ms x.1)

paired : (ms ns : List Made) (given : List (Answer Reply (List ℕ))) → AllShown ms given → AllShown ns given → Pairwise SameAnswer ms ns
unfolding AllShown Pairwise
paired [] [] [] x y = tt
paired [] [] (a ∷ given) x y = absurd x
paired [] (n ∷ ns) [] x y = absurd y
paired [] (n ∷ ns) (a ∷ given) x y = absurd x
paired (m ∷ ms) [] [] x y = absurd x
paired (m ∷ ms) [] (a ∷ given) x y = absurd y
paired (m ∷ ms) (n ∷ ns) [] x y = absurd x
paired (m ∷ ms) (n ∷ ns) (a ∷ given) x y = (same_answer m n a x.0 y.0, paired ms ns given x.1 y.1)

-- each call of a run shows the answer of its event
pub events_shown : (k : Kept) (ms : List Made) → Bytes k.records → Ran by_contract k ms → AllShown ms (answers_of (events_of k ms))
unfolding history
events_shown k ms o ran = subst (AllShown ms) (sym (history_answers over_bytes (calls_read ms) (view_of k) _)) (run_shown k ms o ran).all

-- The core in the records' bytes at the end.
core_ended : (l : Kept) (r : Records Store) → view_of l ≡ r → core_in l ≡ core_of r.core
core_ended l r e = sym (store_core l.records) ∙ ap (λ (x : Records Store). core_of x.core) e

-- Strike any whole messages that were answered with a failure, dropped, or cut off by the next command: every other call shows the same
-- answer, byte for byte, and sessions, films, boxes, queue and next numbers end the same in the records' bytes.
pub contracts_strike_out : StrikeOut by_contract
unfolding StrikeOut messages.StrikeOut history
contracts_strike_out k o whole struck ran left S may calls =
    let es = events_of k whole in
    let W = run_shown k whole o ran in
    let X = run_shown k struck o left in
    let all = events_shown k whole o ran in
    let same = strike_out over_bytes (view_of k) (calls_read whole) S (λ i h. sym (ap strikeable (fate_shown_lem i es whole all)) ∙ may i h) in
    let read : calls_read struck ≡ calls_of (without S es) = calls ∙ calls_left_lem S (calls_read whole) (view_of k) _ in
    let rest : AllShown struck (answers_of (without S es)) =
    subst (AllShown struck) (ap (answers over_bytes (view_of k)) read ∙ same.same_answers) X.all in
    record {
      same_answers = paired (left_of S es whole) struck (answers_of (without S es)) (shown_left S es whole all) rest;
      same_core =
          core_ended (last_left k struck) _ X.ended
          ∙ ap core_of (ap (λ (cs : List (Call handed)). (after over_bytes (view_of k) cs).core) read ∙ same.same_core)
          ∙ sym (core_ended (last_left k whole) _ W.ended);
    }
