-- The whole run and the run without struck messages, side by side. They have one core throughout; while the current message is kept they
-- have one input, and while it is struck the shorter run stands where a message may begin.
-- Assumes nothing.
use mathlib.Core.Path.{◌≡◌, refl, sym, ap, ap₂, subst}
use mathlib.Core.Bool.{Bool, true, false, false≢true}
use mathlib.Core.Option.{Option, none, some}
use mathlib.Core.List.{List, [], ◌∷◌}
use Prim.Native.Nat.{ℕ}
use Rattle.choice.specs.Pick.{pick}
use Rattle.choice.proofs.Picks.{clash}
use Rattle.strike.specs.declared.Reading.{Reading}
use Rattle.strike.specs.Service.{Handed, DataSet, Result, fails, does, Call, start, opening, feed, close, aside, Check, passes, refuses, Service}
use Rattle.strike.specs.Machine.{Fragment, command, dataset, fragment_in, Input, idle, in_command, skipping_command, in_data, skipping_data}
use Rattle.strike.specs.Machine.{Outcome, ignores, waits, drops, asks, gathers, collect}
use Rattle.strike.specs.Machine.{Answer, refused, done, told, ignored, wait, dropped, failure, success, Records, Step, leaves, answered, carried_out, fed, checked, step}
use Rattle.strike.specs.Messages.{may_begin, begins, continues, role_of_fragment, Count, current, count_after, message_of, Event, struck, without, calls_of, answers_of}
use Rattle.strike.specs.Messages.{role_if, role_of, event_of, history_from, history, answers, after, Same}

-- where a message may begin, a command fragment begins one, whatever stood there
collect_begins : (reading : List ℕ → Reading) (room : ℕ) (i : Input) (last : Bool) (bytes : List ℕ) → may_begin i ≡ true
    → collect reading room i (command last bytes) ≡ gathers reading bytes last
unfolding collect may_begin
collect_begins reading room idle last bytes h = refl
collect_begins reading room (in_command c) last bytes h = absurd (false≢true h)
collect_begins reading room skipping_command last bytes h = absurd (false≢true h)
collect_begins reading room (in_data c d) last bytes h = refl
collect_begins reading room (skipping_data c) last bytes h = refl

-- no success
abbrev pub Fruitless : {Response Told : Type 0} → Answer Response Told → Type 0
Fruitless (refused n) = Unit {0}
Fruitless done = Unit {0}
Fruitless (told t) = Unit {0}
Fruitless ignored = Unit {0}
Fruitless wait = Unit {0}
Fruitless dropped = Unit {0}
Fruitless (failure r d) = Unit {0}
Fruitless (success r d) = ⊥

-- no success of message i
abbrev pub Never : {H : Handed} {Response Told : Type 0} → ℕ → List (Event H Response Told) → Type 0
Never i [] = Unit {0}
Never i (e ∷ es) = (e.message ≡ some i → Fruitless e.answer) × Never i es

-- what holds for each message of the set holds for a struck call
struck_of : {P : Type 0} (S : ℕ → Bool) (x : Option ℕ) → ((i : ℕ) → S i ≡ true → x ≡ some i → P) → struck S x ≡ true → P
unfolding struck
struck_of S none h e = absurd (false≢true e)
struck_of S (some i) h e = h i e refl

-- the inputs of the whole run and of the shorter one, by whether the current message is struck
Tied : Bool → Input → Input → Type 0
Tied true i j = may_begin j ≡ true
Tied false i j = i ≡ j

tied_idle : (t : Bool) → Tied t idle idle
unfolding Tied may_begin
tied_idle true = refl
tied_idle false = refl

tied_kept : (t : Bool) (i : Input) → t ≡ false → Tied t i i
unfolding Tied
tied_kept true i h = absurd (clash h refl)
tied_kept false i h = refl

both_begin : (t : Bool) (i j : Input) → Tied t i j → may_begin i ≡ true → may_begin j ≡ true
unfolding Tied
both_begin true i j h b = h
both_begin false i j h b = rw h at b

module _ (G : Service) where
  open G use {Core, handed, Response, Told, check, context, request}

  answered_core : (k : Core) (d : DataSet) (r : Result Core Response) → Fruitless (answered G k d r).answer → (answered G k d r).records.core ≡ k
  unfolding answered
  answered_core k d (fails r) h = refl
  answered_core k d (does k' r) h = absurd h

  carried_core : (k : Core) (o : Outcome) → Fruitless (carried_out G k o).answer → (carried_out G k o).records.core ≡ k
  unfolding carried_out
  carried_core k ignores h = refl
  carried_core k (waits i) h = refl
  carried_core k drops h = refl
  carried_core k (asks c d) h = answered_core k d (request k c d) h

  -- the records of the shorter run: the same core, another input
  abbrev at : Records Core → Input → Records Core
  at s j = record { core = s.core; input = j }

  module _ (S : ℕ → Bool) where
    record Tie (n : Count) (s t : Records Core) : Type 0 where
      one_core : s.core ≡ t.core
      tied : Tied (struck S (current n)) s.input t.input

    record Kept (n : Count) (x y : Step Core Response Told) : Type 0 where
      one_answer : x.answer ≡ y.answer
      tie : Tie n x.records y.records

    -- one step, after which the current message is kept
    kept_same : (n : Count) (x y : Step Core Response Told) → struck S (current n) ≡ false → x ≡ y → Kept n x y
    kept_same n x y h e =
        subst (λ (z : Step Core Response Told). Kept n x z) e
        (record { one_answer = refl; tie = record { one_core = refl; tied = tied_kept _ _ h } })

    kept_idle : (n : Count) (k : Core) (a : Answer Response Told) → Kept n (leaves k idle a) (leaves k idle a)
    kept_idle n k a = record { one_answer = refl; tie = record { one_core = refl; tied = tied_idle _ } }

    module _ (n : Count) (s : Records Core) (j : Input) (r : Tied (struck S (current n)) s.input j) where
      -- a fragment that goes on with a kept message
      keep_continues : (f : Fragment) → struck S (current n) ≡ false → Kept n (fed G s (some f)) (fed G (at s j) (some f))
      unfolding Tied
      keep_continues f h =
          let i : s.input ≡ j = rw h at r in
          kept_same n _ _ h (ap (λ (x : Input). fed G (at s x) (some f)) i)

      -- a command fragment, which begins a kept message or goes on with one
      keep_command : (last : Bool) (bytes : List ℕ) (b : Bool) → may_begin s.input ≡ b → struck S (message_of (pick b begins continues) n) ≡ false
          → Kept (count_after (pick b begins continues) n) (fed G s (some (command last bytes))) (fed G (at s j) (some (command last bytes)))
      unfolding message_of count_after fed
      keep_command last bytes true b h =
          kept_same _ _ _ h (rw (collect_begins _ _ s.input last bytes b, collect_begins _ _ j last bytes (both_begin _ s.input j r b)))
      keep_command last bytes false b h = keep_continues (command last bytes) h

      keep_fed : (f : Option Fragment) → struck S (message_of (role_of_fragment s.input f) n) ≡ false
          → Kept (count_after (role_of_fragment s.input f) n) (fed G s f) (fed G (at s j) f)
      unfolding message_of count_after role_of_fragment fed
      keep_fed none h = kept_idle n _ _
      keep_fed (some (command last bytes)) h = keep_command last bytes (may_begin s.input) refl h
      keep_fed (some (dataset last bytes)) h = keep_continues (dataset last bytes) h

      -- a call that is kept
      keep_checked : (x : Check) (c : Call handed) → struck S (message_of (role_if G x s c) n) ≡ false
          → Kept (count_after (role_if G x s c) n) (checked G x s c) (checked G x (at s j) c)
      unfolding message_of count_after role_if checked
      keep_checked (refuses m) c h = record { one_answer = refl; tie = record { one_core = refl; tied = r } }
      keep_checked passes (start a) h = kept_idle _ _ _
      keep_checked passes (opening a) h = kept_idle _ _ _
      keep_checked passes (feed bytes a) h = keep_fed (fragment_in (context s.core) bytes) h
      keep_checked passes close h = kept_idle _ _ _
      keep_checked passes (aside a) h = record { one_answer = refl; tie = record { one_core = refl; tied = r } }

      -- a fragment that is struck out
      skip_fragment : (m : Count) (f : Fragment) → struck S (current m) ≡ true → may_begin j ≡ true → Fruitless (fed G s (some f)).answer
          → Tie m (fed G s (some f)).records (at s j)
      unfolding Tied fed
      skip_fragment m f h b q = record { one_core = carried_core _ _ q; tied = rw h b }

      skip_command : (last : Bool) (bytes : List ℕ) (b : Bool) → may_begin s.input ≡ b → struck S (message_of (pick b begins continues) n) ≡ true
          → Fruitless (fed G s (some (command last bytes))).answer
          → Tie (count_after (pick b begins continues) n) (fed G s (some (command last bytes))).records (at s j)
      unfolding Tied message_of count_after
      skip_command last bytes true b h q = skip_fragment _ (command last bytes) h (both_begin (struck S (current n)) s.input j r b) q
      skip_command last bytes false b h q = skip_fragment n (command last bytes) h (rw h at r) q

      skip_fed : (f : Option Fragment) → struck S (message_of (role_of_fragment s.input f) n) ≡ true → Fruitless (fed G s f).answer
          → Tie (count_after (role_of_fragment s.input f) n) (fed G s f).records (at s j)
      unfolding Tied struck message_of count_after role_of_fragment
      skip_fed none h q = absurd (false≢true h)
      skip_fed (some (command last bytes)) h q = skip_command last bytes (may_begin s.input) refl h q
      skip_fed (some (dataset last bytes)) h q = skip_fragment n (dataset last bytes) h (rw h at r) q

      -- a call that is struck out
      skip_checked : (x : Check) (c : Call handed) → struck S (message_of (role_if G x s c) n) ≡ true → Fruitless (checked G x s c).answer
          → Tie (count_after (role_if G x s c) n) (checked G x s c).records (at s j)
      unfolding struck message_of count_after role_if checked
      skip_checked (refuses m) c h q = absurd (false≢true h)
      skip_checked passes (start a) h q = absurd (false≢true h)
      skip_checked passes (opening a) h q = absurd (false≢true h)
      skip_checked passes (feed bytes a) h q = skip_fed (fragment_in (context s.core) bytes) h q
      skip_checked passes close h q = absurd (false≢true h)
      skip_checked passes (aside a) h q = absurd (false≢true h)

    -- the two runs, from tied records
    abbrev Ends : Records Core → Records Core → List (Call handed) → List (Event handed Response Told) → Type 0
    Ends s t cs left = (answers G t (calls_of left) ≡ answers_of left) × ((after G t (calls_of left)).core ≡ (after G s cs).core)

    both_call : (n : Count) (s : Records Core) (j : Input) (c : Call handed) (cs : List (Call handed)) (left : List (Event handed Response Told)) (b : Bool)
        → struck S (message_of (role_of G s c) n) ≡ b → (b ≡ true → Fruitless (step G s c).answer) → Tied (struck S (current n)) s.input j
        → ((u : Records Core) → Tie (count_after (role_of G s c) n) (step G s c).records u → Ends (step G s c).records u cs left)
        → Ends s (at s j) (c ∷ cs) (pick b left (event_of G s n c ∷ left))
    unfolding answers after event_of role_of step
    both_call n s j c cs left true h q r rest = rest (at s j) (skip_checked n s j r (check s.core c) c h (q refl))
    both_call n s j c cs left false h q r rest =
        let k = keep_checked n s j r (check s.core c) c h in
        let e = rest (step G (at s j) c).records k.tie in
        (ap₂ ◌∷◌ (sym k.one_answer) e.0, e.1)

    both_runs : (cs : List (Call handed)) (n : Count) (s t : Records Core) → Tie n s t → ((i : ℕ) → S i ≡ true → Never i (history_from G s n cs))
        → Ends s t cs (without S (history_from G s n cs))
    unfolding answers after history_from without event_of
    both_runs [] n s t r q = (refl, sym r.one_core)
    both_runs (c ∷ cs) n s t r q =
        subst (λ (k : Core). Ends s (record { core = k; input = t.input }) (c ∷ cs) (without S (history_from G s n (c ∷ cs)))) r.one_core
        (both_call n s t.input c cs _ (struck S (message_of (role_of G s c) n)) refl (struck_of S _ (λ i e. (q i e).0)) r.tied
        (λ u r'. both_runs cs _ _ u r' (λ i e. (q i e).1)))

    pub strike_fruitless : (s : Records Core) (cs : List (Call handed)) → ((i : ℕ) → S i ≡ true → Never i (history G s cs))
        → Same G s cs (without S (history G s cs))
    unfolding history struck Tied
    strike_fruitless s cs q =
        let e = both_runs cs (record { begun = 0; goes_on = false }) s s (record { one_core = refl; tied = refl }) q in
        record { same_answers = e.0; same_core = e.1 }
