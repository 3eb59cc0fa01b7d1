-- DEMAND 3, proved. A message has one fate: what was answered with a failure, dropped or cut off has no success among its answers.
-- Assumes nothing.
use mathlib.Core.Path.{◌≡◌, refl, sym}
use mathlib.Core.Logic.{◌⊎◌, inl, inr, ⊎_elim}
use mathlib.Core.Bool.{Bool, true, false, false≢true}
use mathlib.Core.Option.{Option, none, some, none-ne-some, some-injective}
use mathlib.Core.List.{List, [], ◌∷◌}
use Prim.Native.Nat.{ℕ, ◌≤◌}
use native.Mathlib.Omega.{arith}
use borrow.Author.Tests.{eqb-true, eqb-false}
use Rattle.choice.specs.Pick.{pick}
use Rattle.choice.proofs.Picks.{clash}
use Rattle.strike.specs.Service.{DataSet, Result, fails, does, Call, start, opening, feed, close, aside, Check, passes, refuses, Service}
use Rattle.strike.specs.Machine.{Fragment, command, dataset, fragment_in, Input, idle, Outcome, ignores, waits, drops, asks, collect}
use Rattle.strike.specs.Machine.{Answer, refused, done, told, ignored, wait, dropped, failure, success, Records, Step, answered, carried_out, fed, checked, step}
use Rattle.strike.specs.Messages.{may_begin, unfinished, Role, outside, begins, continues, ends, role_of_fragment, Count, current, count_after, message_of, cut_by}
use Rattle.strike.specs.Messages.{Fate, wasCutOff, strikeable, says, is_of, fate_of, role_if, role_of, event_of, history_from, history, StrikeOut}
use Rattle.strike.proofs.Simulation.{Fruitless, Never, strike_fruitless}
use Rattle.strike.proofs.Opened.{the_machine}

is_of_lem : (i : ℕ) (x : Option ℕ) → is_of i x ≡ true → x ≡ some i
unfolding is_of
is_of_lem i none h = absurd (false≢true h)
is_of_lem i (some j) h = rw (eqb-true i j h)

not_of : (i : ℕ) (x : Option ℕ) → is_of i x ≡ false → x ≡ some i → ⊥
unfolding is_of
not_of i none h e = none-ne-some i e
not_of i (some j) h e = eqb-false i j h (sym (some-injective j i e))

picked : (b : Bool) (x : Option ℕ) (i : ℕ) → pick b x none ≡ some i → x ≡ some i
picked true x i e = e
picked false x i e = absurd (none-ne-some i e)

-- the current message is the last that began
current_last : (n : Count) (i : ℕ) → current n ≡ some i → n.begun ≡ i
current_last n i e = some-injective n.begun i (picked n.goes_on (some n.begun) i e)

-- message i is over: another has begun or, where it is the current one, all is idle
abbrev Over : ℕ → Count → Input → Type 0
Over i n input = (i ≤ n.begun) × (current n ≡ some i → input ≡ idle)

-- what an answer says of its message, if that may be struck: no success, and either what comes later may be struck, or the message is over
says_either : {Response Told : Type 0} (a : Answer Response Told) (later : Fate) → strikeable (says a later) ≡ true
    → Fruitless a × ((strikeable later ≡ true) ⊎ (a ≡ wait → ⊥))
unfolding strikeable says
says_either (refused n) later h = (tt, inl h)
says_either done later h = (tt, inl h)
says_either (told t) later h = (tt, inl h)
says_either ignored later h = (tt, inl h)
says_either wait later h = (tt, inl h)
says_either dropped later h = (tt, inr (λ e. let z : ◌≡◌ {A = ℕ} 0 1 = cc in omega arith))
says_either (failure r d) later h = (tt, inr (λ e. let z : ◌≡◌ {A = ℕ} 0 1 = cc in omega arith))
says_either (success r d) later h = absurd (false≢true h)

-- a call of message i, or one that cuts it off, is not ahead of the count
of_begun : (i : ℕ) (r : Role) (n : Count) → message_of r n ≡ some i → i ≤ (count_after r n).begun
unfolding message_of count_after
of_begun i outside n e = absurd (none-ne-some i e)
of_begun i begins n e = omega (arith, some-injective _ _ e)
of_begun i continues n e = omega (arith, current_last n i e)
of_begun i ends n e = absurd (none-ne-some i e)

cut_over : (i : ℕ) (r : Role) (input input' : Input) (n : Count) → cut_by r input n ≡ some i → Over i (count_after r n) input'
unfolding cut_by count_after
cut_over i outside input input' n e = absurd (none-ne-some i e)
cut_over i begins input input' n e =
    let l = current_last n i (picked (unfinished input) (current n) i e) in
    (omega arith, λ q. absurd (omega (arith, some-injective _ _ q)))
cut_over i continues input input' n e = absurd (none-ne-some i e)
cut_over i ends input input' n e = absurd (none-ne-some i e)

module _ (G : Service) where
  open G use {Core, handed, Response, Told, check, context, room, reading, request}

  -- a call in this role is no success of message i, and leaves it over
  abbrev Onward : ℕ → Count → Role → Step Core Response Told → Type 0
  Onward i n r x = (message_of r n ≡ some i → Fruitless x.answer) × Over i (count_after r n) x.records.input

  over_command : (i : ℕ) (s : Records Core) (n : Count) (last : Bool) (bytes : List ℕ) (b : Bool) → may_begin s.input ≡ b → Over i n s.input
      → Onward i n (pick b begins continues) (fed G s (some (command last bytes)))
  unfolding message_of count_after may_begin
  over_command i s n last bytes true b o = (
    λ q. absurd (omega (arith, some-injective _ _ q)),
    (omega arith, λ q. absurd (omega (arith, some-injective _ _ q))),
  )
  over_command i s n last bytes false b o =
      let no : current n ≡ some i → ⊥ = λ q. clash b (rw (o.1 q)) in
      (λ q. absurd (no q), (o.0, λ q. absurd (no q)))

  over_fed : (i : ℕ) (s : Records Core) (n : Count) (f : Option Fragment) → Over i n s.input → Onward i n (role_of_fragment s.input f) (fed G s f)
  unfolding the_machine message_of count_after role_of_fragment
  over_fed i s n none o = (λ q. tt, (o.0, λ q. refl))
  over_fed i s n (some (command last bytes)) o = over_command i s n last bytes (may_begin s.input) refl o
  over_fed i s n (some (dataset last bytes)) o = (λ q. rw (o.1 q) tt, (o.0, λ q. rw (o.1 q)))

  over_checked : (i : ℕ) (x : Check) (s : Records Core) (n : Count) (c : Call handed) → Over i n s.input → Onward i n (role_if G x s c) (checked G x s c)
  unfolding message_of count_after role_if checked
  over_checked i (refuses m) s n c o = (λ q. tt, o)
  over_checked i passes s n (start a) o = (λ q. tt, (o.0, λ q. refl))
  over_checked i passes s n (opening a) o = (λ q. tt, (o.0, λ q. refl))
  over_checked i passes s n (feed bytes a) o = over_fed i s n (fragment_in (context s.core) bytes) o
  over_checked i passes s n close o = (λ q. tt, (o.0, λ q. refl))
  over_checked i passes s n (aside a) o = (λ q. tt, o)

  over_never : (i : ℕ) (cs : List (Call handed)) (s : Records Core) (n : Count) → Over i n s.input → Never i (history_from G s n cs)
  unfolding history_from event_of role_of step
  over_never i [] s n o = tt
  over_never i (c ∷ cs) s n o =
      let x = over_checked i (check s.core c) s n c o in
      (x.0, over_never i cs _ _ x.1)

  -- a call of a message that does not wait leaves all idle
  answered_idle : (k : Core) (d : DataSet) (r : Result Core Response) → (answered G k d r).records.input ≡ idle
  unfolding answered
  answered_idle k d (fails r) = refl
  answered_idle k d (does k' r) = refl

  carried_idle : (k : Core) (o : Outcome) → ((carried_out G k o).answer ≡ wait → ⊥) → (carried_out G k o).records.input ≡ idle
  unfolding carried_out
  carried_idle k ignores h = refl
  carried_idle k (waits i) h = absurd (h refl)
  carried_idle k drops h = refl
  carried_idle k (asks c d) h = answered_idle k d (request k c d)

  fed_idle : (s : Records Core) (f : Option Fragment) → ((fed G s f).answer ≡ wait → ⊥) → (fed G s f).records.input ≡ idle
  unfolding fed
  fed_idle s none h = refl
  fed_idle s (some f) h = carried_idle s.core (collect reading (room s.core) s.input f) h

  checked_idle : (i : ℕ) (x : Check) (s : Records Core) (n : Count) (c : Call handed) → message_of (role_if G x s c) n ≡ some i
      → ((checked G x s c).answer ≡ wait → ⊥) → (checked G x s c).records.input ≡ idle
  unfolding message_of role_if checked
  checked_idle i (refuses m) s n c e h = absurd (none-ne-some i e)
  checked_idle i passes s n (start a) e h = refl
  checked_idle i passes s n (opening a) e h = refl
  checked_idle i passes s n (feed bytes a) e h = fed_idle s (fragment_in (context s.core) bytes) h
  checked_idle i passes s n close e h = refl
  checked_idle i passes s n (aside a) e h = absurd (none-ne-some i e)

  -- one call: is it of message i, and if not, does it cut i off
  fate_call : (i : ℕ) (c : Call handed) (cs : List (Call handed)) (s : Records Core) (n : Count) (later : Fate) (x y : Bool)
      → is_of i (message_of (role_of G s c) n) ≡ x → is_of i (cut_by (role_of G s c) s.input n) ≡ y
      → strikeable (pick x (says (step G s c).answer later) (pick y wasCutOff later)) ≡ true
      → (strikeable later ≡ true → Never i (history_from G (step G s c).records (count_after (role_of G s c) n) cs))
      → Never i (event_of G s n c ∷ history_from G (step G s c).records (count_after (role_of G s c) n) cs)
  unfolding event_of role_of step
  fate_call i c cs s n later true y p q h rest =
      let e = is_of_lem i _ p in
      let a = says_either (step G s c).answer later h in (
        λ z. a.0,
        ⊎_elim rest (λ no. over_never i cs _ _ (of_begun i _ n e, λ z. checked_idle i (check s.core c) s n c e no)) a.1,
      )
  fate_call i c cs s n later false true p q h rest = (
    λ z. absurd (not_of i _ p z),
    over_never i cs _ _ (cut_over i _ s.input _ n (is_of_lem i _ q)),
  )
  fate_call i c cs s n later false false p q h rest = (λ z. absurd (not_of i _ p z), rest h)

  one_fate : (i : ℕ) (cs : List (Call handed)) (s : Records Core) (n : Count) → strikeable (fate_of i (history_from G s n cs)) ≡ true
      → Never i (history_from G s n cs)
  unfolding fate_of history_from event_of
  one_fate i [] s n h = tt
  one_fate i (c ∷ cs) s n h = fate_call i c cs s n _ _ _ refl refl h (one_fate i cs _ _)

  -- DEMAND 3
  pub strike_out : StrikeOut G
  unfolding StrikeOut history
  strike_out s cs S h = strike_fruitless G S s cs (λ i q. one_fate i cs s _ (h i q))
