-- Fakes of rule 8.5, each over any service G. All of them satisfy strike-out, so it is worth nothing alone: demand 3 is stated over the
-- step of the right service, which tells each of them apart (Toy).
-- Assumes nothing.
use mathlib.Core.Bool.{Bool, true, false}
use mathlib.Core.List.{List}
use Prim.Native.Nat.{ℕ}
use Rattle.strike.specs.declared.Reading.{Reading}
use Rattle.strike.specs.declared.Reading.TheVariants.{NotReadable}
use Rattle.strike.specs.Service.{DataSet, Result, fails, does, Service}
use Rattle.strike.specs.Messages.{StrikeOut}
use Rattle.strike.proofs.Fate.{strike_out}

-- G with other requests, which may remember one thing beside G's core
abbrev pub faked : (G : Service) → Bool → (List ℕ → Reading) → (G.Core × Bool → List ℕ → DataSet → Result (G.Core × Bool) G.Response) → Service
faked G fresh reading request =
    record {
      Core = G.Core × Bool;
      handed = G.handed;
      Response = G.Response;
      Told = G.Told;
      check = λ k c. G.check k.0 c;
      started = λ a. (G.started a, fresh);
      opened = λ k a. (G.opened k.0 a, k.1);
      closed = λ k. (G.closed k.0, k.1);
      asked = λ k a. (((G.asked k.0 a).0, k.1), (G.asked k.0 a).1);
      context = λ k. G.context k.0;
      room = λ k. G.room k.0;
      reading = reading;
      request = request;
    }

-- what is done is answered, and kept only until something has been done
abbrev stored : {Core Response : Type 0} → Core → Bool → Result Core Response → Result (Core × Bool) Response
stored k full (fails r) = fails r
stored k true (does k' r) = does (k, true) r
stored k false (does k' r) = does (k', true) r

module _ (G : Service) where
  open G use {Response, reading, request}

  abbrev pub drops_all : Service
  drops_all = faked G false (λ c. NotReadable) (λ k c d. stored k.0 false (request k.0 c d))

  abbrev pub fails_all : Response → Service
  fails_all r = faked G false reading (λ k c d. fails r)

  abbrev pub one_reply : Response → Service
  one_reply r = faked G false reading (λ k c d. does k r)

  -- responds rightly, but stores nothing
  abbrev pub stores_none : Service
  stores_none = faked G true reading (λ k c d. stored k.0 true (request k.0 c d))

  -- .. after the first that was done
  abbrev pub stores_first : Service
  stores_first = faked G false reading (λ k c d. stored k.0 k.1 (request k.0 c d))

  pub drops_all_strikes : StrikeOut drops_all
  drops_all_strikes = strike_out drops_all

  pub fails_all_strikes : (r : Response) → StrikeOut (fails_all r)
  fails_all_strikes r = strike_out (fails_all r)

  pub one_reply_strikes : (r : Response) → StrikeOut (one_reply r)
  one_reply_strikes r = strike_out (one_reply r)

  pub stores_none_strikes : StrikeOut stores_none
  stores_none_strikes = strike_out stores_none

  pub stores_first_strikes : StrikeOut stores_first
  stores_first_strikes = strike_out stores_first
