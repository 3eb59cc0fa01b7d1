-- Names that are new: they keep their rules, and differ from those held.
-- Assumes nothing.
use Prim.Native.Nat.{ℕ, ◌+◌, ◌<◌, ◌≤◌}
use mathlib.Core.Path.{◌≡◌, refl}
use mathlib.Core.Bool.{Bool, true, false}
use mathlib.Core.List.{List, [], ◌∷◌}
use native.Mathlib.Omega.{arith}
use lib.Dec.{eqb, ltb}
use lib.ListN.{length, take}
use borrow.Author.Tests.{ltb-true, lt-ltb, le-ltb, eqb-true, eqb-false, ne_eqb}
use Rattle.choice.specs.Pick.{pick, either, not}
use Rattle.choice.proofs.Picks.{Kept, pick_cases, both_fails, both_second, either_false, not_false, clash}
use Rattle.octets.specs.Octets.{same}
use Rattle.octets.proofs.Same.{same_equal, same_self}
use Rattle.uids.specs.Uids.{is_uid, begins_with, made}
use Rattle.uids.proofs.Length.{uid_short}
use Rattle.headers.specs.declared.Part.{Part}
use Rattle.rules.specs.declared.Name.{Name}
use Rattle.rules.specs.declared.Numbers.{Numbers}
use Rattle.rules.specs.declared.Core.{Core}
use Rattle.rules.specs.Records.{made_name, sent_name, root_of, uid_of, named}
use Rattle.rules.specs.Commands.{uid_at}
use Rattle.rules.specs.Effects.{own_serials, name_from}
use Rattle.rules.specs.Checks.{is_nobody, is_sent, create_rules, sent_uid}
use Rattle.rules.specs.Sound.{name_sound, sent_sound, made_sound, Serials, overlap, own_serial, sent_text, same_text}
use Rattle.promises.proofs.ListLaws.{all_true, all_holds, zeros_replicate, take_filled, behind_filled}
use Rattle.promises.proofs.Facts.{between_holds}

-- What check 6 tells of a UID that is sent; none is sent where it is empty.

pub record Sendable (k : Core) (sent : List ℕ) : Type 0 where
  pub valid : (length sent ≡ 0 → ⊥) → is_uid sent ≡ true
  pub foreign : (length sent ≡ 0 → ⊥) → begins_with (root_of k.numbers) sent ≡ false
  pub free : (length sent ≡ 0 → ⊥) → is_nobody (named k sent) ≡ true

pub sendable : (k : Core) (c : List ℕ) (sent : Part) → Kept (create_rules k c sent) → Sendable k (sent_uid c sent)
unfolding create_rules
sendable k c sent h =
    pick_cases (Sendable k) (is_sent sent) (uid_at c sent) []
    (λ e.
    let u = uid_at c sent in
    let a = either_false (not (is_uid u)) (begins_with (root_of k.numbers) u) (both_second (is_sent sent) (either (not (is_uid u)) (begins_with (root_of k.numbers) u)) h.0 e) in
    let b = both_second (is_sent sent) (not (is_nobody (named k u))) h.1.0 e in
    record { valid = λ x. not_false (is_uid u) a.0; foreign = λ x. a.1; free = λ x. not_false (is_nobody (named k u)) b })
    (λ e. record { valid = λ x. absurd (x refl); foreign = λ x. absurd (x refl); free = λ x. absurd (x refl) })

pub sent_short : (k : Core) (sent : List ℕ) → Sendable k sent → length sent ≤ 64
sent_short k sent s = short (eqb (length sent) 0) refl
  where
    short : (none : Bool) → eqb (length sent) 0 ≡ none → length sent ≤ 64
    short true e = let z = eqb-true (length sent) 0 e in omega arith
    short false e = uid_short sent (s.valid (eqb-false (length sent) 0 e))

-- Names keep their rules.

made_name_sound : (m : Numbers) (s : ℕ) → 1 ≤ s → s < m.serial → name_sound m (made_name s) ≡ true
unfolding name_sound
made_name_sound m s h g =
    rw (ne_eqb s 0 (λ e. omega arith))
    (all_holds _ (lt-ltb s m.serial g, (refl, (zeros_replicate 64, tt))))

sent_name_sound : (m : Numbers) (sent : List ℕ) → (length sent ≡ 0 → ⊥) → is_uid sent ≡ true → begins_with (root_of m) sent ≡ false → name_sound m (sent_name sent) ≡ true
unfolding name_sound
sent_name_sound m sent n u b =
    let front = take_filled 64 0 sent (length sent) refl in
    all_holds _ (between_holds 1 64 (length sent) (omega arith) (uid_short sent u), (rw front u, (rw (front, b), (behind_filled 64 0 sent (λ (c : ℕ). eqb c 0) refl, tt))))

pub name_from_sound : (k : Core) (sent : List ℕ) (m : Numbers) → Sendable k sent → root_of m ≡ root_of k.numbers → 1 ≤ k.numbers.serial → k.numbers.serial + own_serials sent ≤ m.serial → name_sound m (name_from k.numbers sent) ≡ true
name_from_sound k sent m s r h g =
    pick_cases (λ (name : Name). name_sound m name ≡ true) (eqb (length sent) 0) (made_name k.numbers.serial) (sent_name sent)
    (λ e. let own : own_serials sent ≡ 1 = rw e in made_name_sound m k.numbers.serial h (omega arith))
    (λ e. let n = eqb-false (length sent) 0 e in sent_name_sound m sent n (s.valid n) (rw r (s.foreign n)))

-- Serials differ.

-- what is used up is apart from what comes later
pub apart_later : (a b : Serials) (n : ℕ) → a.from + a.count ≤ n → n ≤ b.from → pick (overlap a b) false true ≡ true
apart_later a b n h g = rw (le-ltb b.from (a.from + a.count) (omega arith), both_fails (ltb a.from (b.from + b.count)))

pub apart_none : (a b : Serials) → b.from + b.count ≡ 0 → pick (overlap a b) false true ≡ true
apart_none a b e = rw (le-ltb a.from (b.from + b.count) (omega arith))

-- the serial of a name is used up
pub own_below : (n : Numbers) (name : Name) → name_sound n name ≡ true → (own_serial name).from + (own_serial name).count ≤ n.serial
unfolding name_sound
own_below n name e = below (eqb name.made.0 0) refl e
  where
    below : (t : Bool) → eqb name.made.0 0 ≡ t → pick t (sent_sound n name) (made_sound n name) ≡ true → name.made.0 + pick t 0 1 ≤ n.serial
    below true t e = let z = eqb-true name.made.0 0 t in omega arith
    below false t e = let l = ltb-true name.made.0 n.serial (all_true _ e).0 in omega arith

-- Texts differ.

-- an empty text is like none
pub text_none : (a : List ℕ) → same_text a [] ≡ false
unfolding same
text_none [] = refl
text_none (x ∷ a) = both_fails (not (eqb (length (x ∷ a)) 0))

same_other : (a b : List ℕ) → same a b ≡ false → same b a ≡ false
same_other a b e = other (same b a) refl
  where
    other : (t : Bool) → same b a ≡ t → t ≡ false
    other true f = absurd (clash e (rw (same_equal b a f) (same_self a)))
    other false f = refl

-- a UID that is not a name's is not its text
pub text_free_lem : (n : Numbers) (name : Name) (sent : List ℕ) → name_sound n name ≡ true → same sent (uid_of n name) ≡ false → same_text (sent_text name) sent ≡ false
unfolding name_sound uid_of
text_free_lem n name sent e f = free (eqb name.made.0 0) e f
  where
    free : (t : Bool) → pick t (sent_sound n name) (made_sound n name) ≡ true → same sent (pick t (take name.used name.text) (made (root_of n) name.made.0)) ≡ false → same_text (sent_text name) sent ≡ false
    free true e f = rw (same_other sent (sent_text name) f) (both_fails (not (eqb (length (sent_text name)) 0)))
    free false e f = rw (eqb-true name.used 0 (all_true _ e).1.0)
