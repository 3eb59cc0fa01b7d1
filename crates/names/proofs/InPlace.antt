-- What the tests of a name and of the numbers are on the bytes of their places.
-- Assumes nothing.
use Prim.Native.Nat.{ℕ, suc, ◌+◌, ◌*◌, ◌-◌, ◌<◌, ◌≤◌}
use mathlib.Core.Path.{◌≡◌, sym, ap, ◌∙◌}
use mathlib.Core.Bool.{Bool, true, false}
use mathlib.Core.List.{List}
use native.Mathlib.Omega.{arith}
use lib.Dec.{eqb, leb, ltb}
use lib.ListN.{length, get_or}
use lib.Seq.{drop-cons}
use borrow.Author.Tests.{leb-true, lt-ltb, le-ltb, ne_eqb}
use Rattle.choice.specs.Pick.{pick, both, not}
use Rattle.choice.proofs.Picks.{both_only, both_assoc, both_true}
use Rattle.octets.specs.Octets.{number_at, part}
use Rattle.uids.specs.Uids.{is_uid, begins_with}
use Rattle.rules.specs.declared.Numbers.{Numbers}
use Rattle.rules.specs.Bounds.{root_limit, none_left}
use Rattle.rules.specs.Layout.{name_size, numbers_size, name_format, serial_format, numbers_format}
use Rattle.rules.specs.Lists.{every}
use Rattle.rules.specs.Records.{root_of}
use Rattle.rules.specs.Sound.{between, zeros, sent_sound, made_sound, name_sound, numbers_sound}
use Rattle.records.specs.Places.{numbers_in}
use Rattle.records.proofs.Texts.{text_front, text_behind}

-- five bytes are four and one
pub five_bytes : (b : List ℕ) (at : ℕ) → number_at 5 b at ≡ number_at 4 b at + 4294967296 * get_or b (at + 4) 0
unfolding number_at
five_bytes b at =
    let e : at + 1 + 1 + 1 + 1 ≡ at + 4 = omega arith in
    rw e (omega arith)

fits : (most n : ℕ) → between 1 most n ≡ true → n ≤ most
fits most n e = leb-true n most (both_true (leb 1 n) (leb n most) e).1

-- A name at a place.
module _ (n : Numbers) (b : List ℕ) (p : ℕ) (h : p + name_size ≤ length b) where
  pub sent_unfit : between 1 64 (get_or b (p + 4) 0) ≡ false → false ≡ sent_sound n (name_format.read b p)
  unfolding name_format serial_format every
  sent_unfit k = rw k

  pub sent_told : (r : Bool) → between 1 64 (get_or b (p + 4) 0) ≡ true
      → (let text = p + 4 + 1 in
      let stop = text + get_or b (p + 4) 0 in
      r ≡ both (both (is_uid (part b text stop)) (not (begins_with (root_of n) (part b text stop)))) (zeros (part b stop (text + 64))))
      → r ≡ sent_sound n (name_format.read b p)
  unfolding name_format serial_format every
  sent_told r k e =
      let u = get_or b (p + 4) 0 in
      let l = fits 64 u k in
      let uid = part b (p + 4 + 1) (p + 4 + 1 + u) in
      let clear = zeros (part b (p + 4 + 1 + u) (p + 4 + 1 + 64)) in
      e ∙ sym (both_assoc (is_uid uid) (not (begins_with (root_of n) uid)) clear)
      ∙ sym (rw (k, text_front b (p + 4 + 1) 64 (omega arith) u l, text_behind b (p + 4 + 1) 64 (omega arith) u l, both_only clear))

  -- a made one: one zero test of length and text
  made_told : made_sound n (name_format.read b p) ≡ both (ltb (number_at 4 b p) n.serial) (zeros (part b (p + 4) (p + 69)))
  unfolding name_format serial_format every
  made_told =
      let e : p + 69 - (p + 4) ≡ 65 = omega arith in
      let k : p + 4 + 1 + 64 - (p + 4 + 1 + 0) ≡ 64 = omega arith in
      let z : p + 4 + 1 + 0 ≡ suc (p + 4) = omega arith in
      rw (e, drop-cons b (p + 4) 0 (omega arith), both_only, text_behind b (p + 4 + 1) 64 (omega arith) 0 (omega arith), k, z)

-- A name, by its serial as it was read.
module _ (b : List ℕ) (p : ℕ) (h : p + name_size ≤ length b) {made : ℕ} (e : made ≡ number_at 4 b p) where
  pub name_sent : {r : Bool} → made ≡ 0 → r ≡ sent_sound (numbers_in b) (name_format.read b p) → r ≡ name_sound (numbers_in b) (name_format.read b p)
  unfolding name_sound name_format serial_format
  name_sent z s = s ∙ sym (rw (← e, z))

  module _ (z : made ≡ 0 → ⊥) {next : ℕ} (d : next ≡ number_at 5 b 41) where
    told : name_sound (numbers_in b) (name_format.read b p) ≡ both (ltb made next) (zeros (part b (p + 4) (p + 69)))
    unfolding name_sound name_format serial_format numbers_format
    told = rw (e, d) (ap (λ t. pick t (sent_sound (numbers_in b) (name_format.read b p)) (made_sound (numbers_in b) (name_format.read b p))) (ap (λ m. eqb m 0) (sym e) ∙ ne_eqb made 0 z) ∙ made_told (numbers_in b) b p h)

    pub name_beyond : next ≤ made → false ≡ name_sound (numbers_in b) (name_format.read b p)
    name_beyond k = sym (told ∙ rw (le-ltb made next k))

    pub name_made : {r : Bool} → made < next → r ≡ zeros (part b (p + 4) (p + 69)) → r ≡ name_sound (numbers_in b) (name_format.read b p)
    name_made k s = s ∙ sym (told ∙ rw (lt-ltb made next k))

-- The numbers.
module _ (b : List ℕ) (h : numbers_size ≤ length b) where
  pub numbers_unfit : between 1 40 (get_or b 0 0) ≡ false → false ≡ numbers_sound (numbers_in b)
  unfolding numbers_sound numbers_format every
  numbers_unfit k = rw k

  pub numbers_told : (r : Bool) → between 1 40 (get_or b 0 0) ≡ true
      → r ≡ both (is_uid (root_of (numbers_in b))) (both (zeros (part b (1 + get_or b 0 0) 41)) (both (between 1 none_left (number_at 5 b 41)) (between 1 none_left (number_at 5 b 46))))
      → r ≡ numbers_sound (numbers_in b)
  unfolding numbers_sound numbers_format every
  numbers_told r k e =
      let u = get_or b 0 0 in
      let l = fits 40 u k in
      e ∙ sym (rw (k, text_behind b 1 root_limit (omega arith) u l, both_only (between 1 none_left (number_at 5 b 46))))
