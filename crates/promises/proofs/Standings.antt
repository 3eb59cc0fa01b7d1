-- Attributes that stand well: what check 8 tells of each.
-- Assumes nothing.
use Prim.Native.Nat.{ℕ, ◌+◌, ◌≤◌, ◌<◌}
use mathlib.Core.Path.{◌≡◌, refl, ap}
use mathlib.Core.Bool.{Bool, true, false}
use mathlib.Core.List.{List, [], ◌∷◌}
use native.Mathlib.Omega.{arith}
use lib.Dec.{leb}
use lib.ListN.{length, get_or}
use borrow.Author.Tests.{ltb-true, le-leb}
use Rattle.choice.specs.Pick.{pick, both, not}
use Rattle.choice.proofs.Picks.{Kept, pick_cases, both_true, either_false, clash}
use Rattle.elements.specs.declared.Found.{Found}
use Rattle.elements.specs.declared.Found.TheVariants.{Missing, Value, Sequence}
use Rattle.elements.specs.declared.Items.{Items}
use Rattle.elements.specs.declared.Items.TheVariants.{Empty, One, Several}
use Rattle.octets.specs.Octets.{same}
use Rattle.uids.specs.Uids.{is_uid, unpadded}
use Rattle.rules.specs.declared.Core.{Core}
use Rattle.rules.specs.Lists.{any}
use Rattle.rules.specs.Values.{no_bytes, blank, code_in}
use Rattle.rules.specs.Records.{uid_of, is_live, sessions_of, no_session, session_named}
use Rattle.rules.specs.Commands.{bytes_of, placed}
use Rattle.rules.specs.Attributes.{Listing, look, value_of, items_found, only_item, Standing, missing, empty, wrong, fine, fine_if, is, mandatory, optional, given, or_kept, code_allowed, attribute_rules, reference_standings, reference, session_in, referenced, items_in}
use Rattle.promises.proofs.ListLaws.{Each, place_passes}

abbrev pub AllFine : List Standing → Type 0
AllFine standings = Each (λ (s : Standing). s ≡ fine) standings

one_fine : (s : Standing) → is missing s ≡ false → is empty s ≡ false → is wrong s ≡ false → s ≡ fine
one_fine missing a b c = absurd (clash a refl)
one_fine empty a b c = absurd (clash b refl)
one_fine wrong a b c = absurd (clash c refl)
one_fine fine a b c = refl

any_none : (t : Standing → Bool) (x : Standing) (xs : List Standing) → any t (x ∷ xs) ≡ false → (t x ≡ false) × (any t xs ≡ false)
unfolding any
any_none t x xs e = either_false (t x) (any t xs) e

fine_all : (standings : List Standing) → any (is missing) standings ≡ false → any (is empty) standings ≡ false → any (is wrong) standings ≡ false → AllFine standings
fine_all [] a b c = tt
fine_all (s ∷ standings) a b c =
    let x = any_none (is missing) s standings a in
    let y = any_none (is empty) s standings b in
    let z = any_none (is wrong) s standings c in
    (one_fine s x.0 y.0 z.0, fine_all standings x.1 y.1 z.1)

-- where check 8 is passed, all attributes stand well
pub kept_fine : (standings : List Standing) → Kept (attribute_rules standings) → AllFine standings
kept_fine standings h = fine_all standings h.0 h.1.0 h.1.1.0

unfine : (s : Standing) → is fine s ≡ false → s ≡ fine → ⊥
unfine s h e = clash h (ap (is fine) e)

-- What is mandatory.

picked_fine : (is_empty allowed : Bool) → pick is_empty empty (fine_if allowed) ≡ fine → allowed ≡ true
picked_fine true allowed e = absurd (unfine empty refl e)
picked_fine false true e = refl
picked_fine false false e = absurd (unfine wrong refl e)

-- a mandatory value that stands well is allowed
pub mandatory_fine : (is_empty allowed : List ℕ → Bool) (l : Listing) (found : Found) → mandatory is_empty allowed l found ≡ fine → allowed (bytes_of l.bytes (placed found)) ≡ true
mandatory_fine is_empty allowed l Missing e = absurd (unfine missing refl e)
mandatory_fine is_empty allowed l (Value p) e = picked_fine (is_empty (bytes_of l.bytes p)) (allowed (bytes_of l.bytes p)) e
mandatory_fine is_empty allowed l (Sequence inside) e = absurd (unfine wrong refl e)

-- What is optional.

value_allowed : (is_empty allowed : Bool) → optional (pick is_empty empty (fine_if allowed)) ≡ fine → not is_empty ≡ true → allowed ≡ true
value_allowed true allowed e f = absurd (clash refl f)
value_allowed false true e f = refl
value_allowed false false e f = absurd (unfine wrong refl e)

-- an optional value that is given and stands well is allowed
pub given_allowed : (is_empty allowed : List ℕ → Bool) (l : Listing) (found : Found) → optional (mandatory is_empty allowed l found) ≡ fine → given is_empty l found ≡ true → allowed (bytes_of l.bytes (placed found)) ≡ true
given_allowed is_empty allowed l Missing e f = absurd (clash refl f)
given_allowed is_empty allowed l (Value p) e f = value_allowed (is_empty (bytes_of l.bytes p)) (allowed (bytes_of l.bytes p)) e f
given_allowed is_empty allowed l (Sequence inside) e f = absurd (unfine wrong refl e)

-- a fact of what is given or kept
pub or_kept_lem : {A : Type 0} (P : A → Type 0) (allowed : List ℕ → Bool) (l : Listing) (tag : ℕ) (read : List ℕ → A) (kept : A) → optional (mandatory blank allowed l (look l tag)) ≡ fine → ((v : List ℕ) → allowed v ≡ true → P (read v)) → P kept → P (or_kept blank l tag read kept)
or_kept_lem P allowed l tag read kept e f h =
    pick_cases P (given blank l (look l tag)) (read (value_of l tag)) kept
    (λ g. f (value_of l tag) (given_allowed blank allowed l (look l tag) e g))
    (λ g. h)

-- a text that is one of those allowed has a code
pub code_given : (texts : List (List ℕ)) (most : ℕ) → length texts ≤ most + 1 → (v : List ℕ) → code_allowed texts v ≡ true → leb (code_in texts v) most ≡ true
code_given texts most h v e =
    let k : code_in texts v < length texts = ltb-true (code_in texts v) (length texts) e in
    le-leb (code_in texts v) most (omega arith)

-- What refers to the session.

module _ (k : Core) (l : Listing) where
  items_name : (items : Items) → AllFine (reference_standings k l items) → any (session_named k.numbers (referenced l items)) (sessions_of k) ≡ true
  items_name Empty h = absurd (unfine _ refl h.0)
  items_name (One inside) h =
      let only = only_item l inside in
      let named : List ℕ → Bool = λ u. any (session_named k.numbers u) (sessions_of k) in
      let v = bytes_of l.bytes (placed (look only 0x0008_1155)) in
      let a = mandatory_fine no_bytes (λ v. both (is_uid (unpadded v)) (named (unpadded v))) only (look only 0x0008_1155) h.1.0 in
      (both_true (is_uid (unpadded v)) (named (unpadded v)) a).1
  items_name (Several n) h = absurd (unfine _ refl h.0)

  found_names : (found : Found) → AllFine (reference k l found) → any (session_named k.numbers (referenced l (items_found l found))) (sessions_of k) ≡ true
  found_names Missing h = absurd (unfine _ refl h.0)
  found_names (Value p) h = absurd (unfine _ refl h.0)
  found_names (Sequence inside) h = items_name (items_found l (Sequence inside)) h

  -- a reference that stands well names a live session
  pub reference_live : AllFine (reference k l (look l 0x2010_0500)) → is_live (get_or (sessions_of k) (session_in k l) no_session) ≡ true
  unfolding session_in
  reference_live h =
      let uid = referenced l (items_in l 0x2010_0500) in
      let s = get_or (sessions_of k) (session_in k l) no_session in
      (both_true (is_live s) (same uid (uid_of k.numbers s.name)) (place_passes (session_named k.numbers uid) (sessions_of k) no_session (found_names (look l 0x2010_0500) h))).0
