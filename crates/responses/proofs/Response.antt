-- A response's parts, laid one after the other, are its command set.
-- Assumes nothing.
use Prim.Native.Nat.{ℕ, ◌+◌, ◌*◌, ◌-◌, ◌<◌, ◌≤◌, ◌/◌, ◌%◌}
use mathlib.Core.Path.{◌≡◌, refl, ap, ◌∙◌}
use mathlib.Core.Bool.{Bool, true, false}
use mathlib.Core.List.{List, [], ◌++◌, append_assoc, append-nil}
use mathlib.Core.Option.{none, some}
use Rattle.std.specs.Prelude as declared
use Rattle.std.specs.Prelude.{Some, None}
use native.Mathlib.Omega.{arith}
use lib.Dec.{eqb}
use lib.ListN.{length, length-append}
use borrow.Author.Tests.{eq-eqb, ne_eqb}
use Rattle.choice.specs.Pick.{pick, not}
use Rattle.octets.specs.Octets.{octets, laid}
use Rattle.tags.specs.Table.{UI, UL, US}
use Rattle.headers.specs.declared.Syntax.TheVariants.{Implicit}
use Rattle.writing.specs.Tree.{Elements}
use Rattle.writing.specs.Bytes.{header_size, element, written}
use Rattle.writing.proofs.Sizes.{element_length, number_length}
use Rattle.writing.proofs.Chain.{laid_next}
use Rattle.rules.specs.Responses.{Says, uid_element, action_element, response_elements, response_tree}
use Rattle.responses.specs.Parts.{given, action_by, says_by, data_shown, number_bytes, uid_bytes, action_bytes, said_first, said_then}
use Rattle.responses.proofs.Under.{laid_under}

-- Sizes.

pub number_size : (tag n : ℕ) → length (number_bytes tag n) ≡ 10
unfolding header_size
number_size tag n = number_length Implicit tag US 2 n refl

pub group_length_size : (n : ℕ) → length (element Implicit 0x0000_0000 UL (octets 4 n)) ≡ 12
unfolding header_size
group_length_size n = number_length Implicit 0x0000_0000 UL 4 n refl

pub uid_size : (tag : ℕ) (uid : List ℕ) → length uid ≤ 64 → length (element Implicit tag UI uid) ≤ 72
unfolding header_size
uid_size tag uid h = omega (arith, element_length Implicit tag UI uid)

-- "field plus 8000H", in two bytes
low_byte : (q a : ℕ) → a < 256 → (256 * q + a) % 256 ≡ a % 256
low_byte q a h = omega arith

pub two_bytes : (n : ℕ) → octets 2 (n % 65536) ≡ octets 2 n
unfolding octets
two_bytes n =
    let low : n % 65536 % 256 ≡ n % 256 = omega arith in
    let above : n / 256 ≡ 256 * (n / 65536) + n % 65536 / 256 = omega arith in
    let high : n / 256 % 256 ≡ n % 65536 / 256 % 256 = ap (λ (x : ℕ). x % 256) above ∙ low_byte (n / 65536) (n % 65536 / 256) (omega arith) in
    rw (low, high)

-- A UID and an action type that may be left out.

pub uid_none : (tag : ℕ) (uid : List ℕ) → length uid ≡ 0 → uid_bytes tag uid ≡ []
unfolding uid_bytes
uid_none tag uid e = rw (eq-eqb _ _ e)

pub uid_some : (tag : ℕ) (uid : List ℕ) → (length uid ≡ 0 → ⊥) → uid_bytes tag uid ≡ element Implicit tag UI uid
unfolding uid_bytes
uid_some tag uid e = rw (ne_eqb _ _ e)

pub action_size : (action : declared.Option ℕ) → length (action_bytes action) ≤ 10
action_size (Some kind) = omega (arith, number_size 0x0000_1008 kind)
action_size None = omega arith

uid_told : (tag : ℕ) (uid : List ℕ) (more : Elements) (none? : Bool)
    → written Implicit (uid_element tag (pick none? none (some uid)) more) ≡ pick none? [] (element Implicit tag UI uid) ++ written Implicit more
unfolding written
uid_told tag uid more true = refl
uid_told tag uid more false = refl

uid_written : (tag : ℕ) (uid : List ℕ) (more : Elements) → written Implicit (uid_element tag (given uid) more) ≡ uid_bytes tag uid ++ written Implicit more
unfolding uid_bytes
uid_written tag uid more = uid_told tag uid more (eqb (length uid) 0)

action_written : (action : declared.Option ℕ) → written Implicit (action_element (action_by action)) ≡ action_bytes action
unfolding written
action_written (Some kind) = append-nil (number_bytes 0x0000_1008 kind)
action_written None = refl

-- a response tells of its data set only whether there is one
pub data_shown_lem : (says : Says) (status : ℕ) (d : List ℕ) (withData : Bool) → eqb (length d) 0 ≡ not withData
    → response_tree says status d ≡ response_tree says status (data_shown withData)
unfolding response_tree response_elements
data_shown_lem says status d true e = rw e
data_shown_lem says status d false e = rw e

module _ (class : List ℕ) (field message : ℕ) (withData : Bool) (status : ℕ) (instance : List ℕ) (action : declared.Option ℕ) where
  said : written Implicit (response_elements (says_by class field message instance action) status (data_shown withData))
      ≡ said_first class field message ++ said_then withData status instance action
  unfolding written response_elements says_by said_first said_then
  said = rw (uid_written, uid_written, action_written) (simp append_assoc)

  pub response_laid : (s m n o : List ℕ) (p stop : ℕ) → 256 ≤ length s
      → m ≡ laid s 12 (said_first class field message) → p ≡ 12 + length (said_first class field message) → p ≤ 104
      → n ≡ laid m p (said_then withData status instance action) → stop ≡ p + length (said_then withData status instance action) → stop ≤ p + 102
      → o ≡ laid n 0 (element Implicit 0x0000_0000 UL (octets 4 (stop - 12)))
      → (o ≡ laid s 0 (written Implicit (response_tree (says_by class field message instance action) status (data_shown withData))))
      × (stop ≡ length (written Implicit (response_tree (says_by class field message instance action) status (data_shown withData))))
  unfolding written response_tree
  response_laid s m n o p stop h em ep bp en es bs eo =
      let first = said_first class field message in
      let then = said_then withData status instance action in
      let all = length-append first then in
      let size : stop - 12 ≡ length (first ++ then) = omega arith in
      let l = group_length_size (length (first ++ then)) in
      rw said (
        laid_under s n o (element Implicit 0x0000_0000 UL (octets 4 (length (first ++ then)))) (first ++ then) 0 12 (omega arith) (omega arith)
            (laid_next s m n first then 12 p (omega arith) ep em en) (rw (← size) eo),
        rw (length-append (element Implicit 0x0000_0000 UL (octets 4 (length (first ++ then)))) (first ++ then)) (omega arith),
      )
