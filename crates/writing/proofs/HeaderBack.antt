-- A header that was written is read back, in both syntaxes.
-- Assumes nothing.
use Prim.Native.Nat.{ℕ, ◌+◌, ◌-◌, ◌<◌, ◌≤◌, ◌/◌, ◌%◌}
use mathlib.Core.Path.{◌≡◌, refl, ap, ◌∙◌, subst}
use mathlib.Core.Bool.{Bool, true, false}
use mathlib.Core.List.{List, ◌++◌}
use native.Mathlib.Omega.{arith}
use lib.Dec.{eqb}
use lib.ListN.{length}
use borrow.Author.Tests.{le-ltb, ne_eqb}
use Rattle.choice.specs.Pick.{pick}
use Rattle.choice.proofs.Picks.{first_kept}
use Rattle.octets.specs.Octets.{octets, number_at}
use Rattle.octets.proofs.Laid.{Stands, stands_first, stands_second}
use Rattle.octets.proofs.Numbers.{octets_length, number_back}
use Rattle.headers.specs.declared.Syntax.{Syntax}
use Rattle.headers.specs.declared.Syntax.TheVariants.{Implicit, Explicit}
use Rattle.headers.specs.declared.Head.TheVariants.{Fault, Value, Nest}
use Rattle.tags.specs.Table.{SQ, form_of, named_vr, undefined}
use Rattle.headers.specs.Header.{tag_at, size_at, vr_at, length_at, vr_wrong, content, length_rules, length_head, element_rules, head_at, item_rules, item_head_at}
use Rattle.writing.specs.Bytes.{tag_octets, vr_octets, header_size, plain, header, item_header}
use Rattle.writing.specs.Fit.{allowed, limit, HeaderFits}
use Rattle.writing.specs.Place.{span}
use Rattle.writing.proofs.Sizes.{tag_length}
use Rattle.writing.proofs.Allowed.{four_bytes, not_FFFE, known, own, two_bytes, below_undefined, read_vr, value_vr, sequence_vr}

-- what stands behind the first k bytes
behind : (s : List ℕ) (at k p : ℕ) (a b : List ℕ) → length a ≡ k → at + k ≡ p → Stands s at (a ++ b) → Stands s p b
behind s at k p a b l e h = subst (λ (n : ℕ). Stands s n b) (ap (λ (n : ℕ). at + n) l ∙ e) (stands_second s at a b h)

module _ (s : List ℕ) (at tag : ℕ) (small : tag < 4294967296) (e : Stands s at (tag_octets tag)) where
  pub group_back : number_at 2 s at ≡ tag / 65536
  unfolding tag_octets
  group_back = number_back 2 (tag / 65536) s at (omega arith) (stands_first s at (octets 2 (tag / 65536)) (octets 2 (tag % 65536)) e)

  pub tag_back : tag_at s at ≡ tag
  unfolding tag_octets tag_at
  tag_back =
      rw (group_back, number_back 2 (tag % 65536) s (at + 2) (omega arith) (behind s at 2 (at + 2) (octets 2 (tag / 65536)) (octets 2 (tag % 65536)) (octets_length 2 (tag / 65536)) refl e))
      (omega arith)

-- what the reader's parts of a header are, where one was written
pub record Back (s : List ℕ) (syntax : Syntax) (at tag vr size : ℕ) : Type 0 where
  pub group_is : number_at 2 s at ≡ tag / 65536
  pub tag_is : tag_at s at ≡ tag
  pub size_is : size_at s syntax at ≡ header_size syntax vr
  pub vr_is : vr_at s syntax at ≡ read_vr syntax tag vr size
  pub length_is : length_at s syntax at ≡ size
  pub right : vr_wrong s syntax at ≡ false

-- the reader's parts of a header, under one name
unfoldable the_parts : Unit {0}
unfolding size_at vr_at length_at vr_wrong
the_parts = tt

implicit_back : (s : List ℕ) (at tag vr size : ℕ) → allowed tag vr ≡ true → size < limit Implicit vr → Stands s at (header Implicit tag vr size) → Back s Implicit at tag vr size
unfolding the_parts plain header header_size limit
implicit_back s at tag vr size a l e =
    let t = stands_first s at (tag_octets tag) (octets 4 size) e in
    let n = number_back 4 size s (at + 4) (omega arith) (behind s at 4 (at + 4) (tag_octets tag) (octets 4 size) (tag_length tag) refl e) in
    record {
      group_is = group_back s at tag (four_bytes tag vr a) t;
      tag_is = tag_back s at tag (four_bytes tag vr a) t;
      size_is = refl;
      vr_is = rw (tag_back s at tag (four_bytes tag vr a) t, n);
      length_is = n;
      right = refl;
    }

module _ (s : List ℕ) (at tag vr size : ℕ) (a : allowed tag vr ≡ true) (l : size < limit Explicit vr) (e : Stands s at (header Explicit tag vr size)) where
  tag_stands : Stands s at (tag_octets tag)
  unfolding header
  tag_stands = stands_first s at (tag_octets tag) (vr_octets vr size) e

  vr_stands : Stands s (at + 4) (vr_octets vr size)
  unfolding header
  vr_stands = behind s at 4 (at + 4) (tag_octets tag) (vr_octets vr size) (tag_length tag) refl e

  vr_back : number_at 2 s (at + 4) ≡ vr
  unfolding vr_octets
  vr_back = number_back 2 vr s (at + 4) (two_bytes vr (known tag vr a)) (stands_first s (at + 4) (octets 2 vr) (pick (eqb (form_of vr) 12) (octets 2 0 ++ octets 4 size) (octets 2 size)) vr_stands)

  length_stands : Stands s (at + 6) (pick (eqb (form_of vr) 12) (octets 2 0 ++ octets 4 size) (octets 2 size))
  unfolding vr_octets
  length_stands = behind s (at + 4) 2 (at + 6) (octets 2 vr) (pick (eqb (form_of vr) 12) (octets 2 0 ++ octets 4 size) (octets 2 size)) (octets_length 2 vr) (omega arith) vr_stands

  explicit_back_by : (long : Bool) → eqb (form_of vr) 12 ≡ long → Back s Explicit at tag vr size
  unfolding the_parts header_size limit
  explicit_back_by true f =
      let z = number_back 2 0 s (at + 6) (omega arith) (stands_first s (at + 6) (octets 2 0) (octets 4 size) (rw f at length_stands)) in
      let b : size < 4294967296 = omega (arith, below_undefined Explicit vr size l) in
      let n = number_back 4 size s (at + 8) b (behind s (at + 6) 2 (at + 8) (octets 2 0) (octets 4 size) (octets_length 2 0) (omega arith) (rw f at length_stands)) in
      record {
        group_is = group_back s at tag (four_bytes tag vr a) tag_stands;
        tag_is = tag_back s at tag (four_bytes tag vr a) tag_stands;
        size_is = rw (group_back s at tag (four_bytes tag vr a) tag_stands, not_FFFE tag vr a, vr_back);
        vr_is = vr_back;
        length_is = rw (group_back s at tag (four_bytes tag vr a) tag_stands, not_FFFE tag vr a, vr_back, f) n;
        right = rw (vr_back, known tag vr a, f, z, tag_back s at tag (four_bytes tag vr a) tag_stands) (own tag vr a);
      }
  explicit_back_by false f =
      let b : size < 65536 = rw f at l in
      let n = number_back 2 size s (at + 6) b (rw f at length_stands) in
      record {
        group_is = group_back s at tag (four_bytes tag vr a) tag_stands;
        tag_is = tag_back s at tag (four_bytes tag vr a) tag_stands;
        size_is = rw (group_back s at tag (four_bytes tag vr a) tag_stands, not_FFFE tag vr a, vr_back);
        vr_is = vr_back;
        length_is = rw (group_back s at tag (four_bytes tag vr a) tag_stands, not_FFFE tag vr a, vr_back, f) n;
        right = rw (vr_back, known tag vr a, f, tag_back s at tag (four_bytes tag vr a) tag_stands) (own tag vr a);
      }

pub header_back : (s : List ℕ) (syntax : Syntax) (at tag vr size : ℕ) → allowed tag vr ≡ true → size < limit syntax vr → Stands s at (header syntax tag vr size) → Back s syntax at tag vr size
header_back s Explicit at tag vr size a l e = explicit_back_by s at tag vr size a l e (eqb (form_of vr) 12) refl
header_back s Implicit at tag vr size a l e = implicit_back s at tag vr size a l e

-- a defined, even length within the enclosing end earns no refusal
length_taken : (from end vr size : ℕ) → size < 0xFFFF_FFFF → size % 2 ≡ 0 → from + size ≤ end
    → length_head from end vr size ≡ pick (eqb vr SQ) (Nest (span from size)) (Value (record { from = from; stop = from + size }))
unfolding length_head
length_taken from end vr size d v r =
    let u : undefined size ≡ false = ne_eqb size 0xFFFF_FFFF (λ z. omega arith) in
    first_kept Fault (length_rules from end vr size) (content from end vr size)
    (rw u, (rw (u, v), (rw (u, le-ltb (end - from) size (omega arith)), tt)))
    ∙ rw u

module _ (s : List ℕ) (syntax : Syntax) (end at floor tag vr size : ℕ) (f : HeaderFits syntax floor tag vr size) (v : size % 2 ≡ 0) (r : at + header_size syntax vr + size ≤ end) (e : Stands s at (header syntax tag vr size)) where
  head_taken : head_at s syntax end at floor
      ≡ pick (eqb (read_vr syntax tag vr size) SQ) (Nest (span (at + header_size syntax vr) size)) (Value (record { from = at + header_size syntax vr; stop = at + header_size syntax vr + size }))
  unfolding head_at
  head_taken =
      let b = header_back s syntax at tag vr size f.1 f.2 e in
      first_kept Fault (element_rules s syntax end at floor) (length_head (at + size_at s syntax at) end (vr_at s syntax at) (length_at s syntax at))
      (rw b.size_is (le-ltb (end - at) (header_size syntax vr) (omega arith)), (rw b.group_is (not_FFFE tag vr f.1), (rw b.tag_is (le-ltb tag floor f.0), (b.right, tt))))
      ∙ rw (b.size_is, b.vr_is, b.length_is)
      (length_taken (at + header_size syntax vr) end (read_vr syntax tag vr size) size (below_undefined syntax vr size f.2) v r)

  -- where the header of a value was written, the reader finds the value behind it
  pub value_head : eqb vr SQ ≡ false → head_at s syntax end at floor ≡ Value (record { from = at + header_size syntax vr; stop = at + header_size syntax vr + size })
  value_head q = head_taken ∙ rw (value_vr syntax tag vr size f.1 q (below_undefined syntax vr size f.2))

-- where the header of a sequence was written, the reader finds its items behind it
pub sequence_head : (s : List ℕ) (syntax : Syntax) (end at floor tag size : ℕ) → HeaderFits syntax floor tag SQ size → size % 2 ≡ 0 → at + header_size syntax SQ + size ≤ end
    → Stands s at (header syntax tag SQ size) → named_vr tag ≡ SQ → head_at s syntax end at floor ≡ Nest (span (at + header_size syntax SQ) size)
sequence_head s syntax end at floor tag size f v r e q = head_taken s syntax end at floor tag SQ size f v r e ∙ rw (sequence_vr syntax tag size q)

-- where the header of an item was written, the reader finds its list behind it
pub item_head_back : (s : List ℕ) (end at size : ℕ) → size < 0xFFFF_FFFF → size % 2 ≡ 0 → at + 8 + size ≤ end → Stands s at (item_header size) → item_head_at s end at ≡ Nest (span (at + 8) size)
unfolding item_head_at plain
item_head_back s end at size d v r e =
    let t = tag_back s at 0xFFFE_E000 (omega arith) (stands_first s at (tag_octets 0xFFFE_E000) (octets 4 size) e) in
    let n = number_back 4 size s (at + 4) (omega arith) (behind s at 4 (at + 4) (tag_octets 0xFFFE_E000) (octets 4 size) (tag_length 0xFFFE_E000) refl e) in
    first_kept Fault (item_rules s end at) (length_head (at + 8) end SQ (number_at 4 s (at + 4))) (le-ltb (end - at) 8 (omega arith), (rw t, tt))
    ∙ rw n (length_taken (at + 8) end SQ size d v r)
