-- Whatever a response says, reading it back by the book's own readers gives what was meant.
-- Assumes nothing.
use Prim.Native.Nat.{ℕ, zero, suc, ◌+◌, ◌*◌, ◌-◌, ◌<◌, ◌/◌, ◌%◌}
use mathlib.Core.Path.{◌≡◌, refl, sym, ap, ◌∙◌, subst}
use mathlib.Core.Bool.{Bool, true, false}
use mathlib.Core.List.{List, ◌++◌, append-nil}
use mathlib.Core.Option.{Option, none, some}
use native.Mathlib.Omega.{arith}
use lib.Dec.{eqb}
use lib.ListN.{length}
use borrow.Author.Tests.{eq-eqb}
use Rattle.std.specs.Prelude.{Ok}
use Rattle.choice.specs.Pick.{pick, not}
use Rattle.choice.proofs.Picks.{both_holds}
use Rattle.octets.specs.Octets.{octets, number_at, part}
use Rattle.octets.proofs.Laid.{Stands}
use Rattle.octets.proofs.Numbers.{octets_length, number_back}
use Rattle.uids.specs.Uids.{is_uid, unpadded}
use Rattle.uids.proofs.Padding.{unpadded_padded, unpadded_uid}
use Rattle.headers.specs.declared.Syntax.{Syntax}
use Rattle.headers.specs.declared.Syntax.TheVariants.{Implicit}
use Rattle.headers.specs.declared.Inside.{Inside}
use Rattle.tags.specs.Table.{UI, UL, US}
use Rattle.elements.specs.declared.Found.TheVariants.{Missing}
use Rattle.elements.specs.Reader.{whole, data_set}
use Rattle.writing.specs.Tree.{Elements, value}
use Rattle.writing.specs.Bytes.{padded, written}
use Rattle.writing.specs.Fit.{Fit}
use Rattle.writing.proofs.ListBack.{data_set_back}
use Rattle.rules.specs.Commands.{in_command, placed, bytes_of, uid_at, has_number, number_in, length_told, has_data}
use Rattle.rules.specs.declared.Note.{Note}
use Rattle.rules.specs.Responses.{Says, uid_element, action_element, data_set_type, response_elements, response_tree, reply}
use Rattle.promises.proofs.Held.{Has, here, later, Lacks, never, other, Holds, whole_holds, whole_lacks}
use Rattle.promises.proofs.ReplySizes.{UidOrNone, SaysUids, from1000, from0900, from0800, from0120, from0100, elements_short, tree_length, response_fit}

-- Values.

split : (a b : ℕ) → a < 256 → ((a + 256 * b) % 256 ≡ a) × ((a + 256 * b) / 256 ≡ b)
split a b h = (omega arith, omega arith)

low_mod : (n : ℕ) → (n % 65536 % 256 ≡ n % 256) × (n % 65536 / 256 % 256 ≡ n / 256 % 256)
low_mod n =
    let r = n % 65536 in
    let a = r % 256 in
    let b = r / 256 in
    let e : n ≡ a + 256 * (b + 256 * (n / 65536)) = omega arith in
    let h : b < 256 = omega arith in
    let s = split a (b + 256 * (n / 65536)) (omega arith) in
    let t = split b (n / 65536) h in
    let u : n % 256 ≡ a = ap (λ (x : ℕ). x % 256) e ∙ s.0 in
    let v : n / 256 ≡ b + 256 * (n / 65536) = ap (λ (x : ℕ). x / 256) e ∙ s.1 in
    let w : n / 256 % 256 ≡ b = ap (λ (x : ℕ). x % 256) v ∙ t.0 in
    let z : b % 256 ≡ b = omega arith in
    (sym u, z ∙ sym w)

-- a number of two bytes keeps its last 16 bits
octets_mod : (n : ℕ) → octets 2 n ≡ octets 2 (n % 65536)
unfolding octets
octets_mod n = rw ((low_mod n).0, (low_mod n).1)

padded_number : (vr width n : ℕ) → width % 2 ≡ 0 → padded vr (octets width n) ≡ octets width n
unfolding padded octets
padded_number vr width n e = rw (octets_length width n, e) (append-nil (octets width n))

unpadded_by : (n : ℕ) (uid : List ℕ) → n < 2 → is_uid uid ≡ true → unpadded (uid ++ octets n 0) ≡ uid
unfolding octets
unpadded_by zero uid h u = rw (append-nil uid) (unpadded_uid uid u)
unpadded_by (suc zero) uid h u = unpadded_padded uid
unpadded_by (suc (suc n)) uid h u = absurd (omega arith)

-- a UID is read back without its padding
pub unpadded_ui : (uid : List ℕ) → is_uid uid ≡ true → unpadded (padded UI uid) ≡ uid
unfolding padded
unpadded_ui uid u = unpadded_by (length uid % 2) uid (omega arith) u

pub held_stands : {s : List ℕ} {syntax : Syntax} {room : ℕ} {inside : Inside} {tag : ℕ} {bytes : List ℕ} → (h : Holds s syntax room inside tag bytes) → Stands s h.place.from bytes
held_stands {s} {syntax} {room} {inside} {tag} {bytes} h = subst (λ (n : ℕ). part s h.place.from n ≡ bytes) h.sized h.means

-- What a command set says under a tag.

pub record NumberIs (c : List ℕ) (tag n : ℕ) : Type 0 where
  pub there : has_number c tag ≡ true
  pub is : number_in c tag ≡ n

pub record UidIs (c : List ℕ) (tag : ℕ) (uid : List ℕ) : Type 0 where
  pub bytes : bytes_of c (placed (in_command c tag)) ≡ padded UI uid
  pub is : uid_at c (placed (in_command c tag)) ≡ uid

-- what may be left out is missing then; a number keeps its last 16 bits
abbrev pub NumberMeant : List ℕ → ℕ → Option ℕ → Type 0
NumberMeant c tag none = in_command c tag ≡ Missing
NumberMeant c tag (some n) = NumberIs c tag (n % 65536)

abbrev pub UidMeant : List ℕ → ℕ → Option (List ℕ) → Type 0
UidMeant c tag none = in_command c tag ≡ Missing
UidMeant c tag (some uid) = UidIs c tag uid

number_is : (c : List ℕ) (tag n : ℕ) → Holds c Implicit 4 (whole c) tag (padded US (octets 2 n)) → NumberIs c tag (n % 65536)
number_is c tag n h =
    let e : padded US (octets 2 n) ≡ octets 2 (n % 65536) = padded_number US 2 n refl ∙ octets_mod n in
    let l : length (padded US (octets 2 n)) ≡ 2 = ap length e ∙ octets_length 2 (n % 65536) in
    record {
      there = rw h.found (eq-eqb (h.place.stop - h.place.from) 2 (omega (arith, h.sized)));
      is = rw h.found (number_back 2 (n % 65536) c h.place.from (omega arith) (subst (λ (v : List ℕ). Stands c h.place.from v) e (held_stands h)));
    }

uid_is : (c : List ℕ) (tag : ℕ) (uid : List ℕ) → is_uid uid ≡ true → Holds c Implicit 4 (whole c) tag (padded UI uid) → UidIs c tag uid
unfolding bytes_of uid_at
uid_is c tag uid u h = record {
  bytes = rw h.found h.means;
  is = rw (h.found, h.means) (unpadded_ui uid u);
}

-- What a response's elements hold under a tag.

-- the bytes under a tag, or that there are none
abbrev There : Elements → ℕ → Option (List ℕ) → Type 0
There elements tag none = Lacks tag elements
There elements tag (some bytes) = Has tag bytes elements

abbrev uid_bytes : Option (List ℕ) → Option (List ℕ)
uid_bytes none = none
uid_bytes (some uid) = some (padded UI uid)

abbrev number_bytes : Option ℕ → Option (List ℕ)
number_bytes none = none
number_bytes (some n) = some (padded US (octets 2 n))

behind_value : (tag t vr : ℕ) (held : List ℕ) (more : Elements) (bytes : Option (List ℕ)) → eqb t tag ≡ false → There more tag bytes → There (value t vr held more) tag bytes
behind_value tag t vr held more none e h = other e h
behind_value tag t vr held more (some bytes) e h = later e h

behind_uid : (tag t : ℕ) (uid : Option (List ℕ)) (more : Elements) (bytes : Option (List ℕ)) → eqb t tag ≡ false → There more tag bytes → There (uid_element t uid more) tag bytes
behind_uid tag t none more bytes e h = h
behind_uid tag t (some uid) more bytes e h = behind_value tag t UI uid more bytes e h

uid_there : (tag : ℕ) (uid : Option (List ℕ)) (more : Elements) → Lacks tag more → There (uid_element tag uid more) tag (uid_bytes uid)
uid_there tag none more h = h
uid_there tag (some uid) more h = here refl

no_action : (tag : ℕ) (kind : Option ℕ) → eqb 0x0000_1008 tag ≡ false → Lacks tag (action_element kind)
no_action tag none e = never
no_action tag (some n) e = other e never

action_there : (kind : Option ℕ) → There (action_element kind) 0x0000_1008 (number_bytes kind)
action_there none = never
action_there (some n) = here refl

-- a tag that no response has
abbrev pub Foreign : ℕ → Type 0
Foreign tag =
    (eqb 0x0000_0000 tag ≡ false)
    × (eqb 0x0000_0002 tag ≡ false)
    × (eqb 0x0000_0100 tag ≡ false)
    × (eqb 0x0000_0120 tag ≡ false)
    × (eqb 0x0000_0800 tag ≡ false)
    × (eqb 0x0000_0900 tag ≡ false)
    × (eqb 0x0000_1000 tag ≡ false)
    × (eqb 0x0000_1008 tag ≡ false)

module _ (says : Says) (status : ℕ) (d : List ℕ) where
  -- behind the four numbers
  behind_numbers : (tag : ℕ) (bytes : Option (List ℕ)) → eqb 0x0000_0100 tag ≡ false → eqb 0x0000_0120 tag ≡ false → eqb 0x0000_0800 tag ≡ false → eqb 0x0000_0900 tag ≡ false
      → There (from1000 says) tag bytes → There (from0100 says status d) tag bytes
  behind_numbers tag bytes e1 e2 e3 e4 h =
      behind_value tag 0x0000_0100 US (octets 2 (says.field + 0x8000)) (from0120 says status d) bytes e1
      (behind_value tag 0x0000_0120 US (octets 2 says.message) (from0800 says status d) bytes e2
      (behind_value tag 0x0000_0800 US (octets 2 (data_set_type d)) (from0900 says status) bytes e3
      (behind_value tag 0x0000_0900 US (octets 2 status) (from1000 says) bytes e4 h)))

  in_response : (tag : ℕ) (bytes : Option (List ℕ)) → eqb 0x0000_0000 tag ≡ false → eqb 0x0000_0002 tag ≡ false → There (from0100 says status d) tag bytes → There (response_tree says status d) tag bytes
  unfolding response_tree response_elements
  in_response tag bytes e f h =
      behind_value tag 0x0000_0000 UL (octets 4 (length (written Implicit (response_elements says status d)))) (response_elements says status d) bytes e
      (behind_uid tag 0x0000_0002 says.class (from0100 says status d) bytes f h)

  class_there : There (response_tree says status d) 0x0000_0002 (uid_bytes says.class)
  unfolding response_tree response_elements
  class_there =
      behind_value 0x0000_0002 0x0000_0000 UL (octets 4 (length (written Implicit (response_elements says status d)))) (response_elements says status d) (uid_bytes says.class) refl
      (uid_there 0x0000_0002 says.class (from0100 says status d)
      (behind_numbers 0x0000_0002 none refl refl refl refl
      (behind_uid 0x0000_0002 0x0000_1000 says.instance (action_element says.action) none refl (no_action 0x0000_0002 says.action refl))))

  instance_there : There (response_tree says status d) 0x0000_1000 (uid_bytes says.instance)
  instance_there =
      in_response 0x0000_1000 (uid_bytes says.instance) refl refl
      (behind_numbers 0x0000_1000 (uid_bytes says.instance) refl refl refl refl
      (uid_there 0x0000_1000 says.instance (action_element says.action) (no_action 0x0000_1000 says.action refl)))

  kind_there : There (response_tree says status d) 0x0000_1008 (number_bytes says.action)
  kind_there =
      in_response 0x0000_1008 (number_bytes says.action) refl refl
      (behind_numbers 0x0000_1008 (number_bytes says.action) refl refl refl refl
      (behind_uid 0x0000_1008 0x0000_1000 says.instance (action_element says.action) (number_bytes says.action) refl (action_there says.action)))

  field_there : There (response_tree says status d) 0x0000_0100 (number_bytes (some (says.field + 0x8000)))
  field_there = in_response 0x0000_0100 (number_bytes (some (says.field + 0x8000))) refl refl (here refl)

  message_there : There (response_tree says status d) 0x0000_0120 (number_bytes (some says.message))
  message_there = in_response 0x0000_0120 (number_bytes (some says.message)) refl refl (later refl (here refl))

  data_there : There (response_tree says status d) 0x0000_0800 (number_bytes (some (data_set_type d)))
  data_there = in_response 0x0000_0800 (number_bytes (some (data_set_type d))) refl refl (later refl (later refl (here refl)))

  status_there : There (response_tree says status d) 0x0000_0900 (number_bytes (some status))
  status_there = in_response 0x0000_0900 (number_bytes (some status)) refl refl (later refl (later refl (later refl (here refl))))

  foreign_lacks : (tag : ℕ) → Foreign tag → Lacks tag (response_tree says status d)
  foreign_lacks tag e =
      in_response tag none e.0 e.1
      (behind_numbers tag none e.2 e.3 e.4 e.5
      (behind_uid tag 0x0000_1000 says.instance (action_element says.action) none e.6 (no_action tag says.action e.7)))

  group_there : Has 0x0000_0000 (padded UL (octets 4 (length (written Implicit (response_elements says status d))))) (response_tree says status d)
  unfolding response_tree
  group_there = here refl

-- From the elements to the bytes.

module _ (elements : Elements) (f : Fit Implicit 4 0 elements) where
  uid_meant : (tag : ℕ) (uid : Option (List ℕ)) → UidOrNone uid → There elements tag (uid_bytes uid) → UidMeant (written Implicit elements) tag uid
  uid_meant tag none u h = whole_lacks Implicit elements f tag h
  uid_meant tag (some uid) u h = uid_is (written Implicit elements) tag uid u (whole_holds Implicit elements f tag (padded UI uid) h)

  number_meant : (tag : ℕ) (n : Option ℕ) → There elements tag (number_bytes n) → NumberMeant (written Implicit elements) tag n
  number_meant tag none h = whole_lacks Implicit elements f tag h
  number_meant tag (some n) h = number_is (written Implicit elements) tag n (whole_holds Implicit elements f tag (padded US (octets 2 n)) h)

-- the group length is equal to the bytes after it
length_is : (c : List ℕ) (n : ℕ) → n < 4294967296 → length c ≡ 12 + n → Holds c Implicit 4 (whole c) 0x0000_0000 (padded UL (octets 4 n)) → length_told c ≡ true
unfolding length_told
length_is c n b l h =
    let e : padded UL (octets 4 n) ≡ octets 4 n = padded_number UL 4 n refl in
    let k : length (padded UL (octets 4 n)) ≡ 4 = ap length e ∙ octets_length 4 n in
    let g : number_at 4 c h.place.from ≡ n = number_back 4 n c h.place.from (omega arith) (subst (λ (v : List ℕ). Stands c h.place.from v) e (held_stands h)) in
    rw h.found
    (both_holds (eqb (h.place.stop - h.place.from) 4) (eqb (number_at 4 c h.place.from) (length c - 12))
    (eq-eqb (h.place.stop - h.place.from) 4 (omega (arith, h.sized)))
    (eq-eqb (number_at 4 c h.place.from) (length c - 12) (omega arith)))

-- a number of 16 bits is kept whole
pub number_small : (c : List ℕ) (tag n : ℕ) → n < 65536 → NumberMeant c tag (some n) → NumberIs c tag n
number_small c tag n h k = record { there = k.there; is = k.is ∙ omega arith }

type_small : (b : Bool) → pick b 0x0101 0x0001 < 65536
type_small true = omega arith
type_small false = omega arith

type_by : (b : Bool) → not (eqb (pick b 0x0101 0x0001) 0x0101) ≡ not b
type_by true = refl
type_by false = refl

type_told : (c d : List ℕ) → NumberIs c 0x0000_0800 (data_set_type d) → has_data c ≡ not (eqb (length d) 0)
unfolding has_data
type_told c d k = rw k.is (type_by (eqb (length d) 0))

-- What a response says, read back from its bytes.
pub record ResponseMeans (c : List ℕ) (says : Says) (status : ℕ) (d : List ℕ) : Type 0 where
  -- the reader takes it whole
  pub read : data_set c Implicit ≡ Ok (length c)
  -- (0000,0000) is there, 4 bytes, and equal to the bytes after it
  pub group : length_told c ≡ true
  pub class : UidMeant c 0x0000_0002 says.class
  pub field : NumberMeant c 0x0000_0100 (some (says.field + 0x8000))
  pub message : NumberMeant c 0x0000_0120 (some says.message)
  -- 0101H where there is no data, 0001H where there is
  pub data_type : NumberIs c 0x0000_0800 (data_set_type d)
  pub data_comes : has_data c ≡ not (eqb (length d) 0)
  pub status_is : NumberMeant c 0x0000_0900 (some status)
  pub instance : UidMeant c 0x0000_1000 says.instance
  pub action : NumberMeant c 0x0000_1008 says.action
  -- and nothing under any other tag
  pub nothing_else : (tag : ℕ) → Foreign tag → in_command c tag ≡ Missing

module _ (says : Says) (status : ℕ) (d : List ℕ) (b : SaysUids says) where
  tree_means : ResponseMeans (written Implicit (response_tree says status d)) says status d
  tree_means =
      let t : Elements = response_tree says status d in
      let f : Fit Implicit 4 0 t = response_fit Implicit 4 says status d b in
      let k = number_small (written Implicit t) 0x0000_0800 (data_set_type d) (type_small (eqb (length d) 0)) (number_meant t f 0x0000_0800 (some (data_set_type d)) (data_there says status d)) in
      record {
        read = data_set_back Implicit t f;
        group = length_is (written Implicit t) (length (written Implicit (response_elements says status d))) (omega (arith, elements_short says status d b)) (tree_length says status d b) (whole_holds Implicit t f 0x0000_0000 _ (group_there says status d));
        class = uid_meant t f 0x0000_0002 says.class b.class (class_there says status d);
        field = number_meant t f 0x0000_0100 (some (says.field + 0x8000)) (field_there says status d);
        message = number_meant t f 0x0000_0120 (some says.message) (message_there says status d);
        data_type = k;
        data_comes = type_told (written Implicit t) d k;
        status_is = number_meant t f 0x0000_0900 (some status) (status_there says status d);
        instance = uid_meant t f 0x0000_1000 says.instance b.instance (instance_there says status d);
        action = number_meant t f 0x0000_1008 says.action (kind_there says status d);
        nothing_else = λ tag e. whole_lacks Implicit t f tag (foreign_lacks says status d tag e);
      }

  -- Whatever a response says, where its class and its instance are UIDs or left out, is read back from the command set that is handed out.
  pub response_means : (note : Note) → ResponseMeans (reply says status d note).command says status d
  unfolding reply
  response_means note = tree_means
