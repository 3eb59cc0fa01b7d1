-- What is told of attributes one by one, and what the worst of them says.
-- Assumes nothing.
use Prim.Native.Nat.{ℕ, ◌≤◌, ◌-◌, ◌+◌}
use mathlib.Core.Path.{◌≡◌, refl, sym, ap, subst, ◌∙◌}
use mathlib.Core.Bool.{Bool, true, false}
use mathlib.Core.List.{List, [], ◌∷◌, ◌++◌}
use native.Mathlib.Omega.{arith}
use lib.Dec.{leb, ltb}
use lib.ListN.{length, get_or, drop, replicate, length-replicate, replicate-append-replicate}
use lib.Seq.{drop_at}
use borrow.Author.Tests.{ne_eqb, ltb-true, ltb-false, leb-true, eqb-true}
use Rattle.choice.specs.Pick.{pick, either}
use Rattle.choice.specs.Rules.{first_broken}
use Rattle.choice.proofs.Picks.{both_true}
use Rattle.octets.specs.Octets.{laid, same}
use Rattle.headers.specs.declared.Syntax.{Syntax}
use Rattle.headers.specs.declared.Scope.{Scope}
use Rattle.elements.specs.declared.Found.{Found}
use Rattle.elements.specs.declared.Found.TheVariants.{Missing, Value, Sequence}
use Rattle.elements.specs.Reader.{data_scope}
use Rattle.elements.specs.Find.{find_at}
use Rattle.elements.proofs.Laws.{find_within}
use Rattle.rules.specs.Lists.{any, every, filled_to}
use Rattle.rules.specs.Values.{blank, trimmed, without_leading, without_trailing, label_byte, label_allowed}
use Rattle.rules.specs.declared.Numbers.{Numbers}
use Rattle.rules.specs.Records.{session_named, sessions_of, uid_of}
use Rattle.rules.specs.Layout.{numbers_size, name_format, session_format}
use Rattle.rules.specs.Commands.{bytes_of}
use Rattle.rules.specs.Attributes.{Listing, Standing, missing, empty, wrong, fine, is, listing_of, look, value_of, mandatory, optional, or_kept, attribute_rules, session_standings}
use Rattle.records.specs.Places.{numbers_in, session_in, core_in}
use Rattle.records.proofs.Parts.{core_numbers, core_sessions}
use Rattle.standings.specs.Severity.{kind_of, severity, given_by, worse, rank, worst, status_of}
use Rattle.standings.proofs.Laws.{value_at, found_place, mandatory_severity, optional_severity, given_by_lem, worst_cons, worst_status}
use Rattle.standings.specs.Founds.{Placed, bytes_found, mandatory_found, optional_found, found_or}

-- What was found lies within the bytes that it was found in.

pub found_within : (d : List ℕ) (scope : Scope) (tag : ℕ) {f : Found} → scope.inside.from ≤ scope.inside.stop → scope.inside.stop ≤ length d → f ≡ find_at d scope tag → Placed d f
found_within d scope tag g h e = subst (Placed d) (sym e) (found_place (length d) (find_at d scope tag) _ _ h (find_within d scope tag g))

pub found_placed : (d : List ℕ) (syntax : Syntax) (tag : ℕ) {f : Found} → f ≡ look (listing_of d syntax) tag → Placed d f
found_placed d syntax tag e = found_within d (data_scope d syntax) tag (omega arith) (omega arith) e

-- What an attribute gives, and what is kept where it is absent.

module _ {A : Type 0} (read : List ℕ → A) (d : List ℕ) (f : Found) (kept : A) {v : List ℕ} {e g : Bool} (w : v ≡ bytes_found d f) (x : e ≡ blank v) (h : g ≡ given_by (kind_of f) e) where
  given_told : g ≡ given_by (kind_of f) (blank (bytes_found d f))
  given_told = h ∙ rw (x, w)

  pub given_read : g ≡ true → {r : A} → r ≡ read v → r ≡ found_or read d f kept
  given_read t z = z ∙ ap read w ∙ rw (sym given_told ∙ t)

  pub not_given : g ≡ false → kept ≡ found_or read d f kept
  not_given t = rw (sym given_told ∙ t)

-- The same of a list that holds it under a tag.

pub mandatory_listed : (is_empty allowed : List ℕ → Bool) (l : Listing) (tag : ℕ) {f : Found} {n : ℕ} → f ≡ look l tag → n ≡ mandatory_found is_empty allowed l.bytes f → n ≡ severity (mandatory is_empty allowed l (look l tag))
mandatory_listed is_empty allowed l tag e z = z ∙ ap (mandatory_found is_empty allowed l.bytes) e ∙ sym (mandatory_severity is_empty allowed l (look l tag))

pub optional_listed : (allowed : List ℕ → Bool) (l : Listing) (tag : ℕ) {f : Found} {n : ℕ} → f ≡ look l tag → n ≡ optional_found allowed l.bytes f → n ≡ severity (optional (mandatory blank allowed l (look l tag)))
optional_listed allowed l tag e z = z ∙ ap (optional_found allowed l.bytes) e ∙ sym (optional_severity blank allowed l (look l tag))

pub kept_listed : {A : Type 0} (read : List ℕ → A) (l : Listing) (tag : ℕ) (kept : A) {f : Found} {r : A} → f ≡ look l tag → r ≡ found_or read l.bytes f kept → r ≡ or_kept blank l tag read kept
kept_listed read l tag kept e z = z ∙ ap (λ f. found_or read l.bytes f kept) e ∙ ap (λ g. pick g (read (value_of l tag)) kept) (sym (given_by_lem blank l (look l tag)))

-- The worst of several.

pub worst_one : (s : Standing) → worst (s ∷ []) ≡ severity s
unfolding worst any
worst_one missing = refl
worst_one empty = refl
worst_one wrong = refl
worst_one fine = refl

pub worst_next : (s : Standing) (standings : List Standing) {n m r : ℕ} → n ≡ severity s → m ≡ worst standings → r ≡ worse n m → r ≡ worst (s ∷ standings)
worst_next s standings x y z = z ∙ rw (x, y) (sym (worst_cons s standings))

rank_either : (a b c m e w : Bool) → rank (either a m) (either b e) (either c w) ≡ worse (rank a b c) (rank m e w)
unfolding worse
rank_either true b c true e w = refl
rank_either true b c false true w = refl
rank_either true b c false false true = refl
rank_either true b c false false false = refl
rank_either false true c true e w = refl
rank_either false true c false true w = refl
rank_either false true c false false true = refl
rank_either false true c false false false = refl
rank_either false false true true e w = refl
rank_either false false true false true w = refl
rank_either false false true false false true = refl
rank_either false false true false false false = refl
rank_either false false false true e w = refl
rank_either false false false false true w = refl
rank_either false false false false false true = refl
rank_either false false false false false false = refl

any_either : (t a b c : Bool) → a ≡ either b c → either t a ≡ either (either t b) c
any_either true a b c e = refl
any_either false a b c e = e

any_append : (test : Standing → Bool) (xs ys : List Standing) → any test (xs ++ ys) ≡ either (any test xs) (any test ys)
unfolding any
any_append test [] ys = refl
any_append test (x ∷ xs) ys = any_either (test x) (any test (xs ++ ys)) (any test xs) (any test ys) (any_append test xs ys)

worst_append : (xs ys : List Standing) → worst (xs ++ ys) ≡ worse (worst xs) (worst ys)
unfolding worst
worst_append xs ys =
    rw (any_append (is missing) xs ys, any_append (is empty) xs ys, any_append (is wrong) xs ys)
    (rank_either (any (is missing) xs) (any (is empty) xs) (any (is wrong) xs) (any (is missing) ys) (any (is empty) ys) (any (is wrong) ys))

pub worst_both : (xs ys : List Standing) {n m r : ℕ} → n ≡ worst xs → m ≡ worst ys → r ≡ worse n m → r ≡ worst (xs ++ ys)
worst_both xs ys x y z = z ∙ rw (x, y) (sym (worst_append xs ys))

pub broken_told : (standings : List Standing) {w r : ℕ} → w ≡ worst standings → r ≡ status_of w → r ≡ first_broken (attribute_rules standings)
broken_told standings x z = z ∙ ap status_of x ∙ worst_status standings

-- Where check 8 finds nothing.

status_none : (m e w : Bool) → status_of (rank m e w) ≡ 0 → rank m e w ≡ 0
unfolding status_of
status_none true e w h = absurd (omega (arith, h))
status_none false true w h = absurd (omega (arith, h))
status_none false false true h = absurd (omega (arith, h))
status_none false false false h = refl

pub worst_fine : (standings : List Standing) → first_broken (attribute_rules standings) ≡ 0 → worst standings ≡ 0
unfolding worst
worst_fine standings h = status_none (any (is missing) standings) (any (is empty) standings) (any (is wrong) standings) (worst_status standings ∙ h)

worse_none : (n m : ℕ) (t : Bool) → ltb n m ≡ t → pick t m n ≡ 0 → (n ≡ 0) × (m ≡ 0)
worse_none n m true e h = absurd (omega (arith, ltb-true n m e, h))
worse_none n m false e h = (h, omega (arith, ltb-false n m e, h))

pub all_fine : (s : Standing) (standings : List Standing) → worst (s ∷ standings) ≡ 0 → (severity s ≡ 0) × (worst standings ≡ 0)
unfolding worse
all_fine s standings h = worse_none (severity s) (worst standings) (ltb (severity s) (worst standings)) refl (sym (worst_cons s standings) ∙ h)

-- A label that is allowed, or absent, has its length.

label_short : (v : List ℕ) (e a : Bool) → blank v ≡ e → label_allowed v ≡ a → severity (optional (pick e empty (pick a fine wrong))) ≡ 0 → length (trimmed v) ≤ 64
unfolding blank label_allowed
label_short v true a x y h = omega (arith, eqb-true (length (trimmed v)) 0 x)
label_short v false true x y h = leb-true (length (trimmed v)) 64 (both_true (leb (length (trimmed v)) 64) (every label_byte (trimmed v)) y).0
label_short v false false x y h = absurd (omega (arith, h))

pub label_fits : (l : Listing) (f : Found) → severity (optional (mandatory blank label_allowed l f)) ≡ 0 → length (trimmed (value_at l f)) ≤ 64
unfolding bytes_of trimmed without_leading without_trailing
label_fits l Missing h = omega arith
label_fits l (Value p) h = label_short (bytes_of l.bytes p) _ _ refl refl h
label_fits l (Sequence inside) h = omega arith

pub label_bound : (l : Listing) → first_broken (attribute_rules (session_standings l)) ≡ 0 → length (trimmed (value_of l 0x2000_0050)) ≤ 64
unfolding session_standings
label_bound l h =
    let destination = (all_fine _ _ (all_fine _ _ (all_fine _ _ (worst_fine (session_standings l) h)).1).1).1 in
    label_fits l (look l 0x2000_0050) (all_fine _ _ (all_fine _ _ destination).1).0

pub fits_told : {u v t : List ℕ} → v ≡ u → t ≡ trimmed v → length (trimmed u) ≤ 64 → length t ≤ 64
fits_told x y h = rw (y, x) h

-- Bytes in front of zeros.

behind_blank : (k m x : ℕ) → drop k (replicate (k + m) x) ≡ replicate m x
behind_blank k m x = rw (← (replicate-append-replicate k m x)) (drop_at (replicate k x) (replicate m x) k (length-replicate k x))

drop_blank : (n k m x : ℕ) → n ≡ k + m → drop k (replicate n x) ≡ replicate m x
drop_blank n k m x e = rw e (behind_blank k m x)

laid_blank : (n x : ℕ) (t : List ℕ) → length t ≤ n → laid (replicate n x) 0 t ≡ filled_to n x t
laid_blank n x t h = ap (λ z. t ++ z) (drop_blank n (0 + length t) (n - length t) x (omega (arith, h)))

pub label_laid : {u v t r : List ℕ} → v ≡ u → t ≡ trimmed v → length (trimmed u) ≤ 64 → r ≡ laid (replicate 64 0) 0 t → r ≡ filled_to 64 0 (trimmed v)
label_laid {t = t} x y h z = z ∙ (laid_blank 64 0 t (fits_told x y h) ∙ ap (filled_to 64 0) y)

-- The session that a reference may name, where it stands.

either_only : (b : Bool) → either b false ≡ b
either_only true = refl
either_only false = refl

module _ (b uid : List ℕ) where
  session_there : any (session_named (core_in b).numbers uid) (sessions_of (core_in b)) ≡ session_named (numbers_in b) uid (session_in b)
  unfolding any
  session_there =
      ap (λ (n : Numbers). any (session_named n uid) (sessions_of (core_in b))) (core_numbers b)
      ∙ ap (any (session_named (numbers_in b) uid)) (core_sessions b)
      ∙ either_only (session_named (numbers_in b) uid (session_in b))

  pub session_dead : get_or b numbers_size 0 ≡ 0 → false ≡ any (session_named (core_in b).numbers uid) (sessions_of (core_in b))
  unfolding session_format
  session_dead e = sym (session_there ∙ rw e)

  pub session_live_lem : (get_or b numbers_size 0 ≡ 0 → ⊥) → {r : Bool} → r ≡ same uid (uid_of (numbers_in b) (name_format.read b (numbers_size + 1)))
      → r ≡ any (session_named (core_in b).numbers uid) (sessions_of (core_in b))
  unfolding session_format
  session_live_lem e named = named ∙ sym (session_there ∙ rw (ne_eqb (get_or b numbers_size 0) 0 e))
