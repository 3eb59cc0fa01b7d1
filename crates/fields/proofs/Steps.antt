-- A struct is written field by field: each call lays the next field's bytes behind those that stand there already.
-- Assumes nothing.
use Prim.Native.Nat.{ℕ, ◌+◌, ◌<◌, ◌≤◌}
use mathlib.Core.Path.{◌≡◌, refl, sym, subst, ap, ◌∙◌}
use mathlib.Core.List.{List, []}
use native.Mathlib.Omega.{arith}
use lib.ListN.{length, set}
use Rattle.octets.specs.Octets.{laid}
use Rattle.octets.proofs.Laid.{length_laid, laid_then, laid_cons, laid_none}
use Rattle.fields.specs.Format.{Format, write, byte, ◌then◌, via}
use Rattle.fields.proofs.Laws.{Laws, ◌then-laws◌, via_laws}

-- writing keeps the length
pub length_write : {A : Type 0} {f : Format A} (F : Laws f) (a : A) (s : List ℕ) (at : ℕ) → at + f.size ≤ length s → length (write f a s at) ≡ length s
unfolding write
length_write {f} F a s at h = length_laid s at (f.bytes a) (rw (F.sized a) h)

-- two formats: the one, and then the other behind it
pub write_then : {A B : Type 0} {f : Format A} (F : Laws f) (g : Format B) (a : A × B) (s : List ℕ) (at : ℕ) → at + f.size ≤ length s
    → write (f then g) a s at ≡ write g a.1 (write f a.0 s at) (at + f.size)
unfolding write
write_then {f} F g a s at h =
    sym (subst (λ (n : ℕ). laid (write f a.0 s at) (at + n) (g.bytes a.1) ≡ write (f then g) a s at) (F.sized a.0) (laid_then s at (f.bytes a.0) (rw (F.sized a.0) h) (g.bytes a.1)))

-- a struct: its fields
pub write_via : {A B : Type 0} (to : A → B) (from : B → A) (f : Format A) (b : B) (s : List ℕ) (at : ℕ)
    → write (via to from f) b s at ≡ write f (from b) s at
unfolding write
write_via to from f b s at = refl

-- a byte: a store
pub write_byte : (x : ℕ) (s : List ℕ) (at : ℕ) → at < length s → write byte x s at ≡ set s at x
unfolding write
write_byte x s at h = laid_cons s at x [] h ∙ laid_none (set s at x) (at + 1)

-- a format that obeys the laws, and how the code writes it: call by call
pub record Steps {A : Type 0} (f : Format A) : Type 0 where
  pub laws : Laws f
  pub steps : A → List ℕ → ℕ → List ℕ
  pub same : (a : A) (s : List ℕ) (at : ℕ) → at + f.size ≤ length s → write f a s at ≡ steps a s at

-- the last field: one call
abbrev pub last : {A : Type 0} {f : Format A} → Laws f → Steps f
last {f} F = record {
  laws = F;
  steps = write f;
  same = λ a s at h. refl;
}

-- a field of a known size, and those behind it
infixr 40 ◌sized◌then-steps◌
abbrev pub ◌sized◌then-steps◌ : {A B : Type 0} {f : Format A} {g : Format B} {n : ℕ} → Laws f → f.size ≡ n → Steps g → Steps (f then g)
◌sized◌then-steps◌ {f} {g} {n} F e G = record {
  laws = F then-laws G.laws;
  steps = λ a s at. G.steps a.1 (write f a.0 s at) (at + n);
  same = λ a s at h.
      write_then F g a s at (omega arith)
      ∙ ap (λ k. write g a.1 (write f a.0 s at) (at + k)) e
      ∙ G.same a.1 (write f a.0 s at) (at + n) (rw (length_write F a.0 s at (omega arith)) (omega arith));
}

-- a field whose size computes, and those behind it
infixr 40 ◌then-steps◌
abbrev pub ◌then-steps◌ : {A B : Type 0} {f : Format A} {g : Format B} → Laws f → Steps g → Steps (f then g)
◌then-steps◌ {f} F G = F sized (refl {a = f.size}) then-steps G

-- a struct, by its fields
abbrev pub via_steps : {A B : Type 0} (to : A → B) (from : B → A) {f : Format A}
    → ((b : B) → to (from b) ≡ b) → ((a : A) → from (to a) ≡ a) → Steps f → Steps (via to from f)
via_steps to from {f} onto into F = record {
  laws = via_laws to from onto into F.laws;
  steps = λ b. F.steps (from b);
  same = λ b s at h. write_via to from f b s at ∙ F.same (from b) s at h;
}
