-- What the tests of a session and of its label are on the bytes of their places.
-- Assumes nothing.
use Prim.Native.Nat.{ℕ, ◌+◌, ◌-◌, ◌<◌, ◌≤◌}
use mathlib.Core.Path.{◌≡◌, sym, ap, ◌∙◌}
use mathlib.Core.Bool.{Bool, false}
use mathlib.Core.List.{List}
use native.Mathlib.Omega.{arith}
use lib.ListN.{length, get_or, take, drop}
use borrow.Author.Tests.{le-leb, lt-leb}
use Rattle.choice.specs.Pick.{both}
use Rattle.choice.proofs.Picks.{both_only, both_assoc}
use Rattle.octets.specs.Octets.{part, same}
use Rattle.rules.specs.Layout.{session_size, session_format}
use Rattle.rules.specs.Lists.{every}
use Rattle.rules.specs.Values.{trimmed, label_allowed}
use Rattle.rules.specs.Sound.{zeros, session_blank}
use Rattle.records.proofs.Texts.{text_front, text_behind}
use Rattle.records.proofs.Blank.{session_blank_lem}
use Rattle.sessions.specs.Labels.{label_sound}

module _ (b : List ℕ) (at : ℕ) (h : at + 65 ≤ length b) where
  module _ (used : ℕ) (told : used ≡ get_or b at 0) where
    pub label_long : 64 < used → false ≡ label_sound b at
    unfolding every
    label_long k = rw (← told, lt-leb used 64 k)

    pub label_told : (r : Bool) → used ≤ 64
        → (let stop = at + 1 + used in
        let label = part b (at + 1) stop in
        r ≡ both (both (label_allowed label) (same (trimmed label) label)) (zeros (part b stop (at + 1 + 64))))
        → r ≡ label_sound b at
    unfolding every
    label_told r l e =
        let label = part b (at + 1) (at + 1 + used) in
        let clear = zeros (part b (at + 1 + used) (at + 1 + 64)) in
        e ∙ sym (both_assoc (label_allowed label) (same (trimmed label) label) clear)
        ∙ sym (rw (← told, le-leb used 64 l, text_front b (at + 1) 64 (omega arith) used l, text_behind b (at + 1) 64 (omega arith) used l, both_only clear))

pub blank_told : (b : List ℕ) (p : ℕ) → p + session_size ≤ length b → {r : Bool} → r ≡ zeros (part b (p + 1) (p + session_size)) → r ≡ session_blank (session_format.read b p)
blank_told b p h e =
    let k : p + session_size - (p + 1) ≡ session_size - 1 = omega arith in
    e ∙ ap (λ n. zeros (take n (drop (p + 1) b))) k ∙ sym (session_blank_lem b p h)
