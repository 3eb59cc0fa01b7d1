-- A command, filled with zeros to its 1,024 bytes.
-- Assumes nothing.
use Prim.Native.Nat.{ℕ, ◌+◌, ◌-◌, ◌≤◌}
use mathlib.Core.Path.{◌≡◌, sym, ap, ◌∙◌, subst⁻¹}
use mathlib.Core.List.{List, ◌++◌, append_assoc}
use native.Mathlib.Omega.{arith}
use lib.ListN.{length, take, drop, replicate, length-append, length-take, length-replicate, replicate-append-replicate}
use lib.Seq.{take-append_seam, drop-append-add, drop_at}
use Rattle.octets.specs.Octets.{laid}
use Rattle.rules.specs.Lists.{filled_to}
use Rattle.rules.specs.declared.Input.{Input}
use Rattle.rules.specs.Records.{command_held}
use Rattle.rules.specs.Outcomes.{held}
use Rattle.collecting.specs.Collecting.{Filled}

drop_replicate : (n m : ℕ) → n ≤ m → drop {A = ℕ} n (replicate m 0) ≡ replicate (m - n) 0
drop_replicate n m h =
    let e : m ≡ n + (m - n) = omega arith in
    ap (λ (k : ℕ). drop {A = ℕ} n (replicate k 0)) e
    ∙ ap (λ (s : List ℕ). drop n s) (sym (replicate-append-replicate n (m - n) 0))
    ∙ drop_at (replicate n 0) (replicate (m - n) 0) n (length-replicate n 0)

-- bytes laid behind a filled command
pub filled_append : (limit : ℕ) (c bytes : List ℕ) → length c + length bytes ≤ limit → laid (filled_to limit 0 c) (length c) bytes ≡ filled_to limit 0 (c ++ bytes)
filled_append limit c bytes h =
    let e : limit - length c - length bytes ≡ limit - (length c + length bytes) = omega arith in
    rw (take-append_seam c (replicate (limit - length c) 0), drop-append-add c (replicate (limit - length c) 0) (length bytes), drop_replicate (length bytes) (limit - length c) (omega arith), append_assoc c bytes, length-append c bytes, e)

-- how many bytes of a command that is filled are used
filled : (used : ℕ) (command : List ℕ) → used ≤ 1024 → command ≡ filled_to 1024 0 (take used command) → used ≡ length (take used command)
filled used command h e =
    let l = simp (length-append, length-replicate) at (ap length e) in
    omega (arith, length-take used command)

pub used_length : (i : Input) → Filled i → i.used ≡ length (command_held i)
used_length i h = filled i.used i.command h.0 h.1

pub held_back : (c : List ℕ) → take (length c) (filled_to 1024 0 c) ≡ c
held_back c = take-append_seam c (replicate (1024 - length c) 0)

pub held_filled : (i : Input) (c : List ℕ) → i ≡ held 1 c 0 → length c ≤ 1024 → Filled i
held_filled i c e h = subst⁻¹ Filled e (h, ap (λ (x : List ℕ). filled_to 1024 0 x) (sym (held_back c)))
