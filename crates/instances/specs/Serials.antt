-- Made UIDs by their serials.
use Rattle.std.specs.Prelude.{ℕ, ◌+◌, ◌*◌, ◌-◌, ◌<◌, ◌%◌, ◌≡◌, Bool, List, [], ◌∷◌, eqb, leb, ltb}
use Rattle.choice.specs.Pick.{both}
use Rattle.octets.specs.Octets.{same}
use Rattle.uids.specs.Uids.{made}
use Rattle.rules.specs.declared.Film.{Film}
use Rattle.rules.specs.Bounds.{none_left}
use Rattle.rules.specs.Records.{box_count}

-- the number that digits tell behind others that tell `before`, within 32 bits
unfoldable pub told : ℕ → List ℕ → ℕ
told before [] = before
told before (d ∷ ds) = told ((10 * before + d % 16) % none_left) ds

-- of the made UIDs a UID is that of one serial; of none where this is 0
abbrev pub MadeOf : List ℕ → List ℕ → ℕ → Type 0
MadeOf root uid serial = (n : ℕ) → 0 < n → n < none_left → same uid (made root n) ≡ eqb n serial

-- a serial is that of a film's box
unfoldable pub box_serial : ℕ → Film → Bool
box_serial serial f = both (leb f.first.0 serial) (ltb (serial - f.first.0) (box_count f.layout))
