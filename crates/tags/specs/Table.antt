-- Elements (PS3.5): the known VRs (rule 5.10), and the tags of rule 5.14 (docs/RULES.md), each with its VR.
-- A VR is the 16-bit number that its two letters make, little endian: SQ is 0x53 and 0x51, so 0x5153.
use Rattle.std.specs.Prelude.{ℕ, zero, suc, Bool, List, [], ◌∷◌, eqb, Option, Some, None}
use Rattle.choice.specs.declared.Row.{Row}
use Rattle.choice.specs.Pick.{pick, both, not}
use Rattle.choice.specs.Table.{◌is◌, lookup}

abbrev pub AE : ℕ
AE = 0x4541

abbrev pub AS : ℕ
AS = 0x5341

abbrev pub AT : ℕ
AT = 0x5441

abbrev pub CS : ℕ
CS = 0x5343

abbrev pub DA : ℕ
DA = 0x4144

abbrev pub DS : ℕ
DS = 0x5344

abbrev pub DT : ℕ
DT = 0x5444

abbrev pub FD : ℕ
FD = 0x4446

abbrev pub FL : ℕ
FL = 0x4C46

abbrev pub IS : ℕ
IS = 0x5349

abbrev pub LO : ℕ
LO = 0x4F4C

abbrev pub LT : ℕ
LT = 0x544C

abbrev pub OB : ℕ
OB = 0x424F

abbrev pub OF : ℕ
OF = 0x464F

abbrev pub OW : ℕ
OW = 0x574F

abbrev pub PN : ℕ
PN = 0x4E50

abbrev pub SH : ℕ
SH = 0x4853

abbrev pub SL : ℕ
SL = 0x4C53

abbrev pub SQ : ℕ
SQ = 0x5153

abbrev pub SS : ℕ
SS = 0x5353

abbrev pub ST : ℕ
ST = 0x5453

abbrev pub TM : ℕ
TM = 0x4D54

abbrev pub UI : ℕ
UI = 0x4955

abbrev pub UL : ℕ
UL = 0x4C55

abbrev pub UN : ℕ
UN = 0x4E55

abbrev pub US : ℕ
US = 0x5355

abbrev pub UT : ℕ
UT = 0x5455

-- the named tags, each with its VR: 35 rows
abbrev pub named : List Row
named =
    (0x0000_0000 is UL)
    ∷ (0x0000_0002 is UI)
    ∷ (0x0000_0003 is UI)
    ∷ (0x0000_0100 is US)
    ∷ (0x0000_0110 is US)
    ∷ (0x0000_0120 is US)
    ∷ (0x0000_0800 is US)
    ∷ (0x0000_0900 is US)
    ∷ (0x0000_1000 is UI)
    ∷ (0x0000_1001 is UI)
    ∷ (0x0000_1008 is US)
    ∷ (0x0008_1150 is UI)
    ∷ (0x0008_1155 is UI)
    ∷ (0x0028_0002 is US)
    ∷ (0x0028_0004 is CS)
    ∷ (0x0028_0010 is US)
    ∷ (0x0028_0011 is US)
    ∷ (0x0028_0100 is US)
    ∷ (0x0028_0101 is US)
    ∷ (0x0028_0102 is US)
    ∷ (0x0028_0103 is US)
    ∷ (0x2000_0010 is IS)
    ∷ (0x2000_0020 is CS)
    ∷ (0x2000_0030 is CS)
    ∷ (0x2000_0040 is CS)
    ∷ (0x2000_0050 is LO)
    ∷ (0x2010_0010 is ST)
    ∷ (0x2010_0040 is CS)
    ∷ (0x2010_0060 is CS)
    ∷ (0x2010_0500 is SQ)
    ∷ (0x2010_0510 is SQ)
    ∷ (0x2020_0010 is US)
    ∷ (0x2020_0020 is CS)
    ∷ (0x2020_0110 is SQ)
    ∷ (0x7FE0_0010 is OW)
    ∷ []

-- the known VRs, each with the size of its explicit header: 12 with two zero bytes and a 32-bit length, else 8
abbrev pub forms : List Row
forms =
    (AE is 8)
    ∷ (AS is 8)
    ∷ (AT is 8)
    ∷ (CS is 8)
    ∷ (DA is 8)
    ∷ (DS is 8)
    ∷ (DT is 8)
    ∷ (FD is 8)
    ∷ (FL is 8)
    ∷ (IS is 8)
    ∷ (LO is 8)
    ∷ (LT is 8)
    ∷ (OB is 12)
    ∷ (OF is 12)
    ∷ (OW is 12)
    ∷ (PN is 8)
    ∷ (SH is 8)
    ∷ (SL is 8)
    ∷ (SQ is 12)
    ∷ (SS is 8)
    ∷ (ST is 8)
    ∷ (TM is 8)
    ∷ (UI is 8)
    ∷ (UL is 8)
    ∷ (UN is 12)
    ∷ (US is 8)
    ∷ (UT is 12)
    ∷ []

-- what a table has for a key
abbrev pub entry : ℕ → List Row → Option ℕ
entry key [] = None
entry key (row ∷ rows) = pick (eqb row.0 key) (Some row.1) (entry key rows)

-- a number that is given, where 0 says that none is
abbrev pub given : ℕ → Option ℕ
given zero = None
given (suc n) = Some (suc n)

-- the VR of a named tag, 0 of another
unfoldable pub named_vr : ℕ → ℕ
named_vr tag = lookup tag named

-- the size of the explicit header of a VR, 0 of an unknown one
unfoldable pub form_of : ℕ → ℕ
form_of vr = lookup vr forms

-- a length that is undefined
abbrev pub undefined : ℕ → Bool
undefined length = eqb length 0xFFFF_FFFF

-- in implicit VR a named tag has its known VR; another is opaque if its length is defined, else a sequence
unfoldable pub implicit_vr : ℕ → ℕ → ℕ
implicit_vr tag length = pick (eqb (named_vr tag) 0) (pick (undefined length) SQ UN) (named_vr tag)

-- a VR is not the named tag's; Pixel Data may be OB or OW
unfoldable pub differs : ℕ → ℕ → Bool
differs tag vr =
    both (not (eqb (named_vr tag) 0))
    (both (not (eqb (named_vr tag) vr)) (not (both (eqb tag 0x7FE0_0010) (eqb vr OB))))
