-- Elements (PS3.5), rules 5.1 to 5.8: what one header says, and the first rule that it breaks.
use Rattle.std.specs.Prelude.{ℕ, ◌+◌, ◌-◌, ◌*◌, ◌%◌, Bool, true, false, List, [], ◌∷◌, ltb, eqb, Option, Some, None}
use Rattle.choice.specs.Pick.{pick, both, either, not}
use Rattle.choice.specs.Rules.{Rule, ◌⇒◌, first_or}
use Rattle.octets.specs.Octets.{number_at}
use Rattle.headers.specs.declared.Syntax.{Syntax}
use Rattle.headers.specs.declared.Syntax.TheVariants.{Implicit, Explicit}
use Rattle.headers.specs.declared.Inside.{Inside}
use Rattle.headers.specs.declared.Head.{Head}
use Rattle.headers.specs.declared.Head.TheVariants.{Fault, Value, Nest}
use Rattle.tags.specs.Table.{SQ, form_of, undefined, implicit_vr, differs}

abbrev pub is_explicit : Syntax → Bool
is_explicit Implicit = false
is_explicit Explicit = true

-- "1 implicit VR little endian, 2 explicit VR little endian"
unfoldable pub syntax_of : ℕ → Syntax
syntax_of number = pick (eqb number 2) Explicit Implicit

-- a tag as one number: (gggg,eeee) is 0xggggeeee
unfoldable pub tag_at : List ℕ → ℕ → ℕ
tag_at s at = 65536 * number_at 2 s at + number_at 2 s (at + 2)

abbrev pub group_at : List ℕ → ℕ → ℕ
group_at s at = number_at 2 s at

-- the size of an explicit header by its VR, 0 where that is unknown
abbrev pub form_at : List ℕ → ℕ → ℕ
form_at s at = form_of (number_at 2 s (at + 4))

-- the header has a long-form VR; one of group FFFE has none
abbrev pub long_at : List ℕ → Syntax → ℕ → Bool
long_at s syntax at = both (is_explicit syntax) (both (not (eqb (group_at s at) 0xFFFE)) (eqb (form_at s at) 12))

unfoldable pub size_at : List ℕ → Syntax → ℕ → ℕ
size_at s syntax at = pick (long_at s syntax at) 12 8

unfoldable pub vr_at : List ℕ → Syntax → ℕ → ℕ
vr_at s syntax at = pick (is_explicit syntax) (number_at 2 s (at + 4)) (implicit_vr (tag_at s at) (number_at 4 s (at + 4)))

-- the length: 16 bits behind a short-form VR, else 32
unfoldable pub length_at : List ℕ → Syntax → ℕ → ℕ
length_at s syntax at =
    pick (long_at s syntax at)
    (number_at 4 s (at + 8))
    (pick (is_explicit syntax) (number_at 2 s (at + 6)) (number_at 4 s (at + 4)))

-- an explicit VR is unknown, its two zero bytes are not zero, or it is not the named tag's
unfoldable pub vr_wrong : List ℕ → Syntax → ℕ → Bool
vr_wrong s syntax at =
    both (is_explicit syntax)
    (either (eqb (form_at s at) 0)
    (either (both (eqb (form_at s at) 12) (not (eqb (number_at 2 s (at + 6)) 0)))
    (differs (tag_at s at) (number_at 2 s (at + 4)))))

-- a sequence or an item of undefined length ends at a delimiter before the enclosing end
abbrev pub nest : ℕ → ℕ → ℕ → Inside
nest from end length =
    pick (undefined length)
    (record { from = from; stop = end; loose = true })
    (record { from = from; stop = from + length; loose = false })

-- what a header holds, by its VR and length
abbrev pub content : ℕ → ℕ → ℕ → ℕ → Head
content from end vr length =
    pick (eqb vr SQ)
    (Nest (nest from end length))
    (Value (record { from = from; stop = from + length }))

-- the rules for a length, in their order
abbrev pub length_rules : ℕ → ℕ → ℕ → ℕ → List Rule
length_rules from end vr length =
    (both (undefined length) (not (eqb vr SQ)) ⇒ 5)
    ∷ (both (not (undefined length)) (eqb (length % 2) 1) ⇒ 2)
    ∷ (both (not (undefined length)) (ltb (end - from) length) ⇒ 1)
    ∷ []

unfoldable pub length_head : ℕ → ℕ → ℕ → ℕ → Head
length_head from end vr length = first_or Fault (length_rules from end vr length) (content from end vr length)

-- the rules for the header of an element before those for its length, in their order
abbrev pub element_rules : List ℕ → Syntax → ℕ → ℕ → ℕ → List Rule
element_rules s syntax end at floor =
    (ltb (end - at) (size_at s syntax at) ⇒ 1)
    ∷ (eqb (group_at s at) 0xFFFE ⇒ 6)
    ∷ (ltb (tag_at s at) floor ⇒ 3)
    ∷ (vr_wrong s syntax at ⇒ 4)
    ∷ []

-- what the header of an element says, whose tag must not be below `floor`
unfoldable pub head_at : List ℕ → Syntax → ℕ → ℕ → ℕ → Head
head_at s syntax end at floor =
    first_or Fault (element_rules s syntax end at floor)
    (length_head (at + size_at s syntax at) end (vr_at s syntax at) (length_at s syntax at))

-- the rules for the header of an item before those for its length
abbrev pub item_rules : List ℕ → ℕ → ℕ → List Rule
item_rules s end at =
    (ltb (end - at) 8 ⇒ 1)
    ∷ (not (eqb (tag_at s at) 0xFFFE_E000) ⇒ 6)
    ∷ []

-- what the header of an item says
unfoldable pub item_head_at : List ℕ → ℕ → ℕ → Head
item_head_at s end at = first_or Fault (item_rules s end at) (length_head (at + 8) end SQ (number_at 4 s (at + 4)))

-- a list or a sequence ends at its stop; one of undefined length at its delimiter, whose length is 0
unfoldable pub close_at : List ℕ → ℕ → Inside → ℕ → Option ℕ
close_at s mark inside at =
    pick inside.loose
    (pick (ltb (inside.stop - at) 8) None
    (pick (eqb (tag_at s at) mark)
    (pick (eqb (number_at 4 s (at + 4)) 0) (Some (at + 8)) None)
    None))
    (pick (ltb at inside.stop) None (Some at))
