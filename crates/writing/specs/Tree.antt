-- Elements (PS3.5): what is written. A list holds elements, a sequence element holds items, an item holds a list.
use Rattle.std.specs.Prelude.{ℕ, List}

mutual
  -- a list's elements, each with its tag: a value has a VR and bytes, a sequence has items
  pub data Elements : Type 0 where
    no_elements : Elements
    value : ℕ → ℕ → List ℕ → Elements → Elements
    sequence : ℕ → Items → Elements → Elements

  -- the lists that a sequence's items hold
  pub data Items : Type 0 where
    no_items : Items
    item : Elements → Items → Items
