-- The entries where they lie in the records.
use Rattle.std.specs.Prelude.{ℕ, ◌+◌, ◌*◌, List, take}
use Rattle.rules.specs.declared.Entry.{Entry}
use Rattle.rules.specs.Layout.{entry_size}
use Rattle.records.specs.Places.{queue_place, queue_in}

abbrev pub entry_place : ℕ → ℕ
entry_place i = queue_place + 1 + i * entry_size

-- those of the first n places
abbrev pub entries_in : List ℕ → ℕ → List Entry
entries_in b n = take n (queue_in b).entries
