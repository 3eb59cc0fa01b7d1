-- Where the entries of the queue begin, and in the oldest, which stands first, the film's name.
use Rattle.std.specs.Prelude.{ℕ, ◌+◌, ◌*◌}
use Rattle.rules.specs.Bounds.{most_boxes}
use Rattle.rules.specs.Layout.{picture_size}
use Rattle.records.specs.Places.{queue_place}

abbrev pub entries_place : ℕ
entries_place = queue_place + 1

abbrev pub film_place : ℕ
film_place = entries_place + most_boxes * picture_size + 2 + 1
