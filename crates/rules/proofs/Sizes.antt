-- Each format has as many bytes as the book says.
-- Assumes nothing.
use mathlib.Core.Path.{◌≡◌, refl}
use Prim.Native.Nat.{◌*◌}
use Rattle.fields.specs.Format.{array}
use Rattle.rules.specs.Bounds.{most_sessions, most_boxes}
use Rattle.rules.specs.Layout.{serial_size, picture_size, name_size, session_size, box_size, layout_size, film_size, shelf_size, entry_size, queue_size, numbers_size, opened_size, core_size, input_size, records_size}
use Rattle.rules.specs.Layout.{serial_format, picture_format, name_format, box_format, layout_format, session_format, numbers_format, opened_format, input_format, film_format, shelf_format, entry_format, queue_format, core_format, state_format}

pub serial_size_lem : serial_format.size ≡ serial_size
unfolding serial_format
serial_size_lem = refl

pub picture_size_lem : picture_format.size ≡ picture_size
unfolding picture_format
picture_size_lem = refl

pub pictures_size : (array most_boxes picture_format).size ≡ most_boxes * picture_size
pictures_size = rw picture_size_lem

pub name_size_lem : name_format.size ≡ name_size
unfolding name_format serial_format
name_size_lem = refl

pub session_size_lem : session_format.size ≡ session_size
unfolding session_format
session_size_lem = rw name_size_lem

pub sessions_size : (array most_sessions session_format).size ≡ most_sessions * session_size
sessions_size = rw session_size_lem

pub box_size_lem : box_format.size ≡ box_size
unfolding box_format picture_format
box_size_lem = refl

pub layout_size_lem : layout_format.size ≡ layout_size
unfolding layout_format
layout_size_lem = refl

pub film_size_lem : film_format.size ≡ film_size
unfolding film_format
film_size_lem = rw (name_size_lem, layout_size_lem, serial_size_lem, box_size_lem)

pub shelf_size_lem : shelf_format.size ≡ shelf_size
unfolding shelf_format
shelf_size_lem = rw film_size_lem

pub entry_size_lem : entry_format.size ≡ entry_size
unfolding entry_format
entry_size_lem = rw (picture_size_lem, name_size_lem)

pub queue_size_lem : queue_format.size ≡ queue_size
unfolding queue_format
queue_size_lem = rw entry_size_lem

pub numbers_size_lem : numbers_format.size ≡ numbers_size
unfolding numbers_format
numbers_size_lem = refl

pub opened_size_lem : opened_format.size ≡ opened_size
unfolding opened_format
opened_size_lem = refl

pub core_size_lem : core_format.size ≡ core_size
unfolding core_format
core_size_lem = rw (numbers_size_lem, sessions_size, shelf_size_lem, queue_size_lem, opened_size_lem)

pub input_size_lem : input_format.size ≡ input_size
unfolding input_format
input_size_lem = refl

pub records_size_lem : state_format.size ≡ records_size
unfolding state_format
records_size_lem = rw (core_size_lem, input_size_lem)
