-- Each format obeys the laws, and how each struct of the records is written: field by field, in the order in which they stand.
-- Assumes nothing.
use mathlib.Core.Path.{refl}
use Rattle.fields.proofs.Laws.{byte_laws, number_laws, array_laws}
use Rattle.fields.proofs.Steps.{Steps, last, ◌sized◌then-steps◌, ◌then-steps◌, via_steps}
use Rattle.strike.specs.Machine.{command_limit}
use Rattle.rules.specs.Bounds.{most_sessions, most_boxes, most_films, most_entries, root_limit}
use Rattle.rules.proofs.Sizes.{serial_size_lem, name_size_lem, layout_size_lem, pictures_size, numbers_size_lem, sessions_size, shelf_size_lem, queue_size_lem, core_size_lem}
use Rattle.rules.specs.Layout.{serial_size, picture_size, serial_format, picture_format, name_format, box_format, layout_format, session_format, numbers_format, opened_format, input_format, film_format, shelf_format, entry_format, queue_format, core_format, state_format}

unfoldable pub serial_steps : Steps serial_format
unfolding serial_format
serial_steps = via_steps _ _ (λ b. refl) (λ a. refl) (last (number_laws serial_size))

unfoldable pub picture_steps : Steps picture_format
unfolding picture_format
picture_steps = via_steps _ _ (λ b. refl) (λ a. refl) (last (number_laws picture_size))

unfoldable pub name_steps : Steps name_format
unfolding name_format
name_steps = via_steps _ _ (λ b. refl) (λ a. refl) (serial_steps.laws sized serial_size_lem then-steps byte_laws then-steps last (array_laws 64 byte_laws))

unfoldable pub box_steps : Steps box_format
unfolding box_format
box_steps = via_steps _ _ (λ b. refl) (λ a. refl) (byte_laws then-steps byte_laws then-steps last picture_steps.laws)

unfoldable pub layout_steps : Steps layout_format
unfolding layout_format
layout_steps = via_steps _ _ (λ b. refl) (λ a. refl) (byte_laws then-steps byte_laws then-steps last (array_laws 6 byte_laws))

unfoldable pub session_steps : Steps session_format
unfolding session_format
session_steps = via_steps _ _ (λ b. refl) (λ a. refl) (byte_laws then-steps name_steps.laws sized name_size_lem then-steps byte_laws then-steps byte_laws then-steps byte_laws then-steps byte_laws then-steps byte_laws then-steps last (array_laws 64 byte_laws))

unfoldable pub numbers_steps : Steps numbers_format
unfolding numbers_format
numbers_steps = via_steps _ _ (λ b. refl) (λ a. refl) (byte_laws then-steps array_laws root_limit byte_laws then-steps number_laws 5 then-steps number_laws 5 then-steps last (number_laws 2))

unfoldable pub opened_steps : Steps opened_format
unfolding opened_format
opened_steps = via_steps _ _ (λ b. refl) (λ a. refl) (byte_laws then-steps byte_laws then-steps byte_laws then-steps last (number_laws 4))

unfoldable pub input_steps : Steps input_format
unfolding input_format
input_steps = via_steps _ _ (λ b. refl) (λ a. refl) (byte_laws then-steps number_laws 2 then-steps number_laws 4 then-steps last (array_laws command_limit byte_laws))

unfoldable pub film_steps : Steps film_format
unfolding film_format
film_steps = via_steps _ _ (λ b. refl) (λ a. refl) (name_steps.laws sized name_size_lem then-steps byte_laws then-steps layout_steps.laws sized layout_size_lem then-steps byte_laws then-steps byte_laws then-steps serial_steps.laws sized serial_size_lem then-steps last (array_laws most_boxes box_steps.laws))

unfoldable pub shelf_steps : Steps shelf_format
unfolding shelf_format
shelf_steps = via_steps _ _ (λ b. refl) (λ a. refl) (byte_laws then-steps last (array_laws most_films film_steps.laws))

unfoldable pub entry_steps : Steps entry_format
unfolding entry_format
entry_steps = via_steps _ _ (λ b. refl) (λ a. refl) (array_laws most_boxes picture_steps.laws sized pictures_size then-steps number_laws 2 then-steps byte_laws then-steps last name_steps.laws)

unfoldable pub queue_steps : Steps queue_format
unfolding queue_format
queue_steps = via_steps _ _ (λ b. refl) (λ a. refl) (byte_laws then-steps last (array_laws most_entries entry_steps.laws))

unfoldable pub core_steps : Steps core_format
unfolding core_format
core_steps = via_steps _ _ (λ b. refl) (λ a. refl) (numbers_steps.laws sized numbers_size_lem then-steps array_laws most_sessions session_steps.laws sized sessions_size then-steps shelf_steps.laws sized shelf_size_lem then-steps queue_steps.laws sized queue_size_lem then-steps last opened_steps.laws)

unfoldable pub state_steps : Steps state_format
unfolding state_format
state_steps = via_steps _ _ (λ b. refl) (λ a. refl) (core_steps.laws sized core_size_lem then-steps last input_steps.laws)
