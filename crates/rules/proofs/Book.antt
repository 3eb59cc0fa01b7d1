-- Every definition of the book, and of what it stands on, under one name: a claim that is computed says `unfolding the_book`.
-- Assumes nothing.
use Rattle.octets.specs.Octets.{number_at, octets, same}
use Rattle.uids.specs.Uids.{digits, component, components, is_uid, unpadded, begins_with, last_digits, decimal, made}
use Rattle.tags.specs.Table.{named_vr, form_of, implicit_vr, differs}
use Rattle.headers.specs.Header.{syntax_of, tag_at, size_at, vr_at, length_at, vr_wrong, length_head, head_at, item_head_at, close_at}
use Rattle.elements.specs.Find.{elements_from, items_of, find_at, items_at}
use Rattle.elements.specs.Walk.{walk, trail}
use Rattle.elements.specs.Reader.{list_step, list_from, item_with, item_step, items_from, element_at, list_at, item_at, data_set}
use Rattle.elements.specs.Passed.{tally, list_passed, item_passed, items_passed, element_passed, passed_in, headers_passed}
use Rattle.writing.specs.Bytes.{padded, tag_octets, vr_octets, header_size, plain, header, element, written, written_items}
use Rattle.fields.specs.Format.{read_all, bytes_all}
use Rattle.strike.proofs.Opened.{the_machine}
use Rattle.rules.specs.Text.{chars}
use Rattle.rules.specs.Lists.{every, any, place_of, apart, sum, from, those}
use Rattle.rules.specs.Values.{without_leading, without_trailing, trimmed, blank, without_plus, decimal_value, count_in, code_in, label_allowed, standard, listed, numbers_in, uneven, kind_in, counts_in}
use Rattle.rules.specs.Positions.{spot_of}
use Rattle.rules.specs.Records.{root_of, uid_of, box_count, boxes_of, films_of, shelved, films_under, entries_of, queued, box_uids, named}
use Rattle.rules.specs.Layout.{serial_format, picture_format, name_format, session_format, box_format, layout_format, film_format, shelf_format, entry_format, queue_format, numbers_format, opened_format, core_format, input_format, state_format, unpack, pack}
use Rattle.rules.specs.Commands.{bytes_of, uid_at, group_zero, length_told, well_formed, has_data, request_in, understood}
use Rattle.rules.specs.Attributes.{session_standings, session_with, optional_film, film_create_standings, film_set_standings, film_with, session_in, layout_in, image_standings, image_in, box_standings, box_with}
use Rattle.rules.specs.Responses.{response_elements, response_tree, reply, box_items, film_tree}
use Rattle.rules.specs.Effects.{session_created, new_film, film_created, session_set, film_set, box_set, session_deleted, film_deleted, picture_on, entry_of, entries_for, ticket_after, printed, filled_boxes}
use Rattle.rules.specs.Checks.{class_of, general_rules, create_rules, target_rules, create_plan, set_plan, action_plan, delete_plan, plan_of, decide_request, decide}
use Rattle.rules.specs.Calls.{check, started, opened, closed, picture_bytes, entry_bytes, taken, reading}
use Rattle.rules.specs.Sound.{name_sound, numbers_sound, layout_sound, film_sound, shelf_sound, entry_sound, queue_sound, serials_of, uids_apart, opened_sound, core_sound, input_sound, sound}
use Rattle.rules.specs.Outcomes as outcomes

unfoldable pub the_book : Unit {0}
unfolding number_at octets same digits component components is_uid unpadded begins_with last_digits decimal made named_vr form_of implicit_vr differs syntax_of tag_at size_at vr_at length_at vr_wrong length_head head_at item_head_at close_at elements_from items_of find_at items_at walk trail list_step list_from item_with item_step items_from element_at list_at item_at data_set tally list_passed item_passed items_passed element_passed passed_in headers_passed padded tag_octets vr_octets header_size plain header element written written_items read_all bytes_all the_machine chars every any place_of apart sum from those without_leading without_trailing trimmed blank without_plus decimal_value count_in code_in label_allowed standard listed numbers_in uneven kind_in counts_in spot_of root_of uid_of box_count boxes_of films_of shelved films_under entries_of queued box_uids named serial_format picture_format name_format session_format box_format layout_format film_format shelf_format entry_format queue_format numbers_format opened_format core_format input_format state_format unpack pack bytes_of uid_at group_zero length_told well_formed has_data request_in understood session_standings session_with optional_film film_create_standings film_set_standings film_with session_in layout_in image_standings image_in box_standings box_with response_elements response_tree reply box_items film_tree session_created new_film film_created session_set film_set box_set session_deleted film_deleted picture_on entry_of entries_for ticket_after printed filled_boxes class_of general_rules create_rules target_rules create_plan set_plan action_plan delete_plan plan_of decide_request decide check started opened closed picture_bytes entry_bytes taken reading name_sound numbers_sound layout_sound film_sound shelf_sound entry_sound queue_sound serials_of uids_apart opened_sound core_sound input_sound sound outcomes.input_in outcomes.input_held outcomes.written outcomes.core_written outcomes.report_bytes outcomes.number_of outcomes.starts outcomes.opens outcomes.closes outcomes.takes outcomes.feeds
the_book = tt
