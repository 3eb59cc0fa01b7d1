-- Worked requests: every check from 1 to 11, and the effects, computed. They catch the must-fail edits of the definitions.
-- Assumes nothing.
use mathlib.Core.Path.{refl}
use mathlib.Core.List.{List, [], ◌∷◌, ◌++◌, map}
use Prim.Native.Nat.{ℕ}
use lib.ListN.{length, get_or}
use Rattle.choice.specs.Rules.{first_broken}
use Rattle.headers.specs.declared.Syntax.TheVariants.{Implicit}
use Rattle.strike.specs.Service.{no_data, whole, too_long, Result, fails, does}
use Rattle.rules.specs.declared.Core.{Core}
use Rattle.rules.specs.declared.Film.{Film}
use Rattle.rules.specs.declared.Queue.{Queue}
use Rattle.rules.specs.Text.{chars}
use Rattle.rules.specs.Values.{kind_standard, kind_row, kind_col, kind_in, counts_in}
use Rattle.rules.specs.Positions.{row_of, column_of}
use Rattle.rules.specs.Records.{no_box, no_entry, films_of, the_session, films_under, with_films}
use Rattle.rules.specs.Attributes.{listing_of, session_in, layout_from, layout_in}
use Rattle.rules.specs.declared.Note.{Note}
use Rattle.rules.specs.declared.Note.TheVariants.{NoNote, FilmsQueued, PictureAt, StoppedAt}
use Rattle.rules.specs.Responses.{Reply}
use Rattle.rules.specs.Effects.{film_at, session_deleted, entry_of}
use Rattle.rules.specs.Checks.{session_print_rules, decide}
use Rattle.rules.proofs.Messages.{get, foreign, create_box, create_session, create_live, create_film, set_session, set_nobody, set_other, set_film, set_box, act_two, print_session, print_film, delete_session, cut_short, no_format, empty_format, film23, landscape, empty_in_set, low, moved, seventh, picture, short_picture, odd_picture, erased, two_items}
use Rattle.rules.proofs.Book.{the_book}
use Rattle.rules.proofs.Stage.{nothing_live, session_live, the_film, film_live, eight_films, few_serials, no_pictures, queue_full, one_picture, collided, status, after, Example, gives, AllHold}

abbrev film_after : Core → List ℕ → List ℕ → Film
film_after k c d = film_at (after k (decide k c (whole d))) 0

-- position and picture of box 2 after a set
abbrev box_after : Core → List ℕ → List ℕ
box_after k d =
    (get_or (film_after k set_box d).boxes 1 no_box).position
    ∷ (get_or (film_after k set_box d).boxes 1 no_box).picture.0
    ∷ []

abbrev note_numbers : Note → List ℕ
note_numbers NoNote = 0 ∷ []
note_numbers (FilmsQueued n) = 1 ∷ n ∷ []
note_numbers (PictureAt n place size) = 2 ∷ n ∷ place ∷ size ∷ []
note_numbers (StoppedAt stop) = 3 ∷ stop.number ∷ stop.place ∷ stop.depth ∷ []

abbrev note_of : Result Core Reply → List ℕ
note_of (fails r) = note_numbers r.note
note_of (does k r) = note_numbers r.note

-- how many entries there are; ticket, copies, film, and the pictures at positions 1 and 2 of the first
abbrev entry_numbers : Queue → List ℕ
entry_numbers q =
    q.count
    ∷ (get_or q.entries 0 no_entry).ticket
    ∷ (get_or q.entries 0 no_entry).copies
    ∷ (get_or q.entries 0 no_entry).film.made.0
    ∷ (get_or (get_or q.entries 0 no_entry).pictures 0 (record { 0 = 99 })).0
    ∷ (get_or (get_or q.entries 0 no_entry).pictures 1 (record { 0 = 99 })).0
    ∷ []

abbrev entry_after : Core → List ℕ → List ℕ
entry_after k c = entry_numbers (after k (decide k c no_data)).queue

-- the film of the session at another place
abbrev placed : ℕ → Film
placed i = record { name = the_film.name; session = i; layout = the_film.layout; orientation = the_film.orientation; magnification = the_film.magnification; first = the_film.first; boxes = the_film.boxes }

-- films of the sessions at places 0 and 1
abbrev two_places : Core
two_places = with_films (placed 1 ∷ the_film ∷ placed 1 ∷ []) film_live

abbrev worked : List Example
worked =
    -- check 1
    gives (status (decide session_live get no_data) ∷ []) (0x0211 ∷ [])
    -- check 2
    ∷ gives (status (decide session_live foreign no_data) ∷ []) (0x0118 ∷ [])
    -- check 3
    ∷ gives (status (decide session_live create_box no_data) ∷ []) (0x0211 ∷ [])
    -- check 4
    ∷ gives (status (decide session_live set_session too_long) ∷ []) (0x0213 ∷ [])
    -- check 5
    ∷ gives (status (decide session_live set_session (whole cut_short)) ∷ []) (0x0110 ∷ [])
    -- check 6
    ∷ gives (status (decide session_live create_live no_data) ∷ status (decide session_live set_nobody no_data) ∷ status (decide film_live set_other no_data) ∷ []) (0x0111 ∷ 0x0112 ∷ 0x0119 ∷ [])
    -- check 7
    ∷ gives (status (decide film_live act_two no_data) ∷ []) (0x0123 ∷ [])
    -- check 8: missing, empty, not allowed
    ∷ gives (status (decide session_live create_film (whole no_format)) ∷ status (decide session_live create_film (whole empty_format)) ∷ status (decide film_live set_film (whole empty_in_set)) ∷ status (decide film_live set_box (whole seventh)) ∷ status (decide film_live set_box (whole short_picture)) ∷ status (decide film_live set_box (whole two_items)) ∷ []) (0x0120 ∷ 0x0121 ∷ 0x0106 ∷ 0x0106 ∷ 0x0106 ∷ 0x0106 ∷ [])
    -- check 9: second session, ninth film, too few serials, no picture number
    ∷ gives (status (decide session_live create_session no_data) ∷ status (decide eight_films create_film (whole film23)) ∷ status (decide few_serials create_film (whole film23)) ∷ status (decide no_pictures set_box (whole picture)) ∷ []) (0x0213 ∷ 0x0213 ∷ 0x0213 ∷ 0x0213 ∷ [])
    -- check 10
    ∷ gives (status (decide collided print_session no_data) ∷ status (decide queue_full print_session no_data) ∷ status (decide collided print_film no_data) ∷ status (decide queue_full print_film no_data) ∷ []) (0xC604 ∷ 0xC601 ∷ 0xC604 ∷ 0xC602 ∷ [])
    -- check 11
    ∷ gives (status (decide film_live print_session no_data) ∷ status (decide one_picture print_film no_data) ∷ []) (0xB602 ∷ 0x0000 ∷ [])
    -- a set stores nothing before its last value is tested
    ∷ gives (status (decide session_live set_session (whole low)) ∷ (the_session (after session_live (decide session_live set_session (whole low)))).priority ∷ []) (0x0106 ∷ 1 ∷ [])
    -- columns first
    ∷ gives ((layout_in (listing_of film23 Implicit)).lines ∷ (layout_in (listing_of film23 Implicit)).counts) (3 ∷ 2 ∷ 2 ∷ 2 ∷ 0 ∷ 0 ∷ 0 ∷ [])
    -- R-1: uneven rows and columns
    ∷ gives (counts_in (chars "ROW\\2,1,3") ++ (counts_in (chars "COL\\6 ") ++ counts_in (chars "ROW\\1,2,3,4,5,6"))) (2 ∷ 1 ∷ 3 ∷ 6 ∷ 1 ∷ 2 ∷ 3 ∷ 4 ∷ 5 ∷ 6 ∷ [])
    ∷ gives (counts_in (chars "ROW\\") ++ (counts_in (chars "ROW\\7") ++ (counts_in (chars "COL\\1,") ++ (counts_in (chars "COL\\12") ++ counts_in (chars "COL\\1,1,1,1,1,1,1"))))) []
    -- the fourth box of 2, 1 and 3: in the third row, or the third column
    ∷ gives (row_of (layout_from kind_row (2 ∷ 1 ∷ 3 ∷ [])) 4 ∷ column_of (layout_from kind_row (2 ∷ 1 ∷ 3 ∷ [])) 4 ∷ row_of (layout_from kind_col (2 ∷ 1 ∷ 3 ∷ [])) 4 ∷ column_of (layout_from kind_col (2 ∷ 1 ∷ 3 ∷ [])) 4 ∷ row_of (layout_from kind_standard (2 ∷ 2 ∷ [])) 3 ∷ column_of (layout_from kind_standard (2 ∷ 2 ∷ [])) 3 ∷ []) (2 ∷ 0 ∷ 0 ∷ 2 ∷ 1 ∷ 0 ∷ [])
    ∷ gives ((layout_in (listing_of film23 Implicit)).kind ∷ kind_in (chars "STANDARD\\2,3") ∷ kind_in (chars "ROW\\2,1,3") ∷ kind_in (chars "COL\\2,1,3") ∷ (layout_from kind_col (2 ∷ 1 ∷ 3 ∷ [])).kind ∷ []) (0 ∷ 0 ∷ 1 ∷ 2 ∷ 2 ∷ [])
    -- a film set
    ∷ gives ((film_after film_live set_film landscape).orientation ∷ (film_after film_live set_film landscape).magnification ∷ []) (1 ∷ 2 ∷ [])
    -- a box moved, filled, erased
    ∷ gives (box_after film_live moved ++ (box_after film_live picture ++ box_after one_picture erased)) (3 ∷ 0 ∷ 2 ∷ 1 ∷ 2 ∷ 0 ∷ [])
    -- the note on a picture: number, place, length
    ∷ gives (note_of (decide film_live set_box (whole picture))) (2 ∷ 1 ∷ 124 ∷ 2 ∷ [])
    -- R-3: fifteen pixels take 16 bytes, and the note leaves the last one out; 14 and 18 are not allowed, an odd length is not read
    ∷ gives (note_of (decide film_live set_box (whole (odd_picture 16)))) (2 ∷ 1 ∷ 124 ∷ 15 ∷ [])
    ∷ gives (status (decide film_live set_box (whole (odd_picture 16))) ∷ status (decide film_live set_box (whole (odd_picture 14))) ∷ status (decide film_live set_box (whole (odd_picture 18))) ∷ status (decide film_live set_box (whole (odd_picture 15))) ∷ []) (0x0000 ∷ 0x0106 ∷ 0x0106 ∷ 0x0110 ∷ [])
    -- R-4: check 5 alone notes where the reading stopped; other failures have no note
    ∷ gives (note_of (decide film_live set_box (whole (odd_picture 15))) ++ (note_of (decide film_live set_box too_long) ++ (note_of (decide film_live set_box (whole (odd_picture 14))) ++ note_of (decide film_live act_two no_data)))) (3 ∷ 2 ∷ 10 ∷ 0 ∷ 0 ∷ 0 ∷ 0 ∷ [])
    -- a print: the queue's entry
    ∷ gives (entry_after one_picture print_film) (1 ∷ 0 ∷ 1 ∷ 100 ∷ 0 ∷ 1 ∷ [])
    -- a session's deletion takes its films
    ∷ gives ((after film_live (decide film_live delete_session no_data)).shelf.count ∷ (the_session (after film_live (decide film_live delete_session no_data))).live ∷ []) (0 ∷ 0 ∷ [])
    -- a film is of the session that its reference names; a print and a deletion of a session reach its own films
    ∷ gives ((film_at (after session_live (decide session_live create_film (whole film23))) 0).session ∷ session_in session_live (listing_of film23 Implicit) ∷ session_in nothing_live (listing_of film23 Implicit) ∷ []) (0 ∷ 0 ∷ 1 ∷ [])
    ∷ gives (length (films_under 0 two_places.shelf) ∷ length (films_under 1 two_places.shelf) ∷ map (λ f. f.session) (films_of (session_deleted two_places 0).shelf ++ films_of (session_deleted two_places 1).shelf)) (1 ∷ 2 ∷ 1 ∷ 1 ∷ 0 ∷ [])
    ∷ gives (first_broken (session_print_rules two_places 2) ∷ first_broken (session_print_rules two_places 0) ∷ (entry_of two_places 7 the_film).copies ∷ (entry_of two_places 7 (placed 1)).copies ∷ []) (0xC600 ∷ 0 ∷ 1 ∷ 0 ∷ [])
    ∷ []

pub worked_hold : AllHold worked
unfolding the_book
worked_hold = (refl, (refl, (refl, (refl, (refl, (refl, (refl, (refl, (refl, (refl, (refl, (refl, (refl, (refl, (refl, (refl, (refl, (refl, (refl, (refl, (refl, (refl, (refl, (refl, (refl, (refl, (refl, (refl, tt))))))))))))))))))))))))))))
