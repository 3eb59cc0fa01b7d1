-- Examples: P1 to P12 as a single list under one claim, computed.
-- Assumes nothing.
use mathlib.Core.Path.{refl}
use mathlib.Core.List.{List, [], ◌∷◌}
use Rattle.headers.specs.declared.Syntax.TheVariants.{Implicit, Explicit}
use Rattle.strike.specs.Service.{no_data, whole, Result}
use Rattle.rules.specs.declared.Core.{Core}
use Rattle.rules.specs.Records.{new_session, the_session}
use Rattle.rules.specs.Attributes.{listing_of, session_with}
use Rattle.rules.specs.Responses.{Reply}
use Rattle.rules.specs.Checks.{decide}
use Rattle.rules.proofs.Messages.{p1, p2, copies99, copies100, film23, film71, create_session, create_film, create_session5, create_session70, print_session, print_film, delete_film, echo, film_answer, boxes_answer, session_answer, p12}
use Rattle.rules.proofs.Book.{the_book}
use Rattle.rules.proofs.Stage.{nothing_live, session_live, film_live, status, response, response_data, after, Example, gives, AllHold}

abbrev P5 : Result Core Reply
P5 = decide session_live create_film (whole film23)

abbrev deleted : Result Core Reply
deleted = decide film_live delete_film no_data

-- P1 to P12 in order; P5 is the film, its boxes and the next serial
abbrev pub examples : List Example
examples =
    gives ((session_with (listing_of p1 Implicit) new_session).copies ∷ []) (2 ∷ [])
    ∷ gives ((session_with (listing_of p2 Explicit) new_session).copies ∷ []) (2 ∷ [])
    ∷ gives ((the_session (after nothing_live (decide nothing_live create_session (whole copies99)))).copies ∷ []) (99 ∷ [])
    ∷ gives (status (decide nothing_live create_session (whole copies100)) ∷ []) (0x0106 ∷ [])
    ∷ gives (response P5) film_answer
    ∷ gives (response_data P5) boxes_answer
    ∷ gives ((after session_live P5).numbers.serial ∷ []) (107 ∷ [])
    ∷ gives (status (decide session_live create_film (whole film71)) ∷ []) (0x0106 ∷ [])
    ∷ gives (status (decide nothing_live create_session5 no_data) ∷ []) (0x0117 ∷ [])
    ∷ gives (response (decide nothing_live create_session70 no_data)) session_answer
    ∷ gives (status (decide session_live print_session no_data) ∷ []) (0xC600 ∷ [])
    ∷ gives (status (decide film_live print_film no_data) ∷ []) (0xB603 ∷ [])
    ∷ gives (status deleted ∷ status (decide (after film_live deleted) delete_film no_data) ∷ []) (0x0000 ∷ 0x0112 ∷ [])
    ∷ gives (response (decide nothing_live echo no_data)) p12
    ∷ []

pub all_hold : AllHold examples
unfolding the_book
all_hold = (refl, (refl, (refl, (refl, (refl, (refl, (refl, (refl, (refl, (refl, (refl, (refl, (refl, (refl, tt))))))))))))))
