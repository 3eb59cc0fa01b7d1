use Rattle.creating.proofs.with_new_film.Goals as goal

pub returns : goal.returns
returns c =
    rw (c.change_with_film-change.ensures, c.boxes_in-contents.ensures)
