use mathlib.Core.Path.{sym, ◌∙◌}
use Rattle.names.proofs.Tests.{tests}
use Rattle.films.proofs.Films.{shelf_told, rest_blank}
use Rattle.records.proofs.Whole.{whole}
use Rattle.films.proofs.shelf_sound.Goals as goal

pub returns-then-count-gt8 : goal.returns-then-count-gt8
returns-then-count-gt8 c = shelf_told c.args.b.now _ c.from-count.ensures (search tests depth 7)

pub returns-then-not-films_owned : goal.returns-then-not-films_owned
returns-then-not-films_owned c = shelf_told c.args.b.now _ c.from-count.ensures (search tests depth 7)

pub returns-then-not-films_sound : goal.returns-then-not-films_sound
returns-then-not-films_sound c = shelf_told c.args.b.now _ c.from-count.ensures (search tests depth 7)

pub returns : goal.returns
returns c =
    let b = c.args.b.now in
    let blank = c.zeros_in.ensures ∙ sym (rest_blank b c.from-count.result c.if-count-gt8.false (whole _ c.told-b)) in
    shelf_told b _ c.from-count.ensures (search (tests, blank) depth 7)
