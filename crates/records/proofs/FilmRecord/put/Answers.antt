use Rattle.rules.specs.Layout.{film_format}
use Rattle.rules.proofs.Sizes.{film_size_lem}
use Rattle.rules.proofs.Steps.{film_steps}
use Rattle.records.proofs.FilmRecord.put.Goals as goal

pub returns : goal.returns
unfolding film_format film_steps
returns c =
    let a = c.args in
    rw (film_steps.same a.self.now a.s.now a.at (rw film_size_lem c.requires), c.put_array.ensures, c.put-3.ensures, c.put_byte-3.ensures, c.put_byte-2.ensures, c.put-2.ensures, c.put_byte.ensures, c.put.ensures)
