use mathlib.Core.Path.{sym, ◌∙◌}
use Rattle.fields.proofs.Blocks.{write_block}
use Rattle.fields.proofs.put_bytes.Goals as goal

pub returns : goal.returns
returns g c =
    let a = c.args in
    c.put.ensures ∙ sym (write_block a.a.now a.s.now a.at g.row.N c.told-a)
