use Rattle.rules.specs.Layout.{session_format}
use Rattle.rules.proofs.Sizes.{session_size_lem}
use Rattle.rules.proofs.Steps.{session_steps}
use Rattle.records.proofs.SessionRecord.put.Goals as goal

pub returns : goal.returns
unfolding session_format session_steps
returns c =
    let a = c.args in
    rw (session_steps.same a.self.now a.s.now a.at (rw session_size_lem c.requires), c.put_bytes.ensures, c.put_byte-6.ensures, c.put_byte-5.ensures, c.put_byte-4.ensures, c.put_byte-3.ensures, c.put_byte-2.ensures, c.put.ensures, c.put_byte.ensures)
