use Rattle.names.proofs.Tests.{tests}
use Rattle.films.proofs.Lines.{lines_told}
use Rattle.films.proofs.lines_sound.Goals as goal

pub returns-then-not-line_sound : goal.returns-then-not-line_sound
returns-then-not-line_sound c = lines_told c.args.b.now c.args.p c.args.lines (search tests depth 9)

pub returns-then-not-line_sound-2 : goal.returns-then-not-line_sound-2
returns-then-not-line_sound-2 c = lines_told c.args.b.now c.args.p c.args.lines (search tests depth 9)

pub returns-then-not-line_sound-3 : goal.returns-then-not-line_sound-3
returns-then-not-line_sound-3 c = lines_told c.args.b.now c.args.p c.args.lines (search tests depth 9)

pub returns-then-not-line_sound-4 : goal.returns-then-not-line_sound-4
returns-then-not-line_sound-4 c = lines_told c.args.b.now c.args.p c.args.lines (search tests depth 9)

pub returns-then-not-line_sound-5 : goal.returns-then-not-line_sound-5
returns-then-not-line_sound-5 c = lines_told c.args.b.now c.args.p c.args.lines (search tests depth 9)

pub returns : goal.returns
returns c = lines_told c.args.b.now c.args.p c.args.lines (search tests depth 9)
