use Rattle.names.proofs.Tests.{tests}
use Rattle.films.proofs.Lines.{layout_told}
use Rattle.films.proofs.layout_sound.Goals as goal

pub returns-then-b-p-gt2 : goal.returns-then-b-p-gt2
returns-then-b-p-gt2 c = layout_told c.args.b.now c.args.p (search tests depth 6)

pub returns-then-not-one_to_six : goal.returns-then-not-one_to_six
returns-then-not-one_to_six c = layout_told c.args.b.now c.args.p (search tests depth 6)

pub returns : goal.returns
returns c = layout_told c.args.b.now c.args.p (search tests depth 6)
