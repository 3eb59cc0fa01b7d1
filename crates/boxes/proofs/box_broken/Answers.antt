use mathlib.Core.Path.{◌∙◌}
use Rattle.rules.specs.Attributes.{listing_of}
use Rattle.boxes.specs.Founds.{optional_code_by}
use Rattle.boxes.proofs.Laws.{look_in, box_status_lem}
use Rattle.boxes.proofs.box_broken.Goals as goal

pub position_severity-position-requires : goal.position_severity-position-requires
position_severity-position-requires c =
    rw c.requires.0.position (look_in c.args.d.now c.args.syntax 0x2020_0010)

pub optional_code_severity-polarity-requires : goal.optional_code_severity-polarity-requires
optional_code_severity-polarity-requires c =
    rw c.requires.0.polarity (look_in c.args.d.now c.args.syntax 0x2020_0020)

pub sequence_worst-sequence-requires : goal.sequence_worst-sequence-requires
sequence_worst-sequence-requires c = c.requires.1.1

pub returns : goal.returns
unfolding optional_code_by
returns c =
    let a = c.args in
    c.status_of.ensures
    ∙ rw (c.worse-2.ensures, c.worse.ensures, c.sequence_worst-sequence.ensures, c.optional_code_severity-polarity.ensures, c.position_severity-position.ensures)
    (box_status_lem a.boxes (listing_of a.d.now a.syntax) a.found.position a.found.polarity a.found.image _ c.requires.0.position c.requires.0.polarity c.requires.0.image.0 c.requires.1.0)
