use mathlib.Core.Path.{refl, sym, ◌∙◌}
use native.Mathlib.Omega.{arith}
use Rattle.choice.specs.Pick.{both}
use Rattle.octets.specs.Octets.{same}
use Rattle.uids.specs.Uids.{is_uid, unpadded}
use Rattle.elements.specs.Reader.{scope_of}
use Rattle.finding.specs.Gathered.{ascending}
use Rattle.rules.specs.Text.{session_class}
use Rattle.rules.specs.Lists.{any}
use Rattle.rules.specs.Values.{no_bytes}
use Rattle.rules.specs.Records.{session_named, sessions_of}
use Rattle.rules.specs.Attributes.{listing_of, only_item}
use Rattle.records.specs.Places.{core_in}
use Rattle.attributes.proofs.Laws.{found_within, mandatory_listed, worst_one, worst_next}
use Rattle.attributes.proofs.item_severity.Goals as goal

pub gathered-found-requires : goal.gathered-found-requires
unfolding ascending
gathered-found-requires c =
    (omega arith, (omega arith, (c.requires.0, c.requires.1, refl)))

pub instance_severity-instance-requires : goal.instance_severity-instance-requires
instance_severity-instance-requires c =
    let a = c.args in
    found_within a.d.now (scope_of a.syntax 3 a.inside) 0x0008_1155 c.requires.0 c.requires.1 (c.gathered-found.ensures 1 (omega arith))

pub class_severity-requires : goal.class_severity-requires
class_severity-requires c =
    let a = c.args in
    found_within a.d.now (scope_of a.syntax 3 a.inside) 0x0008_1150 c.requires.0 c.requires.1 (c.gathered-found.ensures 0 (omega arith))

pub returns : goal.returns
returns c =
    let a = c.args in
    let k = core_in a.b.now in
    let only = only_item (listing_of a.d.now a.syntax) a.inside in
    let named = mandatory_listed no_bytes (λ v. both (is_uid (unpadded v)) (any (session_named k.numbers (unpadded v)) (sessions_of k))) only 0x0008_1155 (c.gathered-found.ensures 1 (omega arith)) c.instance_severity-instance.ensures in
    worst_next _ _ (mandatory_listed no_bytes (λ v. both (is_uid (unpadded v)) (same session_class (unpadded v))) only 0x0008_1150 (c.gathered-found.ensures 0 (omega arith)) c.class_severity.ensures)
    (named ∙ sym (worst_one _)) c.worse.ensures
