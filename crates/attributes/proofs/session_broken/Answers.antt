use mathlib.Core.Path.{sym, ◌∙◌}
use lib.Dec.{eqb}
use Rattle.choice.specs.Pick.{not}
use Rattle.rules.specs.Values.{count_in, priorities, media, destinations, label_allowed}
use Rattle.rules.specs.Attributes.{listing_of, code_allowed, session_standings}
use Rattle.attributes.proofs.Laws.{found_placed, optional_listed, worst_one, worst_next, broken_told}
use Rattle.attributes.proofs.session_broken.Goals as goal

pub label_severity-requires : goal.label_severity-requires
label_severity-requires c =
    found_placed c.args.d.now c.args.syntax 0x2000_0050 c.requires.label

pub optional_code_severity-destination-requires : goal.optional_code_severity-destination-requires
optional_code_severity-destination-requires c =
    found_placed c.args.d.now c.args.syntax 0x2000_0040 c.requires.destination

pub optional_code_severity-medium-requires : goal.optional_code_severity-medium-requires
optional_code_severity-medium-requires c =
    found_placed c.args.d.now c.args.syntax 0x2000_0030 c.requires.medium

pub optional_code_severity-priority-requires : goal.optional_code_severity-priority-requires
optional_code_severity-priority-requires c =
    found_placed c.args.d.now c.args.syntax 0x2000_0020 c.requires.priority

pub copies_severity-requires : goal.copies_severity-requires
copies_severity-requires c =
    found_placed c.args.d.now c.args.syntax 0x2000_0010 c.requires.copies

pub returns : goal.returns
unfolding session_standings
returns c =
    let a = c.args in
    let l = listing_of a.d.now a.syntax in
    broken_told (session_standings l)
    (worst_next _ _ (optional_listed (λ v. not (eqb (count_in 99 v) 0)) l 0x2000_0010 c.requires.copies c.copies_severity.ensures)
    (worst_next _ _ (optional_listed (code_allowed priorities) l 0x2000_0020 c.requires.priority c.optional_code_severity-priority.ensures)
    (worst_next _ _ (optional_listed (code_allowed media) l 0x2000_0030 c.requires.medium c.optional_code_severity-medium.ensures)
    (worst_next _ _ (optional_listed (code_allowed destinations) l 0x2000_0040 c.requires.destination c.optional_code_severity-destination.ensures)
    (optional_listed label_allowed l 0x2000_0050 c.requires.label c.label_severity.ensures ∙ sym (worst_one _))
    c.worse-worst.ensures)
    c.worse-worst-2.ensures)
    c.worse-worst-3.ensures)
    c.worse-worst-4.ensures)
    c.status_of.ensures
