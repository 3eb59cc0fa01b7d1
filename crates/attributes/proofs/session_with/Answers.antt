use Prim.Native.Nat.{◌≤◌}
use mathlib.Core.Path.{sym, subst}
use lib.ListN.{length}
use Rattle.elements.specs.declared.Found.{Found}
use Rattle.rules.specs.Lists.{filled_to}
use Rattle.rules.specs.Values.{trimmed, count_in, code_in, priorities, media, destinations}
use Rattle.rules.specs.Attributes.{listing_of, session_with}
use Rattle.standings.specs.Founds.{bytes_found}
use Rattle.attributes.proofs.Laws.{found_placed, kept_listed, label_bound}
use Rattle.attributes.proofs.session_with.Goals as goal

pub label_or-given-requires : goal.label_or-given-requires
label_or-given-requires c =
    let a = c.args in
    let l = listing_of a.d.now a.syntax in
    (found_placed a.d.now a.syntax 0x2000_0050 c.requires.0.label, subst (λ (f : Found). length (trimmed (bytes_found a.d.now f)) ≤ 64) (sym c.requires.0.label) (label_bound l c.requires.1))

pub copies_or-requires : goal.copies_or-requires
copies_or-requires c =
    found_placed c.args.d.now c.args.syntax 0x2000_0010 c.requires.0.copies

pub code_or-priority-requires : goal.code_or-priority-requires
code_or-priority-requires c =
    found_placed c.args.d.now c.args.syntax 0x2000_0020 c.requires.0.priority

pub code_or-medium-requires : goal.code_or-medium-requires
code_or-medium-requires c =
    found_placed c.args.d.now c.args.syntax 0x2000_0030 c.requires.0.medium

pub code_or-destination-requires : goal.code_or-destination-requires
code_or-destination-requires c =
    found_placed c.args.d.now c.args.syntax 0x2000_0040 c.requires.0.destination

pub returns : goal.returns
unfolding session_with
returns c =
    let a = c.args in
    let l = listing_of a.d.now a.syntax in
    let found = c.requires.0 in
    rw (
      kept_listed (code_in destinations) l 0x2000_0040 a.s.destination found.destination c.code_or-destination.ensures,
      kept_listed (code_in media) l 0x2000_0030 a.s.medium found.medium c.code_or-medium.ensures,
      kept_listed (code_in priorities) l 0x2000_0020 a.s.priority found.priority c.code_or-priority.ensures,
      kept_listed (count_in 99) l 0x2000_0010 a.s.copies found.copies c.copies_or.ensures,
      kept_listed (λ v. length (trimmed v)) l 0x2000_0050 a.s.used found.label c.label_or-given.ensures.0,
      kept_listed (λ v. filled_to 64 0 (trimmed v)) l 0x2000_0050 a.s.label found.label c.label_or-given.ensures.1,
    )
