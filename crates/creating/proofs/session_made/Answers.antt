use Prim.Native.Nat.{◌<◌}
use mathlib.Core.Path.{◌≡◌, sym, subst}
use lib.ListN.{length}
use Rattle.rules.specs.Bounds.{none_left}
use Rattle.rules.specs.Attributes.{listing_of}
use Rattle.records.specs.Places.{core_in}
use Rattle.creating.proofs.Laws.{serial_left, session_kept}
use Rattle.creating.proofs.session_made.Goals as goal

pub name_by-name-requires : goal.name_by-name-requires
name_by-name-requires c =
    let a = c.args in
    let k = core_in a.b.now in
    let h = session_kept k a.sent.now (listing_of a.d.now a.syntax) c.requires.1 in
    (c.requires.0, subst (λ n. length a.sent.now ≡ 0 → n < none_left) (sym c.next_serial.ensures) (serial_left k.numbers a.sent.now h.1))

pub session_with-given-requires : goal.session_with-given-requires
session_with-given-requires c =
    let h = session_kept (core_in c.args.b.now) c.args.sent.now (listing_of c.args.d.now c.args.syntax) c.requires.1 in
    (c.requires.2, h.0)

pub returns : goal.returns
returns c =
    rw (c.session_with-given.ensures, c.new_session.ensures, c.name_by-name.ensures, c.next_serial.ensures)
