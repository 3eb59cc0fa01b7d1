use mathlib.Core.Path.{sym, ◌∙◌}
use native.Mathlib.Omega.{arith}
use Rattle.std.proofs.lemmas.Result.{err_from_is_err_and}
use Rattle.rules.specs.Attributes.{listing_of, session_standings}
use Rattle.records.specs.Places.{core_in}
use Rattle.creating.proofs.Laws.{live_read, session_rows, attributes_broken, attributes_kept, place_taken, place_blank}
use Rattle.creating.proofs.new_session_broken.Goals as goal

pub returns-in_err-session_broken : goal.returns-in_err-session_broken
returns-in_err-session_broken c =
    let a = c.args in
    let p = err_from_is_err_and c.from_residual.result c.from_residual.ensures.1 in
    rw (p.1, p.2) (attributes_broken (session_standings (listing_of a.d.now a.syntax)) (session_rows (core_in a.b.now) a.sent.now) _ c.in_err-session_broken.ensures)

pub returns-then-b-ne0 : goal.returns-then-b-ne0
returns-then-b-ne0 c =
    let a = c.args in
    let k = core_in a.b.now in
    attributes_kept (session_standings (listing_of a.d.now a.syntax)) (session_rows k a.sent.now) c.in_ok-session_broken.ensures (rw (place_taken k _ (live_read a.b.now) c.if-b-ne0.true))

pub too_few_serials-requires : goal.too_few_serials-requires
too_few_serials-requires c =
    (omega (arith, c.next_serial.ensures, c.requires.0), omega (arith, c.own_serials.ensures.1))

pub returns-then-too_few_serials : goal.returns-then-too_few_serials
returns-then-too_few_serials c =
    let a = c.args in
    let k = core_in a.b.now in
    attributes_kept (session_standings (listing_of a.d.now a.syntax)) (session_rows k a.sent.now) c.in_ok-session_broken.ensures
    (rw (place_blank k _ (live_read a.b.now) c.if-b-ne0.false, sym c.own_serials.ensures.0, sym c.next_serial.ensures, sym c.too_few_serials.ensures ∙ c.if-too_few_serials.true))

pub returns : goal.returns
returns c =
    let a = c.args in
    let k = core_in a.b.now in
    attributes_kept (session_standings (listing_of a.d.now a.syntax)) (session_rows k a.sent.now) c.in_ok-session_broken.ensures
    (rw (place_blank k _ (live_read a.b.now) c.if-b-ne0.false, sym c.own_serials.ensures.0, sym c.next_serial.ensures, sym c.too_few_serials.ensures ∙ c.if-too_few_serials.false))
