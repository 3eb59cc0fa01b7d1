use mathlib.Core.Path.{subst}
use native.Mathlib.Omega.{arith}
use Rattle.records.specs.Places.{core_in}
use Rattle.changes.specs.Changes.{affected, EffectFits}
use Rattle.changes.proofs.Spots.{held}
use Rattle.records.proofs.Whole.{whole}
use Rattle.changes.proofs.put_change.Goals as goal

pub put_session_created-requires : goal.put_session_created-requires
unfolding EffectFits
put_session_created-requires c =
    let fits = subst (EffectFits (core_in c.args.b.now)) c.in-SessionCreated.is c.requires.1 in
    fits

pub put_film_created-requires : goal.put_film_created-requires
unfolding EffectFits
put_film_created-requires c =
    let fits = subst (EffectFits (core_in c.args.b.now)) c.in-FilmCreated.is c.requires.1 in
    (c.requires.0, fits.0, fits.1)

pub put_film_set-requires : goal.put_film_set-requires
unfolding EffectFits
put_film_set-requires c =
    let fits = subst (EffectFits (core_in c.args.b.now)) c.in-FilmSet.is c.requires.1 in
    (c.requires.0, fits)

pub put_box_set-requires : goal.put_box_set-requires
unfolding EffectFits
put_box_set-requires c =
    let fits = subst (EffectFits (core_in c.args.b.now)) c.in-BoxSet.is c.requires.1 in
    (c.requires.0, fits.0, fits.1, fits.2)

pub put_film_printed-requires : goal.put_film_printed-requires
unfolding EffectFits
put_film_printed-requires c =
    let fits = subst (EffectFits (core_in c.args.b.now)) c.in-FilmPrinted.is c.requires.1 in
    (c.requires.0, fits.0, fits.1)

pub put_session_printed-requires : goal.put_session_printed-requires
unfolding EffectFits
put_session_printed-requires c =
    let fits = subst (EffectFits (core_in c.args.b.now)) c.in-SessionPrinted.is c.requires.1 in
    (c.requires.0, fits.0, fits.1)

pub put_film_deleted-requires : goal.put_film_deleted-requires
unfolding EffectFits
put_film_deleted-requires c =
    let fits = subst (EffectFits (core_in c.args.b.now)) c.in-FilmDeleted.is c.requires.1 in
    (c.requires.0, fits)

pub put_session_deleted-requires : goal.put_session_deleted-requires
unfolding EffectFits
put_session_deleted-requires c =
    let fits = subst (EffectFits (core_in c.args.b.now)) c.in-SessionDeleted.is c.requires.1 in
    fits

pub returns-in-Kept : goal.returns-in-Kept
unfolding affected
returns-in-Kept c =
    rw c.in-Kept.is (held c.args.b.now (λ i. omega (arith, c.fits-b i)) (whole _ c.told-b))

pub returns-in-SessionCreated : goal.returns-in-SessionCreated
unfolding affected
returns-in-SessionCreated c =
    rw c.in-SessionCreated.is c.put_session_created.ensures

pub returns-in-SessionSet : goal.returns-in-SessionSet
unfolding affected
returns-in-SessionSet c =
    rw c.in-SessionSet.is c.put_session_set.ensures

pub returns-in-FilmCreated : goal.returns-in-FilmCreated
unfolding affected
returns-in-FilmCreated c =
    rw c.in-FilmCreated.is c.put_film_created.ensures

pub returns-in-FilmSet : goal.returns-in-FilmSet
unfolding affected
returns-in-FilmSet c =
    rw c.in-FilmSet.is c.put_film_set.ensures

pub returns-in-BoxSet : goal.returns-in-BoxSet
unfolding affected
returns-in-BoxSet c =
    rw c.in-BoxSet.is c.put_box_set.ensures

pub returns-in-FilmPrinted : goal.returns-in-FilmPrinted
unfolding affected
returns-in-FilmPrinted c =
    rw c.in-FilmPrinted.is c.put_film_printed.ensures

pub returns-in-SessionPrinted : goal.returns-in-SessionPrinted
unfolding affected
returns-in-SessionPrinted c =
    rw c.in-SessionPrinted.is c.put_session_printed.ensures

pub returns-in-FilmDeleted : goal.returns-in-FilmDeleted
unfolding affected
returns-in-FilmDeleted c =
    rw c.in-FilmDeleted.is c.put_film_deleted.ensures

pub returns-in-SessionDeleted : goal.returns-in-SessionDeleted
unfolding affected
returns-in-SessionDeleted c =
    rw c.in-SessionDeleted.is c.put_session_deleted.ensures
