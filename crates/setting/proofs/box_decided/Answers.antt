use mathlib.Core.Path.{refl, sym}
use Rattle.std.proofs.lemmas.Result.{err_from_is_err_and}
use Rattle.rules.specs.declared.Instance.TheVariants.{TheBox}
use Rattle.rules.specs.Attributes.{listing_of}
use Rattle.rules.specs.Checks.{set_plan}
use Rattle.records.specs.Places.{core_in}
use Rattle.verdicts.proofs.Plans.{own_fails, own_stands}
use Rattle.setting.proofs.box_decided.Goals as goal

pub item_gathered-item-requires : goal.item_gathered-item-requires
item_gathered-item-requires c = c.gathered-found.ensures.image.1

pub box_broken-requires : goal.box_broken-requires
box_broken-requires c =
    (c.requires.0.1.0, c.requires.1, c.gathered-found.ensures, c.item_gathered-item.ensures)

pub returns-in_err-box_broken : goal.returns-in_err-box_broken
unfolding set_plan
returns-in_err-box_broken c =
    let a = c.args in
    let k = core_in a.b.now in
    let p = err_from_is_err_and c.from_residual.result c.from_residual.ensures.1 in
    rw (p.1, p.2) (own_fails k (set_plan k (TheBox a.i a.j) a.name (listing_of a.d.now a.syntax)) refl _ c.in_err-box_broken.ensures)

pub box_stored-requires : goal.box_stored-requires
box_stored-requires c =
    let p = c.requires in
    (p.0, p.1, p.2, sym c.in_ok-box_broken.ensures, p.3, c.gathered-found.ensures, c.item_gathered-item.ensures)

pub returns : goal.returns
unfolding set_plan
returns c =
    let a = c.args in
    let k = core_in a.b.now in
    own_stands k (set_plan k (TheBox a.i a.j) a.name (listing_of a.d.now a.syntax)) refl c.box_stored.result c.in_ok-box_broken.ensures c.box_stored.ensures
