use Rattle.feeding.proofs.Response.{root_fits, text_shown, made_shown}
use Rattle.feeding.proofs.put_uid.Goals as goal

pub returns-then-serial-eq0 : goal.returns-then-serial-eq0
returns-then-serial-eq0 c =
    let a = c.args in
    text_shown a.n a.name a.out.now _ _ c.if-serial-eq0.true c.put_text.ensures

pub put_made-requires : goal.put_made-requires
put_made-requires c =
    let n = c.args.n in
    root_fits n.root _ n.used _ c.front.ensures c.requires.1 c.requires.0

pub returns : goal.returns
returns c =
    let a = c.args in
    made_shown a.n a.name a.out.now _ _ _ c.if-serial-eq0.false c.requires.1 c.front.ensures c.put_made.ensures
