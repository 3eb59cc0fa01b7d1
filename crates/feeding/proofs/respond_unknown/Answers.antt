use Rattle.feeding.proofs.Response.{unknown_responded}
use Rattle.feeding.proofs.respond_unknown.Goals as goal

pub returns : goal.returns
returns c =
    let a = c.args in
    unknown_responded a.message a.field _ a.command.now _ a.report.now _ c.put_response-stop.ensures c.put_note.ensures
