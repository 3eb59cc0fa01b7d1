use Rattle.responses.proofs.Report.{report_laid}
use Rattle.responses.proofs.put_report.Goals as goal

pub returns : goal.returns
returns c =
    let a = c.args in
    report_laid a.status a.command a.size a.note.kind a.note.first a.note.second a.note.third a.out.now _ _ _ _ _ _ _ c.requires
    c.put_number.ensures
    c.put_number-2.ensures
    c.put_number-3.ensures
    c.put_number-4.ensures
    c.put_number-5.ensures
    c.put_number-6.ensures
    c.put_number-7.ensures
