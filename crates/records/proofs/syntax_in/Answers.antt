use mathlib.Core.Path.{ap, ◌∙◌}
use Rattle.headers.specs.Header.{syntax_of}
use Rattle.records.proofs.Parts.{syntax_read}
use Rattle.records.proofs.syntax_in.Goals as goal

pub returns : goal.returns
returns c = c.syntax_of.ensures ∙ ap syntax_of (syntax_read c.args.b.now)
