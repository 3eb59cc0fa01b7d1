use mathlib.Core.Path.{◌≡◌, sym, ap, ◌∙◌, subst}
use Prim.Native.Nat.{◌+◌, ◌≤◌}
use lib.ListN.{length}
use Rattle.fields.specs.Format.{write}
use Rattle.rules.specs.declared.Core.{Core}
use Rattle.rules.specs.Layout.{core_format}
use Rattle.rules.specs.Bounds.{most_entries}
use Rattle.rules.specs.Records.{entries_of, queued, films_under}
use Rattle.rules.specs.Effects.{printed}
use Rattle.changes.specs.Changes.{AllUnder}
use Rattle.changes.proofs.put_session_printed.Goals as goal

pub print_session-requires : goal.print_session-requires
print_session-requires c =
    let a = c.args in
    subst (λ (k : Core). AllUnder k × (queued (entries_of k.queue) ≡ k.queue) × (length (entries_of k.queue) + length (films_under 0 k.shelf) ≤ most_entries)) (sym c.read_at-core.ensures) (c.requires.1, c.requires.0.1, c.requires.2)

pub returns : goal.returns
returns c =
    let a = c.args in
    c.put.ensures
    ∙ ap (λ (k : Core). write core_format k a.b.now 0) (c.print_session.ensures ∙ ap (λ (k : Core). printed k (films_under 0 k.shelf)) c.read_at-core.ensures)
