use mathlib.Core.Path.{◌≡◌, sym, ap, ◌∙◌, subst}
use Prim.Native.Nat.{◌<◌}
use mathlib.Core.List.{[], ◌∷◌}
use lib.ListN.{length}
use Rattle.fields.specs.Format.{write}
use Rattle.rules.specs.declared.Core.{Core}
use Rattle.rules.specs.Layout.{core_format}
use Rattle.rules.specs.Bounds.{most_entries}
use Rattle.rules.specs.Records.{entries_of, queued}
use Rattle.rules.specs.Effects.{film_at, printed}
use Rattle.changes.specs.Changes.{FilmThere}
use Rattle.changes.proofs.put_film_printed.Goals as goal

pub print_film-requires : goal.print_film-requires
print_film-requires c =
    let a = c.args in
    subst (λ (k : Core). FilmThere k a.place × (queued (entries_of k.queue) ≡ k.queue) × (length (entries_of k.queue) < most_entries)) (sym c.read_at-core.ensures) (c.requires.1, c.requires.0.1, c.requires.2)

pub returns : goal.returns
returns c =
    let a = c.args in
    c.put.ensures
    ∙ ap (λ (k : Core). write core_format k a.b.now 0) (c.print_film.ensures ∙ ap (λ (k : Core). printed k (film_at k a.place ∷ [])) c.read_at-core.ensures)
