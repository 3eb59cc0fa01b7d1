use Prim.Native.Nat.{ℕ}
use mathlib.Core.Path.{sym, ap, ◌∙◌}
use mathlib.Core.List.{List, [], ◌∷◌}
use Rattle.rules.specs.Layout.{session_format}
use Rattle.rules.specs.Sound.{uids_apart}
use Rattle.records.specs.Places.{session_in}
use Rattle.distinct.specs.Films.{films_in}
use Rattle.distinct.specs.Apart.{text_free}
use Rattle.distinct.proofs.Films.{serials_not, text_not, texts_left}
use Rattle.distinct.proofs.uids_apart.Goals as goal

pub returns-then-not-serials_apart : goal.returns-then-not-serials_apart
returns-then-not-serials_apart c =
    let b = c.args.b.now in
    let n = c.films_held-n.result in
    sym (serials_not (session_in b) (films_in b n) (sym c.serials_apart.ensures ∙ c.if-not-serials_apart.true))
    ∙ ap (uids_apart (session_in b ∷ [])) c.films_held-n.ensures.1

pub returns-then-not-text_free : goal.returns-then-not-text_free
unfolding session_format
returns-then-not-text_free c =
    let b = c.args.b.now in
    let n = c.films_held-n.result in
    let text = ap (λ (t : List ℕ). text_free t (films_in b n)) c.sent_text.ensures in
    sym (text_not (session_in b) (films_in b n) (sym c.serials_apart.ensures ∙ c.if-not-serials_apart.false) (sym text ∙ sym c.text_free.ensures ∙ c.if-not-text_free.true))
    ∙ ap (uids_apart (session_in b ∷ [])) c.films_held-n.ensures.1

pub returns : goal.returns
unfolding session_format
returns c =
    let b = c.args.b.now in
    let n = c.films_held-n.result in
    let text = ap (λ (t : List ℕ). text_free t (films_in b n)) c.sent_text.ensures in
    c.texts_apart.ensures
    ∙ sym (texts_left (session_in b) (films_in b n) (sym c.serials_apart.ensures ∙ c.if-not-serials_apart.false) (sym text ∙ sym c.text_free.ensures ∙ c.if-not-text_free.false))
    ∙ ap (uids_apart (session_in b ∷ [])) c.films_held-n.ensures.1
