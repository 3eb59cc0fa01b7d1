-- The tests of "UIDs differ", from film to film.
-- Assumes nothing.
use Prim.Native.Nat.{ℕ}
use mathlib.Core.Path.{◌≡◌, refl, ◌∙◌}
use mathlib.Core.Bool.{Bool, true, false}
use mathlib.Core.List.{List, [], ◌∷◌, map}
use Rattle.choice.specs.Pick.{both, not}
use Rattle.choice.proofs.Picks.{both_assoc}
use Rattle.rules.specs.declared.Session.{Session}
use Rattle.rules.specs.declared.Film.{Film}
use Rattle.rules.specs.Lists.{every, apart}
use Rattle.rules.specs.Sound.{Serials, overlap, own_serial, serials_of, sent_text, same_text, uids_apart}
use Rattle.distinct.specs.Apart.{box_serials, free_of_film, serials_free, film_apart, serials_apart, film_text, text_free, texts_apart}
use Rattle.distinct.proofs.Ranges.{Stepwise}

regroup : (a b c d : Bool) → both (both a b) (both c d) ≡ both (both a (both b c)) d
regroup true b c d = both_assoc b c d
regroup false b c d = refl

pub serials_free_lem : (s : Serials) → Stepwise (serials_free s) (λ f films. free_of_film s f)
unfolding serials_free serials_of every
serials_free_lem s = record { none = refl; more = λ f films. both_assoc (not (overlap s (own_serial f.name))) (not (overlap s (box_serials f))) (serials_free s films) }

pub serials_apart_lem : Stepwise serials_apart film_apart
unfolding serials_apart serials_free serials_of apart every
serials_apart_lem = record { none = refl; more = λ f films. regroup (not (overlap (own_serial f.name) (box_serials f))) (serials_free (own_serial f.name) films) (serials_free (box_serials f) films) (serials_apart films) }

pub text_free_lem : (text : List ℕ) → Stepwise (text_free text) (λ f films. not (same_text text (film_text f)))
unfolding text_free every
text_free_lem text = record { none = refl; more = λ f films. refl }

-- an empty text is none
pub no_text : (text : List ℕ) (films : List Film) → text ≡ [] → text_free text films ≡ true
unfolding text_free every
no_text text [] e = refl
no_text text (f ∷ films) e = rw e (no_text text films e)

pub texts_apart_lem : Stepwise texts_apart (λ f films. text_free (film_text f) films)
unfolding texts_apart text_free apart
texts_apart_lem = record { none = refl; more = λ f films. refl }

pub first_serials : (s : Serials) (films : List Film) → apart overlap (s ∷ serials_of films) ≡ both (serials_free s films) (serials_apart films)
unfolding apart serials_free serials_apart
first_serials s films = refl

first_text : (text : List ℕ) (films : List Film) → apart same_text (text ∷ map film_text films) ≡ both (text_free text films) (texts_apart films)
unfolding apart text_free texts_apart
first_text text films = refl

-- "UIDs differ": serials, then the session's text from the films', and the films' from one another
module _ (s : Session) (films : List Film) where
  parted : uids_apart (s ∷ []) films ≡ both (apart overlap (own_serial s.name ∷ serials_of films)) (both (text_free (sent_text s.name) films) (texts_apart films))
  unfolding uids_apart
  parted = rw (first_text (sent_text s.name) films)

  pub serials_not : apart overlap (own_serial s.name ∷ serials_of films) ≡ false → uids_apart (s ∷ []) films ≡ false
  serials_not e = parted ∙ rw e

  module _ (e : apart overlap (own_serial s.name ∷ serials_of films) ≡ true) where
    pub text_not : text_free (sent_text s.name) films ≡ false → uids_apart (s ∷ []) films ≡ false
    text_not d = parted ∙ rw (e, d)

    pub texts_left : text_free (sent_text s.name) films ≡ true → uids_apart (s ∷ []) films ≡ texts_apart films
    texts_left d = parted ∙ rw (e, d)
