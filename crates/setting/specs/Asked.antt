-- An N-SET: its request, and the note that it may have.
use Rattle.std.specs.Prelude.{ℕ}
use Rattle.choice.specs.Pick.{pick}
use Rattle.rules.specs.declared.Target.{Target}
use Rattle.rules.specs.declared.Operation.TheVariants.{Set}
use Rattle.rules.specs.declared.Request.{Request}
use Rattle.rules.specs.declared.Image.{Image}
use Rattle.rules.specs.declared.Note.{Note}
use Rattle.rules.specs.declared.Note.TheVariants.{NoNote, PictureAt}
use Rattle.rules.specs.Commands.{size}
use Rattle.rules.specs.Attributes.{Listing, pixels, is_fill}

abbrev pub asked : ℕ → Target → Request
asked message target = record { message = message; operation = Set target }

-- where the pixels lie of what fills a box, a picture with this number
abbrev pub note_of : ℕ → Listing → Image → Note
note_of number l image = pick (is_fill image) (PictureAt number (pixels l image).from (size (pixels l image))) NoNote
