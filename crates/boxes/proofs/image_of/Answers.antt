use mathlib.Core.Path.{sym, ap}
use Rattle.rules.specs.Attributes.{image_of}
use Rattle.boxes.proofs.image_of.Goals as goal

pub returns-in-One : goal.returns-in-One
returns-in-One c = sym (ap image_of c.in-One.is)
