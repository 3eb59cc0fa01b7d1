use Rattle.rules.specs.Text.{chars}
use Rattle.rules.specs.Checks.{class_of}
use Rattle.instances.proofs.class_of.Goals as goal

pub returns-then-same_bytes : goal.returns-then-same_bytes
unfolding class_of chars
returns-then-same_bytes c = simp (← c.same_bytes.ensures, c.if-same_bytes.true)

pub returns-then-same_bytes-2 : goal.returns-then-same_bytes-2
unfolding class_of chars
returns-then-same_bytes-2 c =
    simp (← c.same_bytes.ensures, c.if-same_bytes.false, ← c.same_bytes-2.ensures, c.if-same_bytes-2.true)

pub returns-then-same_bytes-3 : goal.returns-then-same_bytes-3
unfolding class_of chars
returns-then-same_bytes-3 c =
    simp (← c.same_bytes.ensures, c.if-same_bytes.false, ← c.same_bytes-2.ensures, c.if-same_bytes-2.false, ← c.same_bytes-3.ensures, c.if-same_bytes-3.true)

pub returns-then-same_bytes-4 : goal.returns-then-same_bytes-4
unfolding class_of chars
returns-then-same_bytes-4 c =
    simp (← c.same_bytes.ensures, c.if-same_bytes.false, ← c.same_bytes-2.ensures, c.if-same_bytes-2.false, ← c.same_bytes-3.ensures, c.if-same_bytes-3.false, ← c.same_bytes-4.ensures, c.if-same_bytes-4.true)

pub returns : goal.returns
unfolding class_of chars
returns c =
    simp (← c.same_bytes.ensures, c.if-same_bytes.false, ← c.same_bytes-2.ensures, c.if-same_bytes-2.false, ← c.same_bytes-3.ensures, c.if-same_bytes-3.false, ← c.same_bytes-4.ensures, c.if-same_bytes-4.false)
