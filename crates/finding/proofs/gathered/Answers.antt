use native.Mathlib.Omega.{arith}
use mathlib.Core.Path.{sym, ◌∙◌}
use Rattle.finding.proofs.Gathering.{gathering_start, all_told, at_the_end, too_short, refused_here, skips, passes, past, takes}
use Rattle.finding.proofs.gathered.Goals as goal

pub loop-k-init : goal.loop-k-init
loop-k-init g c = gathering_start _ _ _ _ c.requires.0

pub returns-in-Some : goal.returns-in-Some
returns-in-Some g c =
    at_the_end _ _ _ _ _ _ _ _ c.loop-k.invariant (sym c.closing.ensures ∙ c.in-Some.is)

pub returns-then-inside-p-lt8 : goal.returns-then-inside-p-lt8
returns-then-inside-p-lt8 g c =
    too_short _ _ _ _ _ _ _ _ c.loop-k.invariant (sym c.closing.ensures ∙ c.in_default.is) c.if-inside-p-lt8.true

pub loop-k-preserved-then-sought-t : goal.loop-k-preserved-then-sought-t
loop-k-preserved-then-sought-t g c =
    skips _ _ _ _ _ _ _ _ c.loop-k.invariant (sym c.closing.ensures ∙ c.in_default.is) c.loop-k-test.true _ c.tag_at-t.ensures.0 c.if-sought-t.true

pub loop-k-smaller-then-t-sought : goal.loop-k-smaller-then-t-sought
loop-k-smaller-then-t-sought g c =
    let b = past _ _ _ _ _ _ _ _ c.loop-k.invariant (sym c.closing.ensures ∙ c.in_default.is) c.loop-k-test.true _ c.tag_at-t.ensures.0 c.requires.2 (sym c.element.ensures.0 ∙ c.in-Ok.is) in
    omega arith

pub loop-k-preserved-then-t-sought : goal.loop-k-preserved-then-t-sought
loop-k-preserved-then-t-sought g c =
    passes _ _ _ _ _ _ _ _ c.loop-k.invariant (sym c.closing.ensures ∙ c.in_default.is) c.loop-k-test.true _ c.tag_at-t.ensures.0 c.requires.2 (sym c.element.ensures.0 ∙ c.in-Ok.is) c.if-t-sought.true

pub returns-in_default-read : goal.returns-in_default-read
returns-in_default-read g c =
    refused_here _ _ _ _ _ _ _ _ c.loop-k.invariant (sym c.closing.ensures ∙ c.in_default.is) (sym c.element.ensures.0 ∙ c.in_default-read.is)

pub loop-k-smaller : goal.loop-k-smaller
loop-k-smaller g c =
    let b = past _ _ _ _ _ _ _ _ c.loop-k.invariant (sym c.closing.ensures ∙ c.in_default.is) c.loop-k-test.true _ c.tag_at-t.ensures.0 c.requires.2 (sym c.given-here.ensures.1 ∙ c.in-Ok-read.is) in
    omega arith

pub loop-k-preserved : goal.loop-k-preserved
loop-k-preserved g c =
    takes _ _ _ _ _ _ _ _ c.loop-k.invariant (sym c.closing.ensures ∙ c.in_default.is) c.loop-k-test.true _ c.tag_at-t.ensures.0 c.requires.2 (sym c.given-here.ensures.1 ∙ c.in-Ok-read.is) (omega arith) _ c.given-here.ensures.0

pub returns-in_default-read-2 : goal.returns-in_default-read-2
returns-in_default-read-2 g c =
    refused_here _ _ _ _ _ _ _ _ c.loop-k.invariant (sym c.closing.ensures ∙ c.in_default.is) (sym c.given-here.ensures.1 ∙ c.in_default-read-2.is)

pub returns : goal.returns
returns g c = all_told _ _ _ _ _ _ _ _ c.loop-k.invariant c.loop-k-test.false
