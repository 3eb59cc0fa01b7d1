use Rattle.sessions.proofs.is_trimmed.Goals as goal

pub returns : goal.returns
returns c = simp (c.same_bytes.ensures, c.trimmed.ensures)
