use Rattle.printing.proofs.ticket_used.Goals as goal

pub returns : goal.returns
returns c = simp c.wrapping_add_u16.ensures.value
