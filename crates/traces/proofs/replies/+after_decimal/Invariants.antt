use Rattle.traces.proofs.replies.+after_decimal.Given as goal

abbrev pub decreases-after_decimal : goal.decreases-after_decimal
decreases-after_decimal l = l.n
