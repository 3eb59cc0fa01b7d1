use Rattle.making.proofs.+put_decimal.Given as goal

-- the number itself falls
abbrev pub decreases-put_decimal : goal.decreases-put_decimal
decreases-put_decimal l = l.n
