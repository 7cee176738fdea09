use Rattle.decimal.proofs.+put_digits.Given as goal

-- how many digits are left
abbrev pub decreases-put_digits : goal.decreases-put_digits
decreases-put_digits l = l.most
