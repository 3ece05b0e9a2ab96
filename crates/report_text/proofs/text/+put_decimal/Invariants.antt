-- By the last digit: a call has the tenth of the number.
use Rattle.report_text.proofs.text.+put_decimal.Given as goal

abbrev pub decreases-put_decimal : goal.decreases-put_decimal
decreases-put_decimal l = l.n
