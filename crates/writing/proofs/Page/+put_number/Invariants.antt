-- A tenth of a number of two digits or more is less.
use Rattle.writing.proofs.Page.+put_number.Given as goal

abbrev pub decreases-put_number : goal.decreases-put_number
decreases-put_number l = l.n
