-- `multiply` meets its contract. Its measure is the length, which falls with each of the three calls.
use Rattle.halved_products.proofs.halves.+multiply.Given as goal

abbrev pub decreases-multiply : goal.decreases-multiply
decreases-multiply l = l.n
