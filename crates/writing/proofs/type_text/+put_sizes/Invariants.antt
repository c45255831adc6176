-- The measure is the type's number. Assumes nothing.
use Rattle.writing.proofs.type_text.+put_sizes.Given as goal

abbrev pub decreases-put_sizes : goal.decreases-put_sizes
decreases-put_sizes l = l.k
