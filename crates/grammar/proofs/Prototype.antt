-- The reader of prototypes keeps its promises: the tests of its table are computed. Assumes nothing.
use mathlib.Core.Path.{◌≡◌, refl}
use mathlib.Core.Bool.{true}
use Rattle.grammar.specs.Tokens.{class_of}
use Rattle.grammar.specs.Grammar.{kind_of}
use Rattle.grammar.specs.Statements.{Promises}
use Rattle.grammar.specs.Prototype.{spellings, table, declarations, prototype, types}
use Rattle.grammar.proofs.Follow.{Fine}
use Rattle.grammar.proofs.Live.{spelled, Fruitful}
use Rattle.grammar.proofs.Place.{promises}
use Rattle.grammar.proofs.Table.{table_test, start_test, examples_test, follow_in, rule-chain, fine_table, fruitful_table}
use Rattle.grammar.proofs.Sets.{follows, examples}

table-right : table_test table follows ≡ true
unfolding table follows
table-right = refl

prototype-starts : start_test table follows prototype ≡ true
unfolding table follows
prototype-starts = refl

types-start : start_test table follows types ≡ true
unfolding table follows
types-start = refl

examples-right : examples_test declarations 0 table examples ≡ true
unfolding table spellings examples kind_of class_of
examples-right = refl

spellings-right : spelled declarations spellings 3 ≡ true
unfolding spellings kind_of class_of
spellings-right = refl

fine : Fine declarations (follow_in follows)
fine = fine_table spellings table follows table-right

fruitful : Fruitful declarations
fruitful = fruitful_table spellings table examples examples-right spellings-right

pub prototype-promises : Promises declarations prototype
prototype-promises = promises fine fruitful prototype (rule-chain spellings table follows prototype prototype-starts)

pub types-promises : Promises declarations types
types-promises = promises fine fruitful types (rule-chain spellings table follows types types-start)
