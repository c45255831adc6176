-- 25 first, then the text. Assumes nothing.
use borrow.Author.Rules.{rules}
use mathlib.Core.Path.{refl}
use native.Mathlib.Omega.{arith}
use Rattle.writing.proofs.After.{too_long, short-enough, all-written}
use Rattle.writing.proofs.calls.write_declaration.Goals as goal

pub returns-then-many-gt4096 : goal.returns-then-many-gt4096
returns-then-many-gt4096 c = (c.text_length-many.ensures, too_long c.args.d.now c.text_length-many.result c.text_length-many.ensures c.args.out.now c.if-many-gt4096.true)

pub put_declaration-requires : goal.put_declaration-requires
put_declaration-requires c = (c.requires, omega (arith, short-enough c.args.d.now c.text_length-many.result c.text_length-many.ensures c.if-many-gt4096.false))

pub returns : goal.returns
returns c = all-written c.args.d.now c.text_length-many.result c.text_length-many.ensures c.args.out.now c.if-many-gt4096.false (refl, refl) c.put_declaration.ensures (search rules)
