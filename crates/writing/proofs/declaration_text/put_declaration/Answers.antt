-- The result, the name, the parameters. Assumes nothing.
use native.Mathlib.Omega.{arith}
use Rattle.listing.proofs.Puts.{puts_behind}
use Rattle.writing.proofs.Parts.{whole_room, whole-done}
use Rattle.writing.proofs.declaration_text.put_declaration.Goals as goal

pub put_result-requires : goal.put_result-requires
put_result-requires c = (c.requires.0, omega (arith, whole_room c.args.d.now c.args.text.now.at c.requires.1))

pub put-requires : goal.put-requires
put-requires c = omega (arith, puts_behind c.put_result.ensures, whole_room c.args.d.now c.args.text.now.at c.requires.1)

pub put_parameters-requires : goal.put_parameters-requires
put_parameters-requires c = (c.requires.0, omega (arith, puts_behind c.put_result.ensures, puts_behind c.put.ensures, whole_room c.args.d.now c.args.text.now.at c.requires.1))

pub put-requires-2 : goal.put-requires-2
put-requires-2 c = omega (arith, puts_behind c.put_result.ensures, puts_behind c.put.ensures, puts_behind c.put_parameters.ensures, whole_room c.args.d.now c.args.text.now.at c.requires.1)

pub returns : goal.returns
returns c = whole-done c.args.d.now c.put_result.ensures c.put.ensures c.put_parameters.ensures c.put-2.ensures
