-- The type of the result, or void. Assumes nothing.
use native.Mathlib.Omega.{arith}
use Rattle.writing.specs.Parts.{result_text}
use Rattle.writing.proofs.Parts.{headed, return_sized, result-void, result-type, as_room, as_put}
use Rattle.listing.specs.Characters.{bytes}
use Rattle.writing.specs.Texts.{type_text}
use Rattle.writing.proofs.declaration_text.put_result.Goals as goal

pub byte_at-returned-requires : goal.byte_at-returned-requires
byte_at-returned-requires c = omega (arith, headed c.args.d.now c.requires.0)

pub put-requires : goal.put-requires
put-requires c = as_room (result_text c.args.d.now) (bytes "void ") c.args.text.now.at (result-void c.args.d.now c.byte_at-returned.result c.byte_at-returned.ensures.0 c.if-returned-eq255.true) c.requires.1

pub returns-then-returned-eq255 : goal.returns-then-returned-eq255
returns-then-returned-eq255 c = as_put (result_text c.args.d.now) (bytes "void ") (result-void c.args.d.now c.byte_at-returned.result c.byte_at-returned.ensures.0 c.if-returned-eq255.true) c.put.ensures

pub put_type-requires : goal.put_type-requires
put_type-requires c = (return_sized c.args.d.now c.requires.0 c.byte_at-returned.result c.byte_at-returned.ensures.0 c.if-returned-eq255.false, as_room (result_text c.args.d.now) (type_text c.args.d.now c.byte_at-returned.result) c.args.text.now.at (result-type c.args.d.now c.byte_at-returned.result c.byte_at-returned.ensures.0 c.if-returned-eq255.false) c.requires.1)

pub returns-else-returned-eq255 : goal.returns-else-returned-eq255
returns-else-returned-eq255 c = as_put (result_text c.args.d.now) (type_text c.args.d.now c.byte_at-returned.result) (result-type c.args.d.now c.byte_at-returned.result c.byte_at-returned.ensures.0 c.if-returned-eq255.false) c.put_type.ensures
