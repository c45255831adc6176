use native.Mathlib.Omega.{arith}
use Rattle.planning.proofs.Bools.{marking_first, marking_small, marking_room, marking_plus, marking_next, marking_last}
use Rattle.types.proofs.Table.{known-extent}
use Rattle.moving.proofs.Turns.{whole}
use Rattle.layout.proofs.Bounds.{types-few}
use Rattle.moving.proofs.Turns.{right, known, sized}
use Rattle.planning.proofs.lists.write_bools.Goals as goal

pub loop-i-init : goal.loop-i-init
loop-i-init c = (marking_first _ _ _)

pub argument_at-k-requires : goal.argument_at-k-requires
argument_at-k-requires c = (whole _ c.requires.0, omega (arith, c.loop-i-test.true, c.arguments-i-end.ensures))

pub is_bool-requires : goal.is_bool-requires
is_bool-requires c = (whole _ c.requires.0, rw c.argument_at-k.ensures (known _ c.requires.0 _ (omega (arith, c.loop-i-test.true, c.arguments-i-end.ensures))))

pub put_if-at-requires : goal.put_if-at-requires
put_if-at-requires c = (marking_room _ _ _ c.requires.0 c.requires.1 _ _ _ _ (omega (arith, c.loop-i-test.true, c.arguments-i-end.ensures)) c.loop-i.invariant _ c.argument_at-k.ensures _ c.is_bool.ensures, marking_small _ _ _ c.requires.0 c.requires.1 _ _ _ _ (omega (arith, c.loop-i-test.true, c.arguments-i-end.ensures)) c.loop-i.invariant)

pub extent_in-requires : goal.extent_in-requires
extent_in-requires c = omega (arith, c.argument_at-k.ensures, known c.args.described.bytes.now c.requires.0 c.loop-i.i (omega (arith, c.loop-i-test.true, c.arguments-i-end.ensures)), types-few c.args.described.bytes.now (right c.args.described.bytes.now c.requires.0))

pub add-start-requires : goal.add-start-requires
add-start-requires c = omega (arith, marking_plus _ _ _ c.requires.0 c.requires.1 _ _ _ _ (omega (arith, c.loop-i-test.true, c.arguments-i-end.ensures)) c.loop-i.invariant _ c.argument_at-k.ensures _ c.is_bool.ensures _ (known-extent _ _ c.args.described.tabled.sizes _ (sized _ c.requires.0 _ (rw c.argument_at-k.ensures (known _ c.requires.0 _ (omega (arith, c.loop-i-test.true, c.arguments-i-end.ensures))))) c.extent_in.result c.extent_in.ensures).size)

pub loop-i-preserved : goal.loop-i-preserved
loop-i-preserved c = (marking_next _ _ _ c.requires.0 c.requires.1 _ _ _ _ (omega (arith, c.loop-i-test.true, c.arguments-i-end.ensures)) c.loop-i.invariant _ c.argument_at-k.ensures _ c.is_bool.ensures _ (known-extent _ _ c.args.described.tabled.sizes _ (sized _ c.requires.0 _ (rw c.argument_at-k.ensures (known _ c.requires.0 _ (omega (arith, c.loop-i-test.true, c.arguments-i-end.ensures))))) c.extent_in.result c.extent_in.ensures).size _ _ _ c.put_if-at.ensures.0 c.put_if-at.ensures.1 c.add-start.ensures)

pub shape_of-plan : goal.shape_of-plan
shape_of-plan c = omega (arith, c.loop-i.invariant.long)

pub returns : goal.returns
returns c = marking_last _ _ _ _ _ _ _ (omega (arith, c.loop-i-test.false, c.arguments-i-end.ensures)) c.loop-i.invariant
