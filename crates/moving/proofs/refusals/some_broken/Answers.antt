use Rattle.types.proofs.Table.{known-low, known-extent}
use mathlib.Core.Path.{sym, ◌∙◌}
use native.Mathlib.Omega.{arith}
use Rattle.moving.proofs.Searching.{searching_first, searching_byte, searching_stop, searching_room, searching_next, searching_end}
use Rattle.moving.proofs.Turns.{whole, known, sized}
use Rattle.moving.proofs.refusals.some_broken.Goals as goal

pub loop-i-init : goal.loop-i-init
loop-i-init c = searching_first _ _ c.requires.0 c.requires.1

pub argument_at-k-requires : goal.argument_at-k-requires
argument_at-k-requires c = (whole _ c.requires.0, omega (arith, c.loop-i-test.true, c.arguments-i-end.ensures))

pub byte_at-requires : goal.byte_at-requires
byte_at-requires c = searching_byte _ _ _ _ c.loop-i.invariant (omega (arith, c.loop-i-test.true, c.arguments-i-end.ensures))

pub broken_byte-requires : goal.broken_byte-requires
broken_byte-requires c = (whole _ c.requires.0, rw c.argument_at-k.ensures (known _ c.requires.0 _ (omega (arith, c.loop-i-test.true, c.arguments-i-end.ensures))))

pub returns-then-broken_byte : goal.returns-then-broken_byte
returns-then-broken_byte c = searching_stop _ _ _ _ c.loop-i.invariant (omega (arith, c.loop-i-test.true, c.arguments-i-end.ensures)) _ _ c.argument_at-k.ensures c.byte_at.ensures.0 (sym c.broken_byte.ensures ∙ c.if-broken_byte.true)

pub extent_in-requires : goal.extent_in-requires
extent_in-requires c = known-low _ _ c.args.described.tabled.sizes _ (sized _ c.requires.0 _ (rw c.argument_at-k.ensures (known _ c.requires.0 _ (omega (arith, c.loop-i-test.true, c.arguments-i-end.ensures)))))

pub add-start-requires : goal.add-start-requires
add-start-requires c = omega (arith, searching_room _ _ _ _ c.loop-i.invariant (omega (arith, c.loop-i-test.true, c.arguments-i-end.ensures)) _ _ c.argument_at-k.ensures c.byte_at.ensures.0 _ (known-extent _ _ c.args.described.tabled.sizes _ (sized _ c.requires.0 _ (rw c.argument_at-k.ensures (known _ c.requires.0 _ (omega (arith, c.loop-i-test.true, c.arguments-i-end.ensures))))) c.extent_in.result c.extent_in.ensures).size)

pub loop-i-preserved : goal.loop-i-preserved
loop-i-preserved c = searching_next _ _ _ _ c.loop-i.invariant (omega (arith, c.loop-i-test.true, c.arguments-i-end.ensures)) _ _ c.argument_at-k.ensures c.byte_at.ensures.0 _ (known-extent _ _ c.args.described.tabled.sizes _ (sized _ c.requires.0 _ (rw c.argument_at-k.ensures (known _ c.requires.0 _ (omega (arith, c.loop-i-test.true, c.arguments-i-end.ensures))))) c.extent_in.result c.extent_in.ensures).size (sym c.broken_byte.ensures ∙ c.if-broken_byte.false) _ c.add-start.ensures

pub returns : goal.returns
returns c = searching_end _ _ _ _ c.loop-i.invariant (omega (arith, c.loop-i-test.false, c.arguments-i-end.ensures))
