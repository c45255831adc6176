use Prim.Native.Nat.{max}
use native.Mathlib.Omega.{arith}
use Rattle.units.proofs.Raise.{raise-below}
use Rattle.places.proofs.Used.on_stack.Goals as goal

pub add-requires : goal.add-requires
add-requires c = omega (arith, c.stack_start-offset.ensures, raise-below (max 8 c.args.align.0) c.args.self.now.stack.0 (omega arith), c.requires)

pub raised_to-self-requires : goal.raised_to-self-requires
raised_to-self-requires c = omega (arith, c.add.ensures, c.stack_start-offset.ensures, raise-below (max 8 c.args.align.0) c.args.self.now.stack.0 (omega arith), c.requires)
