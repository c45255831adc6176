use native.Mathlib.Omega.{arith}
use Rattle.uses.proofs.Uses.{accepted-typed}
use Rattle.layout.proofs.described.Described.arguments.Goals as goal

pub byte_at-requires : goal.byte_at-requires
byte_at-requires c = omega (arith, (accepted-typed c.args.self.bytes.now c.args.self.judged).whole.headed)
