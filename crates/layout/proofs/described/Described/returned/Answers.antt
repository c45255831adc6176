use mathlib.Core.Path.{◌∙◌}
use native.Mathlib.Omega.{arith}
use Rattle.uses.proofs.Uses.{accepted-typed}
use Rattle.layout.proofs.Steps.{return_known}
use Rattle.layout.proofs.described.Described.returned.Goals as goal

pub byte_at-k-requires : goal.byte_at-k-requires
byte_at-k-requires c = omega (arith, (accepted-typed c.args.self.bytes.now c.args.self.judged).whole.headed)

pub returns-else-k-eq255 : goal.returns-else-k-eq255
returns-else-k-eq255 c =
    let known = return_known c.args.self.bytes.now c.args.self.judged (λ e. c.if-k-eq255.false (c.byte_at-k.ensures.0 ∙ e)) in
    ((c.byte_at-k.ensures.0, omega (arith, c.byte_at-k.ensures.0), c.if-k-eq255.false), tt)
