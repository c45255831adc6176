use mathlib.Core.Path.{ap}
use native.Mathlib.Omega.{arith}
use Rattle.layout.specs.declared.placements.Laying.{Laying}
use Rattle.layout.specs.Placements.{laying_at}
use Rattle.layout.proofs.Layouts.{named-alike, unnamed-alike, laying_first}
use Rattle.layout.proofs.described.Described.used_after.Goals as goal

pub lay_more-requires : goal.lay_more-requires
lay_more-requires c =
    let d = c.args.self.bytes.now in
    (omega arith, omega (arith, c.min-named.ensures, c.requires), laying_first d _ c.hidden.ensures _ c.fresh-laying.ensures, named-alike d _ (omega (arith, c.min-named.ensures, c.named.ensures)))

pub lay_more-requires-2 : goal.lay_more-requires-2
lay_more-requires-2 c =
    let d = c.args.self.bytes.now in
    (omega (arith, c.min-named.ensures), c.requires, c.lay_more.ensures, unnamed-alike d _ _ (λ l. omega (arith, c.min-named.ensures, c.named.ensures)))

pub returns : goal.returns
unfolding laying_at
returns c = ap (λ (l : Laying). l.used) c.lay_more-2.ensures
