use mathlib.Core.Path.{refl, sym, ap, ◌∙◌}
use native.Mathlib.Omega.{arith}
use Rattle.layout.specs.Placements.{laying_at}
use Rattle.layout.proofs.Layouts.{named-alike, unnamed-alike, laying_first, laying-small, layout_is}
use Rattle.uses.proofs.Uses.{accepted-typed}
use Rattle.layout.proofs.described.Described.layout.Goals as goal

pub lay_more-requires : goal.lay_more-requires
lay_more-requires c =
    let d = c.args.self.bytes.now in
    (omega arith, omega (arith, c.named.ensures, (accepted-typed d c.args.self.judged).named), laying_first d _ c.hidden-hidden.ensures _ c.fresh-laying.ensures, named-alike d c.named.result (omega (arith, c.named.ensures)))

pub lay_more-requires-2 : goal.lay_more-requires-2
lay_more-requires-2 c =
    let d = c.args.self.bytes.now in
    (omega (arith, c.named-2.ensures, c.arguments.ensures, (accepted-typed d c.args.self.judged).named), omega (arith, c.arguments.ensures), c.lay_more.ensures ∙ ap (laying_at d) (c.named.ensures ∙ sym c.named-2.ensures), unnamed-alike d _ _ (λ l. omega (arith, c.named-2.ensures)))

pub area-requires : goal.area-requires
area-requires c =
    let d = c.args.self.bytes.now in
    laying-small d c.args.self.judged _ (c.lay_more-2.ensures ∙ ap (laying_at d) c.arguments.ensures)

pub returns : goal.returns
returns c =
    let d = c.args.self.bytes.now in
    layout_is d _ (c.lay_more-2.ensures ∙ ap (laying_at d) c.arguments.ensures) _ (c.lay_more.ensures ∙ ap (laying_at d) c.named.ensures) _ refl c.area_align.ensures c.area.ensures refl c.returns.ensures c.returned_size.ensures c.hidden-hidden.ensures refl
