use mathlib.Core.Path.{◌≡◌, sym, ap, ◌∙◌}
use Prim.Native.Nat.{ℕ}
use native.Mathlib.Omega.{arith}
use lib.ListN.{length}
use Rattle.layout.specs.Layout.{layout_of}
use Rattle.layout.specs.Lists.{list_count, filled}
use Rattle.layout.specs.Placements.{placement_at}
use Rattle.layout.specs.declared.Layout.{Layout}
use Rattle.layout.proofs.Layouts.{passed-on, laying_first, turn_asked, turn_placed, turn_laid}
use Rattle.layout.proofs.Lists.{count-laid, count-refused}
use Rattle.types.proofs.Table.{filled_none, filled_next}
use Rattle.layout.proofs.lent_list.lay_out.Goals as goal

pub returns-in_err-layout : goal.returns-in_err-layout
returns-in_err-layout c =
    let d = c.args.d.now in
    let none = count-refused d (length c.args.list.now) _ (sym c.begin_with.ensures.0 ∙ c.in_err-layout.was) in
    (passed-on _ c.from_residual.ensures.1 ∙ sym c.in_err-layout.was ∙ c.begin_with.ensures.0, rw none (filled_none (placement_at d) c.args.list.now))

pub loop-i-init : goal.loop-i-init
unfolding layout_of
loop-i-init c =
    let d = c.args.d.now in
    (filled_none (placement_at d) c.args.list.now, laying_first d _ (ap (λ (l : Layout). l.hidden) c.in_ok-layout.ensures.3.0) _ c.fresh-laying.ensures)

pub place_argument-requires : goal.place_argument-requires
place_argument-requires c =
    let d = c.args.d.now in
    turn_asked d c.loop-i.i _ c.loop-i.invariant.1 c.in_ok-layout.ensures.3.2 (omega (arith, c.arguments-i-end.ensures))

pub loop-i-preserved : goal.loop-i-preserved
loop-i-preserved c =
    let d = c.args.d.now in
    let i = c.loop-i.i in (
      rw (turn_placed d i _ c.loop-i.invariant.1 _ c.place_argument.ensures.0, c.loop-i.invariant.0) (filled_next (placement_at d) i c.args.list.now),
      turn_laid d i _ c.loop-i.invariant.1 _ c.place_argument.ensures.1,
    )

pub returns : goal.returns
returns c =
    let d = c.args.d.now in
    let room = length c.args.list.now in
    let answer = sym c.in_ok-layout.was ∙ c.begin_with.ensures.0 in
    let last : c.loop-i.i ≡ list_count d room = omega (arith, c.arguments-i-end.ensures, count-laid d room _ (sym answer)) in
    (answer, c.loop-i.invariant.0 ∙ ap (λ (k : ℕ). filled (placement_at d) k c.args.list.now) last)
