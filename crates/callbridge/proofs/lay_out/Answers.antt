-- Record after record; a refusal leaves the list. Assumes nothing.
use Rattle.std.proofs.Common.{◌≡◌, ℕ, length, Ok, arith, sym, ap, subst, ◌∙◌}
use Rattle.description.specs.Description.{arguments_in}
use Rattle.layout.specs.Asks.{AskRecord}
use Rattle.layout.specs.Layout.{layout_of}
use Rattle.layout.specs.Lists.{list_count, filled}
use Rattle.layout.specs.Placements.{step_at}
use Rattle.layout.specs.declared.Layout.{Layout}
use Rattle.layout.specs.declared.placements.Laying.{Laying}
use Rattle.layout.proofs.Layouts.{passed-on, record_asks, laying_first, laying_next}
use Rattle.layout.proofs.Lists.{count-laid, count-refused, record_at}
use Rattle.types.proofs.Table.{filled_none, filled_next}
use Rattle.callbridge.specs.LayoutCalls.{layout_given, list_given, flat_at}
use Rattle.callbridge.proofs.lay_out.Goals as goal

pub returns-in_err-whole : goal.returns-in_err-whole
unfolding list_given
returns-in_err-whole c =
    let d = c.args.d.now in
    let room = length c.args.list.now in
    let answer = sym c.begin_with.ensures.0 ∙ c.in_err-whole.was in
    (passed-on _ c.from_residual.ensures.1 ∙ sym (ap (layout_given (arguments_in d)) answer), rw (count-refused d room _ answer) (filled_none (flat_at d) c.args.list.now))

pub loop-i-init : goal.loop-i-init
unfolding layout_of
loop-i-init c =
    let d = c.args.d.now in
    (filled_none (flat_at d) c.args.list.now, laying_first d _ (ap (λ (l : Layout). l.hidden) c.in_ok-whole.ensures.3.0) _ c.fresh-laying.ensures)

pub place_argument-requires : goal.place_argument-requires
place_argument-requires c =
    let d = c.args.d.now in
    subst (λ (l : Laying). AskRecord d c.loop-i.i l) (sym c.loop-i.invariant.1) (record_asks d c.in_ok-whole.ensures.3.2 c.loop-i.i (omega (arith, c.arguments-arguments.ensures)))

pub loop-i-preserved : goal.loop-i-preserved
unfolding flat_at
loop-i-preserved c =
    let d = c.args.d.now in
    let i = c.loop-i.i in (
      rw (c.from.ensures, c.place_argument.ensures.0, c.loop-i.invariant.1, record_at d i, c.loop-i.invariant.0) (filled_next (flat_at d) i c.args.list.now),
      c.place_argument.ensures.1 ∙ ap (λ (l : Laying). (step_at d l i).after) c.loop-i.invariant.1 ∙ laying_next d i,
    )

pub returns : goal.returns
unfolding list_given
returns c =
    let d = c.args.d.now in
    let room = length c.args.list.now in
    let answer = sym c.begin_with.ensures.0 ∙ c.in_ok-whole.was in
    let last : c.loop-i.i ≡ list_count d room = omega (arith, c.arguments-arguments.ensures, count-laid d room _ answer) in (
      rw (answer, ← c.arguments-arguments.ensures) (ap Ok c.of.ensures),
      c.loop-i.invariant.0 ∙ ap (λ (k : ℕ). filled (flat_at d) k c.args.list.now) last,
    )
