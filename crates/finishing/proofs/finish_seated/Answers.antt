-- 1..10 from the layout's answer; then what comes after them, or the bytes and the record at the end.
-- Assumes nothing.
use mathlib.Core.Path.{sym, ◌∙◌}
use native.Mathlib.Omega.{arith}
use Rattle.std.proofs.lemmas.Result.{err_from_is_err_and}
use Rattle.finishing.specs.Rest.{asking_rest}
use Rattle.finishing.proofs.Checks.{laid-area, later-judged}
use Rattle.finishing.proofs.Orders.{seated-early, seated-late, left-at, left-done}
use Rattle.station.specs.Paper.{kcb}
use Rattle.station.proofs.Attachments.{under-not, under-ok}
use Rattle.station.proofs.Kcb.{laid-right, laid-not}
use Rattle.walk.proofs.Checks.{laid-uses}
use Rattle.finishing.proofs.finish_seated.Goals as goal

pub returns-in_err-layout : goal.returns-in_err-layout
returns-in_err-layout c =
    let p = err_from_is_err_and c.from_residual.result c.from_residual.ensures.1 in
    let z = laid-not c.args.d.now _ (sym c.in_err-layout.ensures.0) in
    rw (p.1, p.2) (left-at kcb c.args.station c.args.d.now c.args.walk.now (asking_rest c.args.registers.now c.args.stack.now c.args.asked.now c.args.out.now) _ _ (under-not kcb _ _ _ _ tt z.0 (omega (arith, z.1)) (seated-early kcb c.args.station c.args.d.now c.args.walk.now (asking_rest c.args.registers.now c.args.stack.now c.args.asked.now c.args.out.now) z.1)))

pub invariant_of-known : goal.invariant_of-known
invariant_of-known c = let e = c.in_ok-layout.ensures.3 in record { judged = e.2; tabled = e.3 }

pub may_finish-requires : goal.may_finish-requires
may_finish-requires c = laid-area c.args.d.now _ (sym c.in_ok-layout.ensures.0)

pub returns-in_err-may_finish : goal.returns-in_err-may_finish
returns-in_err-may_finish c =
    let p = err_from_is_err_and c.from_residual-in_err-may_finish.result c.from_residual-in_err-may_finish.ensures.1 in
    rw (p.1, p.2) (left-at kcb c.args.station c.args.d.now c.args.walk.now (asking_rest c.args.registers.now c.args.stack.now c.args.asked.now c.args.out.now) _ _ (rw (seated-late kcb c.args.station c.args.d.now c.args.walk.now (asking_rest c.args.registers.now c.args.stack.now c.args.asked.now c.args.out.now) (laid-right c.args.d.now _ (sym c.in_ok-layout.ensures.0)).0) c.in_err-may_finish.ensures))

pub fetch_all-requires : goal.fetch_all-requires
fetch_all-requires c = later-judged c.args.station c.args.d.now c.args.walk.now (asking_rest c.args.registers.now c.args.stack.now c.args.asked.now c.args.out.now) (laid-uses c.args.d.now _ (sym c.in_ok-layout.ensures.0)) (under-ok kcb c.args.d.now _ tt _ (sym c.in_ok-may_finish.ensures)) c.requires

pub returns : goal.returns
returns c =
    left-done kcb c.args.station c.args.d.now c.args.walk.now (asking_rest c.args.registers.now c.args.stack.now c.args.asked.now c.args.out.now) _ _ _ (seated-late kcb c.args.station c.args.d.now c.args.walk.now (asking_rest c.args.registers.now c.args.stack.now c.args.asked.now c.args.out.now) (laid-right c.args.d.now _ (sym c.in_ok-layout.ensures.0)).0 ∙ under-ok kcb c.args.d.now _ tt _ (sym c.in_ok-may_finish.ensures))
    c.fetch_all.ensures.0 c.fetch_all.ensures.1
