use mathlib.Core.Path.{sym, ap, ◌∙◌}
use Prim.Native.Nat.{ℕ, ◌+◌}
use Rattle.std.proofs.lemmas.Map.Keys.{le_from_is_le}
use Rattle.places.proofs.Orders.{over_from_not_le}
use Rattle.places.proofs.Asking.{used-unnamed, used-registers, used-general, used-vector}
use Rattle.places.proofs.Used.use_argument.Goals as goal
use Rattle.places.proofs.Used.use_argument.Goals.{else-le-via-then-le+then-le-2+else-not-is_unnamed_wide, else-le-via-then-le+else-le-2, else-le-via-else-le}

pub returns-then-not-is_unnamed_wide : goal.returns-then-not-is_unnamed_wide
returns-then-not-is_unnamed_wide c =
    let u = c.args.self.now in
    used-registers u c.args.argument.named c.args.argument.entry.0 c.requires.2 (sym c.is_unnamed_wide.ensures ∙ c.if-not-is_unnamed_wide.true) c.add-general.result.0 c.add-vector.result.0 (c.add-general.ensures ∙ ap (λ (n : ℕ). u.general.0 + n) c.asks-asks.ensures.0) (c.add-vector.ensures ∙ ap (λ (n : ℕ). u.vector.0 + n) c.asks-asks.ensures.1) (le_from_is_le _ _ (sym c.le.ensures ∙ c.if-le.true)) (le_from_is_le _ _ (sym c.le-then-le.ensures ∙ c.if-le-2.true))

pub returns-else-le : goal.returns-else-le
returns-else-le c =
    let u = c.args.self.now in
    let n = c.args.argument.named in
    let e = c.args.argument.entry.0 in
    c.use_stack.ensures ∙ elim c.else-le.branch [
      | else-le-via-then-le+then-le-2+else-not-is_unnamed_wide w ↦ used-unnamed u n e (sym w.is_unnamed_wide.ensures ∙ w.if-not-is_unnamed_wide.false)
      | else-le-via-then-le+else-le-2 w ↦ used-vector u n e c.requires.2 c.add-vector.result.0 (c.add-vector.ensures ∙ ap (λ (v : ℕ). u.vector.0 + v) c.asks-asks.ensures.1) (over_from_not_le _ _ (sym w.le-then-le.ensures ∙ w.if-le-2.false))
      | else-le-via-else-le w ↦ used-general u n e c.requires.2 c.add-general.result.0 (c.add-general.ensures ∙ ap (λ (g : ℕ). u.general.0 + g) c.asks-asks.ensures.0) (over_from_not_le _ _ (sym c.le.ensures ∙ w.if-le.false))
    ]
