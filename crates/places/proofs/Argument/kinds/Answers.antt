use mathlib.Core.Path.{◌≡◌, refl, sym, ap, ◌∙◌}
use Prim.Native.Nat.{◌/◌}
use lib.ListN.{length}
use Rattle.places.proofs.Records.{wide-named, wide-unnamed, narrow_kinds}
use Rattle.classes.specs.declared.Class.TheVariants.{NoClass}
use Rattle.classes.proofs.Pairs.{two}
use Rattle.classify.specs.Table.{pair_in}
use Rattle.places.proofs.Argument.kinds.Goals as goal

pub returns-then-self : goal.returns-then-self
returns-then-self c = rw c.if-self.true (wide-named (c.args.self.entry.0 / 524288) (sym c.is_wide.ensures ∙ c.if-is_wide.true) _ refl)

pub returns-else-self : goal.returns-else-self
returns-else-self c = rw c.if-self.false (wide-unnamed (c.args.self.entry.0 / 524288) (sym c.is_wide.ensures ∙ c.if-is_wide.true) _ refl)

pub returns : goal.returns
unfolding pair_in
returns c =
    let e : c.classes.result ≡ pair_in (c.args.self.entry.0 / 524288) = c.classes.ensures in
    c.kinds_of.ensures ∙ narrow_kinds c.args.self.named (c.args.self.entry.0 / 524288) (sym c.is_wide.ensures ∙ c.if-is_wide.false) _ _ (sym (two NoClass c.classes.result (ap length e)) ∙ e)
