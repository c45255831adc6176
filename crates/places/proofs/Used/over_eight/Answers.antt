use mathlib.Core.Path.{◌≡◌, sym, ap, ◌∙◌}
use Prim.Native.Nat.{◌/◌}
use lib.ListN.{length}
use Rattle.places.proofs.Told.{told-wide, told-two}
use Rattle.classify.specs.Table.{pair_in}
use Rattle.classes.specs.declared.Class.TheVariants.{NoClass}
use Rattle.classes.proofs.Pairs.{two}
use Rattle.places.proofs.Used.over_eight.Goals as goal

pub returns-then-is_wide : goal.returns-then-is_wide
returns-then-is_wide c = told-wide c.args.argument.named c.args.argument.entry.0 c.args.self c.args.after c.requires.0 c.requires.2 (sym c.is_wide.ensures ∙ c.if-is_wide.true)

pub returns : goal.returns
unfolding pair_in
returns c =
    let e : c.classes.result ≡ pair_in (c.args.argument.entry.0 / 524288) = c.classes.ensures in
    told-two c.args.argument.named c.args.argument.entry.0 c.args.self c.args.after c.requires.0 c.requires.2 (sym c.is_wide.ensures ∙ c.if-is_wide.false) _ _ (sym (two NoClass c.classes.result (ap length e)) ∙ e) c.requires.1 _ _ c.first_of.ensures c.last_of.ensures
