use mathlib.Core.Logic.{⊎_elim}
use Rattle.classes.specs.declared.Class.TheVariants.{Memory, X87, X87Up, ComplexX87}
use Rattle.classes.specs.Classes.{same, is_x87}
use Rattle.places.proofs.Records.{differs}
use Rattle.places.proofs.shapes.goes_on_stack.Goals as goal

pub returns-in-Memory : goal.returns-in-Memory
unfolding same is_x87
returns-in-Memory c = ⊎_elim (λ e. rw e) (⊎_elim (λ e. rw e) (⊎_elim (λ e. rw e) (λ e. rw e))) c.in-Memory.is

pub returns-in_default : goal.returns-in_default
unfolding is_x87
returns-in_default c =
    rw (
      differs c.args.class Memory c.in_default.not-Memory,
      differs c.args.class X87 c.in_default.not-X87,
      differs c.args.class X87Up c.in_default.not-X87Up,
      differs c.args.class ComplexX87 c.in_default.not-ComplexX87,
    )
