use mathlib.Core.Path.{ap}
use Prim.Native.Nat.{ℕ}
use Rattle.classes.specs.declared.Class.TheVariants.{Integer, Sse}
use Rattle.classes.specs.Classes.{same}
use Rattle.places.specs.declared.Register.TheVariants.{General, Vector, Upper}
use Rattle.places.proofs.Records.{differs}
use Rattle.places.proofs.Used.last_of.Goals as goal

pub returns-in-Integer : goal.returns-in-Integer
unfolding same
returns-in-Integer c = rw c.in-Integer.is (ap (λ (n : ℕ). General (record { 0 = n })) c.before_last.ensures)

pub returns-in-Sse : goal.returns-in-Sse
unfolding same
returns-in-Sse c = rw c.in-Sse.is (ap (λ (n : ℕ). Vector (record { 0 = n })) c.before_last-in-Sse.ensures)

pub returns-in_default : goal.returns-in_default
returns-in_default c =
    rw (differs c.args.class Integer c.in_default.not-Integer, differs c.args.class Sse c.in_default.not-Sse)
    (ap (λ (n : ℕ). Upper (record { 0 = n })) c.before_last-in_default.ensures)
