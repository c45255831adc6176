-- `members_wide` meets its contract. The invariant: what the members that are left decide, and whether one before them is a vector, is what all decide.
-- Assumes nothing.
use mathlib.Core.Path.{◌≡◌}
use Prim.Native.Nat.{◌-◌}
use mathlib.Core.Bool.{◌&&◌}
use Rattle.classify.specs.Vectors.{each_fits, some_vector}
use Rattle.classify.proofs.OverTwo.{together}
use Rattle.description.specs.Description.{model_in}
use Rattle.types.specs.Asks.{SizedRun}
use Rattle.types.specs.Decode.{tys_from, ty_at}
use Rattle.classify.proofs.wide_aggregates.members_wide.Given as goal

abbrev pub invariant-loop-i : goal.invariant-loop-i
invariant-loop-i l = SizedRun (model_in l.known.d.now) l.known.d.now l.k l.i (l.i-end - l.i) 0 1 × (together (model_in l.known.d.now) (tys_from (ty_at l.known.d.now) l.known.d.now l.i (l.i-end - l.i)) l.some ≡ (each_fits (model_in l.known.d.now) (tys_from (ty_at l.known.d.now) l.known.d.now l.first l.count) && some_vector (model_in l.known.d.now) (tys_from (ty_at l.known.d.now) l.known.d.now l.first l.count)))
