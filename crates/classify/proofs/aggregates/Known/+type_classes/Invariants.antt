-- What falls from call to call is the type's number. The loops' invariants: what answers for the elements or members that are left answers for
-- all of them.
use mathlib.Core.Path.{◌≡◌}
use mathlib.Core.List.{List}
use Prim.Native.Nat.{◌+◌, ◌-◌, ◌*◌}
use Rattle.classes.specs.Classes.{no_classes}
use Rattle.classes.specs.declared.Class.{Class}
use Rattle.classify.specs.Asks.{AskElements, AskMembers}
use Rattle.classify.specs.Classify.{elements_at, classes_at, members_at}
use Rattle.classify.specs.Table.{pair_in}
use Rattle.description.specs.Description.{model_in}
use Rattle.types.specs.Decode.{tys_from, ty_at}
use Rattle.classify.proofs.aggregates.Known.+type_classes.Given as goal

abbrev pub decreases-of_elements : goal.decreases-of_elements
decreases-of_elements l = 3 * l.k + 3

abbrev pub decreases-of_members : goal.decreases-of_members
decreases-of_members l = 3 * l.k

abbrev pub decreases-at : goal.decreases-at
decreases-at l = 3 * l.k + 2

abbrev pub decreases-worked_out : goal.decreases-worked_out
decreases-worked_out l = 3 * l.k + 1

abbrev pub invariant-of_elements-loop : goal.invariant-of_elements-loop
invariant-of_elements-loop l = AskElements l.self.d.now l.k (l.count - l.counter) l.size.0 l.offset.0 × ((r : List Class) → r ≡ elements_at (classes_at (model_in l.self.d.now) 2 (ty_at l.self.d.now l.k)) l.size.0 (l.count - l.counter) l.offset.0 (pair_in l.merged.0) → r ≡ elements_at (classes_at (model_in l.self.d.now) 2 (ty_at l.self.d.now l.k)) l.size.0 l.count l.initial.offset.0 (no_classes 2))

abbrev pub invariant-of_members-loop-i : goal.invariant-of_members-loop-i
invariant-of_members-loop-i l = AskMembers l.self.d.now l.k l.i (l.i-end - l.i) l.union l.end.0 l.at.0 × ((r : List Class) → r ≡ members_at (model_in l.self.d.now) 2 (tys_from (ty_at l.self.d.now) l.self.d.now l.i (l.i-end - l.i)) l.union l.end.0 l.at.0 (pair_in l.merged.0) → r ≡ members_at (model_in l.self.d.now) 2 (tys_from (ty_at l.self.d.now) l.self.d.now l.first l.count) l.union 0 l.at.0 (no_classes 2))
