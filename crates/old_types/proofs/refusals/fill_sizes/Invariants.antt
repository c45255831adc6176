-- `fill_sizes` meets its contract. The invariant: what is left to search finds what the whole search finds, each type passed is small, and its entry stands.
-- Assumes nothing.
use mathlib.Core.Path.{◌≡◌}
use Prim.Native.Nat.{ℕ, ◌-◌, ◌≤◌, ◌<◌}
use Rattle.types.specs.Decode.{ty_at}
use Rattle.old_types.specs.Conditions.{large, first_large}
use Rattle.old_types.specs.Size.{size_ty}
use Rattle.types.specs.Table.{filled}
use Rattle.old_types.specs.Table.{entry_at}
use Rattle.description.specs.Description.{types_in}
use Rattle.form.specs.Search.{first_from}
use Rattle.old_types.proofs.refusals.fill_sizes.Given as goal

abbrev pub invariant-loop-k : goal.invariant-loop-k
invariant-loop-k l = record {
  search : first_from (large l.d) l.k (types_in l.d - l.k) ≡ first_large l.d;
  small : (j : ℕ) → j < l.k → size_ty (ty_at l.d j) ≤ 4096;
  entries : l.table ≡ filled (entry_at l.d) l.k l.initial.table;
}
