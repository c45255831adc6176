-- `fill_sizes` meets its contract. The invariant: what is left to search finds what the whole search finds, each type passed is small, and its entry stands.
-- Assumes nothing.
use mathlib.Core.Path.{◌≡◌}
use Prim.Native.Nat.{ℕ, ◌-◌, ◌≤◌, ◌<◌}
use Rattle.types.specs.Decode.{ty_at}
use Rattle.types.specs.Large.{large, first_large}
use Rattle.types.specs.Size.{size_ty}
use Rattle.types.specs.Table.{entry_at, filled}
use Rattle.description.specs.Description.{types_in, model_in}
use Rattle.form.specs.Search.{first_from}
use Rattle.types.proofs.refusals.fill_sizes.Given as goal

abbrev pub invariant-loop-k : goal.invariant-loop-k
invariant-loop-k l = record {
  search : first_from (large (model_in l.d) l.d) l.k (types_in l.d - l.k) ≡ first_large (model_in l.d) l.d;
  small : (j : ℕ) → j < l.k → size_ty (model_in l.d) (ty_at l.d j) ≤ 4096;
  entries : l.table ≡ filled (entry_at (model_in l.d) l.d) l.k l.initial.table;
}
