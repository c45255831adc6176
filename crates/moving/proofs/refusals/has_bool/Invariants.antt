-- `has_bool` meets its contract. The invariant: what is left to search finds what the whole search finds.
-- Assumes nothing.
use mathlib.Core.Path.{◌≡◌}
use Prim.Native.Nat.{◌-◌}
use Rattle.description.specs.Description.{types_in}
use Rattle.form.specs.Search.{first_from}
use Rattle.moving.specs.Orders.{is_bool}
use Rattle.moving.proofs.refusals.has_bool.Given as goal

abbrev pub invariant-loop-k : goal.invariant-loop-k
invariant-loop-k l = first_from (is_bool l.d) l.k (types_in l.d - l.k) ≡ first_from (is_bool l.d) 0 (types_in l.d)
