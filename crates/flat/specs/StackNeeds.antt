-- Whether a call needs the stack, as a flat record: include/callbridge.h, cb_stack_need. Assumes nothing: these are definitions.
use Rattle.std.specs.Prelude.{◌≡◌, cond, eqb}
use Rattle.layout.specs.declared.needing.StackNeed.{StackNeed as Need}
use Rattle.flat.specs.declared.StackNeed.{StackNeed}

-- the record that is written: 1 where the stack is needed, and the reserved bytes are zero
unfoldable pub flat_need : Need → StackNeed
flat_need n = record {
  looked = n.looked;
  needed = cond n.needed 1 0;
  reserved_1 = 0;
  reserved_2 = 0;
  reserved_4 = 0;
}

unfoldable pub need_meant : StackNeed → Need
need_meant n = record { needed = eqb n.needed 1; looked = n.looked }

-- a record that was written means what it was made of
abbrev pub NeedMeans : Type 0
NeedMeans = (n : Need) → need_meant (flat_need n) ≡ n
