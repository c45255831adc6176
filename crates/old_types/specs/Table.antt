-- The table of sizes and alignments of the 386 kind, worked out from number 0 upward, its entries as document 01's are packed. Assumes nothing: these are definitions.
use Rattle.std.specs.Prelude.{◌≡◌, cond, List, ℕ, ◌≤◌, ◌<◌, eqb, get_or}
use Rattle.types.specs.Decode.{ty_at}
use Rattle.types.specs.Table.{packed, filled}
use Rattle.old_types.specs.Size.{align_ty, size_ty}
use Rattle.old_types.specs.Conditions.{first_large, kept_refusal}

-- the entry of type k
unfoldable pub entry_at : List ℕ → ℕ → ℕ
entry_at d k = packed (size_ty (ty_at d k)) (align_ty (ty_at d k))

-- the table once it is worked out: nothing for a description that 1 to 6 or 28 refuse, else up to the first type over 4,096 bytes
unfoldable pub sizes_after : List ℕ → List ℕ → List ℕ
sizes_after d table = cond (eqb (kept_refusal d) 0) (filled (entry_at d) (first_large d) table) table

-- the entries of the types below n are there, and right
pub record Sizes (d : List ℕ) (n : ℕ) (table : List ℕ) : Type 0 where
  pub few : n ≤ 64
  pub small : (k : ℕ) → k < n → size_ty (ty_at d k) ≤ 4096
  pub right : (k : ℕ) → k < n → get_or table k 0 ≡ entry_at d k
