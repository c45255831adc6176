-- What the functions that lay arguments out ask. Assumes nothing: these are definitions.
use Rattle.std.specs.Prelude.{◌≡◌, List, ℕ, ◌≤◌}
use Rattle.description.specs.Description.{arguments_in, types_in}
use Rattle.old_types.specs.Table.{Sizes}
use Rattle.intel386.specs.Arguments.{used_at, value_start}
use Rattle.intel386.specs.Verdict.{uses_refusal}
use Rattle.old_layout.specs.declared.laying.Laying.{Laying}

-- none of 1 to 6, 28 and 7 to 9 refuses the description, and the table has an entry for each type
pub record Known (d table : List ℕ) : Type 0 where
  pub right : uses_refusal d ≡ 0
  pub sizes : Sizes d (types_in d) table

-- before argument i: where it stands, and where its value begins
pub record IsLaid (d : List ℕ) (i : ℕ) (r : Laying) : Type 0 where
  pub offset : r.offset.0 ≡ (used_at d i).stack.0
  pub values : r.values.0 ≡ value_start d i

-- arguments i to n are laid out, those before them being so
pub record AskArguments (d : List ℕ) (i n : ℕ) (before : Laying) : Type 0 where
  pub order : i ≤ n
  pub there : n ≤ arguments_in d
  pub laid : IsLaid d i before
