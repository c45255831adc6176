-- Adding an argument must move nothing: document 02, request 2026-13. Assumes nothing: these are definitions.
use Rattle.std.specs.Prelude.{◌≡◌, false, List, ℕ, ◌≤◌, ◌<◌, ltb}
use Rattle.description.specs.Description.{named_in, arguments_in, return_in, argument_at, model_in}
use Rattle.types.specs.Decode.{ty_at}
use Rattle.types.specs.SameTables.{SameTable}
use Rattle.layout.specs.Arguments.{is_void, hidden}
use Rattle.layout.specs.Verdict.{verdict}
use Rattle.layout.specs.Layout.{layout_of}
use Rattle.layout.specs.Placements.{placement_at}

-- "two accepted descriptions with the same .. model .., where one argument list begins with the other and each shared argument is named in both or unnamed in
-- both": e has the longer list. One of the two may be variadic, and the other not
pub record Longer (d e : List ℕ) : Type 0 where
  pub one : verdict d ≡ 0
  pub other : verdict e ≡ 0
  pub model : model_in e ≡ model_in d
  pub long : arguments_in d ≤ arguments_in e
  pub named : (i : ℕ) → i < arguments_in d → ltb i (named_in e) ≡ ltb i (named_in d)

-- "with the same types .. and return type": those that the numbers name, written out, so that the numbers may differ
pub record Extends (d e : List ℕ) : Type 0 where
  pub pair : Longer d e
  pub void : is_void e ≡ is_void d
  pub returns : is_void d ≡ false → ty_at e (return_in e) ≡ ty_at d (return_in d)
  pub shared : (i : ℕ) → i < arguments_in d → ty_at e (argument_at e i) ≡ ty_at d (argument_at d i)

-- the same in the request's own words: "the same types" are one type table, and an argument list is one of type numbers
pub record Continues (d e : List ℕ) : Type 0 where
  pub pair : Longer d e
  pub table : SameTable d e
  pub returns : return_in e ≡ return_in d
  pub shared : (i : ℕ) → i < arguments_in d → argument_at e i ≡ argument_at d i

-- "Then every shared argument has the same place in both .. and the register, vector and stack counts never get smaller"
pub record Unmoved (d e : List ℕ) : Type 0 where
  pub places : (i : ℕ) → i < arguments_in d → (placement_at e i).place ≡ (placement_at d i).place
  pub sizes : (i : ℕ) → i < arguments_in d → (placement_at e i).size ≡ (placement_at d i).size
  pub aligns : (i : ℕ) → i < arguments_in d → (placement_at e i).align ≡ (placement_at d i).align
  pub values : (i : ℕ) → i < arguments_in d → (placement_at e i).at ≡ (placement_at d i).at
  pub marks : (i : ℕ) → i < arguments_in d → (placement_at e i).named ≡ (placement_at d i).named
  pub address : hidden e ≡ hidden d
  pub general : (layout_of d).used.general.0 ≤ (layout_of e).used.general.0
  pub vector : (layout_of d).used.vector.0 ≤ (layout_of e).used.vector.0
  pub stack : (layout_of d).used.stack.0 ≤ (layout_of e).used.stack.0
  pub area : (layout_of d).area.0 ≤ (layout_of e).area.0
