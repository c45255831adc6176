-- A call written out: all that a description says, type numbers apart. Assumes nothing: these are definitions.
use Rattle.std.specs.Prelude.{cond, List, [], ◌∷◌, ℕ, zero, suc, ◌+◌}
use Rattle.description.specs.Description.{flags_in, named_in, arguments_in, return_in, argument_at}
use Rattle.types.specs.Tree.{Ty}
use Rattle.types.specs.Decode.{ty_at}
use Rattle.layout.specs.Arguments.{is_void}

-- "return type number, 255 for void"
pub data Returned : Type 0 where
  void : Returned
  returned : Ty → Returned

-- "equal flags, N, A and the same written-out types": A is the number of the arguments
pub record Call : Type 0 where
  -- byte 6, whole: the model counts as well as the variadic mark
  pub flags : ℕ
  pub named : ℕ
  pub returns : Returned
  pub arguments : List Ty

-- the types of n arguments from the i-th on
unfoldable pub trees_from : List ℕ → ℕ → ℕ → List Ty
trees_from d i zero = []
trees_from d i (suc n) = ty_at d (argument_at d i) ∷ trees_from d (i + 1) n

unfoldable pub returned_by : List ℕ → Returned
returned_by d = cond (is_void d) void (returned (ty_at d (return_in d)))

unfoldable pub call_of : List ℕ → Call
call_of d = record {
  flags = flags_in d;
  named = named_in d;
  returns = returned_by d;
  arguments = trees_from d 0 (arguments_in d);
}
