-- Adding an argument must move nothing (document 02, request 2026-13), of the 386 kind. Assumes nothing: these are definitions.
use Rattle.std.specs.Prelude.{◌≡◌, List, ℕ, ◌≤◌, ◌<◌}
use Rattle.description.specs.Description.{arguments_in, argument_at}
use Rattle.types.specs.Decode.{ty_at}
use Rattle.moving.specs.Extending.{GoesOn}
use Rattle.intel386.specs.Arguments.{hidden, used_at, area_of}
use Rattle.intel386.specs.Images.{frame_of}

-- the argument list of e begins with that of d: the shared arguments are of the same types, written out, named or not, since all are on the stack. Of the
-- returned type it matters alone whether it is a struct or a union
pub record Extends (d e : List ℕ) : Type 0 where
  pub long : arguments_in d ≤ arguments_in e
  pub returns : hidden e ≡ hidden d
  pub shared : (i : ℕ) → i < arguments_in d → ty_at e (argument_at e i) ≡ ty_at d (argument_at d i)

-- each shared argument stands where it stood, the value bytes and the hidden address go on, and no count gets smaller
pub record Unmoved (d e : List ℕ) : Type 0 where
  pub offsets : (i : ℕ) → i ≤ arguments_in d → (used_at e i).stack.0 ≡ (used_at d i).stack.0
  pub goes_on : GoesOn (frame_of d) (frame_of e)
  pub stack : (used_at d (arguments_in d)).stack.0 ≤ (used_at e (arguments_in e)).stack.0
  pub area : area_of d ≤ area_of e
