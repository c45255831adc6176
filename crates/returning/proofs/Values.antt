-- What is sure of the value that an accepted description returns. Assumes nothing.
use mathlib.Core.Path.{◌≡◌, refl, sym, ap, ◌∙◌}
use mathlib.Core.Bool.{Bool, true, false, cond, not, ◌&&◌, false≢true}
use mathlib.Core.List.{List, [], ◌∷◌}
use Prim.Native.Nat.{ℕ, ◌<◌}
use borrow.Author.Tests.{ne_eqb}
use mathlib.Core.Logic.{◌≢◌}
use Rattle.description.specs.Description.{types_in, return_in, model_in, kind_at, a_at, Whole}
use Rattle.description.specs.declared.Model.{Model}
use Rattle.description.specs.declared.Model.TheVariants.{Lp64, Ilp32}
use Rattle.classes.specs.declared.Class.{Class}
use Rattle.classes.specs.declared.Class.TheVariants.{NoClass, Integer}
use Rattle.classes.specs.Classes.{same, is_x87, merge_of, merge_all}
use Rattle.types.specs.Basic.{basic_size}
use Rattle.types.specs.Tree.{basic}
use Rattle.types.specs.Size.{size_ty}
use Rattle.types.specs.Decode.{ty_at}
use Rattle.types.specs.Large.{types_refusal}
use Rattle.types.specs.Asks.{Sized}
use Rattle.types.proofs.Large.{accepted-sized}
use Rattle.types.proofs.Laws.{type-filled}
use Rattle.types.proofs.Trees.{at-basic}
use Rattle.classify.specs.Classify.{first_class, second_class, gap, one_class, basic_at, eightbytes_in, classes_at, eightbytes_of, shown, classes_of}
use Rattle.uses.proofs.Uses.{right-below, accepted-types, accepted-return, accepted-typed}
use Rattle.places.specs.declared.Register.TheVariants.{General}
use Rattle.places.specs.declared.ReturnPlace.{ReturnPlace}
use Rattle.places.specs.declared.ReturnPlace.TheVariants.{Void, Memory, One, Two, St0, St0St1}
use Rattle.places.specs.Shapes.{kinds_of}
use Rattle.places.specs.Returns.{return_of, hidden_for}
use Rattle.places.proofs.Returning.{hidden_exactly}
use Rattle.layout.specs.Arguments.{is_void, return_classes, return_place, returned_size, hidden}
use Rattle.layout.specs.Verdict.{verdict}
use Rattle.layout.proofs.Verdict.{accepted-uses}
use Rattle.returning.specs.Image.{length_for, in_memory}
use Rattle.returning.specs.ImageAsks.{Returnable}
use Rattle.returning.proofs.Fitting.{type-suits}
use Rattle.returning.specs.Returned.{return_length}
use Rattle.returning.specs.Statements.{MemoryHidden, ReturnsBool, ReturnsPointer}

-- ---- in memory exactly where a hidden address is passed

memory-place : (place : ReturnPlace) → in_memory place ≡ true → place ≡ Memory
memory-place Void e = absurd (false≢true e)
memory-place Memory e = refl
memory-place (One a) e = absurd (false≢true e)
memory-place (Two a b) e = absurd (false≢true e)
memory-place St0 e = absurd (false≢true e)
memory-place St0St1 e = absurd (false≢true e)

memory-classes : (cs : List Class) → in_memory (return_of cs) ≡ hidden_for cs
memory-classes cs = by (in_memory (return_of cs)) (hidden_for cs) refl refl
  where
    by : (a b : Bool) → in_memory (return_of cs) ≡ a → hidden_for cs ≡ b → a ≡ b
    by true true e f = refl
    by false false e f = refl
    by true false e f = sym ((hidden_exactly cs).1 (memory-place (return_of cs) e)) ∙ f
    by false true e f = sym e ∙ ap in_memory ((hidden_exactly cs).0 f)

pub memory_hidden : MemoryHidden
unfolding return_place hidden
memory_hidden d = by (is_void d) refl
  where
    by : (b : Bool) → is_void d ≡ b → in_memory (cond b Void (return_of (return_classes d))) ≡ (not b && hidden_for (return_classes d))
    by true e = refl
    by false e = memory-classes (return_classes d)

-- ---- the classes of _Bool and of a pointer

bool-classes : (m : Model) → classes_of m (basic 0) ≡ Integer ∷ NoClass ∷ []
unfolding same is_x87 merge_of merge_all one_class gap first_class second_class basic_at classes_at eightbytes_in eightbytes_of shown classes_of size_ty basic_size
bool-classes m = refl

pointer-classes : (m : Model) → classes_of m (basic 15) ≡ Integer ∷ NoClass ∷ []
unfolding same is_x87 merge_of merge_all one_class gap first_class second_class basic_at classes_at eightbytes_in eightbytes_of shown classes_of size_ty basic_size
pointer-classes Lp64 = refl
pointer-classes Ilp32 = refl

-- ---- an accepted description

module _ (d : List ℕ) (accepted : verdict d ≡ 0) where
  types : types_refusal d ≡ 0
  types = accepted-types d (accepted-uses d accepted)

  pub whole : Whole d
  whole = (accepted-typed d (accepted-uses d accepted)).whole

  -- the type that is returned, where one is
  pub returned-known : is_void d ≡ false → return_in d < types_in d
  unfolding is_void
  returned-known e = right-below d (return_in d) (accepted-return d (accepted-uses d accepted) e)

  returned-sized : is_void d ≡ false → Sized (model_in d) d (return_in d)
  returned-sized e = accepted-sized d types (return_in d) (returned-known e)

  -- its place and its length suit one another
  pub accepted-returnable : Returnable (return_place d) (return_length d)
  unfolding return_place return_length returned_size
  accepted-returnable = by (is_void d) refl
    where
      by : (b : Bool) → is_void d ≡ b → Returnable (return_place d) (length_for (return_place d) (cond b 0 (size_ty (model_in d) (ty_at d (return_in d)))))
      by true e = unfold return_place Returnable in rw e refl
      by false e = unfold return_place in rw e (type-suits (model_in d) (ty_at d (return_in d)) (type-filled d (return_in d) (returned-sized e)))

  -- void has no value
  pub void-short : is_void d ≡ true → return_length d ≡ 0
  unfolding return_length return_place
  void-short e = rw e

  -- ---- a returned type whose own record is basic

  module _ (some : return_in d ≢ 255) (kind : kind_at d (return_in d) ≡ 0) where
    not_void : is_void d ≡ false
    unfolding is_void
    not_void = ne_eqb (return_in d) 255 some

    returned-basic : ty_at d (return_in d) ≡ basic (a_at d (return_in d))
    returned-basic = at-basic d (return_in d) (returned-sized not_void) kind

  -- ---- a returned _Bool

  module _ (b : ReturnsBool d) where
    bool-type : ty_at d (return_in d) ≡ basic 0
    bool-type = returned-basic b.some b.kind ∙ ap basic b.code

    -- it is one byte, the first of rax
    pub bool-place : return_place d ≡ One (General (record { 0 = 0 }))
    unfolding return_place return_of kinds_of same is_x87
    bool-place = rw (not_void b.some b.kind, bool-type, bool-classes (model_in d))

    pub bool-length : return_length d ≡ 1
    unfolding return_length returned_size size_ty basic_size
    bool-length = rw (bool-place, not_void b.some b.kind, bool-type)

    -- so that no hidden address is passed
    pub bool-seen : hidden d ≡ false
    bool-seen = sym (memory_hidden d) ∙ ap in_memory bool-place

  -- ---- a returned pointer

  module _ (p : ReturnsPointer d) where
    pointer-type : ty_at d (return_in d) ≡ basic 15
    pointer-type = returned-basic p.some p.kind ∙ ap basic p.code

    -- it is in rax; in ILP32 it has four bytes
    pub pointer-place : return_place d ≡ One (General (record { 0 = 0 }))
    unfolding return_place return_of kinds_of same is_x87
    pointer-place = rw (not_void p.some p.kind, pointer-type, pointer-classes (model_in d))

    pub pointer-length : model_in d ≡ Ilp32 → return_length d ≡ 4
    unfolding return_length returned_size size_ty basic_size
    pointer-length e = rw (pointer-place, not_void p.some p.kind, pointer-type, e)
