-- The loop that looks for a broken _Bool argument. Assumes nothing.
use mathlib.Core.Path.{◌≡◌, refl, sym, ap, ap₂, ◌∙◌}
use mathlib.Core.Bool.{Bool, true, false, true≢false}
use mathlib.Core.List.{List}
use Prim.Native.Nat.{ℕ, ◌+◌, ◌-◌, ◌^◌, ◌≤◌, ◌<◌}
use native.Mathlib.Nat.{sub-zero}
use native.Mathlib.Omega.{arith}
use borrow.Author.Tests.{ltb-true, ltb-false}
use lib.Dec.{ltb}
use lib.ListN.{length, get_or}
use Rattle.description.specs.Description.{types_in, arguments_in, argument_at, model_in}
use Rattle.form.specs.Search.{first_from}
use Rattle.form.proofs.Search.{search_stop, search_on, search_end, first_holds, first-least}
use Rattle.types.specs.Size.{size_ty}
use Rattle.types.specs.Decode.{ty_at}
use Rattle.layout.specs.Arguments.{shape_at, value_start}
use Rattle.layout.specs.Layout.{values_of}
use Rattle.layout.specs.Verdict.{verdict}
use Rattle.layout.proofs.Arguments.{start_none, start-next}
use Rattle.moving.specs.Images.{amd64}
use Rattle.moving.specs.Orders.{is_bool, broken_byte, broken_bool, first_broken, wrong_bool}
use Rattle.moving.proofs.Orders.{broken-holds, broken-none}
use Rattle.moving.proofs.Turns.{known, size_is, value-some, value-inside, values-small}

module _ (d vals : List ℕ) where
  -- what is left to search finds what the whole search finds
  pub record Searching (start i : ℕ) : Type 0 where
    pub accepted : verdict d ≡ 0
    pub values : length vals ≡ values_of d
    pub bound : i ≤ arguments_in d
    pub begins : start ≡ value_start d i
    pub same : first_from (broken_bool amd64 d vals) i (arguments_in d - i) ≡ first_broken amd64 d vals

  pub searching_first : verdict d ≡ 0 → length vals ≡ values_of d → Searching 0 0
  searching_first a v = record {
    accepted = a;
    values = v;
    bound = omega arith;
    begins = sym (start_none d);
    same = ap (first_from (broken_bool amd64 d vals) 0) (sub-zero (arguments_in d));
  }

  module _ (start i : ℕ) (h : Searching start i) where
    module _ (l : i < arguments_in d) where
      pub searching_byte : start < length vals
      searching_byte = omega (arith, h.begins, h.values, value-inside d h.accepted i l, value-some d h.accepted i l)

      module _ (k byte : ℕ) (e : k ≡ argument_at d i) (f : byte ≡ get_or vals start 0) where
        same_test : broken_byte d k byte ≡ broken_bool amd64 d vals i
        same_test = ap₂ (broken_byte d) e (f ∙ ap (λ (n : ℕ). get_or vals n 0) h.begins)

        pub searching_stop : broken_byte d k byte ≡ true → true ≡ wrong_bool amd64 d vals
        searching_stop t = sym (broken-holds amd64 d vals (omega (arith, search_stop (broken_bool amd64 d vals) i (arguments_in d) l (sym same_test ∙ t), h.same)))

        module _ (size : ℕ) (g : size ≡ size_ty (model_in d) (ty_at d k)) where
          size-right : size ≡ (shape_at d i).size
          size-right = g ∙ ap (λ (n : ℕ). size_ty (model_in d) (ty_at d n)) e ∙ size_is d h.accepted i

          pub searching_room : start + size ≤ 2 ^ 63
          searching_room = omega (arith, size-right, h.begins, value-inside d h.accepted i l, values-small d h.accepted)

          pub searching_next : broken_byte d k byte ≡ false → (j : ℕ) → j ≡ start + size → Searching j (i + 1)
          searching_next t j q = record {
            accepted = h.accepted;
            values = h.values;
            bound = omega arith;
            begins = omega (arith, q, size-right, h.begins, start-next d i);
            same = search_on (broken_bool amd64 d vals) i (arguments_in d) l (sym same_test ∙ t) ∙ h.same;
          }

    pub searching_end : arguments_in d ≤ i → false ≡ wrong_bool amd64 d vals
    searching_end l = sym (broken-none amd64 d vals (omega (arith, search_end (broken_bool amd64 d vals) i (arguments_in d) l, h.same)))

-- ---- no type is _Bool

quiet : (d : List ℕ) → types_in d ≤ first_from (is_bool d) 0 (types_in d) → (k byte : ℕ) → k < types_in d → broken_byte d k byte ≡ false
unfolding broken_byte
quiet d e k byte l = rw (first-least (is_bool d) 0 (types_in d) k (omega arith) (omega (arith, e)))

pub none_broken : (d vals : List ℕ) → verdict d ≡ 0 → types_in d ≤ first_from (is_bool d) 0 (types_in d) → false ≡ wrong_bool amd64 d vals
none_broken d vals ok e = by (ltb (first_broken amd64 d vals) (arguments_in d)) refl
  where
    by : (b : Bool) → ltb (first_broken amd64 d vals) (arguments_in d) ≡ b → false ≡ wrong_bool amd64 d vals
    by true x =
        let l = ltb-true (first_broken amd64 d vals) (arguments_in d) x in
        absurd (true≢false (sym (first_holds (broken_bool amd64 d vals) 0 (arguments_in d) (omega (arith, l)))
        ∙ quiet d e (argument_at d (first_broken amd64 d vals)) _ (known d ok (first_broken amd64 d vals) l)))
    by false x = sym (broken-none amd64 d vals (ltb-false (first_broken amd64 d vals) (arguments_in d) x))
