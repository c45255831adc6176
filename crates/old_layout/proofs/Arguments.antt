-- The arguments and the returned type of a description that none of 1 to 6, 28 and 7 to 9 refuses: each has a type of at most 4,096 bytes, so that no sum
-- overflows. Assumes nothing.
use mathlib.Core.Path.{◌≡◌, sym, ap, ◌∙◌}
use mathlib.Core.Bool.{Bool, true, false, cond}
use mathlib.Core.List.{List}
use mathlib.Core.Logic.{◌≢◌}
use Prim.Native.Nat.{ℕ, zero, suc, ◌+◌, ◌*◌, ◌≤◌, ◌<◌}
use native.Mathlib.Numerals.{add-one}
use native.Mathlib.Omega.{arith}
use borrow.Author.Tests.{ne_eqb, eqb-false}
use lib.ListN.{get_or}
use Rattle.description.specs.Description.{types_in, arguments_in, return_in, argument_at, kind_at}
use Rattle.units.specs.Raise.{raise}
use Rattle.units.proofs.Raise.{raise-below}
use Rattle.types.specs.Decode.{ty_at}
use Rattle.types.specs.Table.{IsEntry}
use Rattle.types.specs.declared.Extent.{Extent}
use Rattle.form.proofs.Form.{or_none}
use Rattle.uses.specs.Uses.{wrong_number}
use Rattle.uses.proofs.Uses.{right-below}
use Rattle.old_types.specs.Size.{size_ty}
use Rattle.old_types.proofs.Orders.{accepted-kept, accepted-counts, accepted-small}
use Rattle.old_types.proofs.Table.{entry-low, entry-extent}
use Rattle.intel386.specs.Arguments.{shape_at, hidden, before, used_at, value_start}
use Rattle.intel386.specs.Verdict.{uses_refusal}
use Rattle.intel386.proofs.Arguments.{used-none, values-none, values-next}
use Rattle.intel386.proofs.Places.{stack-next}
use Rattle.old_layout.specs.Asks.{Known, IsLaid}
use Rattle.old_layout.specs.declared.laying.Laying.{Laying}
use Rattle.old_layout.proofs.Uses.{accepted-types, accepted-typed, accepted-return}

module _ (d : List ℕ) (right : uses_refusal d ≡ 0) where
  pub arguments-few : arguments_in d ≤ 64
  arguments-few = (accepted-counts d (accepted-kept d (accepted-types d right))).arguments

  pub argument-known : (i : ℕ) → i < arguments_in d → argument_at d i < types_in d
  argument-known i l = (accepted-typed d right).below i l

  pub return_known : (k : ℕ) → k ≡ return_in d → (k ≡ 255 → ⊥) → k < types_in d
  return_known k e n = rw e (right-below d (return_in d) (accepted-return d right (ne_eqb (return_in d) 255 (λ z. n (e ∙ z)))))

  -- no array is returned
  pub return-no-array : (k : ℕ) → k ≡ return_in d → (k ≡ 255 → ⊥) → kind_at d k ≢ 1
  unfolding wrong_number
  return-no-array k e n = rw e (eqb-false (kind_at d (return_in d)) 1 (or_none _ _ (accepted-return d right (ne_eqb (return_in d) 255 (λ z. n (e ∙ z))))).1)

  size_small : (i : ℕ) → i < arguments_in d → (shape_at d i).size ≤ 4096
  unfolding shape_at
  size_small i l = accepted-small d (accepted-types d right) (argument_at d i) (argument-known i l)

  first-low : (b : Bool) → (before b).stack.0 ≤ 4
  first-low true = omega arith
  first-low false = omega arith

  pub offset-low : (i : ℕ) → i ≤ arguments_in d → (used_at d i).stack.0 ≤ 4 + 4100 * i
  offset-low zero l = omega (arith, ap (λ (u : _). u.stack.0) (used-none d), first-low (hidden d))
  offset-low (suc i) l =
      let e : (used_at d (suc i)).stack.0 ≡ raise 4 ((used_at d i).stack.0 + (shape_at d i).size) = ap (λ (n : ℕ). (used_at d n).stack.0) (sym (add-one i)) ∙ stack-next d i in
      omega (arith, e, raise-below 4 ((used_at d i).stack.0 + (shape_at d i).size) (omega arith), offset-low i (omega arith), size_small i (omega arith))

  pub values_low : (i : ℕ) → i ≤ arguments_in d → value_start d i ≤ 4096 * i
  values_low zero l = omega (arith, values-none d)
  values_low (suc i) l =
      let e : value_start d (suc i) ≡ value_start d i + (shape_at d i).size = ap (value_start d) (sym (add-one i)) ∙ values-next d i in
      omega (arith, e, values_low i (omega arith), size_small i (omega arith))

-- what the table says of argument i
module _ (d table : List ℕ) (w : Known d table) (i : ℕ) (l : i < arguments_in d) (k : ℕ) (ek : k ≡ argument_at d i) where
  known : k < types_in d
  known = rw ek (argument-known d w.right i l)

  pub argument-low : k < 64
  argument-low = entry-low d table (types_in d) w.sizes k known

  pub argument-size : (r : Extent) → IsEntry (get_or table k 0) r → r.size.0 ≡ (shape_at d i).size
  unfolding shape_at
  argument-size r e = (entry-extent d table (types_in d) w.sizes k known r e).size ∙ ap (λ (t : ℕ). size_ty (ty_at d t)) ek

  module _ (x : ℕ) (ex : x ≡ (shape_at d i).size) where
    pub offset-asks : (o : ℕ) → o ≡ (used_at d i).stack.0 → o + x ≤ 4 + 4100 * 64 + 4096
    offset-asks o e = omega (arith, ex, e, size_small d w.right i l, offset-low d w.right i (omega arith), arguments-few d w.right)

    pub values-asks : (v : ℕ) → v ≡ value_start d i → v + x ≤ 4096 * 65
    values-asks v e = omega (arith, ex, e, size_small d w.right i l, values_low d w.right i (omega arith), arguments-few d w.right)

    pub offset-goes : (o s p : ℕ) → o ≡ (used_at d i).stack.0 → s ≡ o + x → p ≡ raise 4 s → p ≡ (used_at d (i + 1)).stack.0
    offset-goes o s p eo es ep = ep ∙ rw (es, eo, ex) (sym (stack-next d i))

    pub values-goes : (v w : ℕ) → v ≡ value_start d i → w ≡ v + x → w ≡ value_start d (i + 1)
    values-goes v w ev ew = ew ∙ rw (ev, ex) (sym (values-next d i))

-- before the first argument
pub laid-first : (d : List ℕ) (r : Laying) → r.offset.0 ≡ cond (hidden d) 4 0 → r.values.0 ≡ 0 → IsLaid d 0 r
laid-first d r eo ev = record { offset = eo ∙ rw (used-none d); values = ev ∙ sym (values-none d) }
