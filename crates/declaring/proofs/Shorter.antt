-- The named part as a description of its own says that part, and is accepted where the whole is. Assumes nothing.
use mathlib.Core.Path.{◌≡◌, refl, sym, ap, ap₂, ◌∙◌}
use mathlib.Core.Bool.{Bool, true, false, cond, not, ◌&&◌}
use mathlib.Core.List.{List, [], ◌∷◌, ◌++◌}
use Prim.Native.Nat.{ℕ, zero, suc, ◌+◌, ◌-◌, ◌≤◌, ◌<◌}
use native.Mathlib.Omega.{arith}
use borrow.Author.Tests.{eq-eqb, ne_eqb, le-ltb}
use lib.Dec.{eqb, leb, ltb}
use lib.ListN.{length, set, take, drop, length-set, length-take}
use lib.Seq.{get_or-take, get_or-set_same, get_or-set_other}
use Rattle.description.specs.Description.{byte_at, word_at, types_in, flags_in, variadic_in, model_in, named_in, arguments_in, return_in, members_in, member_start, argument_start, length_stated, record_start, kind_at, a_at, count_at, member_at, argument_at, Whole}
use Rattle.description.specs.declared.Model.{Model}
use Rattle.form.specs.Search.{first_from}
use Rattle.form.specs.Conditions.{too_short, wrong_mark, wrong_version, wrong_counts, wrong_length, broken_basic, broken_array, high_member, broken_run, broken_record, wrong_record}
use Rattle.form.specs.Order.{form_refusal}
use Rattle.form.proofs.Search.{search_end}
use Rattle.form.proofs.Form.{accepted-counts, accepted-whole, accepted-records}
use Rattle.types.specs.Tree.{Ty}
use Rattle.types.specs.Decode.{ty_at}
use Rattle.types.specs.Size.{size_ty}
use Rattle.types.specs.Large.{large, too_large}
use Rattle.types.specs.SameTables.{SameTable}
use Rattle.types.proofs.Records.{View, v0, v1, v2, view, Ruled, ruled}
use Rattle.types.proofs.SameTables.{same-type}
use Rattle.types.proofs.Large.{accepted-form, accepted-small}
use Rattle.uses.specs.Uses.{wrong_number, wrong_return, wrong_use, narrow_argument, narrow_unnamed, uses_refusal}
use Rattle.uses.proofs.Uses.{accepted-types, accepted-typed, accepted-argument, accepted-return, right-below}
use Rattle.places.specs.Shapes.{Shape, shape_of}
use Rattle.places.specs.Places.{eights, fresh, area}
use Rattle.places.proofs.Growing.{area-more}
use Rattle.layout.specs.Arguments.{is_void, area_of}
use Rattle.layout.specs.Verdict.{wide_area, verdict}
use Rattle.layout.proofs.Verdict.{accepted-exactly, accepted-uses, accepted-area}
use Rattle.tidying.specs.Call.{void, returned, Call, trees_from, returned_by, call_of}
use Rattle.tidying.specs.Laid.{hidden_in, shapes_by, shapes_in}
use Rattle.tidying.specs.Tidy.{tidy_of}
use Rattle.tidying.proofs.Accepted.{tidy-accepted}
use Rattle.tidying.proofs.Laid.{model-flags, area-call}
use Rattle.declaring.specs.Named.{named_part, named_bytes}
use Rattle.declaring.proofs.Named.{take-trees}

-- ---- a search that finds nothing, and one that another rule does not change

none_first : (f : ℕ → Bool) (k n : ℕ) → ((j : ℕ) → k ≤ j → j < k + n → f j ≡ false) → k + n ≤ first_from f k n
unfolding first_from
none_first f k zero h = omega arith
none_first f k (suc n) h = rw (h k (omega arith) (omega arith)) (omega (arith, none_first f (k + 1) n (λ j p q. h j (omega arith) (omega arith))))

first-same : (f g : ℕ → Bool) (k n : ℕ) → ((j : ℕ) → k ≤ j → j < k + n → f j ≡ g j) → first_from f k n ≡ first_from g k n
unfolding first_from
first-same f g k zero h = refl
first-same f g k (suc n) h = ap₂ (λ (b : Bool) (r : ℕ). cond b k r) (h k (omega arith) (omega arith)) (first-same f g (k + 1) n (λ j p q. h j (omega arith) (omega arith)))

and-false : (b : Bool) → (b && false) ≡ false
and-false true = refl
and-false false = refl

-- the shapes of the first arguments, and of those behind them
shapes-parts : (m : Model) (named n k : ℕ) (l : List Ty) → shapes_by m named k (take n l) ++ shapes_by m named (k + n) (drop n l) ≡ shapes_by m named k l
unfolding shapes_by
shapes-parts m named zero k l = let q : k + 0 ≡ k = omega arith in ap (λ (i : ℕ). shapes_by m named i l) q
shapes-parts m named (suc n) k [] = refl
shapes-parts m named (suc n) k (t ∷ l) =
    let q : k + suc n ≡ k + 1 + n = omega arith in
    ap (λ (s : List Shape). shape_of m (ltb k named) t ∷ s)
    (ap (λ (i : ℕ). shapes_by m named (k + 1) (take n l) ++ shapes_by m named i (drop n l)) q ∙ shapes-parts m named n (k + 1) l)

area-below : (m : Model) (c : Call) → area eights (fresh (hidden_in m (named_part c).returns)) (shapes_in m (named_part c)) ≤ area eights (fresh (hidden_in m c.returns)) (shapes_in m c)
unfolding named_part shapes_in
area-below m c =
    rw (← shapes-parts m c.named c.named 0 c.arguments)
    (area-more eights (shapes_by m c.named 0 (take c.named c.arguments)) (shapes_by m c.named (0 + c.named) (drop c.named c.arguments)) (fresh (hidden_in m c.returns)))

module _ (d : List ℕ) (right : verdict d ≡ 0) where
  use_right : uses_refusal d ≡ 0
  use_right = accepted-uses d right

  form-right : form_refusal d ≡ 0
  form-right = accepted-form d (accepted-types d use_right)

  whole : Whole d
  whole = accepted-whole d form-right

  named-low : named_in d ≤ arguments_in d
  named-low = (accepted-typed d use_right).named

  -- ---- its bytes

  byte-same : (i : ℕ) → i < argument_start d + named_in d → (i ≡ 8 → ⊥) → byte_at (named_bytes d) i ≡ byte_at d i
  unfolding named_bytes
  byte-same i l o = get_or-take (argument_start d + named_in d) (set d 8 (named_in d)) i 0 l ∙ get_or-set_other d 8 i (named_in d) 0 (λ q. o (omega (arith, q)))

  many-part : arguments_in (named_bytes d) ≡ named_in d
  unfolding named_bytes
  many-part = get_or-take (argument_start d + named_in d) (set d 8 (named_in d)) 8 0 (omega arith) ∙ get_or-set_same d 8 (named_in d) 0 (omega (arith, whole.headed))

  length_part : length (named_bytes d) ≡ argument_start d + named_in d
  unfolding named_bytes
  length_part = omega (arith, length-take (argument_start d + named_in d) (set d 8 (named_in d)), length-set d 8 (named_in d), whole.stated, named-low)

  types-part : types_in (named_bytes d) ≡ types_in d
  types-part = byte-same 5 (omega arith) (λ q. omega (arith, q))

  flags-part : flags_in (named_bytes d) ≡ flags_in d
  flags-part = byte-same 6 (omega arith) (λ q. omega (arith, q))

  named-part : named_in (named_bytes d) ≡ named_in d
  named-part = byte-same 7 (omega arith) (λ q. omega (arith, q))

  return_part : return_in (named_bytes d) ≡ return_in d
  return_part = byte-same 9 (omega arith) (λ q. omega (arith, q))

  members-part : members_in (named_bytes d) ≡ members_in d
  members-part = byte-same 10 (omega arith) (λ q. omega (arith, q))

  table-part : SameTable d (named_bytes d)
  table-part = record { types = types-part; members = members-part; bytes = λ i p q. byte-same i (omega arith) (λ z. omega (arith, z)) }

  model-part : model_in (named_bytes d) ≡ model_in d
  model-part = model-flags (named_bytes d) d flags-part

  kind-part : (k : ℕ) → k < types_in d → kind_at (named_bytes d) k ≡ kind_at d k
  unfolding kind_at
  kind-part k l = byte-same (record_start k) (omega arith) (λ z. omega (arith, z))

  a_part : (k : ℕ) → k < types_in d → a_at (named_bytes d) k ≡ a_at d k
  unfolding a_at
  a_part k l = byte-same (record_start k + 1) (omega arith) (λ z. omega (arith, z))

  count-part : (k : ℕ) → k < types_in d → count_at (named_bytes d) k ≡ count_at d k
  unfolding count_at
  count-part k l = omega (arith, byte-same (record_start k + 2) (omega arith) (λ z. omega (arith, z)), byte-same (record_start k + 2 + 1) (omega arith) (λ z. omega (arith, z)))

  member-part : (i : ℕ) → i < members_in d → member_at (named_bytes d) i ≡ member_at d i
  unfolding member_at
  member-part i l =
      let q : member_start (named_bytes d) ≡ member_start d = omega (arith, types-part) in
      ap (λ (s : ℕ). byte_at (named_bytes d) (s + i)) q ∙ byte-same (member_start d + i) (omega arith) (λ z. omega (arith, z))

  argument-part : (i : ℕ) → i < named_in d → argument_at (named_bytes d) i ≡ argument_at d i
  unfolding argument_at
  argument-part i l =
      let q : argument_start (named_bytes d) ≡ argument_start d = omega (arith, types-part, members-part) in
      ap (λ (s : ℕ). byte_at (named_bytes d) (s + i)) q ∙ byte-same (argument_start d + i) (omega arith) (λ z. omega (arith, z))

  type-part : (k : ℕ) → k < types_in d → ty_at (named_bytes d) k ≡ ty_at d k
  type-part = same-type d (named_bytes d) table-part form-right

  -- ---- the call that it says

  trees_part : (n i : ℕ) → i + n ≤ named_in d → trees_from (named_bytes d) i n ≡ trees_from d i n
  unfolding trees_from
  trees_part zero i h = refl
  trees_part (suc n) i h =
      ap₂ ◌∷◌ (ap (ty_at (named_bytes d)) (argument-part i (omega arith)) ∙ type-part (argument_at d i) (right-below d (argument_at d i) (accepted-argument d use_right i (omega (arith, named-low)))))
      (trees_part n (i + 1) (omega arith))

  returned-part : returned_by (named_bytes d) ≡ returned_by d
  unfolding returned_by is_void
  returned-part = by (eqb (return_in d) 255) refl
    where
      by : (b : Bool) → eqb (return_in d) 255 ≡ b → cond (eqb (return_in (named_bytes d)) 255) void (returned (ty_at (named_bytes d) (return_in (named_bytes d)))) ≡ cond (eqb (return_in d) 255) void (returned (ty_at d (return_in d)))
      by true q = rw (return_part, q) refl
      by false q = rw (return_part, q) (ap returned (type-part (return_in d) (right-below d (return_in d) (accepted-return d use_right q))))

  pub part_says : call_of (named_bytes d) ≡ named_part (call_of d)
  unfolding call_of named_part
  part_says = rw (flags-part, named-part, returned-part, many-part, trees_part (named_in d) 0 (omega arith), take-trees d (named_in d) (arguments_in d) 0 named-low) refl

  -- ---- and no refusal holds of it

  short-part : too_short (named_bytes d) ≡ false
  unfolding too_short
  short-part = le-ltb (length (named_bytes d)) 11 (omega (arith, length_part))

  mark-part : wrong_mark (named_bytes d) ≡ false
  unfolding wrong_mark
  mark-part = rw (byte-same 0 (omega arith) (λ q. omega (arith, q)), byte-same 1 (omega arith) (λ q. omega (arith, q)), byte-same 2 (omega arith) (λ q. omega (arith, q))) ((accepted-exactly d).0 right).1.0

  version-part : wrong_version (named_bytes d) ≡ false
  unfolding wrong_version
  version-part =
      let q : word_at (named_bytes d) 3 ≡ word_at d 3 = omega (arith, byte-same 3 (omega arith) (λ q. omega (arith, q)), byte-same 4 (omega arith) (λ q. omega (arith, q))) in
      ap (λ (v : ℕ). not (eqb v 1)) q ∙ ((accepted-exactly d).0 right).1.1.0

  counts-part : wrong_counts (named_bytes d) ≡ false
  unfolding wrong_counts
  counts-part =
      let c = accepted-counts d form-right in
      rw (
        le-ltb 64 (types_in (named_bytes d)) (omega (arith, types-part, c.types)),
        le-ltb 64 (arguments_in (named_bytes d)) (omega (arith, many-part, c.named, c.arguments)),
        le-ltb 3 (flags_in (named_bytes d)) (omega (arith, flags-part, c.flags)),
        le-ltb (arguments_in (named_bytes d)) (named_in (named_bytes d)) (omega (arith, many-part, named-part)),
        eq-eqb (named_in (named_bytes d)) (arguments_in (named_bytes d)) (omega (arith, many-part, named-part)),
      )
      (and-false (eqb (variadic_in (named_bytes d)) 0))

  stated-part : wrong_length (named_bytes d) ≡ false
  unfolding wrong_length
  stated-part = rw (eq-eqb (length (named_bytes d)) (length_stated (named_bytes d)) (omega (arith, length_part, types-part, members-part, many-part))) refl

  run-part : (k a c : ℕ) → a + c ≤ members_in d → broken_run (named_bytes d) k a c ≡ broken_run d k a c
  unfolding broken_run
  run-part k a c h = rw (members-part, first-same (high_member (named_bytes d) k) (high_member d k) a c (λ j p q. ap (leb k) (member-part j (omega arith)))) refl

  record_part : (k : ℕ) → k < types_in d → broken_record (named_bytes d) k ≡ false
  unfolding broken_record
  record_part k l = by (view (kind_at d k)) (accepted-records d form-right k l) (ruled d k (accepted-records d form-right k l))
    where
      by : View (kind_at d k) → cond (eqb (kind_at d k) 0) (broken_basic (a_at d k) (count_at d k)) (cond (eqb (kind_at d k) 1) (broken_array k (a_at d k) (count_at d k)) (cond (leb (kind_at d k) 3) (broken_run d k (a_at d k) (count_at d k)) true)) ≡ false → Ruled d k
          → cond (eqb (kind_at (named_bytes d) k) 0) (broken_basic (a_at (named_bytes d) k) (count_at (named_bytes d) k)) (cond (eqb (kind_at (named_bytes d) k) 1) (broken_array k (a_at (named_bytes d) k) (count_at (named_bytes d) k)) (cond (leb (kind_at (named_bytes d) k) 3) (broken_run (named_bytes d) k (a_at (named_bytes d) k) (count_at (named_bytes d) k)) true)) ≡ false
      by (v0 q) h r = rw (kind-part k l, a_part k l, count-part k l, eq-eqb (kind_at d k) 0 q) (rw (eq-eqb (kind_at d k) 0 q) at h)
      by (v1 q) h r = rw (kind-part k l, a_part k l, count-part k l, ne_eqb (kind_at d k) 0 (omega arith), eq-eqb (kind_at d k) 1 q) (rw (ne_eqb (kind_at d k) 0 (omega arith), eq-eqb (kind_at d k) 1 q) at h)
      by (v2 q) h r = rw (kind-part k l, a_part k l, count-part k l, run-part k (a_at d k) (count_at d k) (r.run q)) h

  records-part : wrong_record (named_bytes d) ≡ false
  unfolding wrong_record
  records-part =
      le-ltb (first_from (broken_record (named_bytes d)) 0 (types_in (named_bytes d))) (types_in (named_bytes d))
      (omega (arith, none_first (broken_record (named_bytes d)) 0 (types_in (named_bytes d)) (λ j p q. record_part j (omega (arith, types-part)))))

  large-one : (k : ℕ) → k < types_in d → large (model_in (named_bytes d)) (named_bytes d) k ≡ false
  unfolding large
  large-one k l = rw (model-part, type-part k l) (le-ltb 4096 (size_ty (model_in d) (ty_at d k)) (accepted-small d (accepted-types d use_right) k l))

  large-part : too_large (model_in (named_bytes d)) (named_bytes d) ≡ false
  unfolding too_large
  large-part =
      le-ltb (first_from (large (model_in (named_bytes d)) (named_bytes d)) 0 (types_in (named_bytes d))) (types_in (named_bytes d))
      (omega (arith, none_first (large (model_in (named_bytes d)) (named_bytes d)) 0 (types_in (named_bytes d)) (λ j p q. large-one j (omega (arith, types-part)))))

  number-part : (t : ℕ) → t < types_in d → wrong_number (named_bytes d) t ≡ wrong_number d t
  unfolding wrong_number
  number-part t l = rw (types-part, kind-part t l) refl

  wrong_return-part : wrong_return (named_bytes d) ≡ false
  unfolding wrong_return
  wrong_return-part = by (eqb (return_in d) 255) refl
    where
      by : (b : Bool) → eqb (return_in d) 255 ≡ b → (not (eqb (return_in (named_bytes d)) 255) && wrong_number (named_bytes d) (return_in (named_bytes d))) ≡ false
      by true q = rw (return_part, q) refl
      by false q =
          let w = accepted-return d use_right q in
          rw (return_part, q, number-part (return_in d) (right-below d (return_in d) w)) w

  argument-right : (i : ℕ) → i < named_in d → wrong_number (named_bytes d) (argument_at (named_bytes d) i) ≡ false
  argument-right i l =
      let w = accepted-argument d use_right i (omega (arith, named-low)) in
      rw (argument-part i l, number-part (argument_at d i) (right-below d (argument_at d i) w)) w

  use_part : wrong_use (named_bytes d) ≡ false
  unfolding wrong_use
  use_part =
      rw (
        wrong_return-part,
        le-ltb (first_from (λ i. wrong_number (named_bytes d) (argument_at (named_bytes d) i)) 0 (arguments_in (named_bytes d))) (arguments_in (named_bytes d))
            (omega (arith, none_first (λ i. wrong_number (named_bytes d) (argument_at (named_bytes d) i)) 0 (arguments_in (named_bytes d)) (λ j p q. argument-right j (omega (arith, many-part))))),
      )
      refl

  narrow-part : narrow_unnamed (named_bytes d) ≡ false
  unfolding narrow_unnamed
  narrow-part =
      let q = search_end (narrow_argument (named_bytes d)) (named_in (named_bytes d)) (arguments_in (named_bytes d)) (omega (arith, many-part, named-part)) in
      le-ltb (first_from (narrow_argument (named_bytes d)) (named_in (named_bytes d)) (arguments_in (named_bytes d) - named_in (named_bytes d))) (arguments_in (named_bytes d)) (omega (arith, q, many-part, named-part))

  area-low : area_of (named_bytes d) ≤ area_of d
  area-low =
      rw (area-call (named_bytes d), area-call d, model-part, part_says)
      (area-below (model_in d) (call_of d))

  area-part : wide_area (named_bytes d) ≡ false
  unfolding wide_area
  area-part = le-ltb 16384 (area_of (named_bytes d)) (omega (arith, area-low, accepted-area d right))

  pub part-accepted : verdict (named_bytes d) ≡ 0
  part-accepted = (accepted-exactly (named_bytes d)).1 (short-part, (mark-part, (version-part, (counts-part, (stated-part, (records-part, (large-part, (use_part, (narrow-part, (area-part, tt))))))))))

-- the tidy form of the named part is a description that is accepted
pub part-tidy : (d : List ℕ) → verdict d ≡ 0 → verdict (tidy_of (named_part (call_of d))) ≡ 0
part-tidy d right = ap (λ (c : Call). verdict (tidy_of c)) (sym (part_says d right)) ∙ tidy-accepted (named_bytes d) (part-accepted d right)
