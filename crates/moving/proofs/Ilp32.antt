-- Placing in the ILP32 model: 27 exactly, and upper halves that are zero. Assumes nothing.
use mathlib.Core.Path.{◌≡◌, refl, sym, ap, ap₂, ◌∙◌}
use mathlib.Core.Bool.{Bool, true, false, cond}
use mathlib.Core.List.{List, [], ◌∷◌, ◌++◌}
use mathlib.Core.Logic.{◌↔◌, ◌≢◌}
use Prim.Native.Nat.{ℕ, ◌+◌, ◌-◌, ◌≤◌, ◌<◌}
use native.Mathlib.Omega.{arith}
use lib.ListN.{length, get_or}
use Rattle.description.specs.declared.Model.{Model}
use Rattle.description.specs.declared.Model.TheVariants.{Ilp32}
use Rattle.description.specs.Description.{arguments_in, model_in, argument_at}
use Rattle.addresses.specs.Addresses.{Absent}
use Rattle.addresses.proofs.Runs.{all-run}
use Rattle.form.specs.Order.{rule, first}
use Rattle.form.proofs.Order.{first-behind, none-till, held, without-append}
use Rattle.classes.specs.Classes.{same, is_x87, merge_of, merge_all}
use Rattle.types.specs.Tree.{Ty, basic}
use Rattle.types.specs.Basic.{basic_size, basic_align}
use Rattle.types.specs.Size.{size_ty, align_ty}
use Rattle.types.specs.Decode.{ty_at}
use Rattle.types.proofs.Large.{accepted-sized}
use Rattle.types.proofs.Trees.{at-basic}
use Rattle.classify.specs.Classify.{first_class, second_class, gap, one_class, basic_at, eightbytes_in, classes_at, eightbytes_of, shown, classes_of}
use Rattle.uses.proofs.Uses.{accepted-types}
use Rattle.places.specs.Shapes.{Shape, kinds_of, kinds_for, shape_of}
use Rattle.places.specs.Places.{eights, place, next, after, fresh}
use Rattle.places.specs.Images.{stack_at, bytes_of}
use Rattle.places.specs.Statements.{Free}
use Rattle.places.proofs.Apart.{TakenBy, all-seated}
use Rattle.places.proofs.Slots.{four, free-before, taken-alone, slot-taken, slot-unused}
use Rattle.layout.specs.Arguments.{is_named, shape_at, shapes_from, shapes, hidden, used_first, used_at}
use Rattle.layout.specs.Verdict.{check_order, verdict}
use Rattle.layout.proofs.Arguments.{shapes-cons, shapes-split}
use Rattle.layout.proofs.Bounds.{all-shaped, argument-known}
use Rattle.layout.proofs.Verdict.{accepted-uses}
use Rattle.images.specs.Words.{rdi}
use Rattle.images.proofs.Words.{upper-zero}
use Rattle.moving.specs.Address.{wrong_address}
use Rattle.moving.specs.Images.{addresses_of, frame_of, amd64}
use Rattle.moving.specs.Orders.{wrong_bool, gather_order, gather_refusal, place_refusal}
use Rattle.moving.specs.Answers.{images_after}
use Rattle.moving.specs.Ilp32.{AddressRight, TooWide, TwentySevenExactly, PointerAt, slot_byte, PointerUpper, HiddenUpper}
use Rattle.moving.proofs.Turns.{right}
use Rattle.moving.proofs.Address.{address-wrong, address_right}
use Rattle.moving.proofs.Amd64.{check-without, amd64-ordered, placed-lent}
use Rattle.moving.proofs.Orders.{gather-positive, place-stopped, place-accepted}
use Rattle.moving.proofs.Theorems.{places_all}

-- ---- 27

pub address-is_right : AddressRight
address-is_right d h = let k = address_right (model_in d) (hidden d) h in ((λ n. k.0 n.0), (λ f. (k.1 f, tt)))

pub wide-wrong : (d : List ℕ) (h : ℕ) → (wrong_address (model_in d) (hidden d) h ≡ true) ↔ TooWide d h
wide-wrong d h =
    let k = address-wrong (model_in d) (hidden d) h in
    ((λ e. record { ilp32 = (k.0 e).0; used = (k.0 e).1; wide = (k.0 e).2 }), (λ w. k.1 (w.ilp32, w.used, w.wide)))

pub twenty_seven_exactly : TwentySevenExactly
unfolding gather_refusal place_refusal
twenty_seven_exactly d h vals r y s = (told, tells)
  where
    told : place_refusal amd64 d h vals r y s ≡ 27 → (gather_refusal amd64 d (length vals) r y s ≡ 0) × TooWide d h
    told e =
        let later = rule 27 (wrong_address (model_in d) (hidden d) h) ∷ rule 12 (wrong_bool amd64 d vals) ∷ [] in
        let before = gather_order amd64 d (length vals) r y s in
        let ok = none-till before later 27 (without-append (check_order d) (rule 11 (amd64.wrong_length d (length vals) r y s) ∷ []) 27 (check-without d 27 (omega arith)) ((λ z. omega arith), tt)) e in
        let k = held [] 27 (wrong_address (model_in d) (hidden d) h) (rule 12 (wrong_bool amd64 d vals) ∷ []) tt (λ z. omega arith) tt ((λ z. omega arith), tt)
        (sym (first-behind before later (gather-positive amd64 amd64-ordered d (length vals) r y s) ok) ∙ e) in
        (ok, (wide-wrong d h).0 k.1)

    tells : (gather_refusal amd64 d (length vals) r y s ≡ 0) × TooWide d h → place_refusal amd64 d h vals r y s ≡ 27
    tells p =
        let e : first (amd64.address_order d h) ≡ 27 = rw ((wide-wrong d h).1 p.1) in
        place-stopped amd64 amd64-ordered d h vals r y s p.0 (λ z. omega (arith, e, z)) ∙ e

-- ---- the hidden address

pub hidden_upper : HiddenUpper
hidden_upper d h vals r y s m ok used k l u =
    let img = images_after amd64 d h vals r y s in
    let low : h < 4294967296 = (address-is_right d h).0 (place-accepted amd64 amd64-ordered d h vals (length r) (length y) (length s) ok).1 m used in
    upper-zero img h low (rw used at ((places_all amd64 amd64-ordered d h vals r y s ok img).0 refl).address) k l u

-- ---- a pointer argument

pointer-shape : (named : Bool) → shape_of Ilp32 named (basic 15) ≡ four
unfolding shape_of kinds_for kinds_of same is_x87 merge_of merge_all one_class gap first_class second_class basic_at classes_at eightbytes_in eightbytes_of shown classes_of size_ty align_ty basic_size basic_align
pointer-shape true = refl
pointer-shape false = refl

module _ (d : List ℕ) (accepted : verdict d ≡ 0) (m : model_in d ≡ Ilp32) (i : ℕ) (p : PointerAt d i) (j : ℕ) (low : 4 ≤ j) (high : j < 8) where
  shape_is : shape_at d i ≡ four
  unfolding shape_at
  shape_is =
      let t : ty_at d (argument_at d i) ≡ basic 15 =
      at-basic d (argument_at d i) (accepted-sized d (accepted-types d (accepted-uses d accepted)) (argument_at d i) (argument-known d (right d accepted) i p.there)) p.kind
      ∙ ap basic p.code in
      ap₂ (λ (x : Model) (y : Ty). shape_of x (is_named d i) y) m t ∙ pointer-shape (is_named d i)

  byte-is : slot_byte d i j ≡ get_or (bytes_of stack_at (place eights (used_at d i) four) 8) j 0
  byte-is = ap (λ (s : Shape). get_or (bytes_of stack_at (place eights (used_at d i) s) 8) j 0) shape_is

  abbrev behind : List Shape
  behind = shapes_from d (i + 1) (arguments_in d - (i + 1))

  all_are : shapes d ≡ shapes_from d 0 i ++ four ∷ behind
  all_are =
      let there = p.there in
      shapes-split d i (arguments_in d) (omega arith)
      ∙ ap (λ (l : List Shape). shapes_from d 0 i ++ l) (shapes-cons d i (arguments_in d) there ∙ ap (λ (s : Shape). s ∷ behind) shape_is)

  taken : TakenBy stack_at (after eights (used_first d) (shapes_from d 0 i)) (next eights (after eights (used_first d) (shapes_from d 0 i)) four) (slot_byte d i j)
  unfolding used_at
  taken = rw byte-is (slot-taken (used_at d i) j low high)

  absent : Absent (slot_byte d i j) (addresses_of d)
  unfolding addresses_of used_at
  absent =
      rw all_are
      (taken-alone stack_at eights (shapes_from d 0 i) four behind (used_first d) (rw all_are at (all-shaped d (right d accepted))) (rw all_are at (all-seated (shapes d))) (slot_byte d i j) taken
      (rw byte-is (slot-unused (used_at d i) j low high)))

  -- it lies behind rdi where the hidden address is there
  past : Absent (slot_byte d i j) (frame_of d).address
  past = by (hidden d) refl
    where
      by : (b : Bool) → hidden d ≡ b → Absent (slot_byte d i j) (cond b rdi [])
      by false e = tt
      by true e =
          let f : Free stack_at (fresh true) (slot_byte d i j) = rw e at (free-before stack_at eights (shapes_from d 0 i) (used_first d) (slot_byte d i j) taken.was) in
          all-run {P = λ q. slot_byte d i j ≢ q} 0 8 (λ k l n z. omega (arith, f.general (omega (arith, z)) (omega (arith, z)), z))

pub pointer_upper : PointerUpper
pointer_upper d h vals r y s m ok i p j low high =
    let accepted = (placed-lent d h vals (length r) (length y) (length s) ok).accepted in
    let img = images_after amd64 d h vals r y s in
    ((places_all amd64 amd64-ordered d h vals r y s ok img).0 refl).zeros (slot_byte d i j)
    (record { absent = absent d accepted m i p j low high; past = past d accepted m i p j low high })
