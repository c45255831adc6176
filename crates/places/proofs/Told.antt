-- The place of an argument by what is used before it and after it is the one that the paper's rule says. Assumes nothing.
use mathlib.Core.Path.{◌≡◌, refl, sym, ap, ap₂, ◌∙◌}
use mathlib.Core.Logic.{◌⊎◌, inl, inr, ⊎_elim}
use mathlib.Core.Bool.{Bool, true, false, cond, not, ◌&&◌, and-eq-true_iff}
use mathlib.Core.List.{List, [], ◌∷◌}
use Prim.Native.Nat.{ℕ, ◌+◌, ◌*◌, ◌/◌, ◌%◌, ◌≤◌, ◌<◌, max}
use native.Mathlib.Omega.{arith}
use borrow.Author.Tests.{eqb-true}
use lib.Dec.{eqb}
use lib.ListN.{length}
use Rattle.units.specs.Raise.{raise}
use Rattle.units.proofs.Raise.{raise-not_below}
use Rattle.classes.specs.declared.Class.{Class}
use Rattle.classes.specs.Classes.{same, is_x87}
use Rattle.classes.proofs.Laws.{each_two}
use Rattle.types.proofs.Alignments.{is-high}
use Rattle.classify.specs.Table.{pair_in, wide_in, unpacked_of}
use Rattle.places.specs.declared.Kind.{Kind}
use Rattle.places.specs.declared.Kind.TheVariants.{General as general, Vector as vector, Upper as upper, Wide as wide}
use Rattle.places.specs.declared.Register.{Register}
use Rattle.places.specs.declared.Register.TheVariants.{General, Vector, Upper, Wide}
use Rattle.places.specs.declared.Used.{Used}
use Rattle.places.specs.Shapes.{Shape, kinds_of, kinds_for, shape_in, has_some, widths, Led}
use Rattle.places.specs.Places.{eights, in_registers, on_stack, general_for, vector_for, register_for, registers_for, taking, fits, start, place, next}
use Rattle.places.specs.Asked.{Between, first_kind, second_kind, last_for}
use Rattle.places.proofs.Fits.{clash, fits-true, place-fits, place-not, next_fits, next-not}
use Rattle.places.proofs.Records.{narrow_kinds}

-- ---- the stack arguments end later exactly where it is on the stack

module _ (u : Used) (s : Shape) where
  stays : fits u s.kinds ≡ true → (next eights u s).stack.0 ≡ u.stack.0
  stays f = ap (λ (w : Used). w.stack.0) (next_fits eights u s f)

  grows : 1 ≤ s.size → fits u s.kinds ≡ false → u.stack.0 < (next eights u s).stack.0
  unfolding start
  grows h f =
      rw (next-not eights u s f)
      (omega (arith, raise-not_below 8 (raise (max 8 s.align) u.stack.0 + s.size) (omega arith), raise-not_below (max 8 s.align) u.stack.0 (omega arith)))

  on-stack : u.stack.0 < (next eights u s).stack.0 → place eights u s ≡ on_stack (raise (max 8 s.align) u.stack.0)
  unfolding start
  on-stack l = by (fits u s.kinds) refl
    where
      by : (b : Bool) → fits u s.kinds ≡ b → place eights u s ≡ on_stack (raise (max 8 s.align) u.stack.0)
      by true f = absurd (omega (arith, stays f))
      by false f = place-not eights u s f

  fitting : 1 ≤ s.size → (next eights u s).stack.0 ≤ u.stack.0 → fits u s.kinds ≡ true
  fitting h l = by (fits u s.kinds) refl
    where
      by : (b : Bool) → fits u s.kinds ≡ b → fits u s.kinds ≡ true
      by true f = f
      by false f = absurd (omega (arith, grows h f))

-- ---- at most 8 bytes: one eightbyte

some-wide : (k : Kind) (ks : List Kind) → 1 ≤ widths (k ∷ ks)
some-wide general ks = omega arith
some-wide vector ks = omega arith
some-wide upper ks = omega arith
some-wide wide ks = omega arith

abbrev RoomFor : List Kind → ℕ → Type 0
RoomFor ks size = (size ≤ 8 * widths ks) × (8 * widths ks < size + 8)

lone-kind : (ks : List Kind) (size : ℕ) → Led false ks → has_some ks ≡ true → RoomFor ks size → size ≤ 8 → (ks ≡ general ∷ []) ⊎ (ks ≡ vector ∷ [])
lone-kind [] size led some r l = clash (sym some)
lone-kind (general ∷ []) size led some r l = inl refl
lone-kind (vector ∷ []) size led some r l = inr refl
lone-kind (upper ∷ ks) size led some r l = absurd led
lone-kind (wide ∷ ks) size led some r l = absurd (omega arith)
lone-kind (general ∷ k ∷ ks) size led some r l = absurd (omega (arith, some-wide k ks))
lone-kind (vector ∷ k ∷ ks) size led some r l = absurd (omega (arith, some-wide k ks))

-- ---- over 8 bytes, and not wide: two eightbytes, by their classes

abbrev code_for : Kind → ℕ
code_for general = 0
code_for vector = 1
code_for upper = 2
code_for wide = 3

abbrev kind_by : ℕ → Kind
kind_by n = cond (eqb n 0) general (cond (eqb n 1) vector (cond (eqb n 2) upper wide))

coded : (k : Kind) → kind_by (code_for k) ≡ k
coded general = refl
coded vector = refl
coded upper = refl
coded wide = refl

same_code : (j k : Kind) → eqb (code_for j) (code_for k) ≡ true → j ≡ k
same_code j k e = sym (coded j) ∙ ap kind_by (eqb-true (code_for j) (code_for k) e) ∙ coded k

-- what two classes say of the kinds that they ask for
abbrev said : Class → Class → List Kind → Bool
said a b [] = true
said a b (k ∷ []) = not (eqb (code_for k) 3)
said a b (j ∷ k ∷ []) = cond (eqb (code_for j) 2) true (eqb (code_for j) (code_for (first_kind a)) && eqb (code_for k) (code_for (second_kind b)))
said a b (j ∷ k ∷ l ∷ ks) = true

pair-said : (a b : Class) → said a b (kinds_of (a ∷ b ∷ [])) ≡ true
unfolding kinds_of same is_x87
pair-said a b = each_two (λ a b. said a b (kinds_of (a ∷ b ∷ []))) refl a b

both-said : (a b : Class) (j k : Kind) → (eqb (code_for j) (code_for (first_kind a)) && eqb (code_for k) (code_for (second_kind b))) ≡ true → j ∷ k ∷ [] ≡ first_kind a ∷ second_kind b ∷ []
both-said a b j k e =
    let both = (and-eq-true_iff (eqb (code_for j) (code_for (first_kind a))) (eqb (code_for k) (code_for (second_kind b)))).0 e in
    ap₂ (λ (x y : Kind). x ∷ y ∷ []) (same_code j (first_kind a) both.0) (same_code k (second_kind b) both.1)

two-kinds : (a b : Class) (ks : List Kind) (size : ℕ) → said a b ks ≡ true → Led false ks → length ks ≤ 2 → has_some ks ≡ true → RoomFor ks size → 8 < size → ks ≡ first_kind a ∷ second_kind b ∷ []
two-kinds a b [] size t led few some r l = clash (sym some)
two-kinds a b (general ∷ []) size t led few some r l = absurd (omega arith)
two-kinds a b (vector ∷ []) size t led few some r l = absurd (omega arith)
two-kinds a b (upper ∷ ks) size t led few some r l = absurd led
two-kinds a b (wide ∷ []) size t led few some r l = clash (sym t)
two-kinds a b (wide ∷ k ∷ ks) size t led few some r l = clash led
two-kinds a b (general ∷ k ∷ []) size t led few some r l = both-said a b general k t
two-kinds a b (vector ∷ k ∷ []) size t led few some r l = both-said a b vector k t
two-kinds a b (general ∷ j ∷ k ∷ ks) size t led few some r l = absurd (omega arith)
two-kinds a b (vector ∷ j ∷ k ∷ ks) size t led few some r l = absurd (omega arith)

last-is : (u : Used) (j k : Kind) → last_for (taking u (j ∷ k ∷ [])) k ≡ register_for (u.general.0 + general_for j) (u.vector.0 + vector_for j) k
last-is u j general = ap (λ (n : ℕ). General (record { 0 = n })) (omega arith)
last-is u j vector = ap (λ (n : ℕ). Vector (record { 0 = n })) (omega arith)
last-is u j upper = ap (λ (n : ℕ). Upper (record { 0 = n })) (omega arith)
last-is u j wide = ap (λ (n : ℕ). Wide (record { 0 = n })) (omega arith)

-- ---- by an entry

module _ (named : Bool) (e : ℕ) (u w : Used) (h : Between named e u w) where
  size-some : 1 ≤ (shape_in named e).size
  unfolding shape_in
  size-some = h.some

  pub low-align : e / 8192 % 64 ≤ 32
  unfolding shape_in
  low-align = is-high h.shaped.aligned

  pub told-stack : u.stack.0 < w.stack.0 → (align o : ℕ) → align ≡ e / 8192 % 64 → o ≡ raise (max 8 align) u.stack.0 → on_stack o ≡ place eights u (shape_in named e)
  unfolding shape_in
  told-stack l align o a q =
      ap on_stack (q ∙ ap (λ (n : ℕ). raise (max 8 n) u.stack.0) a)
      ∙ sym (on-stack u (shape_in named e) (rw (← h.after) l))

  module _ (l : w.stack.0 ≤ u.stack.0) where
    fit : fits u (shape_in named e).kinds ≡ true
    fit = fitting u (shape_in named e) size-some (rw (← h.after) l)

    taken : w ≡ taking u (shape_in named e).kinds
    taken = h.after ∙ next_fits eights u (shape_in named e) fit

    some : has_some (shape_in named e).kinds ≡ true
    some = (fits-true u (shape_in named e).kinds fit).some

    placed : (ks : List Kind) → (shape_in named e).kinds ≡ ks → place eights u (shape_in named e) ≡ in_registers (registers_for u.general.0 u.vector.0 ks)
    placed ks q = place-fits eights u (shape_in named e) fit ∙ ap (λ (xs : List Kind). in_registers (registers_for u.general.0 u.vector.0 xs)) q

    general-after : (ks : List Kind) → (shape_in named e).kinds ≡ ks → w.general.0 ≡ (taking u ks).general.0
    general-after ks q = ap (λ (x : Used). x.general.0) (taken ∙ ap (taking u) q)

    lone : e % 8192 ≤ 8 → ((shape_in named e).kinds ≡ general ∷ []) ⊎ ((shape_in named e).kinds ≡ vector ∷ [])
    unfolding shape_in
    lone n = lone-kind (shape_in named e).kinds (e % 8192) h.shaped.led some (h.shaped.room some) n

    pub told-vector : e % 8192 ≤ 8 → w.general.0 ≤ u.general.0 → in_registers (Vector u.vector ∷ []) ≡ place eights u (shape_in named e)
    told-vector n m =
        ⊎_elim (λ q. absurd (omega (arith, general-after (general ∷ []) q))) (λ q. sym (placed (vector ∷ []) q)) (lone n)

    pub told-general : e % 8192 ≤ 8 → u.general.0 < w.general.0 → in_registers (General u.general ∷ []) ≡ place eights u (shape_in named e)
    told-general n m =
        ⊎_elim (λ q. sym (placed (general ∷ []) q)) (λ q. absurd (omega (arith, general-after (vector ∷ []) q))) (lone n)

    wide_kinds : wide_in (e / 524288) ≡ true → (shape_in named e).kinds ≡ wide ∷ []
    unfolding shape_in kinds_for kinds_of unpacked_of same is_x87
    wide_kinds v = rw v (by named (rw v at some))
      where
        by : (b : Bool) → has_some (cond (not b && true) [] (wide ∷ [])) ≡ true → cond (not b && true) [] (wide ∷ []) ≡ wide ∷ []
        by true q = refl
        by false q = clash (sym q)

    pub told-wide : wide_in (e / 524288) ≡ true → in_registers (Wide u.vector ∷ []) ≡ place eights u (shape_in named e)
    told-wide v = sym (placed (wide ∷ []) (wide_kinds v))

    pair-kinds : wide_in (e / 524288) ≡ false → (a b : Class) → a ∷ b ∷ [] ≡ pair_in (e / 524288) → 8 < e % 8192 → (shape_in named e).kinds ≡ first_kind a ∷ second_kind b ∷ []
    unfolding shape_in
    pair-kinds v a b p n =
        let is : kinds_of (a ∷ b ∷ []) ≡ (shape_in named e).kinds = narrow_kinds named (e / 524288) v a b p in
        two-kinds a b (shape_in named e).kinds (e % 8192) (rw (← is) (pair-said a b)) h.shaped.led h.shaped.few some (h.shaped.room some) n

    pub told-two : wide_in (e / 524288) ≡ false → (a b : Class) → a ∷ b ∷ [] ≡ pair_in (e / 524288) → 8 < e % 8192 → (low high : Register)
        → low ≡ register_for u.general.0 u.vector.0 (first_kind a) → high ≡ last_for w (second_kind b) → in_registers (low ∷ high ∷ []) ≡ place eights u (shape_in named e)
    told-two v a b p n low high f g =
        let is = pair-kinds v a b p n in
        ap₂ (λ (x y : Register). in_registers (x ∷ y ∷ [])) f (g ∙ ap (λ (x : Used). last_for x (second_kind b)) (taken ∙ ap (taking u) is) ∙ last-is u (first_kind a) (second_kind b))
        ∙ sym (placed (first_kind a ∷ second_kind b ∷ []) is)
