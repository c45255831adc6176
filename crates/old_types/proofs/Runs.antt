-- What the proofs of `extent_of` and `members_extent` cite, over plain values. Assumes nothing.
use mathlib.Core.Path.{◌≡◌, refl, sym, ap, ◌∙◌}
use mathlib.Core.Bool.{Bool, true, false}
use mathlib.Core.List.{List}
use Prim.Native.Nat.{ℕ, ◌+◌, ◌-◌, ◌*◌, ◌≤◌, ◌<◌, max}
use native.Mathlib.Omega.{arith}
use native.Mathlib.Nat.{mul-le-mul}
use lib.Dec.{eqb}
use Rattle.description.specs.Description.{kind_at, a_at, count_at, member_at}
use Rattle.units.specs.Raise.{raise}
use Rattle.types.specs.Tree.{Tys, more, group}
use Rattle.old_types.specs.Basic.{basic_size, basic_align}
use Rattle.types.specs.Size.{end_after}
use Rattle.types.proofs.Sizes.{end_high}
use Rattle.types.proofs.Trees.{tys_step}
use Rattle.old_types.specs.Size.{align_by, aligns_by, size_by, end_by, old, align_ty, size_ty}
use Rattle.types.specs.Decode.{tys_from, ty_at}
use Rattle.old_types.specs.Asks.{Sized, SizedRun, IsExtent, IsRun}
use Rattle.types.specs.declared.Extent.{Extent}
use Rattle.old_types.proofs.Sizes.{align-low, align-high, aligns-low, aligns-high}
use Rattle.old_types.proofs.Trees.{at-basic, at-array, at-group, sized-below, sized-ruled}

-- no member is left
pub run_none : (d : List ℕ) (k i n : ℕ) (u : Bool) (r : Extent) → SizedRun d k i n r.size.0 r.align.0 → n ≡ 0
    → IsRun (tys_from (ty_at d) d i n) u r.size.0 r.align.0 r
unfolding tys_from end_by aligns_by
run_none d k i n u r p e = rw e (record { size = refl; align = omega (arith, p.low); room = omega (arith, p.room) })

-- one member more, of number t
module _ (d : List ℕ) (k i n x a : ℕ) (p : SizedRun d k i n x a) (pos : 1 ≤ n) (t : ℕ) (et : t ≡ member_at d i) where
  pub member-low : t < k
  member-low = omega (arith, p.lower i (omega arith) (omega arith))

  pub member-sized : Sized d t
  member-sized = sized-below d k p.sized t member-low

  pub member-small : size_ty (ty_at d t) ≤ 4096
  member-small = p.sized.small t member-low

  pub run_step : tys_from (ty_at d) d i n ≡ more (ty_at d t) (tys_from (ty_at d) d (i + 1) (n - 1))
  run_step = tys_step (ty_at d) d i n pos ∙ rw (← et)

  module _ (e : Extent) (ee : IsExtent (ty_at d t) e) where
    pub member-asks : (x ≤ 4128 * 65536) × ((e.size.0 ≤ 4096) × ((0 < e.align.0) × (e.align.0 ≤ 4)))
    member-asks = (
      omega (arith, p.room),
      (omega (arith, ee.size, member-small), (omega (arith, ee.align, align-low (ty_at d t)), omega (arith, ee.align, align-high (ty_at d t)))),
    )

    module _ (u : Bool) (y b : ℕ) (ey : y ≡ end_after u x e.align.0 e.size.0) (eb : b ≡ max a e.align.0) where
      pub run-rest : SizedRun d k (i + 1) (n - 1) y b
      run-rest = record {
        sized = p.sized;
        fits = omega (arith, p.fits);
        lower = λ j l h. p.lower j (omega arith) (omega arith);
        room = omega (arith, p.room, end_high u x e.align.0 e.size.0 (omega (arith, member-asks)), member-asks);
        low = omega (arith, p.low);
        high = omega (arith, p.high, member-asks);
      }

      pub run-done : (r : Extent) → IsRun (tys_from (ty_at d) d (i + 1) (n - 1)) u y b r → IsRun (tys_from (ty_at d) d i n) u x a r
      unfolding end_by aligns_by
      run-done r ir = record {
        size = ir.size ∙ rw (run_step, ey, ee.align, ee.size);
        align = rw run_step (omega (arith, ir.align, ee.align));
        room = ir.room;
      }

group-size : (u : Bool) (ts : Tys) → size_ty (group u ts) ≡ raise (aligns_by old ts) (end_by old ts u 0)
unfolding size_by old
group-size true ts = refl
group-size false ts = refl

group-align : (u : Bool) (ts : Tys) → align_ty (group u ts) ≡ aligns_by old ts
unfolding align_by
group-align true ts = refl
group-align false ts = refl

-- type k, by its kind
module _ (d : List ℕ) (k a : ℕ) (s : Sized d k) (ea : a ≡ a_at d k) where
  pub basic-low : kind_at d k ≡ 0 → a < 17
  basic-low e = omega (arith, (sized-ruled d k s).code e)

  pub basic-done : kind_at d k ≡ 0 → (r : Extent) → (r.size.0 ≡ basic_size a) × (r.align.0 ≡ basic_align a) → IsExtent (ty_at d k) r
  unfolding size_by old align_by
  basic-done e r h = rw (at-basic d k s e) (record { size = h.0 ∙ rw ea; align = h.1 ∙ rw ea })

  pub element-low : kind_at d k ≡ 1 → a < k
  element-low e = omega (arith, (sized-ruled d k s).element e)

  module _ (n : ℕ) (en : n ≡ count_at d k) where
    pub array-small : kind_at d k ≡ 1 → (e : Extent) → IsExtent (ty_at d a) e → e.size.0 * n ≤ 4096 * 4096
    array-small k1 e h =
        mul-le-mul {n₂ = 4096} {m₂ = 4096} (omega (arith, h.size, s.small a (element-low k1))) (omega (arith, ((sized-ruled d k s).elements k1).1))

    pub array-done : kind_at d k ≡ 1 → (e r : Extent) → IsExtent (ty_at d a) e → r.size.0 ≡ e.size.0 * n → r.align.0 ≡ e.align.0 → IsExtent (ty_at d k) r
    unfolding size_by old align_by
    array-done k1 e r h es el =
        rw (at-array d k s k1, ← ea, ← en) (record { size = es ∙ ap (λ (z : ℕ). z * n) h.size; align = el ∙ h.align })

    -- a struct's or a union's members
    module _ (two : 2 ≤ kind_at d k) (few : n < 65536) where
      pub group-is : ty_at d k ≡ group (eqb (kind_at d k) 3) (tys_from (ty_at d) d a n)
      group-is = at-group d k s two ∙ rw (ea, en)

      pub group-run : (x b : ℕ) → x ≡ 0 → b ≡ 1 → SizedRun d k a n x b
      group-run x b ex eb = record {
        sized = s;
        fits = rw (ea, en) ((sized-ruled d k s).run two);
        lower = λ j p q. (sized-ruled d k s).member two j (rw ea at p) (rw (ea, en) at q);
        room = omega arith;
        low = omega arith;
        high = omega arith;
      }

      module _ (u : Bool) (eu : u ≡ eqb (kind_at d k) 3) (r : Extent) (ir : IsRun (tys_from (ty_at d) d a n) u 0 1 r) where
        strictest : r.align.0 ≡ aligns_by old (tys_from (ty_at d) d a n)
        strictest = omega (arith, ir.align, aligns-low (tys_from (ty_at d) d a n))

        pub group-asks : (0 < r.align.0) × (r.size.0 + r.align.0 ≤ 4128 * 65536 + 32)
        group-asks =
            (omega (arith, strictest, aligns-low (tys_from (ty_at d) d a n)), omega (arith, strictest, aligns-high (tys_from (ty_at d) d a n), ir.room))

        pub group-done : (w : Extent) → w.size.0 ≡ raise r.align.0 r.size.0 → w.align.0 ≡ r.align.0 → IsExtent (ty_at d k) w
        group-done w ew el =
            let is : ty_at d k ≡ group u (tys_from (ty_at d) d a n) = group-is ∙ rw (← eu) in
            record {
              size = ew ∙ rw (strictest, ir.size) (sym (ap size_ty is ∙ group-size u _));
              align = el ∙ strictest ∙ sym (ap align_ty is ∙ group-align u _);
            }
