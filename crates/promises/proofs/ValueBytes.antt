-- Where each value byte of an accepted description lies. Assumes nothing.
use mathlib.Core.Path.{◌≡◌, refl, sym, ap, ap₂, ◌∙◌, subst}
use mathlib.Core.Bool.{true, cond}
use mathlib.Core.List.{List, [], ◌∷◌, ◌++◌}
use Prim.Native.Nat.{ℕ, zero, suc, ◌+◌, ◌-◌, ◌*◌, ◌/◌, ◌%◌, ◌≤◌, ◌<◌, min}
use native.Mathlib.Decide.{dec_lt}
use native.Mathlib.Omega.{arith}
use lib.ListN.{length, get_or, take, get_or-append}
use lib.Seq.{take-append_seam, get_or-append-add}
use Rattle.addresses.specs.Addresses.{run, All}
use Rattle.addresses.proofs.Lists.{all-at, nodup_inj}
use Rattle.addresses.proofs.Runs.{length_run}
use Rattle.description.specs.Description.{arguments_in}
use Rattle.places.specs.declared.Register.{Register}
use Rattle.places.specs.declared.Used.{Used}
use Rattle.places.specs.Shapes.{Shape, Shaped}
use Rattle.places.specs.Places.{eights, Place, in_registers, on_stack, place, after, area}
use Rattle.places.specs.Images.{slots, stack_at, spread, bytes_of, addresses, total, value_offset}
use Rattle.places.specs.Statements.{OnePlaceEach}
use Rattle.places.proofs.Apart.{length-slots, all-seated, addresses-past, apart, address-at}
use Rattle.places.proofs.Fits.{register-step}
use Rattle.layout.specs.Arguments.{shape_at, shapes_from, shapes, hidden, used_first, used_at, value_start, area_of}
use Rattle.layout.specs.Layout.{values_of}
use Rattle.layout.specs.Placements.{laying_at, placement_at}
use Rattle.layout.specs.Verdict.{verdict}
use Rattle.layout.proofs.Arguments.{length-shapes, shapes-split}
use Rattle.layout.proofs.Bounds.{argument-shaped, all-shaped}
use Rattle.layout.proofs.Verdict.{accepted-uses}
use Rattle.moving.specs.Images.{addresses_of}
use Rattle.moving.proofs.Turns.{value-some}
use Rattle.station.specs.Paper.{kcb, shape_at as paper_shape, used_at as paper_used}
use Rattle.station.proofs.Kcb.{kcb-shape, kcb-used}
use Rattle.promises.specs.Demand2.{place_at}
use Rattle.promises.specs.Demand3.{lies}
use Rattle.promises.proofs.Placements.{place-said}

-- the first i shapes
first-shapes : (d : List ℕ) (i : ℕ) → i ≤ arguments_in d → take i (shapes d) ≡ shapes_from d 0 i
first-shapes d i l =
    ap (take i) (shapes-split d i (arguments_in d) l)
    ∙ ap (λ (n : ℕ). take n (shapes_from d 0 i ++ shapes_from d i (arguments_in d - i))) (sym (length-shapes d i 0))
    ∙ take-append_seam (shapes_from d 0 i) (shapes_from d i (arguments_in d - i))

-- byte j of a value over eightbytes that begin at these addresses
run_at : (p n k : ℕ) → k < n → get_or (run p n) k 0 ≡ p + k
run_at p zero k l = absurd (omega arith)
run_at p (suc n) zero l = omega arith
run_at p (suc n) (suc k) l = run_at (suc p) n k (omega arith) ∙ omega arith

spread_at : (bs : List ℕ) (n j : ℕ) → j < n → j < 8 * length bs → get_or (spread bs n) j 0 ≡ get_or bs (j / 8) 0 + j % 8
spread_at [] n j l m = absurd (omega arith)
spread_at (b ∷ bs) n j l m = by (dec_lt j 8) (spread_at bs (n - 8) (j - 8))
  where
    by : Dec (j < 8) → (j - 8 < n - 8 → j - 8 < 8 * length bs → get_or (spread bs (n - 8)) (j - 8) 0 ≡ get_or bs ((j - 8) / 8) 0 + (j - 8) % 8)
        → get_or (run b (min n 8) ++ spread bs (n - 8)) j 0 ≡ get_or (b ∷ bs) (j / 8) 0 + j % 8
    by (yes low) rest =
        let none : j / 8 ≡ 0 = omega arith in
        let same : j % 8 ≡ j = omega arith in
        get_or-append (run b (min n 8)) (spread bs (n - 8)) 0 j (omega (arith, length_run b (min n 8))) ∙ run_at b (min n 8) j (omega arith) ∙ sym (rw (none, same) refl)
    by (no high) rest =
        let behind : j ≡ length (run b (min n 8)) + (j - 8) = omega (arith, length_run b (min n 8)) in
        let next : j / 8 ≡ suc ((j - 8) / 8) = omega arith in
        let same : j % 8 ≡ (j - 8) % 8 = omega arith in
        ap (λ (k : ℕ). get_or (run b (min n 8) ++ spread bs (n - 8)) k 0) behind ∙ get_or-append-add (run b (min n 8)) (spread bs (n - 8)) (j - 8) 0
        ∙ rest (omega arith) (omega arith) ∙ sym (rw (next, same) refl)

module _ (d : List ℕ) (accepted : verdict d ≡ 0) where
  shaped : All Shaped (shapes d)
  shaped = all-shaped d (accepted-uses d accepted)

  laid : OnePlaceEach stack_at eights (used_first d) (shapes d)
  laid = apart stack_at eights (shapes d) (used_first d) shaped (all-seated (shapes d))

  pub each : length (addresses_of d) ≡ values_of d
  unfolding addresses_of values_of
  each = laid.each

  pub inside : (k : ℕ) → k < values_of d → lies d k < stack_at + area_of d
  unfolding addresses_of values_of area_of
  inside k l = all-at (λ n. n < stack_at + area eights (used_first d) (shapes d)) (addresses stack_at eights (used_first d) (shapes d)) laid.inside k (subst (λ n. k < n) (sym laid.each) l)

  pub once : (k l : ℕ) → k < values_of d → l < values_of d → lies d k ≡ lies d l → k ≡ l
  unfolding addresses_of values_of
  once k l p q e =
      nodup_inj (addresses stack_at eights (used_first d) (shapes d)) laid.once k l (subst (λ n. k < n) (sym laid.each) p) (subst (λ n. l < n) (sym laid.each) q) e

  pub past : hidden d ≡ true → (k : ℕ) → k < values_of d → 8 ≤ lies d k
  unfolding addresses_of values_of
  past h k l =
      let one : ◌≡◌ {A = ℕ} (cond (hidden d) 1 0) 1 = rw h refl in
      all-at (λ n. 8 ≤ n) (addresses stack_at eights (used_first d) (shapes d)) (addresses-past eights (shapes d) (used_first d) shaped (omega (arith, one))) k (subst (λ n. k < n) (sym laid.each) l)

  module _ (i : ℕ) (there : i < arguments_in d) where
    used-here : after eights (used_first d) (take i (shapes d)) ≡ used_at d i
    unfolding kcb paper_used
    used-here = kcb-used d i (omega arith)

    shape_here : get_or (shapes d) i (record { kinds = []; size = 0; align = 1 }) ≡ shape_at d i
    unfolding kcb paper_shape
    shape_here = kcb-shape d i there

    start-here : value_offset (shapes d) i ≡ value_start d i
    unfolding value_offset value_start
    start-here = ap total (first-shapes d i (omega arith))

    within : i < length (shapes d)
    within = let l = length-shapes d (arguments_in d) 0 in omega (arith, l)

    pub recorded : (j : ℕ) → j < (placement_at d i).size.0 → lies d ((placement_at d i).at.0 + j) ≡ get_or (bytes_of stack_at (place_at d i) (placement_at d i).size.0) j 0
    unfolding addresses_of placement_at laying_at
    recorded j l =
        ap (λ n. get_or (addresses stack_at eights (used_first d) (shapes d)) (n + j) 0) (sym start-here)
        ∙ address-at stack_at eights (shapes d) (used_first d) (record { kinds = []; size = 0; align = 1 }) shaped i j within (subst (λ (s : Shape). j < s.size) (sym shape_here) l)
        ∙ ap₂ (λ (u : Used) (s : Shape). get_or (bytes_of stack_at (place eights u s) s.size) j 0) used-here shape_here
        ∙ ap (λ (p : Place). get_or (bytes_of stack_at p (shape_at d i).size) j 0) (sym (place-said d accepted i there))

    pub registers-there : (j : ℕ) (rs : List Register) → place_at d i ≡ in_registers rs → j < (placement_at d i).size.0 → lies d ((placement_at d i).at.0 + j) ≡ get_or (slots rs) (j / 8) 0 + j % 8
    unfolding placement_at laying_at
    registers-there j rs e l =
        let u = used_at d i in
        let s = register-step eights u (shape_at d i) rs (sym (place-said d accepted i there) ∙ e) in
        let long = ap (λ (x : List Register). length (slots x)) s.registers ∙ length-slots (shape_at d i).kinds u.general.0 u.vector.0 in
        let room = ((argument-shaped d (accepted-uses d accepted) i there).room s.fit.some).0 in
        recorded j l ∙ ap (λ (p : Place). get_or (bytes_of stack_at p (shape_at d i).size) j 0) e ∙ spread_at (slots rs) (shape_at d i).size j l (omega (arith, long, room))

    first_run : (p n : ℕ) → 1 ≤ n → get_or (run p n) 0 0 ≡ p
    first_run p zero h = absurd (omega arith)
    first_run p (suc n) h = refl

    pub stack-there : (o : ℕ) → place_at d i ≡ on_stack o → lies d (placement_at d i).at.0 ≡ stack_at + o
    unfolding placement_at laying_at
    stack-there o e =
        let some : 1 ≤ (shape_at d i).size = value-some d accepted i there in
        ap (lies d) (omega arith) ∙ recorded 0 (omega (arith, some)) ∙ ap (λ (p : Place). get_or (bytes_of stack_at p (shape_at d i).size) 0 0) e ∙ first_run (stack_at + o) (shape_at d i).size some
