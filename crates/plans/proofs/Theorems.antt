-- A plan made of an accepted description moves what the description says, is well formed, and has room in 392 numbers of 16 bits. Assumes nothing.
use mathlib.Core.Path.{◌≡◌, refl, sym, ap, ◌∙◌}
use mathlib.Core.Bool.{Bool, true, false, cond, not, ◌&&◌}
use mathlib.Core.List.{List, [], ◌∷◌, ◌++◌}
use Prim.Native.Nat.{ℕ, zero, suc, ◌+◌, ◌≤◌, ◌<◌}
use native.Mathlib.Omega.{arith}
use borrow.Author.Tests.{le-leb, lt-ltb}
use lib.Dec.{leb, eqb}
use lib.ListN.{length}
use Rattle.description.specs.declared.Model.{Model}
use Rattle.description.specs.declared.Model.TheVariants.{Lp64, Ilp32}
use Rattle.description.specs.Description.{arguments_in, argument_at, model_in, return_in}
use Rattle.addresses.specs.Addresses.{run, All, NoDup}
use Rattle.addresses.proofs.Runs.{nodup_run}
use Rattle.addresses.proofs.Lists.{all_append, all_map}
use Rattle.places.specs.Places.{eights as eightbytes, after}
use Rattle.places.specs.Images.{stack_at}
use Rattle.places.proofs.Fits.{after-bounds}
use Rattle.places.proofs.Apart.{all-seated, addresses-packed, length-addresses}
use Rattle.places.proofs.Offsets.{area-rounded}
use Rattle.layout.specs.Arguments.{shapes, hidden, is_void, return_place, used_first, used_at, area_of}
use Rattle.layout.specs.Layout.{values_of}
use Rattle.layout.specs.Verdict.{verdict}
use Rattle.layout.proofs.Arguments.{length-shapes}
use Rattle.layout.proofs.Bounds.{all-shaped, arguments-few}
use Rattle.layout.proofs.Verdict.{accepted-area}
use Rattle.moving.specs.Address.{wrong_address}
use Rattle.moving.specs.Frames.{empty_in, placed_in, gathered_in, own_address}
use Rattle.layout.specs.Arguments.{value_start}
use Rattle.moving.specs.Images.{addresses_of, frame_of}
use Rattle.moving.specs.Orders.{is_bool}
use Rattle.moving.proofs.Turns.{right, value-inside, value-some}
use Rattle.places.specs.declared.Register.{Register}
use Rattle.places.specs.declared.Register.TheVariants.{General, Vector, Upper, Wide}
use Rattle.places.specs.declared.ReturnPlace.{ReturnPlace}
use Rattle.places.specs.declared.ReturnPlace.TheVariants.{Void, Memory, One, Two, St0, St0St1}
use Rattle.returning.specs.ImageAsks.{Alone, Returnable}
use Rattle.returning.specs.Moved.{parts_of}
use Rattle.returning.specs.Returned.{return_length}
use Rattle.returning.proofs.Room.{Room, returnable_room}
use Rattle.returning.proofs.Values.{accepted-returnable}
use Rattle.plans.specs.Moves.{turned_all, sources, targets, Apart}
use Rattle.plans.specs.Plans.{values_in, area_in, vectors_in, used_by, moves_in, bools_in, end_of, all_below, well_formed, wide_address, frame_by, placed_by, gathered_by}
use Rattle.plans.specs.Returned.{returned_in, return_moves_in, returns_formed}
use Rattle.plans.specs.Cuts.{cut, joined, moves_of, is_long, eights, others, fours, parts, twos, threes, address_kind, move_of, head_of, bools_from, plan_of}
use Rattle.plans.specs.Statements.{AllPlanned}
use Rattle.plans.proofs.Moves.{moves-place, moves-gather, targets-turned}
use Rattle.plans.proofs.Orders.{moves-reordered, turned-reordered, once-apart}
use Rattle.plans.proofs.Codes.{moves_read, bools-read, length-written}
use Rattle.plans.proofs.Cuts.{targets-cut, sources-cut, targets-joined, sources-joined, length-joined, Within, within-cut, within-joined, all_both, select-all, targets-halved, sources-halved, within-halved, weight, weight-halved, by_kind, eights-counted, fours-counted}
use Rattle.plans.proofs.Rooms.{few-cut, total-few, all-fit, twos-below, threes-below}

-- no value that is returned outside memory has more than 32 bytes
alone-few : (a : Register) (n : ℕ) → Alone a n → n ≤ 32
alone-few (General k) n h = omega (arith, h.1)
alone-few (Vector k) n h = omega (arith, h.1)
alone-few (Upper k) n h = omega (arith, h.1)
alone-few (Wide k) n h = omega (arith, h.1.1)

return_few : (place : ReturnPlace) (n : ℕ) → Returnable place n → n ≤ 32
unfolding Returnable
return_few Void n h = omega arith
return_few Memory n h = omega arith
return_few (One a) n h = alone-few a n h
return_few (Two a b) n h = omega (arith, h.1.1.1.1)
return_few St0 n h = omega arith
return_few St0St1 n h = omega arith

module _ (d : List ℕ) where
  -- the moves that the plan says
  pub plan_moves : moves_in (plan_of d) ≡ eights (moves_of d) ++ (fours (moves_of d) ++ parts (moves_of d))
  unfolding plan_of
  plan_moves =
      moves_read (head_of d) (eights (moves_of d)) (fours (moves_of d)) (parts (moves_of d)) (bools_from d 0 (arguments_in d))
      (eights-counted (moves_of d)) (fours-counted (moves_of d))

  pub plan_bools : bools_in (plan_of d) ≡ bools_from d 0 (arguments_in d)
  unfolding plan_of
  plan_bools = bools-read (head_of d) (eights (moves_of d)) (fours (moves_of d)) (parts (moves_of d)) (bools_from d 0 (arguments_in d))

  pub plan_used : used_by (plan_of d) ≡ hidden d
  unfolding plan_of head_of
  plan_used = by (hidden d) (model_in d)
    where
      by : (b : Bool) (m : Model) → not (eqb (cond b (address_kind m) 0) 0) ≡ b
      by true Lp64 = refl
      by true Ilp32 = refl
      by false m = refl

  -- 27 as in the description
  pub plan_wide : (h : ℕ) → wide_address (plan_of d) h ≡ wrong_address (model_in d) (hidden d) h
  unfolding plan_of head_of wrong_address
  plan_wide h = by (model_in d) (hidden d)
    where
      by : (m : Model) (b : Bool) → (eqb (cond b (address_kind m) 0) 2 && leb 4294967296 h) ≡ wrong_address m b h
      by Lp64 true = refl
      by Lp64 false = refl
      by Ilp32 true = refl
      by Ilp32 false = refl

  pub plan_vectors : vectors_in (plan_of d) ≡ (used_at d (arguments_in d)).vector.0
  unfolding plan_of head_of
  plan_vectors = refl

  pub plan_area : area_in (plan_of d) ≡ area_of d
  unfolding plan_of head_of
  plan_area = refl

  pub plan_values : values_in (plan_of d) ≡ values_of d
  unfolding plan_of head_of
  plan_values = refl

  pub plan_returned : returned_in (plan_of d) ≡ return_length d
  unfolding plan_of head_of
  plan_returned = refl

  pub plan_return_moves : return_moves_in (plan_of d) ≡ move_of (parts_of (return_place d) (return_length d)).low ∷ move_of (parts_of (return_place d) (return_length d)).high ∷ []
  unfolding return_moves_in plan_of head_of
  plan_return_moves = refl

  pub plan_long : 16 ≤ length (plan_of d)
  unfolding plan_of
  plan_long = omega arith

  -- they write where the layout says
  pub targets-are : targets (moves_of d) ≡ addresses_of d
  unfolding moves_of addresses_of
  targets-are = targets-halved (joined (cut (used_first d) 0 (shapes d))) ∙ targets-joined (cut (used_first d) 0 (shapes d)) ∙ targets-cut (shapes d) (used_first d) 0

  module _ (accepted : verdict d ≡ 0) where
    -- and read the values in order
    pub sources-are : sources (moves_of d) ≡ run 0 (values_of d)
    unfolding moves_of values_of
    sources-are = sources-halved (joined (cut (used_first d) 0 (shapes d))) ∙ sources-joined (cut (used_first d) 0 (shapes d)) ∙ sources-cut (shapes d) (used_first d) 0 (all-shaped d (right d accepted))

    once : NoDup (addresses_of d)
    unfolding addresses_of
    once = (addresses-packed stack_at eightbytes (shapes d) (used_first d) (all-shaped d (right d accepted)) (all-seated (shapes d))).once

    pub moves-apart : Apart (moves_of d)
    moves-apart = once-apart (moves_of d) (rw targets-are once)

    pub turned_apart : Apart (turned_all (moves_of d))
    turned_apart = once-apart (turned_all (moves_of d)) (rw (targets-turned (moves_of d), sources-are) (nodup_run 0 (values_of d)))

    -- THE THEOREM: a plan places and gathers what the description does
    pub plan_places : (h : ℕ) (vals : List ℕ) → length vals ≡ values_of d → placed_by (plan_of d) h vals ≡ placed_in (frame_of d) h vals
    unfolding placed_by placed_in empty_in
    plan_places h vals l =
        rw (plan_moves, plan_used, plan_area)
        (sym (moves-reordered (by_kind (moves_of d)) moves-apart (empty_in (frame_of d) h) vals)
        ∙ moves-place (moves_of d) (empty_in (frame_of d) h) vals (addresses_of d) (sources-are ∙ ap (run 0) (sym l)) targets-are)

    length-all : length (addresses_of d) ≡ values_of d
    unfolding addresses_of values_of
    length-all = length-addresses stack_at eightbytes (shapes d) (used_first d) (all-shaped d (right d accepted))

    pub plan_gathers : (img vals : List ℕ) → length vals ≡ values_of d → gathered_by (plan_of d) img vals ≡ gathered_in (frame_of d) img
    unfolding gathered_by gathered_in
    plan_gathers img vals l =
        rw plan_moves
        (sym (moves-reordered (turned-reordered (by_kind (moves_of d))) turned_apart vals img)
        ∙ moves-gather (moves_of d) img vals (addresses_of d) (sources-are ∙ ap (run 0) (sym l)) targets-are (length-all ∙ sym l))

    pub plan_address : (img : List ℕ) → own_address (frame_by (plan_of d)) img ≡ own_address (frame_of d) img
    unfolding own_address
    plan_address img = rw plan_used

    -- ---- a plan made of it is well formed, and has room in 392 numbers of 16 bits

    stack-few : (after eightbytes (used_first d) (shapes d)).stack.0 ≤ area_of d
    unfolding area_of
    stack-few = (area-rounded eightbytes (used_first d) (shapes d)).behind

    within : All (Within (values_of d) (stack_at + area_of d)) (moves_of d)
    unfolding moves_of values_of
    within =
        within-halved (values_of d) (stack_at + area_of d) (joined (cut (used_first d) 0 (shapes d)))
        (within-joined (values_of d) (stack_at + area_of d) (cut (used_first d) 0 (shapes d))
        (within-cut (shapes d) (used_first d) 0 (values_of d) (stack_at + area_of d) (all-shaped d (right d accepted)) (omega arith)
        (omega (arith, stack-few))))

    others-within : All (Within (values_of d) (stack_at + area_of d)) (others (moves_of d))
    others-within = select-all (λ m. not (is_long 8 m)) (Within (values_of d) (stack_at + area_of d)) (moves_of d) within

    eights-within : All (Within (values_of d) (stack_at + area_of d)) (eights (moves_of d))
    eights-within = select-all (is_long 8) (Within (values_of d) (stack_at + area_of d)) (moves_of d) within

    fours-within : All (Within (values_of d) (stack_at + area_of d)) (fours (moves_of d))
    fours-within = select-all (is_long 4) (Within (values_of d) (stack_at + area_of d)) (others (moves_of d)) others-within

    parts_within : All (Within (values_of d) (stack_at + area_of d)) (parts (moves_of d))
    parts_within = select-all (λ m. not (is_long 4 m)) (Within (values_of d) (stack_at + area_of d)) (others (moves_of d)) others-within

    bools-below : (n i : ℕ) → i + n ≤ arguments_in d → All (λ k. k < values_of d) (bools_from d i n)
    unfolding bools_from
    bools-below zero i l = tt
    bools-below (suc n) i l = by (is_bool d (argument_at d i)) (bools-below n (i + 1) (omega arith))
      where
        by : (b : Bool) → All (λ k. k < values_of d) (bools_from d (i + 1) n) → All (λ k. k < values_of d) (cond b (value_start d i ∷ bools_from d (i + 1) n) (bools_from d (i + 1) n))
        by true g = (omega (arith, value-inside d accepted i (omega arith), value-some d accepted i (omega arith)), g)
        by false g = g

    pub plan_well_formed : well_formed (plan_of d) ≡ true
    unfolding well_formed
    plan_well_formed =
        rw (
          le-leb 16 (length (plan_of d)) plan_long,
          le-leb (end_of (plan_of d)) (length (plan_of d)) (omega (arith, ends)),
          plan_values,
          plan_area,
          plan_moves,
          plan_bools,
          all-fit (values_of d) (stack_at + area_of d) (eights (moves_of d) ++ (fours (moves_of d) ++ parts (moves_of d)))
              (all_both (Within (values_of d) (stack_at + area_of d)) (eights (moves_of d)) (fours (moves_of d) ++ parts (moves_of d)) eights-within
              (all_both (Within (values_of d) (stack_at + area_of d)) (fours (moves_of d)) (parts (moves_of d)) fours-within parts_within)),
        )
        (bools-fit (bools_from d 0 (arguments_in d)) (bools-below (arguments_in d) 0 (omega arith)))
      where
        ends : length (plan_of d) ≡ end_of (plan_of d)
        ends = unfold plan_of in length-written (head_of d) (eights (moves_of d)) (fours (moves_of d)) (parts (moves_of d)) (bools_from d 0 (arguments_in d))

        bools-fit : (ks : List ℕ) → All (λ k. k < values_of d) ks → all_below (values_of d) ks ≡ true
        bools-fit [] g = refl
        bools-fit (k ∷ ks) g = rw (lt-ltb k (values_of d) g.0, bools-fit ks g.1)

    few-bools : (n i : ℕ) → length (bools_from d i n) ≤ n
    unfolding bools_from
    few-bools zero i = omega arith
    few-bools (suc n) i = by (is_bool d (argument_at d i)) (few-bools n (i + 1))
      where
        by : (b : Bool) → length (bools_from d (i + 1) n) ≤ n → length (cond b (value_start d i ∷ bools_from d (i + 1) n) (bools_from d (i + 1) n)) ≤ suc n
        by true g = omega arith
        by false g = omega arith

    pub few-moves : length (joined (cut (used_first d) 0 (shapes d))) ≤ 78
    few-moves =
        let b = after-bounds eightbytes (shapes d) (used_first d) (fresh-few (hidden d)) (omega arith) in
        omega (
          arith,
          length-joined (cut (used_first d) 0 (shapes d)),
          few-cut (shapes d) (used_first d) 0 (all-shaped d (right d accepted)),
          length-shapes d (arguments_in d) 0,
          arguments-few d (right d accepted),
        )
      where
        fresh-few : (b : Bool) → cond b 1 0 ≤ 6
        fresh-few true = omega arith
        fresh-few false = omega arith

    light : weight (moves_of d) ≤ 312
    unfolding moves_of
    light = omega (arith, weight-halved (joined (cut (used_first d) 0 (shapes d))), few-moves)

    pub plan_room_lem : length (plan_of d) ≤ 392
    unfolding plan_of
    plan_room_lem =
        omega (
          arith,
          length-written (head_of d) (eights (moves_of d)) (fours (moves_of d)) (parts (moves_of d)) (bools_from d 0 (arguments_in d)),
          light,
          few-bools (arguments_in d) 0,
          arguments-few d (right d accepted),
        )

    pub values-few : values_of d ≤ 18432
    unfolding values_of
    values-few =
        omega (
          arith,
          total-few (shapes d) (used_first d) (all-shaped d (right d accepted)),
          length-shapes d (arguments_in d) 0,
          arguments-few d (right d accepted),
          accepted-area d accepted,
          stack-few,
        )

    -- the returned value's moves lie within it and within the return images
    returns-room : Room (parts_of (return_place d) (return_length d)) (return_length d)
    returns-room = returnable_room (return_place d) (return_length d) (accepted-returnable d accepted)

    returns_within : All (Within (return_length d) 96) (move_of (parts_of (return_place d) (return_length d)).low ∷ move_of (parts_of (return_place d) (return_length d)).high ∷ [])
    returns_within = (
      record { source = returns-room.low.source; target = returns-room.low.target },
      (record { source = returns-room.high.source; target = returns-room.high.target }, tt),
    )

    pub plan_returns_formed : returns_formed (plan_of d) ≡ true
    unfolding returns_formed
    plan_returns_formed =
        rw (le-leb 16 (length (plan_of d)) plan_long, plan_returned, plan_return_moves)
        (all-fit (return_length d) 96 (move_of (parts_of (return_place d) (return_length d)).low ∷ move_of (parts_of (return_place d) (return_length d)).high ∷ []) returns_within)

    -- each number has 16 bits
    pub plan_numbers : All (λ x. x < 65536) (plan_of d)
    unfolding plan_of head_of used_at
    plan_numbers =
        let v = values-few in
        let a = accepted-area d accepted in
        let m = light in
        let b = few-bools (arguments_in d) 0 in
        let c = arguments-few d (right d accepted) in
        let n = return_few (return_place d) (return_length d) (accepted-returnable d accepted) in
        let p = returns-room.low in
        let q = returns-room.high in (
          omega arith,
          (
            omega arith,
            (
              omega (arith, after-bounds eightbytes (shapes d) (used_first d) (fresh-few (hidden d)) (omega arith)),
              (
                kind (hidden d) (model_in d),
                (
                  omega arith,
                  (
                    omega arith,
                    (
                      omega arith,
                      (
                        omega arith,
                        (
                          omega arith,
                          (
                            flag (not (is_void d) && is_bool d (return_in d)),
                            (
                              omega (arith, p.source),
                              (
                                omega (arith, p.target),
                                (
                                  omega (arith, p.source),
                                  (
                                    omega (arith, q.source),
                                    (
                                      omega (arith, q.target),
                                      (
                                        omega (arith, q.source),
                                        all_append (λ x. x < 65536) (twos (eights (moves_of d))) _ (twos-below (values_of d) (stack_at + area_of d) 65536 (eights (moves_of d)) (omega arith) (omega arith) eights-within)
                                            (all_append (λ x. x < 65536) (twos (fours (moves_of d))) _ (twos-below (values_of d) (stack_at + area_of d) 65536 (fours (moves_of d)) (omega arith) (omega arith) fours-within)
                                            (all_append (λ x. x < 65536) (threes (parts (moves_of d))) _ (threes-below (values_of d) (stack_at + area_of d) 65536 (parts (moves_of d)) (omega arith) (omega arith) parts_within)
                                            (all_map (λ k h. omega arith) (bools_from d 0 (arguments_in d)) (bools-below (arguments_in d) 0 (omega arith))))),
                                      ),
                                    ),
                                  ),
                                ),
                              ),
                            ),
                          ),
                        ),
                      ),
                    ),
                  ),
                ),
              ),
            ),
          ),
        )
      where
        fresh-few : (b : Bool) → cond b 1 0 ≤ 6
        fresh-few true = omega arith
        fresh-few false = omega arith

        kind : (b : Bool) (m : Model) → cond b (address_kind m) 0 < 65536
        kind true Lp64 = omega arith
        kind true Ilp32 = omega arith
        kind false m = omega arith

        flag : (b : Bool) → cond b 1 0 < 65536
        flag true = omega arith
        flag false = omega arith

pub all-planned : AllPlanned
all-planned d a = record { formed = plan_well_formed d a; returns = plan_returns_formed d a; numbers = plan_numbers d a; room = plan_room_lem d a }
