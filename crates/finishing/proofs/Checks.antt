-- The checks as code makes them: the types one by one, and the sum of the sizes. Assumes nothing.
use Rattle.std.specs.Prelude.{Ok, Err, Result}
use mathlib.Core.Path.{◌≡◌, refl, sym, ap, ap₂, ◌∙◌}
use mathlib.Core.Logic.{◌≢◌}
use mathlib.Core.Bool.{true, false}
use mathlib.Core.List.{List, [], ◌∷◌}
use Prim.Native.Nat.{ℕ, suc, ◌+◌, ◌*◌, ◌-◌, ◌≤◌, ◌<◌}
use native.Mathlib.Omega.{arith}
use lib.ListN.{length, get_or, drop}
use lib.Seq.{drop-cons, drop-length}
use borrow.Author.Tests.{eq-eqb, ne_eqb}
use Rattle.description.specs.Description.{byte_at, types_in, arguments_in, argument_at, model_in}
use Rattle.types.specs.declared.Extent.{Extent}
use Rattle.types.specs.Table.{IsEntry}
use Rattle.types.specs.Decode.{ty_at}
use Rattle.types.specs.Size.{size_ty}
use Rattle.types.proofs.Table.{entry-extent}
use Rattle.classify.specs.Table.{Tabled}
use Rattle.uses.specs.Uses.{uses_refusal}
use Rattle.places.specs.Shapes.{Shape, shape_of}
use Rattle.layout.specs.Arguments.{shape_at as layout_shape}
use Rattle.layout.proofs.Bounds.{argument-known, argument-small, types-few}
use Rattle.form.specs.Reading.{refusal_of}
use Rattle.form.specs.declared.Refusal.{Refusal}
use Rattle.layout.specs.declared.Layout.{Layout}
use Rattle.layout.specs.Layout.{layout_of, layout_answer}
use Rattle.station.specs.declared.Station.{Station}
use Rattle.station.specs.Paper.{kcb, answer_under, shape_at, area_of}
use Rattle.station.proofs.Attachments.{under-refused, under-done}
use Rattle.station.proofs.Kcb.{laid-right, kcb-arguments, kcb-type, kcb-shape, kcb-area}
use Rattle.walk.specs.declared.Walk.{Walk}
use Rattle.walk.specs.Orders.{asking, other_number, astray, wrong_stack}
use Rattle.walk.proofs.Checks.{astray-not}
use Rattle.finishing.specs.Rest.{AskRest, remaining, wrong_count, differs, other_types, sizes_from, wrong_room, later_refusal}
use Rattle.finishing.specs.Asks.{Judged}
use Rattle.finishing.proofs.Orders.{later-17, later-18, later-24, later-20, later-stack, later-room, later-none, later-passes}
use Rattle.finishing.proofs.Moves.{sizes-next}

-- ---- 20, type by type

-- the types from the i-th on differ exactly where all do: none before it did
pub record Alike (d asked : List ℕ) (p i : ℕ) : Type 0 where
  pub within : i ≤ length asked
  pub rest : differs kcb d p asked ≡ differs kcb d (p + i) (drop i asked)

pub alike-first : (d asked : List ℕ) (p : ℕ) → Alike d asked p 0
alike-first d asked p = let e : p ≡ p + 0 = omega arith in record { within = omega arith; rest = ap (λ (q : ℕ). differs kcb d q asked) e }

module _ (d asked : List ℕ) (p i : ℕ) (h : Alike d asked p i) (l : i < length asked) (few : p + length asked ≡ arguments_in d) (t : ℕ) (e : t ≡ argument_at d (p + i)) where
  rest-is : differs kcb d p asked ≡ differs kcb d (p + i) (byte_at asked i ∷ drop (suc i) asked)
  rest-is = h.rest ∙ ap (differs kcb d (p + i)) (drop-cons asked i 0 l)

  pub alike-not : t ≢ byte_at asked i → true ≡ differs kcb d p asked
  alike-not q = sym (rest-is ∙ rw (kcb-type d (p + i) (omega arith), ne_eqb (byte_at asked i) (argument_at d (p + i)) (λ z. q (e ∙ sym z))))

  pub alike-on : t ≡ byte_at asked i → Alike d asked p (i + 1)
  alike-on q =
      let n : suc (p + i) ≡ p + (i + 1) = omega arith in
      let m : suc i ≡ i + 1 = omega arith in
      record {
        within = omega arith;
        rest = rest-is ∙ rw (kcb-type d (p + i) (omega arith), eq-eqb (byte_at asked i) (argument_at d (p + i)) (sym q ∙ e))
            (ap₂ (λ (a b : ℕ). differs kcb d a (drop b asked)) n m);
      }

pub alike_end : (d asked : List ℕ) (p i : ℕ) → Alike d asked p i → length asked ≤ i → false ≡ differs kcb d p asked
alike_end d asked p i h l =
    let e : i ≡ length asked = omega (arith, h.within) in
    sym (h.rest ∙ ap (λ (j : ℕ). differs kcb d (p + i) (drop j asked)) e ∙ ap (differs kcb d (p + i)) (drop-length asked))

-- ---- the sizes, summed

pub record Summed (d : List ℕ) (p at sum : ℕ) : Type 0 where
  pub within : at ≤ arguments_in d
  pub few : at ≤ 64
  pub small : sum ≤ 4096 * at
  pub rest : sum + sizes_from kcb d at (arguments_in d - at) ≡ sizes_from kcb d p (arguments_in d - p)

pub summed_first : (d : List ℕ) (p : ℕ) → p ≤ arguments_in d → arguments_in d ≤ 64 → Summed d p p 0
summed_first d p l few = record { within = l; few = omega arith; small = omega arith; rest = omega arith }

pub summed_on : (d : List ℕ) (p at sum more next : ℕ) → Summed d p at sum → at < arguments_in d → arguments_in d ≤ 64 → more ≡ (shape_at kcb d at).size → more ≤ 4096
    → next ≡ sum + more → Summed d p (at + 1) next
summed_on d p at sum more next h l few e s n =
    let m : suc at ≡ at + 1 = omega arith in
    let z = sizes-next kcb d at (arguments_in d) l in
    let v : sizes_from kcb d (suc at) (arguments_in d - suc at) ≡ sizes_from kcb d (at + 1) (arguments_in d - (at + 1)) = ap (λ (i : ℕ). sizes_from kcb d i (arguments_in d - i)) m in
    record {
      within = omega arith;
      few = omega arith;
      small = omega (arith, h.small);
      rest = omega (arith, h.rest, z, v);
    }

pub summed_end : (d : List ℕ) (p at sum : ℕ) → Summed d p at sum → arguments_in d ≤ at → sum ≡ sizes_from kcb d p (arguments_in d - p)
summed_end d p at sum h l =
    let z : arguments_in d - at ≡ 0 = omega arith in
    let v : sizes_from kcb d at (arguments_in d - at) ≡ 0 = rw z in
    omega (arith, h.rest, v)

-- the size of argument p, by the table
pub extent_size : (d t : List ℕ) → uses_refusal d ≡ 0 → Tabled d t → (p k : ℕ) → p < arguments_in d → k ≡ argument_at d p → (r : Extent) → IsEntry (get_or t k 0) r
    → (r.size.0 ≡ (shape_at kcb d p).size) × (r.size.0 ≤ 4096)
unfolding layout_shape shape_of
extent_size d t u w p k l q r e =
    let known : k < types_in d = rw q (argument-known d u p l) in
    let same : r.size.0 ≡ (layout_shape d p).size = (entry-extent d t (types_in d) w.sizes k known r e).size ∙ ap (λ (j : ℕ). size_ty (model_in d) (ty_at d j)) q in
    (same ∙ ap (λ (z : Shape). z.size) (sym (kcb-shape d p l)), omega (arith, same, (argument-small d u p l).size))

pub type-low : (d : List ℕ) → uses_refusal d ≡ 0 → (p k : ℕ) → p < arguments_in d → k ≡ argument_at d p → k < 64
type-low d u p k l e = let x = argument-known d u p l in omega (arith, types-few d u)

-- ---- what comes behind 1 to 10, check after check

module _ (s : Station) (d : List ℕ) (w : Walk) (stack asked : List ℕ) (n : ℕ) where
  abbrev Later : Result (Unit {0}) Refusal → Type 0
  Later r = r ≡ answer_under kcb d (later_refusal kcb s d w stack asked n) (tt {0})

  own : (m : ℕ) (r : Refusal) → r ≡ refusal_of m → 7 < m → m ≡ later_refusal kcb s d w stack asked n → Later (Err r)
  own m r e l q = under-refused kcb d _ m r tt e l (sym q)

  pub later-other : (r : Refusal) → r ≡ refusal_of 17 → w.number ≢ s.number → Later (Err r)
  unfolding other_number
  later-other r e h = own 17 r e (omega arith) (later-17 kcb s d w stack asked n (rw (ne_eqb w.number s.number h)))

  module _ (same : w.number ≡ s.number) where
    same_number : other_number s w ≡ false
    unfolding other_number
    same_number = rw (eq-eqb w.number s.number same)

    pub later-astray : (r : Refusal) → r ≡ refusal_of 18 → astray kcb d w ≡ true → Later (Err r)
    later-astray r e h = own 18 r e (omega arith) (later-18 kcb s d w stack asked n same_number h)

    module _ (on : astray kcb d w ≡ false) where
      -- where the record is not astray it stands at A at most
      pub at_most : w.position ≤ arguments_in d
      at_most = omega (arith, (astray-not kcb d w on).to, kcb-arguments d)

      pub later-count : (r : Refusal) → r ≡ refusal_of 24 → length asked ≢ arguments_in d - w.position → Later (Err r)
      unfolding wrong_count remaining
      later-count r e h = own 24 r e (omega arith) (later-24 kcb s d w stack asked n same_number on (rw (kcb-arguments d, ne_eqb (length asked) (arguments_in d - w.position) h)))

      module _ (count : length asked ≡ arguments_in d - w.position) where
        right_count : wrong_count kcb d w asked ≡ false
        unfolding wrong_count remaining
        right_count = rw (kcb-arguments d, eq-eqb (length asked) (arguments_in d - w.position) count)

        -- the types asked end where the arguments do
        pub count-whole : w.position + length asked ≡ arguments_in d
        count-whole = omega (arith, at_most)

        pub later-type : (r : Refusal) → r ≡ refusal_of 20 → differs kcb d w.position asked ≡ true → Later (Err r)
        unfolding other_types
        later-type r e h = own 20 r e (omega arith) (later-20 kcb s d w stack asked n same_number on right_count h)

        module _ (types : differs kcb d w.position asked ≡ false) where
          right_types : other_types kcb d w asked ≡ false
          unfolding other_types
          right_types = types

          pub later-image : (r : Refusal) → r ≡ refusal_of 11 → length stack ≢ area_of kcb d → Later (Err r)
          unfolding wrong_stack
          later-image r e h =
              own 11 r e (omega arith) (later-stack kcb s d w stack asked n same_number on right_count right_types (rw (ne_eqb (length stack) (area_of kcb d) h)))

          module _ (image : length stack ≡ area_of kcb d) where
            right_stack : wrong_stack kcb d (asking [] stack 0 []) ≡ false
            unfolding wrong_stack
            right_stack = rw (eq-eqb (length stack) (area_of kcb d) image)

            module _ (sum : ℕ) (sized : sum ≡ sizes_from kcb d w.position (arguments_in d - w.position)) where
              sum_is : sizes_from kcb d w.position (remaining kcb d w) ≡ sum
              unfolding remaining
              sum_is = rw (kcb-arguments d) (sym sized)

              pub later-short : (r : Refusal) → r ≡ refusal_of 11 → n ≢ sum → Later (Err r)
              unfolding wrong_room
              later-short r e h =
                  own 11 r e (omega arith) (later-room kcb s d w stack asked n same_number on right_count right_types right_stack (rw (sum_is, ne_eqb n sum h)))

              pub later-right : n ≡ sum → Later (Ok tt)
              unfolding wrong_room
              later-right h =
                  under-done kcb d _ tt tt (sym (later-none kcb s d w stack asked n same_number on right_count right_types right_stack (rw (sum_is, eq-eqb n sum h)))) refl

-- ---- where the layout is known

pub laid-area : (d : List ℕ) (l : Layout) → layout_answer d ≡ Ok l → l.area.0 ≡ area_of kcb d
unfolding layout_of
laid-area d l e = ap (λ (m : Layout). m.area.0) (laid-right d l e).1 ∙ sym (kcb-area d)

-- where none of 17, 18, 24, 20 and the late 11 refuses, nothing is left to refuse
pub later-judged : (s : Station) (d : List ℕ) (w : Walk) (a : AskRest) → uses_refusal d ≡ 0
    → later_refusal kcb s d w a.stack a.asked (length a.out) ≡ 0 → length a.registers ≡ 176
    → Judged d w (length a.registers) (length a.stack) (length a.out)
later-judged s d w a u z r =
    let g = later-passes kcb s d w a.stack a.asked (length a.out) z in
    record { uses = u; on = g.on; registers = r; stack = g.image; out = g.room }
