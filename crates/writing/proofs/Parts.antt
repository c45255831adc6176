-- The text of a description's named part, part by part. Assumes nothing.
use mathlib.Core.Path.{◌≡◌, refl, sym, ap, ◌∙◌}
use mathlib.Core.Bool.{Bool, true, false}
use mathlib.Core.List.{List, [], ◌∷◌, ◌++◌}
use Prim.Native.Nat.{ℕ, suc, ◌+◌, ◌-◌, ◌≤◌, ◌<◌}
use native.Mathlib.Omega.{arith}
use borrow.Author.Tests.{eq-eqb, ne_eqb, leb-false}
use lib.Dec.{eqb, leb}
use lib.ListN.{length, length-append}
use Rattle.description.specs.Description.{model_in, types_in, variadic_in, named_in, arguments_in, return_in, argument_at, kind_at}
use Rattle.form.proofs.Form.{or_none, accepted-headed}
use Rattle.types.specs.Decode.{ty_at}
use Rattle.types.specs.Asks.{Sized}
use Rattle.types.proofs.Large.{accepted-form, accepted-sized}
use Rattle.uses.specs.Uses.{wrong_number, uses_refusal}
use Rattle.uses.proofs.Uses.{accepted-types, accepted-typed, accepted-return}
use Rattle.layout.specs.Arguments.{is_void}
use Rattle.listing.specs.declared.texts.Text.{Text}
use Rattle.listing.specs.Puts.{Puts}
use Rattle.listing.proofs.Puts.{puts_join, puts_exact, puts_same, puts_behind}
use Rattle.listing.specs.Characters.{bytes}
use Rattle.grammar.specs.Tokens.{spaced}
use Rattle.declaring.specs.Writing.{type_tokens, result_tokens, further_tokens, parameter_tokens, declaration_tokens, declaration_text}
use Rattle.tidying.specs.Call.{trees_from, returned_by}
use Rattle.declaring.specs.Named.{result_of, declaration_of, written_text}
use Rattle.writing.specs.Texts.{type_text}
use Rattle.writing.proofs.Texts.{spaced-append}
use Rattle.writing.specs.Parts.{result_text, further_text, parameters_text, end_text, empty_text}

-- ---- what an accepted description has

module _ (d : List ℕ) (right : uses_refusal d ≡ 0) where
  pub headed : 11 ≤ length d
  headed = accepted-headed d (accepted-form d (accepted-types d right))

  pub argument-sized : (i : ℕ) → i < arguments_in d → Sized (model_in d) d (argument_at d i)
  argument-sized i l = accepted-sized d (accepted-types d right) (argument_at d i) ((accepted-typed d right).below i l)

  pub return_sized : (t : ℕ) → t ≡ return_in d → (t ≡ 255 → ⊥) → Sized (model_in d) d t
  unfolding wrong_number
  return_sized t e h =
      let p = (or_none (leb (types_in d) (return_in d)) (eqb (kind_at d (return_in d)) 1) (accepted-return d right (ne_eqb (return_in d) 255 (λ q. h (e ∙ q))))).0 in
      rw e (accepted-sized d (accepted-types d right) (return_in d) (leb-false (types_in d) (return_in d) p))

-- ---- the result

pub result-void : (d : List ℕ) (t : ℕ) → t ≡ return_in d → t ≡ 255 → result_text d ≡ bytes "void "
unfolding result_text returned_by is_void
result-void d t e h = rw (eq-eqb (return_in d) 255 (sym e ∙ h)) refl

pub result-type : (d : List ℕ) (t : ℕ) → t ≡ return_in d → (t ≡ 255 → ⊥) → result_text d ≡ type_text d t
unfolding result_text returned_by is_void type_text
result-type d t e h = rw (ne_eqb (return_in d) 255 (λ q. h (e ∙ q)), e) refl

-- ---- a text that is written as another that equals it

pub as_room : (s t : List ℕ) (start : ℕ) → s ≡ t → start + length s ≤ 8192 → start + length t ≤ 8192
as_room s t start e h = rw e at h

pub as_put : {j : ℕ} {a b : Text} (s t : List ℕ) → s ≡ t → Puts j a b t → Puts (length s) a b s
as_put s t e w = puts_exact (puts_same w (sym e))

-- ---- arguments

end_spaced : (v : Bool) → spaced (further_tokens v []) ≡ end_text v
unfolding further_tokens end_text
end_spaced true = refl
end_spaced false = refl

empty-spaced : (v : Bool) → spaced (parameter_tokens v []) ≡ empty_text v
unfolding parameter_tokens empty_text
empty-spaced true = refl
empty-spaced false = refl

pub further_none : (d : List ℕ) (i : ℕ) → further_text d i 0 ≡ end_text (eqb (variadic_in d) 1)
unfolding further_text trees_from
further_none d i = end_spaced (eqb (variadic_in d) 1)

pub further_more : (d : List ℕ) (i n : ℕ) → further_text d i (suc n) ≡ bytes ", " ++ (type_text d (argument_at d i) ++ further_text d (i + 1) n)
unfolding further_text further_tokens trees_from type_text
further_more d i n =
    ap (λ (l : List ℕ). bytes ", " ++ l) (spaced-append (type_tokens (ty_at d (argument_at d i))) (further_tokens (eqb (variadic_in d) 1) (trees_from d (i + 1) n)))

parameters_zero : (d : List ℕ) (n : ℕ) → n ≡ 0 → spaced (parameter_tokens (eqb (variadic_in d) 1) (trees_from d 0 n)) ≡ empty_text (eqb (variadic_in d) 1)
unfolding trees_from
parameters_zero d n h = rw h (empty-spaced (eqb (variadic_in d) 1))

pub parameters_none : (d : List ℕ) (n f : ℕ) → n ≡ named_in d → n ≡ 0 → f ≡ variadic_in d → parameters_text d ≡ empty_text (eqb f 1)
unfolding parameters_text
parameters_none d n f e h ef = parameters_zero d (named_in d) (sym e ∙ h) ∙ ap (λ (x : ℕ). empty_text (eqb x 1)) (sym ef)

parameters_suc : (d : List ℕ) (n m : ℕ) → n ≡ suc m → spaced (parameter_tokens (eqb (variadic_in d) 1) (trees_from d 0 n)) ≡ type_text d (argument_at d 0) ++ further_text d 1 m
unfolding trees_from parameter_tokens further_text type_text
parameters_suc d n m h =
    rw h (spaced-append (type_tokens (ty_at d (argument_at d 0))) (further_tokens (eqb (variadic_in d) 1) (trees_from d 1 m)))

pub parameters_some : (d : List ℕ) (n t : ℕ) → n ≡ named_in d → (n ≡ 0 → ⊥) → t ≡ argument_at d 0 → parameters_text d ≡ type_text d t ++ further_text d 1 (named_in d - 1)
unfolding parameters_text
parameters_some d n t e h et =
    rw et (parameters_suc d (named_in d) (named_in d - 1) (omega (arith, e, h)))

-- ---- the loop over the arguments

pub record Listing (d : List ℕ) (before text : Text) (i : ℕ) : Type 0 where
  pub low : i ≤ named_in d
  pub room : text.at + length (further_text d i (named_in d - i)) ≤ 8192
  pub done : (e : Text) → Puts (length (further_text d i (named_in d - i))) text e (further_text d i (named_in d - i))
      → Puts (length (further_text d 1 (named_in d - 1))) before e (further_text d 1 (named_in d - 1))

pub listing-first : (d : List ℕ) (text : Text) → 1 ≤ named_in d → text.at + length (further_text d 1 (named_in d - 1)) ≤ 8192 → Listing d text text 1
listing-first d text l h = record { low = l; room = h; done = λ e w. w }

listing-more : (d : List ℕ) (i t : ℕ) → i < named_in d → t ≡ argument_at d i → further_text d i (named_in d - i) ≡ bytes ", " ++ (type_text d t ++ further_text d (i + 1) (named_in d - (i + 1)))
listing-more d i t h e =
    let p : named_in d - i ≡ suc (named_in d - (i + 1)) = omega arith in
    ap (further_text d i) p ∙ further_more d i (named_in d - (i + 1)) ∙ ap (λ (x : ℕ). bytes ", " ++ (type_text d x ++ further_text d (i + 1) (named_in d - (i + 1)))) (sym e)

pub argument-room : {d : List ℕ} {before text : Text} {i : ℕ} (t : ℕ) → Listing d before text i → i < named_in d → t ≡ argument_at d i
    → text.at + 2 + length (type_text d t) ≤ 8192
argument-room {d} {i = i} t g h e =
    omega (arith, g.room, ap length (listing-more d i t h e), length-append (type_text d t) (further_text d (i + 1) (named_in d - (i + 1))))

pub listing-next : {d : List ℕ} {before text : Text} {i : ℕ} (t : ℕ) → Listing d before text i → i < named_in d → t ≡ argument_at d i
    → {j k : ℕ} {a b : Text} → Puts j text a (bytes ", ") → Puts k a b (type_text d t) → Listing d before b (i + 1)
listing-next {d} {i = i} t g h e u v = record {
  low = omega arith;
  room = omega (arith, g.room, ap length (listing-more d i t h e), length-append (type_text d t) (further_text d (i + 1) (named_in d - (i + 1))), puts_behind u, puts_behind v);
  done = λ z y. g.done z (puts_exact (puts_same (puts_join u (puts_join v y)) (sym (listing-more d i t h e))));
}

listing-all : (d : List ℕ) (i f : ℕ) → named_in d ≤ i → f ≡ variadic_in d → further_text d i (named_in d - i) ≡ end_text (eqb f 1)
listing-all d i f h ef =
    let p : named_in d - i ≡ 0 = omega arith in
    ap (further_text d i) p ∙ further_none d i ∙ ap (λ (x : ℕ). end_text (eqb x 1)) (sym ef)

pub end_room : {d : List ℕ} {before text : Text} {i : ℕ} (f : ℕ) → Listing d before text i → named_in d ≤ i → f ≡ variadic_in d → text.at + length (end_text (eqb f 1)) ≤ 8192
end_room {d} {text = text} {i = i} f g h ef = as_room (further_text d i (named_in d - i)) (end_text (eqb f 1)) text.at (listing-all d i f h ef) g.room

pub listing-end : {d : List ℕ} {before text : Text} {i : ℕ} (f : ℕ) → Listing d before text i → named_in d ≤ i → f ≡ variadic_in d
    → {j : ℕ} {a : Text} → Puts j text a (end_text (eqb f 1)) → Puts (length (further_text d 1 (named_in d - 1))) before a (further_text d 1 (named_in d - 1))
listing-end {d} {i = i} f g h ef {a = a} w = g.done a (as_put (further_text d i (named_in d - i)) (end_text (eqb f 1)) (listing-all d i f h ef) w)

-- ---- the flags of the small functions

pub end_is : (v w : Bool) → v ≡ w → end_text v ≡ end_text w
end_is v w e = ap end_text e

pub empty-is : (v w : Bool) → v ≡ w → empty_text v ≡ empty_text w
empty-is v w e = ap empty_text e

-- ---- the whole

pub whole-text : (d : List ℕ) → written_text d ≡ result_text d ++ (bytes "f ( " ++ (parameters_text d ++ bytes ") ; "))
unfolding written_text declaration_text declaration_tokens declaration_of result_text parameters_text
whole-text d =
    spaced-append (result_tokens (result_of (returned_by d))) (bytes "f" ∷ bytes "(" ∷ (parameter_tokens (eqb (variadic_in d) 1) (trees_from d 0 (named_in d)) ++ (bytes ")" ∷ bytes ";" ∷ [])))
    ∙ ap (λ (l : List ℕ). spaced (result_tokens (result_of (returned_by d))) ++ (bytes "f ( " ++ l)) (spaced-append (parameter_tokens (eqb (variadic_in d) 1) (trees_from d 0 (named_in d))) (bytes ")" ∷ bytes ";" ∷ []))

pub whole_room : (d : List ℕ) (start : ℕ) → start + length (written_text d) ≤ 8192 → start + length (result_text d) + 4 + length (parameters_text d) + 4 ≤ 8192
whole_room d start h =
    omega (arith, h, ap length (whole-text d), length-append (result_text d) (bytes "f ( " ++ (parameters_text d ++ bytes ") ; ")), length-append (parameters_text d) (bytes ") ; "))

pub whole-done : (d : List ℕ) {i j k l : ℕ} {x y z w v : Text}
    → Puts i x y (result_text d) → Puts j y z (bytes "f ( ") → Puts k z w (parameters_text d) → Puts l w v (bytes ") ; ") → Puts (length (written_text d)) x v (written_text d)
whole-done d a b c e = puts_exact (puts_same (puts_join a (puts_join b (puts_join c e))) (sym (whole-text d)))

pub parameters_room : (d : List ℕ) (n t start : ℕ) → n ≡ named_in d → (n ≡ 0 → ⊥) → t ≡ argument_at d 0 → start + length (parameters_text d) ≤ 8192
    → start + length (type_text d t) + length (further_text d 1 (named_in d - 1)) ≤ 8192
parameters_room d n t start e h et r =
    omega (arith, r, ap length (parameters_some d n t e h et), length-append (type_text d t) (further_text d 1 (named_in d - 1)))

pub parameters_done : (d : List ℕ) (n t : ℕ) → n ≡ named_in d → (n ≡ 0 → ⊥) → t ≡ argument_at d 0 → {i j : ℕ} {x y z : Text}
    → Puts i x y (type_text d t) → Puts j y z (further_text d 1 (named_in d - 1)) → Puts (length (parameters_text d)) x z (parameters_text d)
parameters_done d n t e h et v w = puts_exact (puts_same (puts_join v w) (sym (parameters_some d n t e h et)))
