-- The theorems on putting and taking a returned value, each from the laws of the image and of orders. Assumes nothing.
use Rattle.std.specs.Prelude.{Err, Ok, Result}
use mathlib.Core.Path.{◌≡◌, refl, sym, ap, ap₂, ◌∙◌}
use mathlib.Core.Bool.{Bool, true, false, cond, true≢false}
use mathlib.Core.List.{List, ◌++◌}
use Prim.Native.Nat.{ℕ, ◌≤◌, ◌<◌}
use native.Mathlib.Decide.{dec_lt}
use native.Mathlib.Omega.{arith}
use borrow.Author.Tests.{eq-eqb, ne_eqb, eqb-true}
use lib.Dec.{eqb}
use lib.ListN.{length, get_or, take, drop, length-take, length-drop, length-append, take-append-drop}
use lib.Seq.{take_at, drop_at}
use Rattle.addresses.specs.Addresses.{gather, scatter}
use Rattle.description.specs.Description.{model_in, IsBytes}
use Rattle.form.specs.Reading.{refusal_at, refusal_by}
use Rattle.types.specs.Wrong.{refusal_for}
use Rattle.places.specs.declared.ReturnPlace.{ReturnPlace}
use Rattle.places.specs.declared.ReturnPlace.TheVariants.{Void, Memory, One, Two, St0, St0St1}
use Rattle.places.specs.declared.Register.TheVariants.{General}
use Rattle.layout.specs.Arguments.{return_place, hidden}
use Rattle.layout.specs.Verdict.{verdict}
use Rattle.images.proofs.Words.{upper-zero}
use Rattle.moving.specs.Address.{wrong_address}
use Rattle.moving.proofs.Address.{address_right, address-unused}
use Rattle.moving.proofs.Ilp32.{wide-wrong}
use Rattle.returning.specs.Moved.{upper_at, parts_of, sources, targets}
use Rattle.returning.specs.Image.{in_memory, return_image, return_value, returned_address}
use Rattle.returning.specs.ImageAsks.{Returnable}
use Rattle.returning.specs.Returned.{return_length}
use Rattle.returning.specs.Orders.{put_refusal, take_refusal}
use Rattle.returning.specs.Asks.{Lent}
use Rattle.returning.specs.Answers.{put_answer, image_after, upper_after, images_after, take_answer, value_after, put_number, take_number}
use Rattle.returning.specs.Statements.{Unused, PutsAll, AddressUnseen, TakesPut, SameElsewhere, ReturnsBool, Clean, ComesBack, PutsTaken, UnusedUnseen, RefusalsTold, TwelveExactly, TwentySevenExactly, NeverTwelve, PointerUpper, HiddenUpper, NoSharedImage}
use Rattle.returning.proofs.Values.{memory_hidden, accepted-returnable, bool-place, bool-length, bool-seen, pointer-place, pointer-length}
use Rattle.returning.proofs.Orders.{put-accepted, take-accepted, take-never, put-twenty_seven, put-twelve, put-none, twelve_lent, address-lent, bool-broken, broken-bool, bool-right}
use Rattle.returning.proofs.Images.{blank-unseen, length-image, length-value, value-image, address-image, image-zero, put-image, image-put, image-value, own-address, value_same, address_same}
use Rattle.form.specs.declared.Refusal.{Refusal}

-- ---- what stands in the buffers after a call that is accepted

module _ (d : List ℕ) (h : ℕ) (v i y : List ℕ) (accepted : put_refusal d h v (length i) (length y) ≡ 0) where
  lent : Lent d (length v) (length i) (length y)
  lent = (put-accepted d h v (length i) (length y) accepted).0

  suits : Returnable (return_place d) (return_length d)
  suits = accepted-returnable d lent.accepted

  abbrev put : List ℕ
  put = return_image (return_place d) h v

  image-is : image_after d h v i y ≡ take upper_at put
  unfolding image_after
  image-is = rw (eq-eqb (put_refusal d h v (length i) (length y)) 0 accepted)

  upper_is : upper_after d h v i y ≡ drop upper_at put
  unfolding upper_after
  upper_is = rw (eq-eqb (put_refusal d h v (length i) (length y)) 0 accepted)

  images_are : images_after d h v i y ≡ put
  images_are = ap₂ (λ (x z : List ℕ). x ++ z) image-is upper_is ∙ take-append-drop upper_at put

  put-long : length put ≡ 96
  put-long = length-image (return_place d) (return_length d) suits h v

  image-long : length (image_after d h v i y) ≡ 80
  image-long = ap length image-is ∙ length-take upper_at put ∙ omega (arith, put-long)

  upper_long : length (upper_after d h v i y) ≡ 16
  upper_long = ap length upper_is ∙ length-drop upper_at put ∙ omega (arith, put-long)

module _ (d img up v : List ℕ) (accepted : take_refusal d img up (length v) ≡ 0) where
  value-is : value_after d img up v ≡ return_value (return_place d) (length v) (img ++ up)
  unfolding value_after
  value-is = rw (eq-eqb (take_refusal d img up (length v)) 0 accepted)

  answer-is : take_answer d img up (length v) ≡ Ok (returned_address (return_place d) (img ++ up))
  unfolding take_answer
  answer-is = rw (eq-eqb (take_refusal d img up (length v)) 0 accepted)

-- ---- the theorems

pub puts_all : PutsAll
puts_all d h v i y a img =
    let l = lent d h v i y a in
    let s = suits d h v i y a in (
      λ e. rw (sym (images_are d h v i y a) ∙ e) at (put-image (return_place d) (return_length d) s h v l.value),
      λ j. images_are d h v i y a ∙ image-put (return_place d) (return_length d) s h v img l.value j,
    )

pub address_unseen : AddressUnseen
unfolding put_answer image_after upper_after put_refusal return_image
address_unseen d h g v i y e = (ap answer same, image (take upper_at) i, image (drop upper_at) y)
  where
    none : hidden d ≡ false
    none = sym (memory_hidden d) ∙ e

    answer : ℕ → Result (Unit {0}) Refusal
    answer n = cond (eqb n 0) (Ok tt) (Err (refusal_for d n))

    same : put_refusal d h v (length i) (length y) ≡ put_refusal d g v (length i) (length y)
    same = rw (none, address-unused (model_in d) h, address-unused (model_in d) g)

    image : (f : List ℕ → List ℕ) (before : List ℕ)
        → cond (eqb (put_refusal d h v (length i) (length y)) 0) (f (return_image (return_place d) h v)) before
        ≡ cond (eqb (put_refusal d g v (length i) (length y)) 0) (f (return_image (return_place d) g v)) before
    image f before =
        ap₂ (λ (n : ℕ) (x : List ℕ). cond (eqb n 0) (f (scatter x (targets (return_place d) (length v)) (gather v (sources (return_place d) (length v))))) before) same
        (blank-unseen (in_memory (return_place d)) h g e)

pub takes_put : TakesPut
takes_put d h v i y w b a e =
    let l = lent d h v i y a in
    let s = suits d h v i y a in
    let img = image_after d h v i y in
    let up = upper_after d h v i y in
    let ok : take_refusal d img up (length w) ≡ 0 =
    (take-accepted d img up (length w)).1 (record { accepted = l.accepted; value = e ∙ l.value; image = image-long d h v i y a; upper = upper_long d h v i y a }) in (
      answer-is d img up w ok
          ∙ ap Ok (ap (returned_address (return_place d)) (images_are d h v i y a) ∙ address-image (return_place d) (return_length d) s h v b),
      value-is d img up w ok
          ∙ ap₂ (return_value (return_place d)) (e ∙ l.value) (images_are d h v i y a)
          ∙ value-image (return_place d) (return_length d) s h v l.value,
    )

pub same_elsewhere : SameElsewhere
same_elsewhere Void v e = refl
same_elsewhere Memory v e = refl
same_elsewhere (One a) v e = refl
same_elsewhere (Two a b) v e = refl
same_elsewhere St0 v e = absurd (true≢false e)
same_elsewhere St0St1 v e = absurd (true≢false e)

pub no_shared_image : NoSharedImage
no_shared_image d h v w i y j z a b e f =
    let l = lent d h v i y a in
    let m = lent d h w j z b in
    sym (value-image (return_place d) (return_length d) (suits d h v i y a) h v l.value)
    ∙ ap (return_value (return_place d) (return_length d)) (sym (images_are d h v i y a) ∙ ap₂ (λ (x t : List ℕ). x ++ t) e f ∙ images_are d h w j z b)
    ∙ value-image (return_place d) (return_length d) (suits d h w j z b) h w m.value

module _ (d img up i y v : List ℕ) (as_long : length img ≡ length i) (as_high : length up ≡ length y) where
  refusal-same : take_refusal d img up (length v) ≡ take_refusal d i y (length v)
  unfolding take_refusal
  refusal-same = rw (as_long, as_high)

  refused-same : eqb (take_refusal d img up (length v)) 0 ≡ false → (take_answer d img up (length v) ≡ take_answer d i y (length v)) × (value_after d img up v ≡ value_after d i y v)
  unfolding take_answer value_after
  refused-same t =
      let u : eqb (take_refusal d i y (length v)) 0 ≡ false = rw refusal-same at t in
      (rw (t, u) (ap (λ (m : ℕ). Err (refusal_for d m)) refusal-same), rw (t, u))

pub unused_unseen : UnusedUnseen
unused_unseen d img up i y v e f same = by (eqb (take_refusal d img up (length v)) 0) refl
  where
    by : (b : Bool) → eqb (take_refusal d img up (length v)) 0 ≡ b
        → (take_answer d img up (length v) ≡ take_answer d i y (length v)) × (value_after d img up v ≡ value_after d i y v)
    by false t = refused-same d img up i y v e f t
    by true t =
        let ok = eqb-true (take_refusal d img up (length v)) 0 t in
        let n : length v ≡ return_length d = ((take-accepted d img up (length v)).0 ok).value in
        let other = sym (refusal-same d img up i y v e f) ∙ ok in (
          answer-is d img up v ok ∙ ap Ok (address_same (return_place d) (return_length d) (img ++ up) (i ++ y) same) ∙ sym (answer-is d i y v other),
          value-is d img up v ok ∙ ap (λ (m : ℕ). return_value (return_place d) m (img ++ up)) n ∙ value_same (return_place d) (return_length d) (img ++ up) (i ++ y) same
              ∙ ap (λ (m : ℕ). return_value (return_place d) m (i ++ y)) (sym n) ∙ sym (value-is d i y v other),
        )

-- the number of an answer that is made by whether the number is 0
module _ (d : List ℕ) (n : ℕ) where
  put-told : put_number (cond (eqb n 0) (Ok tt) (Err (refusal_for d n))) ≡ n
  unfolding refusal_for refusal_by refusal_at
  put-told = by (eqb n 0) refl
    where
      by : (b : Bool) → eqb n 0 ≡ b → put_number (cond b (Ok tt) (Err (refusal_for d n))) ≡ n
      by true e = sym (eqb-true n 0 e)
      by false e = refl

  take-told : (h : ℕ) → take_number (cond (eqb n 0) (Ok h) (Err (refusal_for d n))) ≡ n
  unfolding refusal_for refusal_by refusal_at
  take-told h = by (eqb n 0) refl
    where
      by : (b : Bool) → eqb n 0 ≡ b → take_number (cond b (Ok h) (Err (refusal_for d n))) ≡ n
      by true e = sym (eqb-true n 0 e)
      by false e = refl

pub refusals_told : RefusalsTold
unfolding put_answer image_after upper_after take_answer value_after
refusals_told d h v i y = record {
  put = put-told d (put_refusal d h v (length i) (length y));
  unput = λ z. (rw (ne_eqb (put_refusal d h v (length i) (length y)) 0 z), rw (ne_eqb (put_refusal d h v (length i) (length y)) 0 z));
  take = take-told d (take_refusal d i y (length v)) (returned_address (return_place d) (i ++ y));
  untaken = λ z. rw (ne_eqb (take_refusal d i y (length v)) 0 z);
}

-- a _Bool is returned in rax, so that no hidden address is refused
bool-narrow : (d : List ℕ) → verdict d ≡ 0 → ReturnsBool d → (h : ℕ) → wrong_address (model_in d) (hidden d) h ≡ false
bool-narrow d a b h = ap (λ (x : Bool). wrong_address (model_in d) x h) (bool-seen d a b) ∙ address-unused (model_in d) h

pub twelve_exactly : TwelveExactly
twelve_exactly d h v image upper = (
  λ e. let l = twelve_lent d h v image upper e in (l.0, bool-broken d v l.1),
  λ p. put-twelve d h v image upper p.0 (bool-narrow d p.0.accepted p.1.0 h) (broken-bool d v p.1.0 p.1.1),
)

pub twenty_seven_exactly : TwentySevenExactly
twenty_seven_exactly d h v image upper = (
  λ e. let l = address-lent d h v image upper e in (l.0, (wide-wrong d h).0 l.1),
  λ p. put-twenty_seven d h v image upper p.0 ((wide-wrong d h).1 p.1),
)

-- ---- ILP32: the upper half of rax

-- four bytes in rax leave its upper half unused
upper-unused : (k : ℕ) → 4 ≤ k → Unused (One (General (record { 0 = 0 }))) 4 k
unfolding targets parts_of
upper-unused k l = record { absent = ((λ e. omega arith), ((λ e. omega arith), ((λ e. omega arith), ((λ e. omega arith), tt)))); past = λ e. absurd (true≢false (sym e)) }

pub pointer_upper : PointerUpper
pointer_upper d h v i y m a p k l u =
    let ok = (lent d h v i y a).accepted in
    let narrow : length v ≡ 4 = (lent d h v i y a).value ∙ pointer-length d ok p m in
    ((puts_all d h v i y a (images_after d h v i y)).0 refl).zeros k (rw (pointer-place d ok p, narrow) (upper-unused k l))

pub hidden_upper : HiddenUpper
hidden_upper d h v i y m a used k l u =
    let e = ((puts_all d h v i y a (images_after d h v i y)).0 refl).address (memory_hidden d ∙ used) in
    let low : h < 4294967296 = (address_right (model_in d) (hidden d) h).0 (put-accepted d h v (length i) (length y) a).1 m used in
    upper-zero (images_after d h v i y) h low e k l u

pub never_twelve : NeverTwelve
never_twelve d img upper value = take-never d img upper value

-- ---- a value taken and put again

module _ (d img up v i y : List ℕ) (bytes : IsBytes (img ++ up)) (accepted : take_refusal d img up (length v) ≡ 0) (as_long : length i ≡ length img)
    (as_high : length y ≡ length up) where
  abbrev place : ReturnPlace
  place = return_place d

  abbrev n : ℕ
  n = return_length d

  abbrev both : List ℕ
  both = img ++ up

  abbrev value : List ℕ
  value = value_after d img up v

  abbrev own : ℕ
  own = returned_address place both

  fit : Lent d (length v) (length img) (length up)
  fit = (take-accepted d img up (length v)).0 accepted

  fits : Returnable place n
  fits = accepted-returnable d fit.accepted

  taken_is : value ≡ return_value place n both
  taken_is = value-is d img up v accepted ∙ ap (λ (m : ℕ). return_value place m both) fit.value

  taken-long : length value ≡ n
  taken-long = ap length taken_is ∙ length-value place n fits both

  both_long : length both ≡ 96
  both_long = length-append img up ∙ omega (arith, fit.image, fit.upper)

  -- a _Bool's byte is the first of rax
  first_byte : ReturnsBool d → get_or value 0 0 ≡ get_or both 0 0
  first_byte b = ap (λ (x : List ℕ). get_or x 0 0) (taken_is ∙ ap₂ (λ (p : ReturnPlace) (m : ℕ). return_value p m both) (bool-place d fit.accepted b) (bool-length d fit.accepted b)) ∙ one
    where
      one : get_or (return_value (One (General (record { 0 = 0 }))) 1 both) 0 0 ≡ get_or both 0 0
      one = unfold return_value sources targets parts_of in refl

  back-clean : ComesBack d own value img up i y → Clean d both
  back-clean c = record {
    zeros = zeros;
    bool = bool;
    address = (address_right (model_in d) (hidden d) own).0 (put-accepted d own value (length i) (length y) c.accepted).1;
  }
    where
      image : return_image place own value ≡ both
      image = sym (images_are d own value i y c.accepted) ∙ ap₂ (λ (x z : List ℕ). x ++ z) c.again c.above

      zeros : (k : ℕ) → k < length both → Unused place n k → get_or both k 0 ≡ 0
      zeros k l u = ap (λ (x : List ℕ). get_or x k 0) (sym image) ∙ image-zero place n fits own value k taken-long u

      bool : ReturnsBool d → get_or both 0 0 ≤ 1
      bool b = by (dec_lt 1 (get_or value 0 0))
        where
          by : Dec (1 < get_or value 0 0) → get_or both 0 0 ≤ 1
          by (yes m) =
              absurd (omega (
                arith,
                sym c.accepted
                    ∙ put-twelve d own value (length i) (length y) (lent d own value i y c.accepted) (bool-narrow d fit.accepted b own) (broken-bool d value b m),
              ))
          by (no m) = omega (arith, first_byte b)

  clean_back : Clean d both → ComesBack d own value img up i y
  clean_back c = record {
    accepted = ok;
    again = image-is d own value i y ok ∙ ap (take upper_at) back ∙ take_at img up upper_at fit.image;
    above = upper_is d own value i y ok ∙ ap (drop upper_at) back ∙ drop_at img up upper_at fit.image;
  }
    where
      ok : put_refusal d own value (length i) (length y) ≡ 0
      ok =
          put-none d own value (length i) (length y)
          (record { accepted = fit.accepted; value = taken-long; image = as_long ∙ fit.image; upper = as_high ∙ fit.upper })
          ((address_right (model_in d) (hidden d) own).1 c.address)
          (bool-right d value (λ b. omega (arith, first_byte b, c.bool b)))

      back : return_image place own value ≡ both
      back = ap (return_image place own) taken_is ∙ image-value place n fits own both both_long (own-address place n fits both bytes) c.zeros

pub puts_taken : PutsTaken
puts_taken d img up v i y b a e f = (back-clean d img up v i y b a e f, clean_back d img up v i y b a e f)
