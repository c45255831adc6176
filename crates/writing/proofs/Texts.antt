-- The text of a type, part by part. Assumes nothing.
use mathlib.Core.Path.{◌≡◌, refl, sym, ap, ap₂, ◌∙◌}
use mathlib.Core.Bool.{Bool, true, false}
use mathlib.Core.List.{List, [], ◌∷◌, ◌++◌, append_assoc}
use Prim.Native.Nat.{ℕ, suc, ◌+◌, ◌-◌, ◌≤◌, ◌<◌}
use native.Mathlib.Omega.{arith}
use lib.Dec.{eqb}
use lib.ListN.{length, length-append}
use Rattle.description.specs.Description.{model_in, kind_at, a_at, count_at, member_at}
use Rattle.types.specs.Tree.{Tys, basic, group}
use Rattle.types.specs.Decode.{tys_from, ty_at}
use Rattle.types.specs.Asks.{Sized}
use Rattle.types.proofs.Records.{View, v0, v1, v2, view}
use Rattle.types.proofs.Trees.{sized-ruled, at-basic, at-array, at-group, sized-below}
use Rattle.listing.specs.Decimal.{decimal}
use Rattle.listing.specs.declared.texts.Text.{Text}
use Rattle.listing.specs.Puts.{Puts}
use Rattle.listing.proofs.Puts.{puts_none, puts_join, puts_exact, puts_same, puts_behind}
use Rattle.listing.specs.Characters.{bytes}
use Rattle.grammar.specs.Tokens.{spaced}
use Rattle.declaring.specs.Writing.{member_name, sizes_of, type_tokens, member_tokens}
use Rattle.writing.specs.Texts.{words_text, type_text, sizes_text, members_text, group_text, AskMembers}

-- ---- words

pub words-room : (code k at : ℕ) → code ≡ k → at + length (words_text code) ≤ 8192 → at + length (words_text k) ≤ 8192
words-room code k at e h = rw e at h

pub words-is : {j : ℕ} {a b : Text} (code k : ℕ) → code ≡ k → Puts j a b (words_text k) → Puts (length (words_text code)) a b (words_text code)
words-is code k e w = rw e (puts_exact w)

pub group-room : (u v : Bool) (at : ℕ) → u ≡ v → at + length (group_text u) ≤ 8192 → at + length (group_text v) ≤ 8192
group-room u v at e h = rw e at h

pub group-is : {j : ℕ} {a b : Text} (u v : Bool) → u ≡ v → Puts j a b (group_text v) → Puts (length (group_text u)) a b (group_text u)
group-is u v e w = rw e (puts_exact w)

-- ---- texts one behind the other

pub spaced-append : (us vs : List (List ℕ)) → spaced (us ++ vs) ≡ spaced us ++ spaced vs
spaced-append [] vs = refl
spaced-append (w ∷ us) vs = ap (λ (l : List ℕ). w ++ (32 ∷ l)) (spaced-append us vs) ∙ sym (append_assoc w (32 ∷ spaced us) (spaced vs))

-- "m12 ", "[ 12 ] "
abbrev pub name_text : ℕ → List ℕ
name_text i = (109 ∷ []) ++ (decimal i ++ (32 ∷ []))

abbrev pub size_text : ℕ → List ℕ
size_text n = bytes "[ " ++ (decimal n ++ bytes " ] ")

name_spaced : (i : ℕ) (ts : List (List ℕ)) → spaced (member_name i ∷ ts) ≡ name_text i ++ spaced ts
name_spaced i ts = ap (λ (l : List ℕ). 109 ∷ l) (sym (append_assoc (decimal i) (32 ∷ []) (spaced ts)))

size-spaced : (n : ℕ) (ts : List (List ℕ)) → spaced (bytes "[" ∷ decimal n ∷ bytes "]" ∷ ts) ≡ size_text n ++ spaced ts
size-spaced n ts = ap (λ (l : List ℕ). 91 ∷ 32 ∷ l) (sym (append_assoc (decimal n) (bytes " ] ") (spaced ts)))

-- ---- a type, by its kind

module _ (d : List ℕ) (k : ℕ) (s : Sized (model_in d) d k) where
  pub basic-text : kind_at d k ≡ 0 → type_text d k ≡ words_text (a_at d k)
  unfolding type_text words_text type_tokens
  basic-text e = rw (at-basic d k s e) refl

  pub array-text : kind_at d k ≡ 1 → type_text d k ≡ type_text d (a_at d k)
  unfolding type_text type_tokens
  array-text e = rw (at-array d k s e) refl

  pub array-sizes : kind_at d k ≡ 1 → sizes_text d k ≡ size_text (count_at d k) ++ sizes_text d (a_at d k)
  unfolding sizes_text sizes_of
  array-sizes e = rw (at-array d k s e) (size-spaced (count_at d k) (sizes_of (ty_at d (a_at d k))))

  group-sizes : (u : Bool) (ts : Tys) → spaced (sizes_of (group u ts)) ≡ []
  unfolding sizes_of
  group-sizes true ts = refl
  group-sizes false ts = refl

  basic-sizes : (c : ℕ) → spaced (sizes_of (basic c)) ≡ []
  unfolding sizes_of
  basic-sizes c = refl

  pub no_sizes : (kind_at d k ≡ 1 → ⊥) → sizes_text d k ≡ []
  unfolding sizes_text
  no_sizes h = by (view (kind_at d k))
    where
      by : View (kind_at d k) → spaced (sizes_of (ty_at d k)) ≡ []
      by (v0 e) = rw (at-basic d k s e) (basic-sizes (a_at d k))
      by (v1 e) = absurd (h e)
      by (v2 two) = rw (at-group d k s two) (group-sizes (eqb (kind_at d k) 3) (tys_from (ty_at d) d (a_at d k) (count_at d k)))

  group-spaced : (u : Bool) (ts : Tys) → spaced (type_tokens (group u ts)) ≡ group_text u ++ (spaced (member_tokens 0 ts) ++ bytes "} ")
  unfolding type_tokens group_text
  group-spaced true ts = ap (λ (l : List ℕ). bytes "union { " ++ l) (spaced-append (member_tokens 0 ts) (bytes "}" ∷ []))
  group-spaced false ts = ap (λ (l : List ℕ). bytes "struct { " ++ l) (spaced-append (member_tokens 0 ts) (bytes "}" ∷ []))

  pub group-text : 2 ≤ kind_at d k → type_text d k ≡ group_text (eqb (kind_at d k) 3) ++ (members_text d 0 (a_at d k) (count_at d k) ++ bytes "} ")
  unfolding type_text members_text
  group-text two = rw (at-group d k s two) (group-spaced (eqb (kind_at d k) 3) (tys_from (ty_at d) d (a_at d k) (count_at d k)))

  pub group-asks : 2 ≤ kind_at d k → AskMembers d k (a_at d k) (count_at d k)
  group-asks two = record { sized = s; fits = (sized-ruled d k s).run two; lower = (sized-ruled d k s).member two }

-- ---- members

pub members-none : (d : List ℕ) (i j : ℕ) → members_text d i j 0 ≡ []
unfolding members_text member_tokens tys_from
members-none d i j = refl

pub members-more : (d : List ℕ) (i j n : ℕ)
    → members_text d i j (suc n) ≡ type_text d (member_at d j) ++ (name_text i ++ (sizes_text d (member_at d j) ++ (bytes "; " ++ members_text d (suc i) (j + 1) n)))
unfolding members_text member_tokens tys_from type_text sizes_text
members-more d i j n =
    spaced-append (type_tokens (ty_at d (member_at d j))) _
    ∙ ap (λ (l : List ℕ). spaced (type_tokens (ty_at d (member_at d j))) ++ l)
    (name_spaced i (sizes_of (ty_at d (member_at d j)) ++ (bytes ";" ∷ member_tokens (suc i) (tys_from (ty_at d) d (j + 1) n)))
    ∙ ap (λ (l : List ℕ). name_text i ++ l) (spaced-append (sizes_of (ty_at d (member_at d j))) (bytes ";" ∷ member_tokens (suc i) (tys_from (ty_at d) d (j + 1) n))))

-- ---- the loop over the members: i of them are written, up to `next`

abbrev rest : List ℕ → ℕ → ℕ → ℕ → List ℕ
rest d first count i = members_text d i (first + i) (count - i)

pub record Going (d : List ℕ) (first count : ℕ) (before text : Text) (i : ℕ) : Type 0 where
  pub low : i ≤ count
  pub room : text.at + length (members_text d i (first + i) (count - i)) ≤ 8192
  pub done : (e : Text) → Puts (length (members_text d i (first + i) (count - i))) text e (members_text d i (first + i) (count - i))
      → Puts (length (members_text d 0 first count)) before e (members_text d 0 first count)

pub going_first : (d : List ℕ) (first count : ℕ) (text : Text) → text.at + length (members_text d 0 first count) ≤ 8192 → Going d first count text text 0
going_first d first count text h =
    let p : first + 0 ≡ first = omega arith in
    let q : count - 0 ≡ count = omega arith in
    record { low = omega arith; room = rw (p, q) h; done = rw (p, q) (λ e w. w) }

rest_more : (d : List ℕ) (first count i m : ℕ) → i < count → m ≡ member_at d (first + i)
    → members_text d i (first + i) (count - i) ≡ type_text d m ++ (name_text i ++ (sizes_text d m ++ (bytes "; " ++ members_text d (i + 1) (first + (i + 1)) (count - (i + 1)))))
rest_more d first count i m h e =
    let p : count - i ≡ suc (count - (i + 1)) = omega arith in
    let q : first + (i + 1) ≡ first + i + 1 = omega arith in
    let s : i + 1 ≡ suc i = omega arith in
    ap (members_text d i (first + i)) p
    ∙ members-more d i (first + i) (count - (i + 1))
    ∙ rw (e, q) (ap (λ (x : ℕ). type_text d (member_at d (first + i)) ++ (name_text i ++ (sizes_text d (member_at d (first + i)) ++ (bytes "; " ++ members_text d x (first + i + 1) (count - (i + 1)))))) (sym s))

name_length_lem : (i : ℕ) (l : List ℕ) → length (name_text i ++ l) ≡ 2 + length (decimal i) + length l
name_length_lem i l = omega (arith, length-append (name_text i) l, length-append (decimal i) (32 ∷ []))

four-length : (a : List ℕ) (i : ℕ) (s l : List ℕ) → length (a ++ (name_text i ++ (s ++ (bytes "; " ++ l)))) ≡ length a + (2 + length (decimal i)) + length s + 2 + length l
four-length a i s l = omega (arith, length-append a (name_text i ++ (s ++ (bytes "; " ++ l))), name_length_lem i (s ++ (bytes "; " ++ l)), length-append s (bytes "; " ++ l))

-- the room for the member's parts, all of them together
pub member-room : {d : List ℕ} {first count : ℕ} {before text : Text} {i : ℕ} (m : ℕ) → Going d first count before text i → i < count → m ≡ member_at d (first + i)
    → text.at + (length (type_text d m) + (2 + length (decimal i)) + length (sizes_text d m) + 2) ≤ 8192
member-room {d} {first} {count} {i = i} m g h e =
    omega (arith, g.room, ap length (rest_more d first count i m h e), four-length (type_text d m) i (sizes_text d m) (members_text d (i + 1) (first + (i + 1)) (count - (i + 1))))

pub going_next : {d : List ℕ} {first count : ℕ} {before text : Text} {i : ℕ} (m : ℕ) → Going d first count before text i → i < count → m ≡ member_at d (first + i)
    → {j k l n : ℕ} {a b c e : Text}
    → Puts j text a (type_text d m) → Puts k a b (name_text i) → Puts l b c (sizes_text d m) → Puts n c e (bytes "; ")
    → Going d first count before e (i + 1)
going_next {d} {first} {count} {i = i} m g h em u v w x = record {
  low = omega arith;
  room =
      omega (
        arith,
        g.room,
        ap length (rest_more d first count i m h em),
        four-length (type_text d m) i (sizes_text d m) (members_text d (i + 1) (first + (i + 1)) (count - (i + 1))),
        puts_behind u,
        puts_behind v,
        puts_behind w,
        puts_behind x,
        length-append (decimal i) (32 ∷ []),
      );
  done = λ z y. g.done z (puts_exact (puts_same (puts_join u (puts_join v (puts_join w (puts_join x y)))) (sym (rest_more d first count i m h em))));
}

pub going_end : {d : List ℕ} {first count : ℕ} {before text : Text} {i : ℕ} → Going d first count before text i → count ≤ i
    → Puts (length (members_text d 0 first count)) before text (members_text d 0 first count)
going_end {d} {first} {count} {text = text} {i = i} g h =
    let p : count - i ≡ 0 = omega arith in
    let none : members_text d i (first + i) (count - i) ≡ [] = ap (members_text d i (first + i)) p ∙ members-none d i (first + i) in
    g.done text (puts_exact (puts_same (puts_none text) (sym none)))

-- ---- what is asked and what is written, by the kind

module _ (d : List ℕ) (k : ℕ) (s : Sized (model_in d) d k) where
  pub sizes-room : (n e start : ℕ) → kind_at d k ≡ 1 → n ≡ count_at d k → e ≡ a_at d k → start + length (sizes_text d k) ≤ 8192
      → start + (5 + length (decimal n)) + length (sizes_text d e) ≤ 8192
  sizes-room n e start one en ee h =
      rw (en, ee)
      (omega (arith, h, ap length (array-sizes d k s one), length-append (size_text (count_at d k)) (sizes_text d (a_at d k)), length-append (decimal (count_at d k)) (bytes " ] ")))

  pub sizes-done : {i j : ℕ} {x y z : Text} (n e : ℕ) → kind_at d k ≡ 1 → n ≡ count_at d k → e ≡ a_at d k
      → Puts i x y (size_text n) → Puts j y z (sizes_text d e) → Puts (length (sizes_text d k)) x z (sizes_text d k)
  sizes-done n e one en ee v w =
      puts_exact (puts_same (puts_join v w) (ap₂ (λ (m f : ℕ). size_text m ++ sizes_text d f) en ee ∙ sym (array-sizes d k s one)))

  pub sizes-none : (x : Text) → (kind_at d k ≡ 1 → ⊥) → Puts (length (sizes_text d k)) x x (sizes_text d k)
  sizes-none x h = puts_exact (puts_same (puts_none x) (sym (no_sizes d k s h)))

  pub basic-room : (a start : ℕ) → kind_at d k ≡ 0 → a ≡ a_at d k → start + length (type_text d k) ≤ 8192 → (a < 17) × (start + length (words_text a) ≤ 8192)
  basic-room a start e ea h = (omega (arith, (sized-ruled d k s).code e), rw (ea, ← basic-text d k s e) h)

  pub basic-done : {i : ℕ} {x y : Text} (a : ℕ) → kind_at d k ≡ 0 → a ≡ a_at d k → Puts i x y (words_text a) → Puts (length (type_text d k)) x y (type_text d k)
  basic-done a e ea w = puts_exact (puts_same w (ap words_text ea ∙ sym (basic-text d k s e)))

  pub element-below : (a : ℕ) → kind_at d k ≡ 1 → a ≡ a_at d k → a < k
  element-below a e ea = omega (arith, (sized-ruled d k s).element e)

  pub array-room : (a start : ℕ) → kind_at d k ≡ 1 → a ≡ a_at d k → start + length (type_text d k) ≤ 8192 → start + length (type_text d a) ≤ 8192
  array-room a start e ea h = rw (ea, ← array-text d k s e) h

  pub array-done : {i : ℕ} {x y : Text} (a : ℕ) → kind_at d k ≡ 1 → a ≡ a_at d k → Puts i x y (type_text d a) → Puts (length (type_text d k)) x y (type_text d k)
  array-done a e ea w = puts_exact (puts_same w (ap (type_text d) ea ∙ sym (array-text d k s e)))

  module _ (u : Bool) (a n : ℕ) (eu : u ≡ eqb (kind_at d k) 3) (ea : a ≡ a_at d k) (en : n ≡ count_at d k) (two : 2 ≤ kind_at d k) where
    group-whole : type_text d k ≡ group_text u ++ (members_text d 0 a n ++ bytes "} ")
    group-whole = rw (eu, ea, en) (group-text d k s two)

    pub members-asked : AskMembers d k a n
    members-asked = rw (ea, en) (group-asks d k s two)

    pub group-all : (start : ℕ) → start + length (type_text d k) ≤ 8192 → start + length (group_text u) + length (members_text d 0 a n) + 2 ≤ 8192
    group-all start h =
        omega (arith, h, ap length group-whole, length-append (group_text u) (members_text d 0 a n ++ bytes "} "), length-append (members_text d 0 a n) (bytes "} "))

    pub group-done : {i j l : ℕ} {x y z w : Text} → Puts i x y (group_text u) → Puts j y z (members_text d 0 a n) → Puts l z w (bytes "} ")
        → Puts (length (type_text d k)) x w (type_text d k)
    group-done f v w = puts_exact (puts_same (puts_join f (puts_join v w)) (sym group-whole))

pub member-sized : {d : List ℕ} {k first count : ℕ} (i m : ℕ) → AskMembers d k first count → i < count → m ≡ member_at d (first + i) → (m < k) × Sized (model_in d) d m
member-sized {d} {k} {first} {count} i m h l e =
    let low : m < k = omega (arith, e, h.lower (first + i) (omega arith) (omega arith)) in
    (low, sized-below d k h.sized m low)

pub name_text-length : (i : ℕ) → length (name_text i) ≡ 2 + length (decimal i)
name_text-length i = omega (arith, length-append (decimal i) (32 ∷ []))

pub size-length : (n : ℕ) → length (size_text n) ≡ 5 + length (decimal n)
size-length n = omega (arith, length-append (decimal n) (bytes " ] "))
