-- Each piece of a sentence keeps the numbers the image of the types. Assumes nothing.
use mathlib.Core.Path.{◌≡◌, refl, sym, ap, ap₂, ◌∙◌}
use mathlib.Core.Bool.{Bool, true, false, cond}
use mathlib.Core.List.{List, [], ◌∷◌, ◌++◌, map}
use Prim.Native.Nat.{ℕ}
use native.Mathlib.Omega.{arith}
use lib.ListN.{length, take}
use Rattle.types.specs.Tree.{Ty, Tys, basic, group}
use Rattle.tidying.specs.Call.{Returned, returned}
use Rattle.tidying.specs.Call as call
use Rattle.tidying.specs.Numbering.{index_of, completed, reached, reached_all, reached_by, reached_from}
use Rattle.tidying.specs.Ordered.{AllBelow, Below, Ordered}
use Rattle.tidying.specs.Tidy.{numbers_of, return_number}
use Rattle.tidying.proofs.Tables.{Grows}
use Rattle.tidying.proofs.Reached.{reach, reach_by, reach_from, Numbered, ReturnNumbered, return_index, ordered-none}
use Rattle.grammar.specs.Grammar.{Event}
use Rattle.grammar.specs.Grammar as event
use Rattle.grammar.specs.Meaning.{Result, void, gives, Frame, Read, mean, meaning, blank, arrays, listed, plain, clamped}
use Rattle.collecting.specs.Rows.{Row, basic_row, group_row, Made, intern, tower}
use Rattle.collecting.specs.Count.{Hand, code, held, Open, State, let_go, used, resulting, alone, step, steps, start}
use Rattle.collecting.specs.Image.{row_of, rows_of, image, returned_of, outside, under, Frames, InHand, Image, Timely, AllTimely}
use Rattle.collecting.proofs.Extends.{image-back, rows-length}
use Rattle.collecting.proofs.Interned.{made_in, intern-right, tower-right}

-- ---- tables

pub ordered-outside : (s : Read) → Ordered (outside s)
ordered-outside s = (reach_from (reached_by [] (returned_of s.result)) s.arguments (reach_by (returned_of s.result)).0).ordered

pub ordered-under : (a : List Ty) → Ordered a → (fs : List Frame) → Ordered (under a fs)
unfolding under
ordered-under a o [] = o
ordered-under a o (f ∷ fs) = (reach_from (under a fs) f.members (ordered-under a o fs)).ordered

pub from-snoc : (a ts : List Ty) (t : Ty) → reached_from a (ts ++ t ∷ []) ≡ reached (reached_from a ts) t
unfolding reached_from
from-snoc a [] t = refl
from-snoc a (s ∷ ts) t = from-snoc (reached a s) ts t

map-grow : (a b : List Ty) → Grows a b → (ts : List Ty) → Numbered a ts → map (index_of b) ts ≡ map (index_of a) ts
unfolding Numbered
map-grow a b g [] p = refl
map-grow a b g (t ∷ ts) p = ap₂ (λ (x : ℕ) (y : List ℕ). x ∷ y) (g.same t p.0) (map-grow a b g ts p.1)

map_snoc : (a ts : List Ty) (t : Ty) → map (index_of a) (ts ++ t ∷ []) ≡ map (index_of a) ts ++ (index_of a t ∷ [])
map_snoc a [] t = refl
map_snoc a (s ∷ ts) t = ap (λ (l : List ℕ). index_of a s ∷ l) (map_snoc a ts t)

-- one type more behind others
pub numbers-snoc : (a ts : List Ty) (t : Ty) → Ordered a
    → map (index_of (reached_from a (ts ++ t ∷ []))) (ts ++ t ∷ []) ≡ map (index_of (reached_from a ts)) ts ++ (index_of (reached (reached_from a ts) t) t ∷ [])
numbers-snoc a ts t o =
    let q = reach_from a ts o in
    let r = reach (reached_from a ts) t q.ordered in
    ap (λ (b : List Ty). map (index_of b) (ts ++ t ∷ [])) (from-snoc a ts t)
    ∙ map_snoc (reached (reached_from a ts) t) ts t
    ∙ ap (λ (l : List ℕ). l ++ (index_of (reached (reached_from a ts) t) t ∷ [])) (map-grow (reached_from a ts) (reached (reached_from a ts) t) r.grows ts q.there)

return_grows : (a b : List Ty) → Grows a b → (r : Returned) → ReturnNumbered a r → return_number b r ≡ return_number a r
return_grows a b g call.void p = refl
return_grows a b g (returned t) p = g.same t (return_index a t p)

return_later : (a b : List Ty) → Grows a b → (r : Returned) → ReturnNumbered a r → ReturnNumbered b r
unfolding ReturnNumbered
return_later a b g call.void p = tt
return_later a b g (returned t) p = let h = return_index a t p in omega (arith, g.same t h, g.longer, h)

pub return_outside : (s : Read) → ReturnNumbered (outside s) (returned_of s.result)
return_outside s =
    let p = reach_by (returned_of s.result) in
    return_later (reached_by [] (returned_of s.result)) (outside s) (reach_from (reached_by [] (returned_of s.result)) s.arguments p.0).grows (returned_of s.result) p.1

-- ---- the type in hand

module _ (a : List Ty) (o : Ordered a) (t : Ty) (rows : List Row) where
  pub let_go_lem : (h : Hand) → InHand a t rows h → let_go rows h ≡ image a
  unfolding InHand
  let_go_lem (code c) p = p.1
  let_go_lem (held k m) p = ap₂ take p.0 p.1.1 ∙ image-back a t o

  pub used-right : (h : Hand) → InHand a t rows h → used rows h ≡ made_in (reached a t) t
  unfolding InHand reached Below
  used-right (code c) p =
      ap (λ (l : List Row). intern l (basic_row c)) p.1
      ∙ intern-right a (basic c) o tt
      ∙ ap (λ (x : Ty). made_in (reached a x) x) (sym p.0)
  used-right (held k m) p = ap₂ (λ (x : List Row) (y : ℕ). record { rows = x; number = y }) p.1.1 p.1.0

  pub item-right : (ns : List ℕ) (h : Hand) → InHand a t rows h → tower ns (used rows h) ≡ made_in (reached a (arrays ns t)) (arrays ns t)
  item-right ns h p = ap (tower ns) (used-right h p) ∙ tower-right a t ns o

-- a basic type in hand
pub in_code : (a : List Ty) (t : Ty) (rows : List Row) (c : ℕ) → t ≡ basic c → rows ≡ image a → InHand a t rows (code c)
unfolding InHand
in_code a t rows c p q = (p, q)

pub in_held : (a : List Ty) (t : Ty) (rows : List Row) (k m : ℕ) → m ≡ length a → k ≡ index_of (reached a t) t → rows ≡ image (reached a t) → InHand a t rows (held k m)
unfolding InHand
in_held a t rows k m p q r = (p, (q, r))

-- ---- groups

numbers-listed : (a ts : List Ty) → numbers_of a (listed ts) ≡ map (index_of a) ts
unfolding numbers_of
numbers-listed a [] = refl
numbers-listed a (t ∷ ts) = ap (λ (l : List ℕ). index_of a t ∷ l) (numbers-listed a ts)

reached-listed : (a ts : List Ty) → reached_all a (listed ts) ≡ reached_from a ts
unfolding reached_all reached_from
reached-listed a [] = refl
reached-listed a (t ∷ ts) = reached-listed (reached a t) ts

below-listed : (a ts : List Ty) → Numbered a ts → AllBelow a (length a) (listed ts)
unfolding Numbered AllBelow
below-listed a [] p = tt
below-listed a (t ∷ ts) p = (p.0, below-listed a ts p.1)

row_group : (a : List Ty) (u : Bool) (ts : Tys) → row_of a (group u ts) ≡ group_row u (numbers_of a ts)
row_group a true ts = refl
row_group a false ts = refl

below-group : (a : List Ty) (u : Bool) (ts : Tys) → AllBelow a (length a) ts → Below a (length a) (group u ts)
unfolding Below
below-group a true ts p = p
below-group a false ts p = p

reached-group : (a : List Ty) (u : Bool) (ts : Tys) → reached a (group u ts) ≡ completed (reached_all a ts) (group u ts)
unfolding reached
reached-group a true ts = refl
reached-group a false ts = refl

pub group-right : (a : List Ty) → Ordered a → (u : Bool) (ts : List Ty) (rows : List Row) (ks : List ℕ) → rows ≡ image (reached_from a ts) → ks ≡ map (index_of (reached_from a ts)) ts
    → intern rows (group_row u ks) ≡ made_in (reached a (group u (listed ts))) (group u (listed ts))
group-right a o u ts rows ks p q =
    let r = reach_from a ts o in
    ap₂ intern p (ap (group_row u) (q ∙ sym (numbers-listed (reached_from a ts) ts)) ∙ sym (row_group (reached_from a ts) u (listed ts)))
    ∙ intern-right (reached_from a ts) (group u (listed ts)) r.ordered (below-group (reached_from a ts) u (listed ts) (below-listed (reached_from a ts) ts r.there))
    ∙ ap (λ (b : List Ty). made_in (completed b (group u (listed ts))) (group u (listed ts))) (sym (reached-listed a ts))
    ∙ ap (λ (b : List Ty). made_in b (group u (listed ts))) (sym (reached-group a u (listed ts)))

-- ---- one piece

abbrev framed : Read → List Frame → Read
framed s fs = record { result = s.result; arguments = s.arguments; variadic = s.variadic; frames = fs; base = s.base; read = s.read; empty = s.empty; sizes = s.sizes }

abbrev counted : State → List Open → State
counted n gs = record { rows = n.rows; result = n.result; arguments = n.arguments; variadic = n.variadic; frames = gs; base = n.base; hand = n.hand; empty = n.empty; sizes = n.sizes }

module _ (s : Read) (n : State) (im : Image s n) where
  ordered : Ordered (under (outside s) s.frames)
  ordered = ordered-under (outside s) (ordered-outside s) s.frames

  gone : let_go n.rows n.hand ≡ image (under (outside s) s.frames)
  gone = let_go_lem (under (outside s) s.frames) ordered s.read n.rows n.hand im.hand

  -- another basic type in hand
  hold-right : (b : Ty) (t : Ty) (x : Bool) (c d : ℕ) → b ≡ basic c → t ≡ basic d
      → Image (record { result = s.result; arguments = s.arguments; variadic = s.variadic; frames = s.frames; base = b; read = t; empty = x; sizes = [] })
      (record { rows = let_go n.rows n.hand; result = n.result; arguments = n.arguments; variadic = n.variadic; frames = n.frames; base = c; hand = code d; empty = x; sizes = [] })
  hold-right b t x c d p q = record {
    result = im.result;
    arguments = im.arguments;
    variadic = im.variadic;
    frames = im.frames;
    base = p;
    hand = in_code (under (outside s) s.frames) t (let_go n.rows n.hand) d q gone;
    empty = refl;
    sizes = refl;
  }

opened-frames : (a : List Ty) (fs : List Frame) (gs : List Open) (u : Bool) (b : Ty) (c m : ℕ) → b ≡ basic c → m ≡ length (under a fs) → Frames a fs gs
    → Frames a (record { union = u; members = []; kept = b } ∷ fs) (record { union = u; members = []; kept = c; before = m } ∷ gs)
unfolding Frames
opened-frames a fs gs u b c m p q r = ((refl, p), ((q, refl), r))

under-opened : (a : List Ty) (fs : List Frame) (u : Bool) (b : Ty) → under a (record { union = u; members = []; kept = b } ∷ fs) ≡ under a fs
unfolding under reached_from
under-opened a fs u b = refl

under_none : (a : List Ty) → under a [] ≡ a
unfolding under
under_none a = refl

under_more : (a : List Ty) (f : Frame) (fs : List Frame) → under a (f ∷ fs) ≡ reached_from (under a fs) f.members
unfolding under
under_more a f fs = refl

opened-right : (l : ℕ) (u : Bool) (s : Read) (n : State) → Image s n → Image (mean l s (event.opened u)) (step l n (event.opened u))
opened-right l u s n im = record {
  result = im.result;
  arguments = im.arguments;
  variadic = im.variadic;
  frames = opened-frames (outside s) s.frames n.frames u s.base n.base (length (let_go n.rows n.hand)) im.base (ap length (gone s n im) ∙ rows-length (under (outside s) s.frames) (under (outside s) s.frames)) im.frames;
  base = im.base;
  hand = in_code (under (outside s) (record { union = u; members = []; kept = s.base } ∷ s.frames)) s.base (let_go n.rows n.hand) n.base im.base (gone s n im ∙ ap image (sym (under-opened (outside s) s.frames u s.base)));
  empty = refl;
  sizes = refl;
}

-- what the frames say of the innermost
frames-first : (a : List Ty) (f : Frame) (fs : List Frame) (g : Open) (gs : List Open) → Frames a (f ∷ fs) (g ∷ gs)
    → ((g.union ≡ f.union) × (f.kept ≡ basic g.kept)) × (((g.before ≡ length (under a fs)) × (g.members ≡ map (index_of (reached_from (under a fs) f.members)) f.members)) × Frames a fs gs)
unfolding Frames under
frames-first a f fs g gs p = p

frames-same : (a : List Ty) (f : Frame) (fs : List Frame) (g : Open) (gs : List Open)
    → ((g.union ≡ f.union) × (f.kept ≡ basic g.kept)) × (((g.before ≡ length (under a fs)) × (g.members ≡ map (index_of (reached_from (under a fs) f.members)) f.members)) × Frames a fs gs)
    → Frames a (f ∷ fs) (g ∷ gs)
unfolding Frames under
frames-same a f fs g gs p = p

frames-few : (a : List Ty) (g : Open) (gs : List Open) → Frames a [] (g ∷ gs) → ⊥
unfolding Frames
frames-few a g gs p = p

frames-many : (a : List Ty) (f : Frame) (fs : List Frame) → Frames a (f ∷ fs) [] → ⊥
unfolding Frames
frames-many a f fs p = p

frames-none : (a b : List Ty) (fs : List Frame) (gs : List Open) → fs ≡ [] → Frames a fs gs → Frames b fs gs
unfolding Frames
frames-none a b fs gs e p = rw e (by gs (rw e at p))
  where
    by : (gs : List Open) → Frames a [] gs → Frames b [] gs
    by [] p = tt
    by (g ∷ gs) p = absurd p

close-right : (l : ℕ) (s : Read) (n : State) (fs : List Frame) (gs : List Open) → Image (framed s fs) (counted n gs) → Image (mean l (framed s fs) event.close) (step l (counted n gs) event.close)
close-right l s n [] [] im = im
close-right l s n [] (g ∷ gs) im = absurd (frames-few (outside s) g gs im.frames)
close-right l s n (f ∷ fs) [] im = absurd (frames-many (outside s) f fs im.frames)
close-right l s n (f ∷ fs) (g ∷ gs) im =
    let p = frames-first (outside s) f fs g gs im.frames in
    let o = ordered-under (outside s) (ordered-outside s) fs in
    let go : let_go n.rows n.hand ≡ image (reached_from (under (outside s) fs) f.members) = gone (framed s (f ∷ fs)) (counted n (g ∷ gs)) im ∙ ap image (under_more (outside s) f fs) in
    let m : intern (let_go n.rows n.hand) (group_row g.union g.members) ≡ made_in (reached (under (outside s) fs) (group f.union (listed f.members))) (group f.union (listed f.members)) =
    ap (λ (u : Bool). intern (let_go n.rows n.hand) (group_row u g.members)) p.0.0 ∙ group-right (under (outside s) fs) o f.union f.members _ _ go p.1.0.1 in
    record {
      result = im.result;
      arguments = im.arguments;
      variadic = im.variadic;
      frames = p.1.1;
      base = p.0.1;
      hand = in_held (under (outside s) fs) (group f.union (listed f.members)) _ _ _ p.1.0.0 (ap (λ (x : Made). x.number) m) (ap (λ (x : Made). x.rows) m);
      empty = refl;
      sizes = refl;
    }

used-item : (l : ℕ) (s : Read) (n : State) (fs : List Frame) (gs : List Open) → Image (framed s fs) (counted n gs) → Image (mean l (framed s fs) event.item) (step l (counted n gs) event.item)
used-item l s n [] (g ∷ gs) im = absurd (frames-few (outside s) g gs im.frames)
used-item l s n (f ∷ fs) [] im = absurd (frames-many (outside s) f fs im.frames)
used-item l s n [] [] im =
    let t = arrays s.sizes s.read in
    let o = ordered-outside s in
    let before = reached_by [] (returned_of s.result) in
    let h : InHand (outside s) s.read n.rows n.hand = rw (under_none (outside s)) at im.hand in
    let m : tower n.sizes (used n.rows n.hand) ≡ made_in (reached (outside s) t) t = ap (λ (x : List ℕ). tower x (used n.rows n.hand)) im.sizes ∙ item-right (outside s) o s.read n.rows s.sizes n.hand h in
    let e : reached_from before (s.arguments ++ t ∷ []) ≡ reached (outside s) t = from-snoc before s.arguments t in
    record {
      result = im.result ∙ sym (ap (λ (b : List Ty). return_number b (returned_of s.result)) e ∙ return_grows (outside s) (reached (outside s) t) (reach (outside s) t o).grows (returned_of s.result) (return_outside s));
      arguments = ap₂ (λ (x : List ℕ) (y : ℕ). x ++ (y ∷ [])) im.arguments (ap (λ (x : Made). x.number) m) ∙ sym (numbers-snoc before s.arguments t (reach_by (returned_of s.result)).0);
      variadic = im.variadic;
      frames = frames-none (outside s) (reached_from before (s.arguments ++ t ∷ [])) [] [] refl im.frames;
      base = im.base;
      hand = in_code (under (reached_from before (s.arguments ++ t ∷ [])) []) s.base _ n.base im.base (ap (λ (x : Made). x.rows) m ∙ ap image (sym e ∙ sym (under_none (reached_from before (s.arguments ++ t ∷ [])))));
      empty = refl;
      sizes = refl;
    }
used-item l s n (f ∷ fs) (g ∷ gs) im =
    let t = arrays s.sizes s.read in
    let a = under (outside s) fs in
    let o = ordered-under (outside s) (ordered-outside s) fs in
    let oo = (reach_from a f.members o).ordered in
    let h : InHand (reached_from a f.members) s.read n.rows n.hand = rw (under_more (outside s) f fs) at im.hand in
    let m : tower n.sizes (used n.rows n.hand) ≡ made_in (reached (reached_from a f.members) t) t =
    ap (λ (x : List ℕ). tower x (used n.rows n.hand)) im.sizes ∙ item-right (reached_from a f.members) oo s.read n.rows s.sizes n.hand h in
    let p = frames-first (outside s) f fs g gs im.frames in
    let now : Frame = record { union = f.union; members = f.members ++ (t ∷ []); kept = f.kept } in
    record {
      result = im.result;
      arguments = im.arguments;
      variadic = im.variadic;
      frames = frames-same (outside s) now fs _ gs (p.0, ((p.1.0.0, ap₂ (λ (x : List ℕ) (y : ℕ). x ++ (y ∷ [])) p.1.0.1 (ap (λ (x : Made). x.number) m) ∙ sym (numbers-snoc a f.members t o)), p.1.1));
      base = im.base;
      hand = in_code (under (outside s) (now ∷ fs)) s.base _ n.base im.base (ap (λ (x : Made). x.rows) m ∙ ap image (sym (from-snoc a f.members t) ∙ sym (under_more (outside s) now fs)));
      empty = refl;
      sizes = refl;
    }

-- the result is the first to be numbered
resulting-right : (b : Bool) (t : Ty) (rows : List Row) (h : Hand) → InHand [] t rows h
    → resulting b rows h ≡ record { rows = image (reached_by [] (returned_of (cond b void (gives t)))); number = return_number (reached_by [] (returned_of (cond b void (gives t)))) (returned_of (cond b void (gives t))) }
unfolding reached_by
resulting-right true t rows h p = ap (λ (x : List Row). record { rows = x; number = 255 }) (let_go_lem [] ordered-none t rows h p)
resulting-right false t rows h p = used-right [] ordered-none t rows h p

under-nothing : (a b : List Ty) (fs : List Frame) → fs ≡ [] → a ≡ b → under a fs ≡ b
unfolding under
under-nothing a b fs e f = rw e f

from_nothing : (a ts : List Ty) → ts ≡ [] → reached_from a ts ≡ a
unfolding reached_from
from_nothing a ts e = rw e

by_nothing : (r : Result) → r ≡ void → reached_by [] (returned_of r) ≡ []
unfolding reached_by
by_nothing r e = rw e

result-right : (l : ℕ) (s : Read) (n : State) → Image s n → s.frames ≡ [] → s.arguments ≡ [] → s.result ≡ void → Image (mean l s event.result) (step l n event.result)
result-right l s n im e a r =
    let z : under (outside s) s.frames ≡ [] = under-nothing (outside s) [] s.frames e (from_nothing _ s.arguments a ∙ by_nothing s.result r) in
    let h : InHand [] s.read n.rows n.hand = rw z at im.hand in
    let w = returned_of (cond s.empty void (gives s.read)) in
    let m : resulting n.empty n.rows n.hand ≡ record { rows = image (reached_by [] w); number = return_number (reached_by [] w) w } = ap (λ (b : Bool). resulting b n.rows n.hand) im.empty ∙ resulting-right s.empty s.read n.rows n.hand h in
    let y : reached_from (reached_by [] w) s.arguments ≡ reached_by [] w = from_nothing (reached_by [] w) s.arguments a in
    record {
      result = ap (λ (x : Made). x.number) m ∙ ap (λ (b : List Ty). return_number b w) (sym y);
      arguments = im.arguments ∙ nothing s.arguments a (index_of (outside s)) (index_of (reached_from (reached_by [] w) s.arguments));
      variadic = im.variadic;
      frames = frames-none (outside s) (reached_from (reached_by [] w) s.arguments) s.frames n.frames e im.frames;
      base = im.base;
      hand = in_code (under (reached_from (reached_by [] w) s.arguments) s.frames) s.base _ n.base im.base (ap (λ (x : Made). x.rows) m ∙ ap image (sym (under-nothing _ (reached_by [] w) s.frames e y)));
      empty = refl;
      sizes = refl;
    }
  where
    nothing : (ts : List Ty) → ts ≡ [] → (f g : Ty → ℕ) → map f ts ≡ map g ts
    nothing ts e f g = rw e

alone-plain : (a : List Ty) (fs : List Frame) (gs : List Open) (v w : Bool) → Frames a fs gs → v ≡ w → alone gs v ≡ plain fs w
unfolding Frames
alone-plain a [] [] v w p e = refl
alone-plain a [] (g ∷ gs) v w p e = absurd p
alone-plain a (f ∷ fs) [] v w p e = absurd p
alone-plain a (f ∷ fs) (g ∷ gs) v w p e = e

pub step_right : (l : ℕ) (s : Read) (n : State) (e : Event) → Image s n → Timely s e → Image (mean l s e) (step l n e)
step_right l s n (event.basic c) im h = hold-right s n im (basic c) (basic c) false c c refl refl
step_right l s n event.long im h = hold-right s n im (basic l) (basic l) false l l refl refl
step_right l s n event.pointer im h = hold-right s n im s.base (basic 15) false n.base 15 im.base refl
step_right l s n event.nothing im h = hold-right s n im s.base s.base true n.base n.base im.base im.base
step_right l s n (event.opened u) im h = opened-right l u s n im
step_right l s n event.close im h = close-right l s n s.frames n.frames im
step_right l s n (event.size k) im h = record {
  result = im.result;
  arguments = im.arguments;
  variadic = im.variadic;
  frames = im.frames;
  base = im.base;
  hand = im.hand;
  empty = im.empty;
  sizes = ap (λ (x : List ℕ). x ++ (clamped k ∷ [])) im.sizes;
}
step_right l s n event.item im h = used-item l s n s.frames n.frames im
step_right l s n event.result im h = result-right l s n im h.0 h.1.0 h.1.1
step_right l s n event.variadic im h = record {
  result = im.result;
  arguments = im.arguments;
  variadic = alone-plain (outside s) s.frames n.frames n.variadic s.variadic im.frames im.variadic;
  frames = im.frames;
  base = im.base;
  hand = im.hand;
  empty = im.empty;
  sizes = im.sizes;
}

pub steps-right : (l : ℕ) (s : Read) (n : State) (es : List Event) → Image s n → AllTimely l s es → Image (meaning l s es) (steps l n es)
unfolding AllTimely
steps-right l s n [] im h = im
steps-right l s n (e ∷ es) im h = steps-right l (mean l s e) (step l n e) es (step_right l s n e im h.0) h.1

pub start_right : Image blank start
unfolding reached_from reached_by under Frames InHand rows_of
start_right = record { result = refl; arguments = refl; variadic = refl; frames = tt; base = refl; hand = (refl, refl); empty = refl; sizes = refl }
