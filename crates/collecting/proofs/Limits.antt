-- What is read in a room of 64 types and 255 members: the tidy bytes, or the mark where these need more. Assumes nothing.
use mathlib.Core.Path.{◌≡◌, refl, ap, ap₂, ◌∙◌}
use mathlib.Core.Bool.{Bool, true, false, ◌||◌, true≢false}
use mathlib.Core.List.{List, [], ◌∷◌, map}
use Prim.Native.Nat.{ℕ, suc, ◌≤◌, ◌<◌}
use native.Mathlib.Omega.{arith}
use borrow.Author.Tests.{lt-ltb}
use lib.Dec.{ltb}
use lib.ListN.{length}
use Rattle.types.specs.Tree.{Ty, array}
use Rattle.tidying.specs.Numbering.{index_of, completed, table_of, reached}
use Rattle.tidying.specs.Ordered.{Ordered, Below}
use Rattle.tidying.specs.Tidy.{separate, tidy_of}
use Rattle.tidying.proofs.Reached.{reach, completed-ordered}
use Rattle.tidying.proofs.Tables.{at-index, completed-grows, completed-there}
use Rattle.grammar.specs.Grammar.{Event}
use Rattle.grammar.specs.Grammar as event
use Rattle.grammar.specs.Meaning.{Read, mean, meaning, blank, Frame, arrays}
use Rattle.collecting.specs.Rows.{Row, Made, tower, members_in, beyond}
use Rattle.collecting.specs.Count.{Open, State, let_go, used, step, steps, start, bytes_of}
use Rattle.collecting.specs.Image.{image, call_from, outside, under, Frames, Image, Timely, AllTimely}
use Rattle.collecting.specs.Bounded.{Pending, Store, mark, move, moves, vacant, written_by, written, too_much}
use Rattle.collecting.specs.Statements.{over_limits}
use Rattle.collecting.specs.Near.{Levels, Alike, Near}
use Rattle.collecting.proofs.Extends.{rows-length}
use Rattle.collecting.proofs.Interned.{made_in}
use Rattle.collecting.proofs.Counted.{ordered-outside, ordered-under, item-right, step_right, steps-right, start_right}
use Rattle.collecting.proofs.Ended.{members-are, rows-ended, bytes-ended}
use Rattle.collecting.proofs.Bounds.{High, Ready, move-near, near_clear}

none_open : (a : List Ty) (fs : List Frame) (gs : List Open) → fs ≡ [] → Frames a fs gs → gs ≡ []
unfolding Frames
none_open a [] [] e p = refl
none_open a [] (g ∷ gs) e p = absurd p
none_open a (f ∷ fs) gs e p = let y : ◌≡◌ {A = ℕ} (suc (length fs)) 0 = ap length e in absurd (omega (arith, y))

-- ---- sizes: over 64 of them are too many types in any table, so no more need be kept

-- an element has a lower number than its array
lower : (b : List Ty) (u : Ty) (n : ℕ) → Ordered b → index_of b (array u n) < length b → index_of b u < index_of b (array u n)
unfolding Below
lower b u n o h = rw (at-index b (array u n) h) at (o.parts (index_of b (array u n)) h)

pub tower-high : (a : List Ty) → Ordered a → (ns : List ℕ) (t : Ty) → length ns ≤ index_of (reached a (arrays ns t)) (arrays ns t)
unfolding reached Below
tower-high a o [] t = omega arith
tower-high a o (n ∷ ns) t =
    let u = arrays ns t in
    let r = reach a u o in
    let g = completed-grows (reached a u) (array u n) in
    let b = completed-ordered (reached a u) r.ordered (array u n) (below-array (reached a u) u n r.there) in
    let l = lower (completed (reached a u) (array u n)) u n b (completed-there (reached a u) (array u n)) in
    let h = tower-high a o ns t in
    let e = g.same u r.there in
    omega (arith, h, e, l)
  where
    below-array : (a : List Ty) (u : Ty) (n : ℕ) → index_of a u < length a → Below a (length a) (array u n)
    below-array a u n h = h

-- so the table has more types than there are sizes
pub tower-long : (a : List Ty) → Ordered a → (ns : List ℕ) (t : Ty) → length ns < length (reached a (arrays ns t))
tower-long a o ns t = let h = tower-high a o ns t in let r = (reach a (arrays ns t) o).there in omega (arith, h, r)

high : (s : Read) (n : State) → Image s n → High n
unfolding beyond
high s n im h =
    let a = under (outside s) s.frames in
    let o = ordered-under (outside s) (ordered-outside s) s.frames in
    let t = arrays s.sizes s.read in
    let m : tower n.sizes (used n.rows n.hand) ≡ made_in (reached a t) t = ap (λ (x : List ℕ). tower x (used n.rows n.hand)) im.sizes ∙ item-right a o s.read n.rows s.sizes n.hand im.hand in
    let l = tower-long a o s.sizes s.read in
    let z : 64 < length (reached a t) = omega (arith, h, l, ap length im.sizes) in
    ap (λ (x : Made). beyond x.rows) m ∙ rw (rows-length (reached a t) (reached a t), lt-ltb 64 (length (reached a t)) z) refl

ready : (s : Read) (n : State) (e : Event) → Image s n → Timely s e → Ready n e
ready s n (event.basic c) im h = tt
ready s n event.long im h = tt
ready s n event.pointer im h = tt
ready s n event.nothing im h = tt
ready s n (event.opened u) im h = tt
ready s n event.close im h = tt
ready s n (event.size k) im h = tt
ready s n event.item im h = high s n im
ready s n event.result im h = none_open (outside s) s.frames n.frames h.0 im.frames
ready s n event.variadic im h = tt

pub moves-near : (l : ℕ) (s : Read) (n : State) (b : Store) (es : List Event) → Image s n → Near n b → AllTimely l s es → Near (steps l n es) (moves l b es)
unfolding AllTimely
moves-near l s n b [] im e h = e
moves-near l s n b (x ∷ es) im e h = moves-near l (mean l s x) (step l n x) (move l b x) es (step_right l s n x im h.0) (move-near l n b x (ready s n x im h.0) e) h.1

pub vacant-near : Near start vacant
unfolding beyond members_in Levels Alike
vacant-near = record {
  says = refl;
  rows = λ h. refl;
  many = refl;
  low = omega arith;
  hand = refl;
  levels = (record { says = refl; same = λ h. refl }, record { result = λ h. refl; arguments = λ h. refl });
  variadic = refl;
  base = refl;
  empty = refl;
  sizes = refl;
}

beyond-image : (a : List Ty) → beyond (image a) ≡ (ltb 64 (length a) || ltb 255 (separate a))
unfolding beyond
beyond-image a = rw (rows-length a a, members-are a a) refl

levels-closed : (N Q : List Row) (m : ℕ) (over : Bool) (P : Bool → Type 0) (fs : List Open) (gs : List Pending) → fs ≡ [] → Levels N Q m over fs gs P → P over
unfolding Levels
levels-closed N Q m over P [] [] e l = l.1
levels-closed N Q m over P [] (g ∷ gs) e l = absurd l
levels-closed N Q m over P (f ∷ fs) gs e l = let y : ◌≡◌ {A = ℕ} (suc (length fs)) 0 = ap length e in absurd (omega (arith, y))

map-length : (f : Ty → ℕ) (ts : List Ty) → length (map f ts) ≡ length ts
map-length f [] = refl
map-length f (t ∷ ts) = ap suc (map-length f ts)

module _ (bit : ℕ) (s : Read) (n : State) (b : Store) (im : Image s n) (e : Near n b) (ended : s.frames ≡ []) where
  pub over-ended : too_much b ≡ over_limits (call_from bit s)
  unfolding over_limits table_of
  over-ended =
      ap₂ (λ (x y : Bool). x || y) ((near_clear n b e).says ∙ ap beyond (rows-ended s n im ended) ∙ beyond-image (outside s))
      (ap (ltb 64) (e.many ∙ ap length im.arguments ∙ map-length (index_of (outside s)) s.arguments))

  first-false : (x y : Bool) → (x || y) ≡ false → x ≡ false
  first-false true y h = absurd (true≢false h)
  first-false false y h = refl

  pub written-ended : too_much b ≡ false → written bit b ≡ tidy_of (call_from bit s)
  written-ended h =
      let z = near_clear n b e in
      let m : mark b.over b.hand ≡ false = first-false _ _ h in
      let u = levels-closed _ _ _ _ _ n.frames b.frames (none_open (outside s) s.frames n.frames ended im.frames) e.levels in
      ap (λ (rows : List Row). written_by bit rows b) (z.rows m) ∙ same (u.result m) (u.arguments m) e.variadic ∙ bytes-ended bit s n im ended
    where
      same : b.result ≡ n.result → b.arguments ≡ n.arguments → b.variadic ≡ n.variadic → written_by bit (let_go n.rows n.hand) b ≡ bytes_of bit n
      same p q r = rw (p, q, r) refl

-- ---- what is read

module _ (l bit : ℕ) (es : List Event) (timely : AllTimely l blank es) (ended : (meaning l blank es).frames ≡ []) where
  -- the mark stands exactly where the tidy result needs over 64 types, 64 arguments or 255 members
  pub mark-right : too_much (moves l vacant es) ≡ over_limits (call_from bit (meaning l blank es))
  mark-right = over-ended bit (meaning l blank es) (steps l start es) (moves l vacant es) (steps-right l blank start es start_right timely) (moves-near l blank start vacant es start_right vacant-near timely) ended

  -- and where it does not, these are the tidy bytes of the call
  pub bytes-right : over_limits (call_from bit (meaning l blank es)) ≡ false → written bit (moves l vacant es) ≡ tidy_of (call_from bit (meaning l blank es))
  bytes-right h = written-ended bit (meaning l blank es) (steps l start es) (moves l vacant es) (steps-right l blank start es start_right timely) (moves-near l blank start vacant es start_right vacant-near timely) ended (mark-right ∙ h)
