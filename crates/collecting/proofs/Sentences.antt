-- Every sentence is read in time, and nothing stays open: so its numbers are the tidy bytes of its call. Assumes nothing.
use mathlib.Core.Path.{◌≡◌, refl, sym, ap, ◌∙◌, subst}
use mathlib.Core.Bool.{Bool, true, false, cond, true≢false}
use mathlib.Core.List.{List, [], ◌∷◌, ◌++◌, append-nil}
use Prim.Native.Nat.{ℕ, suc, ◌/◌, ◌%◌}
use native.Mathlib.Omega.{arith}
use lib.Dec.{eqb}
use lib.ListN.{length}
use Rattle.tidying.specs.Tidy.{tidy_by, tidy_of}
use Rattle.description.specs.Description.{model_in}
use Rattle.description.specs.declared.Model.{Model}
use Rattle.description.specs.declared.Model.TheVariants.{Lp64, Ilp32}
use Rattle.grammar.specs.Grammar.{Event, Grammar, Derives, done, take, skip, Sentence, required, optional, stop, goes, kind_of, said}
use Rattle.grammar.specs.Grammar as event
use Rattle.grammar.specs.Prototype.{spellings, table, declarations, prototype, types, ⟨external⟩, ⟨returned⟩, ⟨result⟩, ⟨functionName⟩, ⟨called0⟩, ⟨end⟩}
use Rattle.grammar.specs.Meaning.{Read, Frame, mean, meaning, blank}
use Rattle.collecting.specs.Count.{flags_of}
use Rattle.collecting.specs.Image.{Timely, AllTimely}
use Rattle.collecting.specs.Statements.{long_in, bit_of, declared_call, Numbered}
use Rattle.collecting.proofs.Depth.{End, stuck, at, next, run, run-stuck, chain, ways_test, derived-run, part}
use Rattle.collecting.proofs.Ways.{quiet, free}
use Rattle.collecting.proofs.Limits.{mark-right, bytes-right}

-- ---- what the depth says of what is read

pub record Ran (q : Bool) (s r : Read) (m : ℕ) : Type 0 where
  pub frames : length r.frames ≡ m
  pub result : r.result ≡ s.result
  pub arguments : q ≡ true → r.arguments ≡ s.arguments

abbrev framed : Read → List Frame → Read
framed s fs = record { result = s.result; arguments = s.arguments; variadic = s.variadic; frames = fs; base = s.base; read = s.read; empty = s.empty; sizes = s.sizes }

stuck_at : {A : Type 0} {k : ℕ} → stuck ≡ at k → A
stuck_at h = absurd (true≢false (sym (ap ended h)))
  where
    ended : End → Bool
    ended stuck = false
    ended (at k) = true

at_same : {j k : ℕ} → at j ≡ at k → j ≡ k
at_same h = ap place h
  where
    place : End → ℕ
    place stuck = 0
    place (at k) = k

close-ran : (q : Bool) (l : ℕ) (s : Read) (fs : List Frame) (m : ℕ) → next q event.close (length fs) ≡ at m → Ran q (framed s fs) (mean l (framed s fs) event.close) m
close-ran q l s [] m h = stuck_at h
close-ran q l s (f ∷ fs) m h = record { frames = at_same h; result = refl; arguments = λ e. refl }

item-ran : (q : Bool) (l : ℕ) (s : Read) (fs : List Frame) (m : ℕ) → next q event.item (length fs) ≡ at m → Ran q (framed s fs) (mean l (framed s fs) event.item) m
item-ran true l s [] m h = stuck_at h
item-ran true l s (f ∷ fs) m h = record { frames = at_same h; result = refl; arguments = λ e. refl }
item-ran false l s [] m h = record { frames = at_same h; result = refl; arguments = λ e. absurd (true≢false (sym e)) }
item-ran false l s (f ∷ fs) m h = record { frames = at_same h; result = refl; arguments = λ e. refl }

one-ran : (q : Bool) (l : ℕ) (s : Read) (e : Event) (m : ℕ) → next q e (length s.frames) ≡ at m → Timely s e × Ran q s (mean l s e) m
one-ran q l s (event.basic c) m h = (tt, record { frames = at_same h; result = refl; arguments = λ e. refl })
one-ran q l s event.long m h = (tt, record { frames = at_same h; result = refl; arguments = λ e. refl })
one-ran q l s event.pointer m h = (tt, record { frames = at_same h; result = refl; arguments = λ e. refl })
one-ran q l s event.nothing m h = (tt, record { frames = at_same h; result = refl; arguments = λ e. refl })
one-ran q l s (event.opened u) m h = (tt, record { frames = at_same h; result = refl; arguments = λ e. refl })
one-ran q l s event.close m h = (tt, close-ran q l s s.frames m h)
one-ran q l s (event.size k) m h = (tt, record { frames = at_same h; result = refl; arguments = λ e. refl })
one-ran q l s event.item m h = (tt, item-ran q l s s.frames m h)
one-ran q l s event.result m h = stuck_at h
one-ran q l s event.variadic m h = (tt, record { frames = at_same h; result = refl; arguments = λ e. refl })

pub all-ran : (q : Bool) (l : ℕ) (es : List Event) (s : Read) (m : ℕ) → run q (at (length s.frames)) es ≡ at m → AllTimely l s es × Ran q s (meaning l s es) m
unfolding AllTimely
all-ran q l [] s m h = (tt, record { frames = at_same h; result = refl; arguments = λ e. refl })
all-ran q l (e ∷ es) s m h = by (next q e (length s.frames)) refl h (λ z. all-ran q l es (mean l s e) m z)
  where
    by : (x : End) → next q e (length s.frames) ≡ x → run q x es ≡ at m → (run q (at (length (mean l s e).frames)) es ≡ at m → AllTimely l (mean l s e) es × Ran q (mean l s e) (meaning l (mean l s e) es) m)
        → (Timely s e × AllTimely l (mean l s e) es) × Ran q s (meaning l (mean l s e) es) m
    by stuck p h rec = stuck_at (sym (run-stuck q es) ∙ h)
    by (at i) p h rec =
        let o = one-ran q l s e i p in
        let r = rec (ap (λ (k : ℕ). run q (at k) es) o.1.frames ∙ h) in
        ((o.0, r.0), record { frames = r.1.frames; result = r.1.result ∙ o.1.result; arguments = λ z. r.1.arguments z ∙ o.1.arguments z })

timely_append : (l : ℕ) (xs ys : List Event) (s : Read) → AllTimely l s xs → AllTimely l (meaning l s xs) ys → AllTimely l s (xs ++ ys)
unfolding AllTimely
timely_append l [] ys s p q = q
timely_append l (e ∷ xs) ys s p q = (p.0, timely_append l xs ys (mean l s e) p.1 q)

meaning-append : (l : ℕ) (xs ys : List Event) (s : Read) → meaning l s (xs ++ ys) ≡ meaning l (meaning l s xs) ys
meaning-append l [] ys s = refl
meaning-append l (e ∷ xs) ys s = meaning-append l xs ys (mean l s e)

timely_result : (l : ℕ) (s : Read) (es : List Event) → Timely s event.result → AllTimely l (mean l s event.result) es → AllTimely l s (event.result ∷ es)
unfolding AllTimely
timely_result l s es p q = (p, q)

-- ---- the grammar's tests

quiet-right : ways_test true quiet table quiet ≡ true
unfolding table quiet
quiet-right = refl

free-right : ways_test false free table free ≡ true
unfolding table free
free-right = refl

before-chain : chain quiet (at 0) (⟨external⟩ ∷ ⟨returned⟩ ∷ []) ≡ at 0
unfolding quiet
before-chain = refl

behind-chain : chain free (at 0) (⟨functionName⟩ ∷ ⟨called0⟩ ∷ ⟨end⟩ ∷ []) ≡ at 0
unfolding free
behind-chain = refl

types-chain : chain free (at 0) types ≡ at 0
unfolding free
types-chain = refl

no_frames : (fs : List Frame) → length fs ≡ 0 → fs ≡ []
no_frames [] e = refl
no_frames (f ∷ fs) e = absurd (omega (arith, e))

-- what a sentence says is in time, and nothing stays open
pub record InTime (l : ℕ) (es : List Event) : Type 0 where
  pub timely : AllTimely l blank es
  pub ended : (meaning l blank es).frames ≡ []

pub types_in-time : (l : ℕ) (t : List ℕ) (es : List Event) → Sentence declarations types t es → InTime l es
types_in-time l t es d =
    let r = all-ran false l es blank 0 (derived-run false spellings table free free-right d 0 0 types-chain) in
    record { timely = r.0; ended = no_frames (meaning l blank es).frames r.1.frames }

-- ---- a symbol that stands for no token says what it says where it is left out

tails : List ℕ → List ℕ
tails [] = []
tails (n ∷ ns) = ns

heads : List ℕ → ℕ
heads [] = 0
heads (n ∷ ns) = n

events : event.Absence → List Event
events required = []
events (optional e) = e

nil_says : {g : Grammar} {l : List ℕ} {ts : List (List ℕ)} {es : List Event} → Derives g l ts es → l ≡ [] → es ≡ []
nil_says done e = refl
nil_says (take {ns = ns} h b q) e = let z : ◌≡◌ {A = ℕ} (suc (length ns)) 0 = ap length e in absurd (omega (arith, z))
nil_says (skip {ns = ns} h b q) e = let z : ◌≡◌ {A = ℕ} (suc (length ns)) 0 = ap length e in absurd (omega (arith, z))

alone-says : {g : Grammar} {l : List ℕ} {ts : List (List ℕ)} {es : List Event} → Derives g l ts es → (n : ℕ) → l ≡ n ∷ [] → ((k : ℕ) (r : List ℕ) → g.rule n k ≡ goes r → ⊥) → (e : List Event) → g.absent n ≡ optional e → es ≡ e
unfolding tails heads events
alone-says done n p never e a = let z : ◌≡◌ {A = ℕ} 0 1 = ap length p in absurd (omega (arith, z))
alone-says {g} (take {n = m} {r = r} {w = w} h b q) n p never e a = absurd (never (kind_of g.spellings w) r (subst (λ (x : ℕ). g.rule x (kind_of g.spellings w) ≡ goes r) (ap heads p) h))
alone-says {g} (skip {n = m} {e = v} h b q) n p never e a =
    let x : v ≡ e = ap events (sym h ∙ ap g.absent (ap heads p) ∙ a) in
    q ∙ ap (λ (y : List Event). v ++ y) (nil_says b (ap tails p)) ∙ append-nil v ∙ x

result-no_token : (k : ℕ) (r : List ℕ) → declarations.rule ⟨result⟩ k ≡ goes r → ⊥
unfolding table
result-no_token k r h = true≢false (sym (ap some h))
  where
    some : event.Rest → Bool
    some stop = false
    some (goes r) = true

result-absent : declarations.absent ⟨result⟩ ≡ optional (event.result ∷ [])
unfolding table
result-absent = refl

-- ---- a prototype: its result's type, the result, and all behind it

pub prototype-in_time : (l : ℕ) (t : List ℕ) (es : List Event) → Sentence declarations prototype t es → InTime l es
prototype-in_time l t es d =
    let p = part d (⟨external⟩ ∷ ⟨returned⟩ ∷ []) (⟨result⟩ ∷ ⟨functionName⟩ ∷ ⟨called0⟩ ∷ ⟨end⟩ ∷ []) refl in
    let o = part p.other (⟨result⟩ ∷ []) (⟨functionName⟩ ∷ ⟨called0⟩ ∷ ⟨end⟩ ∷ []) refl in
    let e : o.xs ≡ event.result ∷ [] = alone-says o.one ⟨result⟩ refl result-no_token (event.result ∷ []) result-absent in
    let whole : es ≡ p.xs ++ (event.result ∷ o.ys) = p.says ∙ ap (λ (y : List Event). p.xs ++ y) (o.says ∙ ap (λ (y : List Event). y ++ o.ys) e) in
    let a = all-ran true l p.xs blank 0 (derived-run true spellings table quiet quiet-right p.one 0 0 before-chain) in
    let s = meaning l blank p.xs in
    let none : s.frames ≡ [] = no_frames s.frames a.1.frames in
    let f : length (mean l s event.result).frames ≡ 0 = ap length none in
    let b = all-ran false l o.ys (mean l s event.result) 0 (ap (λ (k : ℕ). run false (at k) o.ys) f ∙ derived-run false spellings table free free-right o.other 0 0 behind-chain) in
    let timely = timely_append l p.xs (event.result ∷ o.ys) blank a.0 (timely_result l s o.ys (none, (a.1.arguments refl, a.1.result)) b.0) in
    record {
      timely = subst (AllTimely l blank) (sym whole) timely;
      ended = ap (λ (y : List Event). (meaning l blank y).frames) whole ∙ ap (λ (r : Read). r.frames) (meaning-append l p.xs (event.result ∷ o.ys) blank) ∙ no_frames (meaning l (mean l s event.result) o.ys).frames b.1.frames;
    }

-- ---- what is promised of numbers

in_time_numbered : (m : Model) (es : List Event) → InTime (long_in m) es → Numbered m es
in_time_numbered m es h = record { over = mark-right (long_in m) (bit_of m) es h.timely h.ended; bytes = bytes-right (long_in m) (bit_of m) es h.timely h.ended }

pub prototype-numbered : (m : Model) (t : List ℕ) (es : List Event) → Sentence declarations prototype t es → Numbered m es
prototype-numbered m t es d = in_time_numbered m es (prototype-in_time (long_in m) t es d)

pub types-numbered : (m : Model) (t : List ℕ) (es : List Event) → Sentence declarations types t es → Numbered m es
types-numbered m t es d = in_time_numbered m es (types_in-time (long_in m) t es d)

-- the description is of the model that was said
pub model-kept : (m : Model) (es : List Event) → model_in (tidy_of (declared_call m es)) ≡ m
unfolding model_in tidy_of tidy_by
model-kept m es = by m (meaning (long_in m) blank es).variadic
  where
    by : (m : Model) (v : Bool) → cond (eqb (flags_of (bit_of m) v / 2 % 2) 1) Ilp32 Lp64 ≡ m
    by Lp64 true = refl
    by Lp64 false = refl
    by Ilp32 true = refl
    by Ilp32 false = refl
