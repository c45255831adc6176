-- One byte after the other, as the code goes. Assumes nothing.
use mathlib.Core.Path.{◌≡◌, refl, sym, ap, ◌∙◌}
use mathlib.Core.Bool.{Bool, true, false, cond, true≢false}
use mathlib.Core.List.{List, [], ◌∷◌, ◌++◌}
use Prim.Native.Nat.{ℕ, suc, ◌+◌, ◌*◌, ◌≤◌, ◌<◌}
use native.Mathlib.Omega.{arith}
use lib.ListN.{length, get_or, drop, take}
use lib.Seq.{slice, slice-cons, slice_empty, take-suc, drop-append-le, length-take-le, drop-cons, drop-length}
use Rattle.grammar.specs.Tokens.{class_of, is_blank}
use Rattle.grammar.specs.Grammar.{Event, kind_of}
use Rattle.grammar.specs.Machine.{Fed, dead, fed, feed, flushed, flush, begin, keep, possible, joins_run, step, State, lost, at, is_lost, End, short, ended, is_ended, finish, closing, closed, close, refused_at, ending, read_from, read_text}
use Rattle.grammar.specs.Prototype.{declarations, spellings}
use Rattle.reading.specs.Coded.{class_code}
use Rattle.reading.specs.Code.{tops, LeadsTo, Holds, answer_of}
use Rattle.std.specs.Bool.{then_some}
use Rattle.std.specs.Prelude.{Option, None, Some, Result, Ok, Err}
use Rattle.reading.specs.declared.ReadError.{ReadError}
use Rattle.reading.specs.declared.ReadError.TheVariants.{RefusedAt}
use Rattle.reading.proofs.Spelling.{is-blank, no_blank}

-- the token before i is whole
pub flush-none : (text : List ℕ) (start i depth : ℕ) (a : List ℕ) → start ≡ i → LeadsTo (flush declarations (slice start i text) (tops a depth) []) true a depth
flush-none text start i depth a h = rw (h, slice_empty i text) (refl, refl)

flushed-leads : (f : Fed) (w : List ℕ) (es : List Event) (may : Bool) (b : List ℕ) (d : ℕ) → LeadsTo f may b d → LeadsTo (flushed w es f) may b d
flushed-leads dead w es may b d h = h
flushed-leads (fed m e) w es may b d h = h

pub flush-token : (text : List ℕ) (start i k : ℕ) (ns : List ℕ) (may : Bool) (b : List ℕ) (d : ℕ) → start < i → i ≤ length text → k ≡ kind_of spellings (slice start i text)
    → LeadsTo (feed declarations ns k) may b d → LeadsTo (flush declarations (slice start i text) ns []) may b d
flush-token text start i k ns may b d l m h f =
    let e = slice-cons start i text 0 l m in
    let g : LeadsTo (feed declarations ns (kind_of spellings (get_or text start 0 ∷ slice (suc start) i text))) may b d = rw (h, e) at f in
    rw e (flushed-leads (feed declarations ns (kind_of spellings (get_or text start 0 ∷ slice (suc start) i text))) (get_or text start 0 ∷ slice (suc start) i text) [] may b d g)

-- the end of the text
closed-nowhere : (f : Fed) (may : Bool) (b : List ℕ) (d : ℕ) → LeadsTo f may b d → may ≡ false → false ≡ is_ended (closed declarations f)
closed-nowhere dead may b d h z = refl
closed-nowhere (fed m e) may b d h z = absurd (true≢false (sym h.0 ∙ z))

closed-ends : (f : Fed) (may : Bool) (b : List ℕ) (d : ℕ) (x : Bool) → LeadsTo f may b d → may ≡ true → x ≡ is_ended (finish declarations (tops b d)) → x ≡ is_ended (closed declarations f)
closed-ends dead may b d x h z q = absurd (true≢false (sym z ∙ h))
closed-ends (fed m e) may b d x h z q = q ∙ ap (λ (n : List ℕ). is_ended (finish declarations n)) h.1 ∙ by (finish declarations m)
  where
    by : (n : End) → is_ended n ≡ is_ended (closing e n)
    by short = refl
    by (ended es) = refl

pub close-nowhere : (w ns : List ℕ) (may : Bool) (b : List ℕ) (d : ℕ) → LeadsTo (flush declarations w ns []) may b d → may ≡ false → false ≡ is_ended (close declarations (at w ns []))
close-nowhere w ns may b d h z = closed-nowhere (flush declarations w ns []) may b d h z

pub close-ends : (w ns : List ℕ) (may : Bool) (b : List ℕ) (d : ℕ) (x : Bool) → LeadsTo (flush declarations w ns []) may b d → may ≡ true → x ≡ is_ended (finish declarations (tops b d)) → x ≡ is_ended (close declarations (at w ns []))
close-ends w ns may b d x h z q = closed-ends (flush declarations w ns []) may b d x h z q

-- one byte more
pub slice_snoc : (f t : ℕ) (l : List ℕ) → f ≤ t → t < length l → slice f (t + 1) l ≡ slice f t l ++ (get_or l t 0 ∷ [])
slice_snoc f t l h k =
    let z : t + 1 ≡ suc t = omega arith in
    rw z (ap (λ (x : List ℕ). drop f x) (take-suc l t 0 k) ∙ drop-append-le f (take t l) (get_or l t 0 ∷ []) (omega (arith, length-take-le t l (omega arith))))

keep-holds : (text : List ℕ) (end : ℕ) (w ns : List ℕ) (es : List Event) (alive : Bool) (depth start : ℕ) (a : List ℕ) → slice start end text ≡ w → tops a depth ≡ ns
    → alive ≡ possible declarations ns w → start ≤ end → depth ≤ 6 + 4 * start → Holds text end (keep declarations w ns es) (then_some alive start) a depth
keep-holds text end w ns es alive depth start a p q h l m = rw h (by (possible declarations ns w))
  where
    by : (z : Bool) → Holds text end (cond z (at w ns es) lost) (then_some z start) a depth
    by true = (p, q, l, m)
    by false = tt

pub step-joined : (text : List ℕ) (start i depth : ℕ) (a : List ℕ) (alive j : Bool) → start ≤ i → i < length text → depth ≤ 6 + 4 * start
    → j ≡ joins_run (slice start i text) (get_or text i 0) → j ≡ true → alive ≡ possible declarations (tops a depth) (slice start (i + 1) text)
    → Holds text (i + 1) (step declarations (at (slice start i text) (tops a depth) []) (get_or text i 0)) (then_some alive start) a depth
step-joined text start i depth a alive j l m o p q h =
    let t : joins_run (slice start i text) (get_or text i 0) ≡ true = sym p ∙ q in
    rw t (keep-holds text (i + 1) (slice start i text ++ (get_or text i 0 ∷ [])) (tops a depth) [] alive depth start a (slice_snoc start i text l m) refl (h ∙ ap (λ (w : List ℕ). possible declarations (tops a depth) w) (slice_snoc start i text l m)) (omega arith) o)

begin-lost : (text : List ℕ) (end b : ℕ) (f : Fed) (may : Bool) (a : List ℕ) (d : ℕ) → LeadsTo f may a d → may ≡ false → Holds text end (begin declarations b f) None a d
begin-lost text end b dead may a d h z = tt
begin-lost text end b (fed m e) may a d h z = absurd (true≢false (sym h.0 ∙ z))

begin-blank : (text : List ℕ) (i b : ℕ) (f : Fed) (may : Bool) (a : List ℕ) (d : ℕ) → LeadsTo f may a d → may ≡ true → is_blank (class_of b) ≡ true → d ≤ 6 + 4 * i
    → Holds text (i + 1) (begin declarations b f) (Some (i + 1)) a d
begin-blank text i b dead may a d h z q l = absurd (true≢false (sym z ∙ h))
begin-blank text i b (fed m e) may a d h z q l = rw q (slice_empty (i + 1) text, h.1, omega arith, omega arith)

begin-keep : (text : List ℕ) (i : ℕ) (f : Fed) (may : Bool) (a : List ℕ) (d : ℕ) (alive : Bool) → i < length text → LeadsTo f may a d → may ≡ true → is_blank (class_of (get_or text i 0)) ≡ false → d ≤ 6 + 4 * i
    → alive ≡ possible declarations (tops a d) (slice i (i + 1) text) → Holds text (i + 1) (begin declarations (get_or text i 0) f) (then_some alive i) a d
begin-keep text i dead may a d alive m h z q l p = absurd (true≢false (sym z ∙ h))
begin-keep text i (fed n e) may a d alive m h z q l p =
    let w : slice i (i + 1) text ≡ get_or text i 0 ∷ [] = slice_snoc i i text (omega arith) m ∙ ap (λ (v : List ℕ). v ++ (get_or text i 0 ∷ [])) (slice_empty i text) in
    rw q (keep-holds text (i + 1) (get_or text i 0 ∷ []) n e alive d i a w h.1 (p ∙ ap (λ (v : List ℕ). possible declarations v (slice i (i + 1) text)) h.1 ∙ ap (λ (v : List ℕ). possible declarations n v) w) (omega arith) (omega arith))

module _ (text : List ℕ) (start i depth : ℕ) (a₀ : List ℕ) (j : Bool) (p : j ≡ joins_run (slice start i text) (get_or text i 0)) (q : j ≡ false) where
  apart : joins_run (slice start i text) (get_or text i 0) ≡ false
  apart = sym p ∙ q

  pub step-lost : (may : Bool) (a : List ℕ) (d : ℕ) → LeadsTo (flush declarations (slice start i text) (tops a₀ depth) []) may a d → may ≡ false
      → Holds text (i + 1) (step declarations (at (slice start i text) (tops a₀ depth) []) (get_or text i 0)) None a d
  step-lost may a d h z = rw apart (begin-lost text (i + 1) (get_or text i 0) (flush declarations (slice start i text) (tops a₀ depth) []) may a d h z)

  pub step-blank : (may : Bool) (x : ℕ) (a : List ℕ) (d : ℕ) → LeadsTo (flush declarations (slice start i text) (tops a₀ depth) []) may a d → may ≡ true
      → x ≡ class_code (class_of (get_or text i 0)) → x ≡ 0 → d ≤ 6 + 4 * i
      → Holds text (i + 1) (step declarations (at (slice start i text) (tops a₀ depth) []) (get_or text i 0)) (Some (i + 1)) a d
  step-blank may x a d h z e u l =
      rw apart (begin-blank text i (get_or text i 0) (flush declarations (slice start i text) (tops a₀ depth) []) may a d h z (is-blank (class_of (get_or text i 0)) (sym e ∙ u)) l)

  pub step-begin : (may : Bool) (x : ℕ) (a : List ℕ) (d : ℕ) (alive : Bool) → i < length text → LeadsTo (flush declarations (slice start i text) (tops a₀ depth) []) may a d → may ≡ true
      → x ≡ class_code (class_of (get_or text i 0)) → (x ≡ 0 → ⊥) → d ≤ 6 + 4 * i → alive ≡ possible declarations (tops a d) (slice i (i + 1) text)
      → Holds text (i + 1) (step declarations (at (slice start i text) (tops a₀ depth) []) (get_or text i 0)) (then_some alive i) a d
  step-begin may x a d alive m h z e u l v =
      rw apart (begin-keep text i (flush declarations (slice start i text) (tops a₀ depth) []) may a d alive m h z (no_blank (class_of (get_or text i 0)) (λ t. u (e ∙ t))) l v)

-- what was said does not change the answer
abbrev strip : State → State
strip lost = lost
strip (at w ns es) = at w ns []

abbrev strip_fed : Fed → Fed
strip_fed dead = dead
strip_fed (fed ns es) = fed ns []

flush-strip : (w ns : List ℕ) (es : List Event) → strip_fed (flush declarations w ns es) ≡ strip_fed (flush declarations w ns [])
flush-strip [] ns es = refl
flush-strip (x ∷ w) ns es = by (feed declarations ns (kind_of declarations.spellings (x ∷ w)))
  where
    by : (f : Fed) → strip_fed (flushed (x ∷ w) es f) ≡ strip_fed (flushed (x ∷ w) [] f)
    by dead = refl
    by (fed m e) = refl

keep-strip : (w ns : List ℕ) (es : List Event) → strip (keep declarations w ns es) ≡ keep declarations w ns []
keep-strip w ns es = by (possible declarations ns w)
  where
    by : (b : Bool) → strip (cond b (at w ns es) lost) ≡ cond b (at w ns []) lost
    by true = refl
    by false = refl

begin-strip : (b : ℕ) (f : Fed) → strip (begin declarations b f) ≡ begin declarations b (strip_fed f)
begin-strip b dead = refl
begin-strip b (fed ns es) = by (is_blank (class_of b))
  where
    by : (z : Bool) → strip (cond z (at [] ns es) (keep declarations (b ∷ []) ns es)) ≡ cond z (at [] ns []) (keep declarations (b ∷ []) ns [])
    by true = refl
    by false = keep-strip (b ∷ []) ns es

step-strip : (s : State) (b : ℕ) → strip (step declarations s b) ≡ strip (step declarations (strip s) b)
step-strip lost b = refl
step-strip (at w ns es) b = by (joins_run w b)
  where
    by : (z : Bool) → strip (cond z (keep declarations (w ++ (b ∷ [])) ns es) (begin declarations b (flush declarations w ns es)))
        ≡ strip (cond z (keep declarations (w ++ (b ∷ [])) ns []) (begin declarations b (flush declarations w ns [])))
    by true = keep-strip (w ++ (b ∷ [])) ns es ∙ sym (keep-strip (w ++ (b ∷ [])) ns [])
    by false =
        begin-strip b (flush declarations w ns es) ∙ ap (λ (f : Fed). begin declarations b f) (flush-strip w ns es) ∙ sym (begin-strip b (flush declarations w ns []))

lost-strip : (s : State) → is_lost (strip s) ≡ is_lost s
lost-strip lost = refl
lost-strip (at w ns es) = refl

close-plain : (s : State) (p : ℕ) → answer_of (ending p (close declarations s)) ≡ answer_of (ending p (close declarations (strip s)))
close-plain lost p = refl
close-plain (at w ns es) p = fin (flush declarations w ns es) ∙ ap (λ (f : Fed). answer_of (ending p (closed declarations f))) (flush-strip w ns es) ∙ sym (fin (flush declarations w ns []))
  where
    fin : (f : Fed) → answer_of (ending p (closed declarations f)) ≡ answer_of (ending p (closed declarations (strip_fed f)))
    fin dead = refl
    fin (fed m e) = by (finish declarations m)
      where
        by : (x : End) → answer_of (ending p (closing e x)) ≡ answer_of (ending p (closing [] x))
        by short = refl
        by (ended q) = refl

read-strip : (t : List ℕ) (s : State) (p : ℕ) → answer_of (read_from declarations s p t) ≡ answer_of (read_from declarations (strip s) p t)
read-strip [] s p = close-plain s p
read-strip (b ∷ t) s p =
    by (is_lost (step declarations s b)) (is_lost (step declarations (strip s) b))
    (sym (lost-strip (step declarations s b)) ∙ ap is_lost (step-strip s b) ∙ lost-strip (step declarations (strip s) b))
    (read-strip t (step declarations s b) (suc p) ∙ ap (λ (x : State). answer_of (read_from declarations x (suc p) t)) (step-strip s b) ∙ sym (read-strip t (step declarations (strip s) b) (suc p)))
  where
    by : (x y : Bool) → x ≡ y → answer_of (read_from declarations (step declarations s b) (suc p) t) ≡ answer_of (read_from declarations (step declarations (strip s) b) (suc p) t)
        → answer_of (cond x (refused_at p) (read_from declarations (step declarations s b) (suc p) t)) ≡ answer_of (cond y (refused_at p) (read_from declarations (step declarations (strip s) b) (suc p) t))
    by true true e h = refl
    by true false e h = absurd (true≢false e)
    by false true e h = absurd (true≢false (sym e))
    by false false e h = h

-- the loop
pub read-lost : (text : List ℕ) (i : ℕ) (s : State) (d : ℕ) (a : List ℕ) (r : Option ℕ) → i < length text → Holds text (i + 1) (step declarations s (get_or text i 0)) r a d → r ≡ None
    → Err (RefusedAt i) ≡ answer_of (read_from declarations s i (drop i text))
read-lost text i s d a r l h z = rw (drop-cons text i 0 l) (by (step declarations s (get_or text i 0)) (rw z at h))
  where
    by : (x : State) → Holds text (i + 1) x None a d → Err (RefusedAt i) ≡ answer_of (cond (is_lost x) (refused_at i) (read_from declarations x (suc i) (drop (suc i) text)))
    by lost h = refl
    by (at w ns es) h = absurd h

pub read-on : (text : List ℕ) (i : ℕ) (s : State) (d t : ℕ) (a : List ℕ) (r : Option ℕ) → i < length text → Holds text (i + 1) (step declarations s (get_or text i 0)) r a d → r ≡ Some t
    → (answer_of (read_from declarations (at (slice t (i + 1) text) (tops a d) []) (i + 1) (drop (i + 1) text)) ≡ answer_of (read_from declarations s i (drop i text))) × (t ≤ i + 1) × (d ≤ 6 + 4 * t)
read-on text i s d t a r l h z = rw (drop-cons text i 0 l) (by (step declarations s (get_or text i 0)) (rw z at h))
  where
    by : (x : State) → Holds text (i + 1) x (Some t) a d
        → (answer_of (read_from declarations (at (slice t (i + 1) text) (tops a d) []) (i + 1) (drop (i + 1) text)) ≡ answer_of (cond (is_lost x) (refused_at i) (read_from declarations x (suc i) (drop (suc i) text)))) × (t ≤ i + 1) × (d ≤ 6 + 4 * t)
    by lost h = absurd h
    by (at w ns es) h =
        let e : i + 1 ≡ suc i = omega arith in
        (rw (h.0, h.1, e) (sym (read-strip (drop (suc i) text) (at w ns es) (suc i))), h.2, h.3)

pub read_first : (text : List ℕ) (ns : List ℕ)
    → answer_of (read_from declarations (at (slice 0 0 text) ns []) 0 (drop 0 text)) ≡ answer_of (read_text declarations ns text)
unfolding read_text
read_first text ns = refl

-- the same of symbols by another name
pub read_same : (text ns ms : List ℕ) (r : Result Unit ReadError) → r ≡ answer_of (read_text declarations ns text) → ns ≡ ms → r ≡ answer_of (read_text declarations ms text)
read_same text ns ms r h e = h ∙ ap (λ (z : List ℕ). answer_of (read_text declarations z text)) e

pub read-ended : (text : List ℕ) (start i : ℕ) (ns : List ℕ) (x : Bool) → i ≡ length text → x ≡ is_ended (close declarations (at (slice start (length text) text) ns [])) → x ≡ true
    → Ok tt ≡ answer_of (read_from declarations (at (slice start i text) ns []) i (drop i text))
read-ended text start i ns x l h z = rw (l, drop-length text) (by (close declarations (at (slice start (length text) text) ns [])) (sym h ∙ z))
  where
    by : (e : End) → is_ended e ≡ true → Ok tt ≡ answer_of (ending (length text) e)
    by short q = absurd (true≢false (sym q))
    by (ended es) q = refl

pub read_short : (text : List ℕ) (start i : ℕ) (ns : List ℕ) (x : Bool) → i ≡ length text → x ≡ is_ended (close declarations (at (slice start (length text) text) ns [])) → x ≡ false
    → Err (RefusedAt (length text)) ≡ answer_of (read_from declarations (at (slice start i text) ns []) i (drop i text))
read_short text start i ns x l h z = rw (l, drop-length text) (by (close declarations (at (slice start (length text) text) ns [])) (sym h ∙ z))
  where
    by : (e : End) → is_ended e ≡ false → Err (RefusedAt (length text)) ≡ answer_of (ending (length text) e)
    by short q = refl
    by (ended es) q = absurd (true≢false q)
