-- What the tokens of a declaration say means the declaration. Assumes nothing.
use mathlib.Core.Path.{◌≡◌, refl, sym, ap, ◌∙◌}
use mathlib.Core.Bool.{Bool, true, false, cond}
use mathlib.Core.List.{List, [], ◌∷◌, ◌++◌, append_assoc, append-nil}
use Prim.Native.Nat.{ℕ, ◌≤◌}
use borrow.Author.Tests.{eqb-true, le-ltb}
use lib.Dec.{eqb}
use Rattle.types.specs.Tree.{Ty, Tys, basic, array, struct, union, none, more, group}
use Rattle.grammar.specs.Grammar.{Event, opened, close, item, result}
use Rattle.grammar.specs.Meaning.{Result, void, gives, Frame, Read, listed, arrays, clamped, mean, meaning, blank}
use Rattle.declaring.specs.Writing.{Declaration}
use Rattle.declaring.specs.Written.{Writable, AllWritable, Passed, AllPassed, PassedBack, Declarable, declares}
use Rattle.declaring.proofs.Derived.{event_of, size_events, type_events, member_events, result_events, further_events, declaration_events}

-- the type within the arrays, their sizes, and the members of a struct or a union
abbrev inner : Ty → Ty
inner (basic c) = basic c
inner (array t n) = inner t
inner (struct ts) = struct ts
inner (union ts) = union ts

abbrev sizes : Ty → List ℕ
sizes (basic c) = []
sizes (array t n) = n ∷ sizes t
sizes (struct ts) = []
sizes (union ts) = []

abbrev members : Tys → List Ty
members none = []
members (more t ts) = t ∷ members ts

arrays-inner : (t : Ty) → arrays (sizes t) (inner t) ≡ t
arrays-inner (basic c) = refl
arrays-inner (array t n) = ap (λ (s : Ty). array s n) (arrays-inner t)
arrays-inner (struct ts) = refl
arrays-inner (union ts) = refl

listed-members : (ts : Tys) → listed (members ts) ≡ ts
listed-members none = refl
listed-members (more t ts) = ap (more t) (listed-members ts)

-- the base type that declarators go on with, behind a type
abbrev kept : Ty → Ty → Ty
kept (basic c) b = cond (eqb c 15) b (basic c)
kept (array t n) b = kept t b
kept (struct ts) b = b
kept (union ts) b = b

abbrev state : Result → List Ty → Bool → List Frame → Ty → Ty → Bool → List ℕ → Read
state r gs v fs b t e zs = record { result = r; arguments = gs; variadic = v; frames = fs; base = b; read = t; empty = e; sizes = zs }

abbrev frame : Bool → List Ty → Ty → Frame
frame u ms k = record { union = u; members = ms; kept = k }

module _ (code : ℕ) where
  meaning-append : (s : Read) (es fs : List Event) → meaning code s (es ++ fs) ≡ meaning code (meaning code s es) fs
  meaning-append s [] fs = refl
  meaning-append s (e ∷ es) fs = meaning-append (mean code s e) es fs

  basic-means : (c : ℕ) (r : Result) (gs : List Ty) (v : Bool) (fs : List Frame) (b t : Ty) (e : Bool) (zs : List ℕ)
      → mean code (state r gs v fs b t e zs) (event_of c) ≡ state r gs v fs (kept (basic c) b) (basic c) false []
  basic-means c r gs v fs b t e zs = by (eqb c 15) refl
    where
      by : (x : Bool) → eqb c 15 ≡ x → mean code (state r gs v fs b t e zs) (event_of c) ≡ state r gs v fs (kept (basic c) b) (basic c) false []
      by true q = rw q (ap (λ (n : ℕ). state r gs v fs b (basic n) false []) (sym (eqb-true c 15 q)))
      by false q = rw q refl

  clamped-small : (n : ℕ) → n ≤ 65535 → clamped n ≡ n
  clamped-small n h = rw (le-ltb 65535 n h) refl

  sizes-mean : (t : Ty) → Writable t → (r : Result) (gs : List Ty) (v : Bool) (fs : List Frame) (b a : Ty) (zs : List ℕ)
      → meaning code (state r gs v fs b a false zs) (size_events t) ≡ state r gs v fs b a false (zs ++ sizes t)
  unfolding size_events Writable
  sizes-mean (basic c) h r gs v fs b a zs = ap (state r gs v fs b a false) (sym (append-nil zs))
  sizes-mean (array t n) h r gs v fs b a zs =
      ap (λ (k : ℕ). meaning code (state r gs v fs b a false (zs ++ (k ∷ []))) (size_events t)) (clamped-small n h.0)
      ∙ sizes-mean t h.1 r gs v fs b a (zs ++ (n ∷ [])) ∙ ap (state r gs v fs b a false) (append_assoc zs (n ∷ []) (sizes t))
  sizes-mean (struct ts) h r gs v fs b a zs = ap (state r gs v fs b a false) (sym (append-nil zs))
  sizes-mean (union ts) h r gs v fs b a zs = ap (state r gs v fs b a false) (sym (append-nil zs))

  mutual
    unfolding type_events Writable

    type-means : (x : Ty) → Writable x → (r : Result) (gs : List Ty) (v : Bool) (fs : List Frame) (b t : Ty) (e : Bool) (zs : List ℕ)
        → meaning code (state r gs v fs b t e zs) (type_events x) ≡ state r gs v fs (kept x b) (inner x) false []
    type-means (basic c) h r gs v fs b t e zs = basic-means c r gs v fs b t e zs
    type-means (array x n) h r gs v fs b t e zs = type-means x h.1 r gs v fs b t e zs
    type-means (struct xs) h r gs v fs b t e zs =
        meaning-append (mean code (state r gs v fs b t e zs) (opened false)) (member_events xs) (close ∷ [])
        ∙ members-mean xs h.1 r gs v false [] b fs b b false []
        ∙ ap (λ (ts : Tys). state r gs v fs b (struct ts) false []) (listed-members xs)
    type-means (union xs) h r gs v fs b t e zs =
        meaning-append (mean code (state r gs v fs b t e zs) (opened true)) (member_events xs) (close ∷ [])
        ∙ members-mean xs h.1 r gs v true [] b fs b b false []
        ∙ ap (λ (ts : Tys). state r gs v fs b (union ts) false []) (listed-members xs)

    members-mean : (xs : Tys) → AllWritable xs → (r : Result) (gs : List Ty) (v u : Bool) (ms : List Ty) (k : Ty) (fs : List Frame) (b t : Ty) (e : Bool) (zs : List ℕ)
        → mean code (meaning code (state r gs v (frame u ms k ∷ fs) b t e zs) (member_events xs)) close ≡ state r gs v fs k (group u (listed (ms ++ members xs))) false []
    members-mean none h r gs v u ms k fs b t e zs = ap (λ (l : List Ty). state r gs v fs k (group u (listed l)) false []) (sym (append-nil ms))
    members-mean (more x xs) h r gs v u ms k fs b t e zs =
        ap (λ (s : Read). mean code s close)
        (meaning-append (state r gs v (frame u ms k ∷ fs) b t e zs) (type_events x) (size_events x ++ (item ∷ member_events xs))
        ∙ ap (λ (s : Read). meaning code s (size_events x ++ (item ∷ member_events xs))) (type-means x h.0 r gs v (frame u ms k ∷ fs) b t e zs)
        ∙ meaning-append (state r gs v (frame u ms k ∷ fs) (kept x b) (inner x) false []) (size_events x) (item ∷ member_events xs)
        ∙ ap (λ (s : Read). meaning code s (item ∷ member_events xs)) (sizes-mean x h.0 r gs v (frame u ms k ∷ fs) (kept x b) (inner x) [])
        ∙ ap (λ (y : Ty). meaning code (state r gs v (frame u (ms ++ (y ∷ [])) k ∷ fs) (kept x b) (kept x b) false []) (member_events xs)) (arrays-inner x))
        ∙ members-mean xs h.1 r gs v u (ms ++ (x ∷ [])) k fs (kept x b) (kept x b) false []
        ∙ ap (λ (l : List Ty). state r gs v fs k (group u (listed l)) false []) (append_assoc ms (x ∷ []) (members xs))

  -- an argument, or the result
  passed-means : (x : Ty) → Passed x → (r : Result) (gs : List Ty) (v : Bool) (b t : Ty) (e : Bool) (zs : List ℕ)
      → meaning code (state r gs v [] b t e zs) (type_events x) ≡ state r gs v [] (kept x b) x false []
  passed-means (basic c) h r gs v b t e zs = type-means (basic c) h.0 r gs v [] b t e zs
  passed-means (array x n) h r gs v b t e zs = absurd h.1
  passed-means (struct xs) h r gs v b t e zs = type-means (struct xs) h.0 r gs v [] b t e zs
  passed-means (union xs) h r gs v b t e zs = type-means (union xs) h.0 r gs v [] b t e zs

  further_mean : (w : Bool) (xs : List Ty) → AllPassed xs → (r : Result) (gs : List Ty) (b t : Ty) (e : Bool) (zs : List ℕ)
      → declares (meaning code (state r gs false [] b t e zs) (further_events w xs)) ≡ record { returns = r; arguments = gs ++ xs; variadic = w }
  unfolding further_events AllPassed
  further_mean true [] h r gs b t e zs = ap (λ (l : List Ty). record { returns = r; arguments = l; variadic = true }) (sym (append-nil gs))
  further_mean false [] h r gs b t e zs = ap (λ (l : List Ty). record { returns = r; arguments = l; variadic = false }) (sym (append-nil gs))
  further_mean w (x ∷ xs) h r gs b t e zs =
      ap declares
      (meaning-append (state r gs false [] b t e zs) (type_events x) (item ∷ further_events w xs)
      ∙ ap (λ (s : Read). meaning code s (item ∷ further_events w xs)) (passed-means x h.0 r gs false b t e zs))
      ∙ further_mean w xs h.1 r (gs ++ (x ∷ [])) (kept x b) (kept x b) false []
      ∙ ap (λ (l : List Ty). record { returns = r; arguments = l; variadic = w }) (append_assoc gs (x ∷ []) xs)

  result-means : (x : Result) → PassedBack x → (es : List Event) (w : Bool) (xs : List Ty)
      → ((b t : Ty) (e : Bool) → declares (meaning code (state x [] false [] b t e []) es) ≡ record { returns = x; arguments = xs; variadic = w })
      → declares (meaning code blank (result_events x ++ (result ∷ es))) ≡ record { returns = x; arguments = xs; variadic = w }
  result-means void h es w xs rec = rec (basic 3) (basic 3) false
  result-means (gives t) h es w xs rec =
      ap declares
      (meaning-append blank (type_events t) (result ∷ es)
      ∙ ap (λ (s : Read). meaning code s (result ∷ es)) (passed-means t h void [] false (basic 3) (basic 3) false []))
      ∙ rec (kept t (basic 3)) (kept t (basic 3)) false

  pub declaration_means : (d : Declaration) → Declarable d → declares (meaning code blank (declaration_events d)) ≡ d
  unfolding declaration_events
  declaration_means d h =
      rw (append-nil (further_events d.variadic d.arguments))
      (result-means d.returns h.back (further_events d.variadic d.arguments) d.variadic d.arguments
      (λ b t e. further_mean d.variadic d.arguments h.all d.returns [] b t e []))
