-- Which aggregates over 16 bytes are one vector, by the classes of their members (request 2026-06). Assumes nothing: these are definitions.
use Rattle.std.specs.Prelude.{◌≡◌, Bool, true, false, ◌&&◌, ◌||◌, List, [], ◌∷◌, ◌⊎◌, ℕ, ltb, length, get_or}
use Rattle.description.specs.declared.Model.{Model}
use Rattle.classes.specs.declared.Class.{Class}
use Rattle.classes.specs.declared.Class.TheVariants.{NoClass, Sse, SseUp}
use Rattle.classes.specs.Classes.{same}
use Rattle.types.specs.Tree.{Tys, none, more}
use Rattle.classify.specs.Classify.{memory, classes_of}

-- "classes SSE and three SSEUP"
abbrev pub vector : List Class
vector = Sse ∷ SseUp ∷ SseUp ∷ SseUp ∷ []

-- a type has two classes or these four
abbrev pub Held : List Class → Type 0
Held cs = (length cs ≡ 2) ⊎ (cs ≡ vector)

-- what is left of an aggregate of s bytes over two eightbytes, by "any aggregate over two eightbytes whose first isn't SSE, or with a later one that isn't
-- SSEUP, is MEMORY": MEMORY, or 32 bytes of SSE and three SSEUP
abbrev pub Over : List Class → ℕ → Type 0
Over cs s = (cs ≡ memory) ⊎ ((cs ≡ vector) × (s ≡ 32))

-- a type's classes are these four
abbrev pub is_vector : List Class → Bool
is_vector cs = ltb 2 (length cs)

abbrev pub behind : Class → Bool
behind c = same c NoClass || same c SseUp

-- SSE, and behind it SSEUP or nothing: merged with a vector they leave it one
abbrev pub fits_vector : List Class → Bool
fits_vector cs = same (get_or cs 0 NoClass) Sse && behind (get_or cs 1 NoClass)

abbrev pub each_fits : Model → Tys → Bool
each_fits m none = true
each_fits m (more t ts) = fits_vector (classes_of m t) && each_fits m ts

abbrev pub some_vector : Model → Tys → Bool
some_vector m none = false
some_vector m (more t ts) = is_vector (classes_of m t) || some_vector m ts
