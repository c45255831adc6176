-- What the functions of a walk ask and answer. Assumes nothing: these are definitions.
use Rattle.std.specs.Prelude.{◌≡◌, ◌≢◌, List, ℕ, ◌+◌, ◌-◌, ◌^◌, ◌≤◌, Err, Ok, Result}
use Rattle.form.specs.declared.Refusal.{Refusal}
use Rattle.places.specs.declared.Kind.{Kind}
use Rattle.places.specs.declared.Kind.TheVariants.{General as general, Vector as vector, Upper as upper, Wide as wide}
use Rattle.places.specs.Places.{generals, vectors}
use Rattle.places.specs.Recorded.{asked}
use Rattle.station.specs.Paper.{Paper, refusal_under, shape_at}
use Rattle.walk.specs.declared.Walk.{Walk}
use Rattle.walk.specs.declared.Counts.{Counts}
use Rattle.walk.specs.declared.Fetch.{Fetch}
use Rattle.walk.specs.declared.Fetch.TheVariants.{One, Two, Stack}
use Rattle.places.specs.declared.Shape.{Shape}

-- offsets that a walk can have: no sum overflows, and a vector register stands behind the general ones
pub record InBounds (w : Walk) : Type 0 where
  pub position : w.position ≤ 64
  pub general : w.general.0 ≤ 48
  pub behind : 48 ≤ w.vector.0
  pub vector : w.vector.0 ≤ 176
  pub overflow : w.overflow.0 ≤ 2 ^ 20

-- num_gp and num_fp of these eightbytes
pub record IsCounted (ks : List Kind) (r : Counts) : Type 0 where
  pub general : r.general.0 ≡ generals ks
  pub vector : r.vector.0 ≡ vectors ks

-- where an eightbyte of this kind is read, at these offsets
abbrev pub read_for : ℕ → ℕ → Kind → ℕ
read_for g f general = g
read_for g f vector = f
read_for g f upper = f - 8
read_for g f wide = f

-- so many bytes, fetched there, lie within images of these lengths, and each eightbyte but the last is full
abbrev pub Within : Fetch → ℕ → ℕ → ℕ → Type 0
Within (One a) n regs stack = (n ≤ 8) × (a.0 + n ≤ regs)
Within (Two a b) n regs stack = (8 ≤ n) × (n ≤ 16) × (a.0 + 8 ≤ regs) × (b.0 + (n - 8) ≤ regs)
Within (Stack o) n regs stack = o.0 + n ≤ stack

-- n is 0, and the shape is that of the argument that the walk stands before; or n is not 0, and is the number of the refusal
abbrev pub IsStanding : Paper → ℕ → List ℕ → ℕ → Result Shape Refusal → Type 0
IsStanding P n d p (Ok s) = (n ≡ 0) × (asked s ≡ shape_at P d p)
IsStanding P n d p (Err r) = (n ≢ 0) × (r ≡ refusal_under P d n)
