-- One step of a walk, in bytes: 000 section 3.5.7 as document 01 narrows it, with the bounds 48 and 176. Written from the paper, and
-- not from the layout. Assumes nothing: these are definitions.
use Rattle.std.specs.Prelude.{◌≡◌, ℕ, ◌+◌, ◌*◌, ◌-◌, Bool, true, false, cond, ◌&&◌, List, [], ◌∷◌, leb, ltb}
use Rattle.units.specs.Raise.{raise}
use Rattle.addresses.specs.Addresses.{run}
use Rattle.places.specs.declared.Kind.{Kind}
use Rattle.places.specs.declared.Kind.TheVariants.{General as general, Vector as vector, Upper as upper, Wide as wide}
use Rattle.places.specs.declared.Used.{Used}
use Rattle.places.specs.Shapes.{Shape, has_some, has_wide}
use Rattle.places.specs.Places.{Slot, slot_size, Place, in_registers, on_stack, generals, vectors}
use Rattle.places.specs.Images.{slots, spread}
use Rattle.walk.specs.declared.Fetch.{Fetch}
use Rattle.walk.specs.declared.Fetch.TheVariants.{One, Two, Stack}

-- gp_offset, fp_offset, and the overflow offset: all bytes
pub record Offsets : Type 0 where
  pub general : ℕ
  pub vector : ℕ
  pub overflow : ℕ

-- where an argument is fetched: an offset of the register image for each eightbyte, or one of the stack image
pub data Source : Type 0 where
  from_registers : List ℕ → Source
  from_stack : ℕ → Source

-- "a type that may be in registers, with gp_offset at most 48 - 8 num_gp and fp_offset at most 176 - 16 num_fp". num_gp and num_fp
-- are registers (000: "the number of general purpose registers needed to pass type", "of floating point registers needed")
unfoldable pub holds : Offsets → List Kind → Bool
holds o ks = has_some ks && (leb o.general (48 - 8 * generals ks) && leb o.vector (176 - 16 * vectors ks))

-- 000: "Fetch type .. with an offset of gp_offset and/or fp_offset", eightbyte after eightbyte: a general register is saved in 8
-- bytes, a vector register in 16, and SSEUP is the upper half of the vector register that was read last. No unnamed argument is wide
-- (`Narrow`): of one that is, this says where its first eightbyte would be
abbrev pub reads : ℕ → ℕ → List Kind → List ℕ
reads g f [] = []
reads g f (general ∷ ks) = g ∷ reads (g + 8) f ks
reads g f (vector ∷ ks) = f ∷ reads g (f + 16) ks
reads g f (upper ∷ ks) = (f - 8) ∷ reads g f ks
reads g f (wide ∷ ks) = f ∷ reads g (f + 16) ks

-- request 2026-06: "the walk raises to the type's alignment where that exceeds 8", the slot
unfoldable pub raised : Slot → Offsets → Shape → ℕ
raised slot o s = cond (ltb (slot_size slot) s.align) (raise s.align o.overflow) o.overflow

abbrev pub read_if : Slot → Bool → Offsets → Shape → Source
read_if slot true o s = from_registers (reads o.general o.vector s.kinds)
read_if slot false o s = from_stack (raised slot o s)

-- "both offsets move on"; "its size is added, and the result is raised to 8"
abbrev pub step_if : Slot → Bool → Offsets → Shape → Offsets
step_if slot true o s =
    record { general = o.general + 8 * generals s.kinds; vector = o.vector + 16 * vectors s.kinds; overflow = o.overflow }
step_if slot false o s = record { general = o.general; vector = o.vector; overflow = raise (slot_size slot) (raised slot o s + s.size) }

-- where the next argument is fetched, and the offsets after it
unfoldable pub read_at : Slot → Offsets → Shape → Source
read_at slot o s = read_if slot (holds o s.kinds) o s

unfoldable pub step : Slot → Offsets → Shape → Offsets
step slot o s = step_if slot (holds o s.kinds) o s

-- the addresses of its bytes, in the register image, of base bytes, with the stack image after it
abbrev pub bytes_from : ℕ → Source → ℕ → List ℕ
bytes_from base (from_registers os) n = spread os n
bytes_from base (from_stack o) n = run (base + o) n

-- how code holds a source: at most two eightbytes
abbrev pub source_of : Fetch → Source
source_of (One a) = from_registers (a.0 ∷ [])
source_of (Two a b) = from_registers (a.0 ∷ b.0 ∷ [])
source_of (Stack o) = from_stack o.0

-- ---- beside the layout

-- request 2026-06: "an unnamed one, structures included, is always on the stack", so that no unnamed argument asks for a wide register
pub record Narrow (s : Shape) : Type 0 where
  pub kinds : has_wide s.kinds ≡ false

-- the offsets where so much is used: "With none used they are 0, 48 and 0"
unfoldable pub walk_at : Used → Offsets
walk_at u = record { general = 8 * u.general.0; vector = 48 + 16 * u.vector.0; overflow = u.stack.0 }

-- where the layout's place lies in the images
abbrev pub source_in : Place → Source
source_in (in_registers rs) = from_registers (slots rs)
source_in (on_stack o) = from_stack o

-- a walk over all of these arguments: where each is fetched, and the offsets after them
abbrev pub visits : Slot → Offsets → List Shape → List Source
visits slot o [] = []
visits slot o (s ∷ ss) = read_at slot o s ∷ visits slot (step slot o s) ss

abbrev pub steps : Slot → Offsets → List Shape → Offsets
steps slot o [] = o
steps slot o (s ∷ ss) = steps slot (step slot o s) ss
