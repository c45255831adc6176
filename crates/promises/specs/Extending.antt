-- Request 2026-13, "Adding an argument must move nothing", beside demand 2: "Take two accepted descriptions with the same types, model and return type, where one
-- argument list begins with the other and each shared argument is named in both or unnamed in both. Then every shared argument has the same place in both, each
-- value byte written there is the same for equal values and an equal hidden address, and the register, vector and stack counts never get smaller." Of any model.
-- `Extends` (layout/specs/Extending.antt) is of types written out, `Continues` has the request's own words, one type table; `Unmoved` is what follows. What the calls
-- of a C host leave is said of every outcome that their contracts admit. proofs/Extending.antt proves `Extending`. Assumes nothing: these are definitions.
use Rattle.std.specs.Prelude.{◌≡◌, List, ◌++◌, ℕ, ◌≤◌, ◌<◌, length, get_or, take}
use denote.Triple.Entry.{Res}
use denote.Triple.Clauses.{Lasts}
use Rattle.tightness.specs.Tight.{Call as Made, Admits}
use Rattle.description.specs.Description.{arguments_in}
use Rattle.layout.specs.Extending.{Extends, Continues, Unmoved}
use Rattle.moving.specs.Images.{frame_of, amd64}
use Rattle.moving.specs.Extending.{GoesOn, SameBytes, BytesStay}
use Rattle.layout.specs.declared.placements.Placement.{Placement as Record}
use Rattle.flat.specs.declared.Placement.{Placement}
use Rattle.flat.specs.declared.Layout.{Layout}
use Rattle.flat.specs.Meanings.{placement_meant}
use Rattle.callbridge.specs.contracts.cb_lay_out
use Rattle.callbridge.specs.contracts.cb_place_values

-- two records of one argument: only the number of its type may differ
pub record SamePlace (p q : Record) : Type 0 where
  pub place : q.place ≡ p.place
  pub size : q.size ≡ p.size
  pub align : q.align ≡ p.align
  pub value : q.at ≡ p.at
  pub named : q.named ≡ p.named

-- the counts of the first call, and those of the longer one
pub record NoSmaller (l m : Layout) : Type 0 where
  pub general : l.used.general.0 ≤ m.used.general.0
  pub vector : l.used.vector.0 ≤ m.used.vector.0
  pub stack : l.used.stack.0 ≤ m.used.stack.0
  pub area : l.area.0 ≤ m.area.0

-- two calls of cb_lay_out that answer 0
abbrev pub RecordsStay : Type 2
RecordsStay =
    (c e : Made cb_lay_out.ended) (r : Res (cb_lay_out.ended).signature c.lifetimes) (w : Lasts cb_lay_out.ended c.lifetimes c.passed)
    (q : Res (cb_lay_out.ended).signature e.lifetimes) (v : Lasts cb_lay_out.ended e.lifetimes e.passed)
    → Admits cb_lay_out.ended (λ M 𝓤 𝓛. cb_lay_out.clauses 𝓛) c r w → Admits cb_lay_out.ended (λ M 𝓤 𝓛. cb_lay_out.clauses 𝓛) e q v
    → r.number ≡ 0 → q.number ≡ 0 → Extends c.passed.0.now e.passed.0.now
    → ((i : ℕ) (x y : Placement) → i < arguments_in c.passed.0.now → SamePlace (placement_meant (get_or w.1.1.0 i x)) (placement_meant (get_or v.1.1.0 i y))) × NoSmaller w.1.0 v.1.0

-- two calls of cb_place_values that answer 0, with equal values for the shared arguments and an equal hidden address
abbrev pub ImagesStay : Type 2
ImagesStay =
    (c e : Made cb_place_values.ended) (r : Res (cb_place_values.ended).signature c.lifetimes) (w : Lasts cb_place_values.ended c.lifetimes c.passed)
    (q : Res (cb_place_values.ended).signature e.lifetimes) (v : Lasts cb_place_values.ended e.lifetimes e.passed)
    → Admits cb_place_values.ended (λ M 𝓤 𝓛. cb_place_values.clauses 𝓛) c r w → Admits cb_place_values.ended (λ M 𝓤 𝓛. cb_place_values.clauses 𝓛) e q v
    → r.number ≡ 0 → q.number ≡ 0 → Extends c.passed.0.now e.passed.0.now → e.passed.1.0 ≡ c.passed.1.0
    → take (length c.passed.1.1.0.now) e.passed.1.1.0.now ≡ c.passed.1.1.0.now
    → SameBytes (frame_of c.passed.0.now) (w.1.1.1.0 ++ (w.1.1.1.1.0 ++ w.1.1.1.1.1.0)) (v.1.1.1.0 ++ (v.1.1.1.1.0 ++ v.1.1.1.1.1.0))

pub record Extending : Type 2 where
  -- one type table, in which the shared arguments and the returned type have the same numbers
  pub same_table : (d e : List ℕ) → Continues d e → Extends d e
  -- places and counts
  pub unmoved : (d e : List ℕ) → Extends d e → Unmoved d e
  -- the value bytes of the shared arguments have the same addresses, and so has the hidden address
  pub goes_on : (d e : List ℕ) → Extends d e → GoesOn (frame_of d) (frame_of e)
  -- the images that `place_values` leaves
  pub bytes_stay : BytesStay amd64
  -- the calls
  pub records_stay : RecordsStay
  pub images_stay : ImagesStay
