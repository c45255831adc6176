-- Argument after argument into its part of the buffer, and the record on behind it. Assumes nothing.
use mathlib.Core.Path.{◌≡◌, refl, sym, ap, ap₂, ◌∙◌}
use mathlib.Core.Bool.{false}
use mathlib.Core.List.{List, [], ◌++◌, append-nil, append_assoc}
use Prim.Native.Nat.{ℕ, suc, ◌+◌, ◌-◌, ◌≤◌, ◌<◌}
use native.Mathlib.Omega.{arith}
use lib.ListN.{length, get_or, take, drop, length-append, length-drop}
use lib.Seq.{length-take-le, take_at, take-length}
use Rattle.addresses.specs.Addresses.{gather}
use Rattle.description.specs.Description.{arguments_in, argument_at}
use Rattle.classify.specs.Table.{Tabled}
use Rattle.uses.specs.Uses.{uses_refusal}
use Rattle.places.specs.declared.Shape.{Shape as Coded}
use Rattle.places.specs.Shapes.{Shape, shape_in}
use Rattle.places.specs.Places.{eights}
use Rattle.places.specs.Recorded.{asked, Small}
use Rattle.places.proofs.Records.{shape_known}
use Rattle.layout.proofs.Bounds.{argument-known}
use Rattle.station.specs.Paper.{kcb, arguments, shape_at, area_of}
use Rattle.station.proofs.Kcb.{kcb-arguments}
use Rattle.walk.specs.declared.Walk.{Walk}
use Rattle.walk.specs.declared.Fetch.{Fetch}
use Rattle.walk.specs.Offsets.{Source, read_at, step, bytes_from, source_of}
use Rattle.walk.specs.Orders.{Ask, asking, offsets_of, with_offsets}
use Rattle.walk.specs.Steps.{bytes_at, moved_on}
use Rattle.walk.specs.Asks.{InBounds, Within}
use Rattle.walk.proofs.Checks.{Genuine, astray-not, on-unnamed, shape_here}
use Rattle.walk.proofs.Passes.{Fetchable, fetchable}
use Rattle.finishing.specs.Rest.{remaining, sizes_from, bytes_over, moved_over}
use Rattle.finishing.specs.Asks.{Judged}
use Rattle.finishing.proofs.Moves.{genuine_moves, remaining-next, remaining-none, moved-next, sizes-rest}
use Rattle.finishing.proofs.Equal.{genuine_right}

-- the part that is lent for one argument is as long as the argument
pub part-long : (out : List ℕ) (done size k : ℕ) → done + size ≤ length out → k ≡ (done + size) - done → length (take k (drop done out)) ≡ size
part-long out done size k l e = length-take-le k (drop done out) (rw length-drop (omega arith)) ∙ omega arith

-- the walk came from w to at, `done` bytes of the buffer are written, and what is to come makes up the rest
pub record Fetched (d : List ℕ) (w at : Walk) (a : Ask) (done room : ℕ) (out : List ℕ) : Type 0 where
  pub on : Genuine kcb d at
  pub long : length out ≡ room
  pub walks : moved_over kcb d (remaining kcb d at) at ≡ moved_over kcb d (remaining kcb d w) w
  pub bytes : take done out ++ bytes_over kcb d (remaining kcb d at) at a ≡ bytes_over kcb d (remaining kcb d w) w a
  pub left : done + sizes_from kcb d at.position (remaining kcb d at) ≡ room

pub fetched_first : (d : List ℕ) (w : Walk) (a : Ask) (regs stack room : ℕ) (out : List ℕ) → Judged d w regs stack room → length out ≡ room → Fetched d w w a 0 room out
fetched_first d w a regs stack room out h e = record { on = astray-not kcb d w h.on; long = e; walks = refl; bytes = refl; left = omega (arith, h.out) }

module _ (d : List ℕ) (w at : Walk) (regs stack : List ℕ) (done room : ℕ) (out : List ℕ) (u : uses_refusal d ≡ 0)
    (h : Fetched d w at (asking regs stack 0 []) done room out) where
  pub before-end : (b : ℕ) → b ≡ arguments_in d → at.position < b → at.position < arguments_in d
  before-end b e l = omega arith

  module _ (l : at.position < arguments_in d) where
    here : Fetchable d at
    here = fetchable d at u h.on (omega (arith, kcb-arguments d))

    module _ (t : List ℕ) (tabled : Tabled d t) (k : ℕ) (q : k ≡ argument_at d at.position) (s : Coded) (e : asked s ≡ shape_in false (get_or t k 0)) where
      shape_is : asked s ≡ shape_at kcb d at.position
      shape_is =
          shape_here d at.position k s (on-unnamed d at (genuine_right kcb d at h.on)) l q
          (e ∙ shape_known d t tabled false k (rw q (argument-known d u at.position l)))

      size_is : s.size.0 ≡ (shape_at kcb d at.position).size
      size_is = ap (λ (x : Shape). x.size) shape_is

      left_is : done + (s.size.0 + sizes_from kcb d (moved_on kcb d at).position (remaining kcb d (moved_on kcb d at))) ≡ room
      left_is =
          let z = sizes-rest kcb d at (omega (arith, kcb-arguments d)) in
          omega (arith, h.left, z, size_is)

      pub fits_in : done + s.size.0 ≤ length out
      fits_in = omega (arith, left_is, h.long)

      pub asks-here : InBounds at × Small (asked s)
      asks-here = (here.reached, rw shape_is here.small)

      pub copies_here : (f : Fetch) (area : ℕ) → area ≡ area_of kcb d → source_of f ≡ read_at eights (offsets_of at) (asked s) → Within f s.size.0 176 area
      copies_here f area r x = rw (r, size_is) (here.fetched f (x ∙ ap (read_at eights (offsets_of at)) shape_is))

      pub fetched_on : (f : Fetch) (end : ℕ) (part behind next : List ℕ) (v : Walk) → end ≡ done + s.size.0 → source_of f ≡ read_at eights (offsets_of at) (asked s)
          → part ≡ gather (regs ++ stack) (bytes_from 176 (source_of f) s.size.0) → length part ≡ s.size.0 → next ≡ take done out ++ (part ++ behind)
          → length next ≡ length out → v ≡ with_offsets at.number (suc at.position) (step eights (offsets_of at) (asked s))
          → Fetched d w v (asking regs stack 0 []) end room next
      unfolding moved_on bytes_at kcb
      fetched_on f end part behind next v en x y len z same m =
          let a = asking regs stack 0 [] in
          let below : at.position < arguments kcb d = omega (arith, kcb-arguments d) in
          let moved : v ≡ moved_on kcb d at =
          m ∙ ap (λ (i : Shape). with_offsets at.number (suc at.position) (step eights (offsets_of at) i)) shape_is in
          let read : part ≡ bytes_at kcb d at a =
          y ∙ ap₂ (λ (o : Source) (i : ℕ). gather (regs ++ stack) (bytes_from 176 o i)) (x ∙ ap (read_at eights (offsets_of at)) shape_is) size_is in
          let r = bytes_over kcb d (remaining kcb d (moved_on kcb d at)) (moved_on kcb d at) a in
          let cut : take end next ≡ take done out ++ part =
          ap₂ take en (z ∙ sym (append_assoc (take done out) part behind))
          ∙ take_at (take done out ++ part) behind (done + s.size.0)
          (length-append (take done out) part ∙ omega (arith, len, length-take-le done out (omega (arith, fits_in)))) in
          let one : bytes_over kcb d (remaining kcb d at) at a ≡ part ++ r = rw (remaining-next kcb d at below) (ap (λ (i : List ℕ). i ++ r) (sym read)) in
          record {
            on = rw moved (genuine_moves kcb d at h.on here.shaped refl below);
            long = same ∙ h.long;
            walks = rw moved (sym (moved-next kcb d at below) ∙ h.walks);
            bytes = rw moved (ap (λ (i : List ℕ). i ++ r) cut ∙ append_assoc (take done out) part r ∙ ap (λ (i : List ℕ). take done out ++ i) (sym one) ∙ h.bytes);
            left = rw moved (omega (arith, left_is, en));
          }

pub fetched_end : (d : List ℕ) (w at : Walk) (a : Ask) (done room b : ℕ) (out : List ℕ) → Fetched d w at a done room out → b ≡ arguments_in d → b ≤ at.position
    → (at ≡ moved_over kcb d (remaining kcb d w) w) × (out ≡ bytes_over kcb d (remaining kcb d w) w a)
fetched_end d w at a done room b out h e l =
    let z = remaining-none kcb d at (omega (arith, kcb-arguments d)) in
    let x : sizes_from kcb d at.position (remaining kcb d at) ≡ 0 = rw z in
    let y : done ≡ length out = omega (arith, h.left, h.long, x) in
    let k : bytes_over kcb d (remaining kcb d at) at a ≡ [] = rw z in (
      sym (ap (λ (n : ℕ). moved_over kcb d n at) z) ∙ h.walks,
      sym (take-length out) ∙ ap (λ (n : ℕ). take n out) (sym y) ∙ sym (append-nil (take done out)) ∙ ap (λ (r : List ℕ). take done out ++ r) (sym k) ∙ h.bytes,
    )
