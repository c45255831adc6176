-- The part that show answers is the bytes that a step would write, where these lie in one part (C9). Assumes nothing.
use mathlib.Core.Path.{◌≡◌, refl, ap₂, ◌∙◌}
use mathlib.Core.Logic.{◌≢◌}
use mathlib.Core.Bool.{Bool, true, false, cond, ◌||◌}
use mathlib.Core.List.{List, [], ◌++◌}
use Prim.Native.Nat.{ℕ, ◌≤◌, ◌<◌}
use native.Mathlib.Omega.{arith}
use lib.ListN.{length, get_or}
use borrow.Author.Tests.{eq-eqb, ne_eqb}
use Rattle.addresses.specs.Addresses.{gather}
use Rattle.places.specs.Places.{place}
use Rattle.places.specs.Images.{total}
use Rattle.station.specs.declared.Station.{Station}
use Rattle.station.specs.Paper.{Paper, arguments, shape_at, used_at}
use Rattle.station.specs.Attachment.{described}
use Rattle.walk.specs.declared.Walk.{Walk}
use Rattle.walk.specs.Offsets.{Source, read_at, bytes_from, source_in}
use Rattle.walk.specs.Orders.{Ask, offsets_of, standing, wrong_stack, step_refusal, show_refusal}
use Rattle.walk.specs.Steps.{bytes_at}
use Rattle.walk.proofs.Checks.{astray-not}
use Rattle.walk.proofs.Passes.{show-passes, room, genuine_reads}
use Rattle.walk.proofs.ShownParts.{part_bytes}
use Rattle.walk.specs.Show.{whole, part_in, shown_bytes, shown_in, shown_answer, show_part}
use Rattle.histories.specs.Calls.{Lends}
use Rattle.histories.specs.Lawful.{Lawful, Holds}
use Rattle.histories.specs.Values.{cut, images_for}
use Rattle.histories.specs.ConditionC.{ShowChecks, Shows, ShowsNone}
use Rattle.histories.proofs.Attachments.{described-held}
use Rattle.histories.proofs.Walks.{known, standing-reads, reads}

or_right : (b : Bool) → (b || false) ≡ b
or_right true = refl
or_right false = refl

module _ (P : Paper) where
  part-accepted : (s : Station) (seat : List ℕ) (w : Walk) (a : Ask) → show_refusal P s seat w a ≡ 0
      → show_part P s seat w a
      ≡ shown_bytes (part_in (read_at P.slot (offsets_of w) (shape_at P (described s seat) w.position)) (shape_at P (described s seat) w.position)) a.registers a.stack
  unfolding show_part shown_answer shown_in
  part-accepted s seat w a e = rw (eq-eqb (show_refusal P s seat w a) 0 e)

  bytes-written : (d : List ℕ) (w : Walk) (a : Ask) → bytes_at P d w a
      ≡ gather (a.registers ++ a.stack) (bytes_from P.registers (read_at P.slot (offsets_of w) (shape_at P d w.position)) (shape_at P d w.position).size)
  unfolding bytes_at
  bytes-written d w a = refl

  -- a refused one answers the empty part
  pub shows_none : ShowsNone P
  unfolding show_part shown_answer
  shows_none s seat w a h = rw (ne_eqb (show_refusal P s seat w a) 0 h)

  -- "the same checks but for the out buffer"
  pub same-checks : ShowChecks P
  unfolding step_refusal show_refusal
  same-checks s seat w a e = rw (e, or_right (wrong_stack P (described s seat) a))

  module _ (L : Lawful P) where
    pub shows : Shows P
    shows s seat w a e =
        let d = described s seat in
        let z = show-passes P s seat w a e in
        let g = astray-not P d w z.0.on in
        let l : w.position < arguments P d = omega (arith, g.to, z.0.before) in
        let k = known P L d z.0.accepted w.position g.from l in
        part-accepted s seat w a e
        ∙ rw (bytes-written d w a, genuine_reads P d w g k.shaped k.narrow (L.starts d z.0.accepted))
        (part_bytes P.registers P.slot (used_at P d w.position) (shape_at P d w.position) a k.shaped k.seated z.0.registers (λ f. rw z.1 (room P d w.position l f)))

    -- in a walk over placed images it shows the next argument
    pub shows-next : (s : Station) (seat d address values : List ℕ) (p : ℕ) (a : Ask) → Holds P s seat d → P.named d ≤ p → p ≤ arguments P d → length values ≡ total (P.shapes d)
        → Lends P (images_for P d address values) a → show_refusal P s seat (standing P d s.number p) a ≡ 0
        → show_part P s seat (standing P d s.number p) a
        ≡ cond (whole (source_in (place P.slot (used_at P d p) (shape_at P d p))) (shape_at P d p)) (get_or (cut (P.shapes d) values) p []) []
    unfolding standing
    shows-next s seat d address values p a h b m f g r =
        let q = described-held P s seat d h in
        let e = (show-passes P s seat (standing P d s.number p) a r).0.before in
        let t : p ≢ arguments P d = rw q at e in
        let l : p < arguments P d = omega arith in
        let sh = known P L d h.accepted p b l in
        shows s seat (standing P d s.number p) a r
        ∙ rw q (ap₂ (λ (x : Source) (v : List ℕ). cond (whole x (shape_at P d p)) v []) (standing-reads P d s.number p sh) (reads P L d address values s.number p a sh f g))
