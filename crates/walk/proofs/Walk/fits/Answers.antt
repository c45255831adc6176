-- The bounds 48 - 8 num_gp and 176 - 16 num_fp.
-- Assumes nothing.
use mathlib.Core.Bool.{true, not, true≢false}
use mathlib.Core.Path.{◌≡◌, sym, ap, ◌∙◌}
use native.Mathlib.Omega.{arith}
use Rattle.places.specs.Shapes.{has_some}
use Rattle.places.specs.Recorded.{listed}
use Rattle.walk.proofs.Fetches.{some-kinds, is_le-leb, holds-none, holds-general, holds-vector}
use Rattle.walk.proofs.Walk.fits.Goals as goal
use Rattle.walk.proofs.Walk.fits.Goals.{in-Stack, in_default, then-not-matches, else-not-matches}

pub returns-then-le : goal.returns-then-le
returns-then-le c =
    elim c.if-not-matches.branch [
      | then-not-matches w ↦
          let some : has_some (listed c.args.kinds) ≡ true =
          elim c.match-matches.branch [
            | in-Stack v ↦ absurd (true≢false (sym v.matches-is ∙ w.if-not-matches.true))
            | in_default v ↦ some-kinds c.args.kinds v.in_default.not-Stack
          ] in
          c.le-then-le.ensures ∙ is_le-leb _ _
          ∙ holds-vector c.args.self c.args.kinds some w.sub.result.0 (omega (arith, w.sub.ensures, w.general_bytes.ensures, c.from-needed.ensures.general))
          c.sub-then-le.result.0 (omega (arith, c.sub-then-le.ensures, c.vector_bytes.ensures, c.from-needed.ensures.vector))
          (sym (is_le-leb _ _) ∙ sym w.le.ensures ∙ sym w.value-is ∙ c.if-le.true)
      | else-not-matches w ↦ absurd (true≢false (sym c.if-le.true ∙ w.value-is ∙ ap not w.if-not-matches.false))
    ]

pub returns-else-le : goal.returns-else-le
returns-else-le c =
    elim c.if-not-matches.branch [
      | then-not-matches w ↦
          let some : has_some (listed c.args.kinds) ≡ true =
          elim c.match-matches.branch [
            | in-Stack v ↦ absurd (true≢false (sym v.matches-is ∙ w.if-not-matches.true))
            | in_default v ↦ some-kinds c.args.kinds v.in_default.not-Stack
          ] in
          c.if-le.false ∙ holds-general c.args.self c.args.kinds some w.sub.result.0 (omega (arith, w.sub.ensures, w.general_bytes.ensures, c.from-needed.ensures.general))
          (sym (is_le-leb _ _) ∙ sym w.le.ensures ∙ sym w.value-is ∙ c.if-le.false)
      | else-not-matches w ↦
          elim c.match-matches.branch [
            | in-Stack v ↦ c.if-le.false ∙ holds-none c.args.self c.args.kinds (rw v.in-Stack.is)
            | in_default v ↦ absurd (true≢false (sym w.if-not-matches.false ∙ v.matches-is))
          ]
    ]
