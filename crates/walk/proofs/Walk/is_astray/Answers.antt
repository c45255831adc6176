-- The position, and each offset beside the layout's fold.
-- Assumes nothing.
use mathlib.Core.Path.{◌∙◌}
use native.Mathlib.Omega.{arith}
use Rattle.walk.proofs.Checks.{used-few, astray-low, astray-high, astray-differs}
use Rattle.walk.proofs.Walk.is_astray.Goals as goal
use Rattle.walk.proofs.Walk.is_astray.Goals.{then-position-named-via-then-position-named, then-position-named-via-else-position-named+then-position-arguments}

pub returns-then-position-named : goal.returns-then-position-named
returns-then-position-named c =
    elim c.then-position-named.branch [
      | then-position-named-via-then-position-named w ↦ astray-low c.args.known.bytes.now c.args.self (omega (arith, w.if-position-named.true, c.named.ensures))
      | then-position-named-via-else-position-named+then-position-arguments w ↦
          astray-high c.args.known.bytes.now c.args.self (omega (arith, w.if-position-named.false, c.named.ensures)) (omega (arith, w.if-position-arguments.true, w.arguments.ensures))
    ]

pub standing-requires : goal.standing-requires
standing-requires c = used-few c.args.known.bytes.now c.args.self.position c.used_after.result c.used_after.ensures

pub returns : goal.returns
returns c =
    c.ne.ensures
    ∙ astray-differs c.args.known.bytes.now c.args.self _ c.used_after.result (omega (arith, c.if-position-named.false, c.named.ensures))
    (omega (arith, c.if-position-arguments.false, c.arguments.ensures)) c.used_after.ensures c.standing.ensures
