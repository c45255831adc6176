use mathlib.Core.Path.{sym, ◌∙◌}
use Rattle.places.specs.Places.{enough}
use Rattle.places.proofs.Orders.{le-leb_test}
use Rattle.places.proofs.Used.is_enough.Goals as goal

pub returns-then-le : goal.returns-then-le
unfolding enough
returns-then-le c =
    let u = c.args.self in
    rw (sym (le-leb_test u.general.0 6) ∙ sym c.le.ensures ∙ c.if-le.true) (c.le-then-le.ensures ∙ le-leb_test u.vector.0 8)

pub returns-else-le : goal.returns-else-le
unfolding enough
returns-else-le c =
    let u = c.args.self in
    rw (sym (le-leb_test u.general.0 6) ∙ sym c.le.ensures ∙ c.if-le.false) c.if-le.false
