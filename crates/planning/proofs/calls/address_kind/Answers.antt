-- By the model.
-- Assumes nothing.
use mathlib.Core.Path.{sym, ◌∙◌}
use Rattle.planning.proofs.Heads.{kind-none, kind-lp64, kind-ilp32}
use mathlib.Core.Path.{ap}
use mathlib.Core.Bool.{not}
use Rattle.planning.proofs.calls.address_kind.Goals as goal

pub returns-then-not-used : goal.returns-then-not-used
returns-then-not-used c = kind-none c.args.d.now c.args.used (ap not c.if-not-used.true)

pub returns-in-Lp64 : goal.returns-in-Lp64
returns-in-Lp64 c = kind-lp64 c.args.d.now c.args.used (ap not c.if-not-used.false) (sym c.model_of.ensures ∙ c.in-Lp64.is)

pub returns-in-Ilp32 : goal.returns-in-Ilp32
returns-in-Ilp32 c = kind-ilp32 c.args.d.now c.args.used (ap not c.if-not-used.false) (sym c.model_of.ensures ∙ c.in-Ilp32.is)
