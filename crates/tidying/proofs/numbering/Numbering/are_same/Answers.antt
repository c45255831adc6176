-- `are_same` meets its contract.
-- Assumes nothing.
use mathlib.Core.Path.{sym, ◌∙◌}
use native.Mathlib.Omega.{arith}
use borrow.Author.Tests.{ne_eqb}
use Rattle.tidying.proofs.Marks.{mark-room, marks-other}
use Rattle.tidying.proofs.numbering.Numbering.are_same.Goals as goal

pub offset_bounds-marks-j : goal.offset_bounds-marks-j
offset_bounds-marks-j c = omega (arith, c.requires.one, mark-room c.args.self.now.types.bytes.now c.requires.right)

pub bounds-marks-j : goal.bounds-marks-j
bounds-marks-j c = omega (arith, c.requires.one, mark-room c.args.self.now.types.bytes.now c.requires.right)

pub offset_bounds-marks-k : goal.offset_bounds-marks-k
offset_bounds-marks-k c = omega (arith, c.requires.other, mark-room c.args.self.now.types.bytes.now c.requires.right)

pub bounds-marks-k : goal.bounds-marks-k
bounds-marks-k c = omega (arith, c.requires.other, mark-room c.args.self.now.types.bytes.now c.requires.right)

pub returns-else-marks-j : goal.returns-else-marks-j
returns-else-marks-j c = ne_eqb _ _ c.if-marks-j.false ∙ sym (marks-other c.args.self.now.types.bytes.now c.args.self.now.types.marks.now c.args.j c.args.k c.args.self.now.types.marked c.requires.one c.requires.other c.if-marks-j.false)
