-- By the rows, then by the members. Assumes nothing.
use mathlib.Core.Path.{refl}
use Prim.Native.Nat.{◌+◌}
use borrow.Author.Tests.{lt-ltb}
use Rattle.collecting.proofs.interning.Rows.crowded.Goals as goal

pub returns-then-self-gt64 : goal.returns-then-self-gt64
returns-then-self-gt64 c = rw (lt-ltb 64 (c.args.self.now.types + 1) c.if-self-gt64.true) refl
