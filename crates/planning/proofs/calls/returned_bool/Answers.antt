-- Void is none.
-- Assumes nothing.
use mathlib.Core.Bool.{true, false}
use native.Mathlib.Omega.{arith}
use Rattle.planning.proofs.Heads.{bool-void, bool-known, bool_is}
use Rattle.moving.proofs.Turns.{whole}
use Rattle.planning.proofs.calls.returned_bool.Goals as goal

pub byte_at-k-requires : goal.byte_at-k-requires
byte_at-k-requires c = omega (arith, (whole _ c.requires).headed)

pub returns-then-k-eq255 : goal.returns-then-k-eq255
returns-then-k-eq255 c = bool-void _ _ c.byte_at-k.ensures.0 c.if-k-eq255.true

pub is_bool-requires : goal.is_bool-requires
is_bool-requires c = bool-known _ _ c.byte_at-k.ensures.0 c.if-k-eq255.false c.requires

pub returns-then-is_bool : goal.returns-then-is_bool
returns-then-is_bool c = bool_is _ _ c.byte_at-k.ensures.0 c.if-k-eq255.false _ true c.is_bool.ensures c.if-is_bool.true

pub returns-else-is_bool : goal.returns-else-is_bool
returns-else-is_bool c = bool_is _ _ c.byte_at-k.ensures.0 c.if-k-eq255.false _ false c.is_bool.ensures c.if-is_bool.false
