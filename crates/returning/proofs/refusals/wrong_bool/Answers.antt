-- `wrong_bool` meets its contract.
-- Assumes nothing.
use mathlib.Core.Path.{◌≡◌, sym}
use Prim.Native.Nat.{◌<◌}
use native.Mathlib.Omega.{arith}
use lib.ListN.{length}
use Rattle.std.proofs.Common.{rules}
use Rattle.returning.proofs.Answers.{bool-known, bool-test}
use Rattle.returning.proofs.Orders.{none_right}
use Rattle.returning.proofs.Values.{whole}
use Rattle.returning.proofs.refusals.wrong_bool.Goals as goal

pub returns-then-is_empty : goal.returns-then-is_empty
returns-then-is_empty c = let e : length c.args.value.now ≡ 0 = search rules in sym (none_right _ _ e)

pub byte_at-requires : goal.byte_at-requires
byte_at-requires c = omega (arith, whole _ c.requires.0)

pub broken_byte-requires : goal.broken_byte-requires
broken_byte-requires c =
    let l : 0 < length c.args.value.now = search rules in
    (whole _ c.requires.0, bool-known _ c.args.value.now c.requires.0 c.requires.1 l _ c.byte_at.ensures.0)

pub returns : goal.returns
returns c =
    let l : 0 < length c.args.value.now = search rules in
    bool-test _ _ c.requires.0 c.requires.1 l _ _ _ c.byte_at.ensures.0 c.byte_at-2.ensures.0 c.broken_byte.ensures
