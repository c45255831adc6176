-- The lines in order. Assumes nothing.
use native.Mathlib.Omega.{arith}
use Rattle.listing.proofs.Puts.{puts_behind}
use Rattle.listing.proofs.Lines.{laid-is}
use Rattle.listing.proofs.Small.{few-records, headed, layout-small, named_small}
use Rattle.uses.proofs.Uses.{accepted-typed}
use Rattle.listing.proofs.put_laid.Goals as goal

pub variadic_in-variadic-requires : goal.variadic_in-variadic-requires
variadic_in-variadic-requires c = omega (arith, headed c.args.described.bytes.now c.requires.1.right)

pub byte_at-k-requires : goal.byte_at-k-requires
byte_at-k-requires c = omega (arith, headed c.args.described.bytes.now c.requires.1.right)

pub put_head-requires : goal.put_head-requires
put_head-requires c =
    let few = few-records c.args.described.bytes.now c.requires.1.right in
    (omega arith, omega (arith, few, c.arguments-all.ensures), omega (arith, few, c.named-first.ensures, (accepted-typed c.args.described.bytes.now c.args.described.judged).named), layout-small c.requires.1)

pub put_walk-requires : goal.put_walk-requires
put_walk-requires c = (omega (arith, c.requires.0, puts_behind c.put_head.ensures, c.put_head.ensures.short, puts_behind c.put_records.ensures, c.put_records.ensures.short, puts_behind c.put_return.ensures, c.put_return.ensures.short), named_small c.requires.1)

pub returns : goal.returns
returns c = laid-is c.args.described.bytes.now c.args.layout c.arguments-all.ensures c.named-first.ensures c.byte_at-k.ensures.0 c.variadic_in-variadic.ensures c.put_head.ensures c.put_records.ensures c.put_return.ensures c.put_walk.ensures
