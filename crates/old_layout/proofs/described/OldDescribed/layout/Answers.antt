-- `layout` meets its contract: the named arguments first, and then the others.
-- Assumes nothing.
use mathlib.Core.Path.{refl}
use native.Mathlib.Omega.{arith}
use Rattle.old_layout.specs.Asks.{IsLaid}
use Rattle.old_layout.proofs.Arguments.{laid-first}
use Rattle.old_layout.proofs.Layouts.{area-asks, layout_is}
use Rattle.old_layout.proofs.Uses.{accepted-typed}
use Rattle.description.specs.Description.{named_in, arguments_in}
use Rattle.old_layout.proofs.described.OldDescribed.layout.Goals as goal

pub byte_at-named-requires : goal.byte_at-named-requires
byte_at-named-requires c = omega (arith, (accepted-typed c.args.self.bytes.now c.args.self.known.right).whole.headed)

pub byte_at-arguments-requires : goal.byte_at-arguments-requires
byte_at-arguments-requires c = omega (arith, (accepted-typed c.args.self.bytes.now c.args.self.known.right).whole.headed)

pub lay_more-first-requires : goal.lay_more-first-requires
lay_more-first-requires c = record { order = omega arith; there = omega (arith, c.byte_at-named.ensures.0, (accepted-typed c.args.self.bytes.now c.args.self.known.right).named); laid = laid-first c.args.self.bytes.now (record { offset = c.address_bytes-popped.result; values = record { 0 = 0 } }) (rw (← c.hidden-hidden.ensures) c.address_bytes-popped.ensures) refl }

pub lay_more-all-requires : goal.lay_more-all-requires
lay_more-all-requires c = record { order = omega (arith, c.byte_at-named.ensures.0, c.byte_at-arguments.ensures.0, (accepted-typed c.args.self.bytes.now c.args.self.known.right).named); there = omega (arith, c.byte_at-arguments.ensures.0); laid = c.lay_more-first.ensures }

pub raised_to-requires : goal.raised_to-requires
raised_to-requires c = let all : IsLaid c.args.self.bytes.now (arguments_in c.args.self.bytes.now) c.lay_more-all.result = rw (← c.byte_at-arguments.ensures.0) c.lay_more-all.ensures in (omega arith, omega (arith, area-asks c.args.self.bytes.now c.lay_more-all.result all c.args.self.known.right))

pub returns : goal.returns
returns c = let named : IsLaid c.args.self.bytes.now (named_in c.args.self.bytes.now) c.lay_more-first.result = rw (← c.byte_at-named.ensures.0) c.lay_more-first.ensures in let all : IsLaid c.args.self.bytes.now (arguments_in c.args.self.bytes.now) c.lay_more-all.result = rw (← c.byte_at-arguments.ensures.0) c.lay_more-all.ensures in layout_is c.args.self.bytes.now c.lay_more-first.result c.lay_more-all.result named all _ c.raised_to.ensures refl c.returns.ensures c.returned.ensures c.hidden-hidden.ensures c.address_bytes-popped.ensures refl
