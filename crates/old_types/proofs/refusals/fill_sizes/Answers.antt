use mathlib.Core.Path.{◌≡◌, sym, ap, ◌∙◌}
use mathlib.Core.Bool.{false}
use Prim.Native.Nat.{◌≤◌, ◌<◌}
use native.Mathlib.Omega.{arith}
use Rattle.std.proofs.Common.{tests}
use borrow.Author.Tests.{lt-ltb, le-ltb}
use Rattle.types.specs.Decode.{ty_at}
use Rattle.old_types.specs.Conditions.{large, first_large}
use Rattle.old_types.specs.Table.{entry_at}
use Rattle.old_types.proofs.Orders.{accepted-headed, accepted-counts, small-more, sized-next}
use Rattle.old_types.proofs.Sizes.{align-high}
use Rattle.types.proofs.Table.{filled_none}
use Rattle.old_types.proofs.Table.{sizes-filled, extent_entry, filled_more}
use Rattle.description.specs.Description.{types_in}
use Rattle.form.specs.Search.{first_from}
use Rattle.form.proofs.Search.{search_stop, search_on, search_end, within-at, within-past}
use Rattle.old_types.proofs.refusals.fill_sizes.Goals as goal

pub byte_at-k-end-requires : goal.byte_at-k-end-requires
byte_at-k-end-requires c = omega (arith, accepted-headed c.args.d.now c.requires)

pub loop-k-init : goal.loop-k-init
loop-k-init c = record {
  search = ap (first_from (large c.args.d.now) 0) (omega arith);
  small = λ j h. absurd (omega arith);
  entries = filled_none (entry_at c.args.d.now) c.args.table.now;
}

pub extent_of-extent-requires : goal.extent_of-extent-requires
extent_of-extent-requires c =
    let d = c.args.d.now in
    let low : c.loop-k.k ≤ 64 = omega (arith, (accepted-counts d c.requires).types) in (
      sized-next d c.requires c.loop-k.k (omega arith) c.loop-k.invariant.small,
      rw c.loop-k.invariant.entries (sizes-filled d c.args.table.now c.loop-k.k c.told-table low c.loop-k.invariant.small),
    )

pub returns-then-lt : goal.returns-then-lt
unfolding large
returns-then-lt c =
    let d = c.args.d.now in
    let low : c.loop-k.k ≤ 64 = omega (arith, (accepted-counts d c.requires).types) in
    let over : 4096 < c.extent_of-extent.result.size.0 = grind (arith, tests) in
    let found : first_large d ≡ c.loop-k.k = sym c.loop-k.invariant.search ∙ search_stop (large d) c.loop-k.k (types_in d) (omega arith) (rw (← c.extent_of-extent.ensures.size) (lt-ltb 4096 _ over)) in (
      within-at (large d) 0 (types_in d) c.loop-k.k found (omega arith),
      rw found c.loop-k.invariant.entries,
      rw (found, c.loop-k.invariant.entries) (sizes-filled d c.args.table.now c.loop-k.k c.told-table low c.loop-k.invariant.small),
    )

pub entry_of-requires : goal.entry_of-requires
entry_of-requires c = (grind (arith, tests), omega (arith, c.extent_of-extent.ensures.align, align-high (ty_at c.args.d.now c.loop-k.k)))

pub bounds-table-k : goal.bounds-table-k
bounds-table-k c = omega (arith, (accepted-counts c.args.d.now c.requires).types)

pub loop-k-preserved : goal.loop-k-preserved
unfolding large
loop-k-preserved c =
    let d = c.args.d.now in
    let right : c.extent_of-extent.result.size.0 ≤ 4096 = grind (arith, tests) in
    let small : large d c.loop-k.k ≡ false = rw (← c.extent_of-extent.ensures.size) (le-ltb 4096 _ right) in
    record {
      search = search_on (large d) c.loop-k.k (types_in d) (omega arith) small ∙ c.loop-k.invariant.search;
      small = small-more d c.loop-k.k c.loop-k.invariant.small small;
      entries = filled_more d c.args.table.now c.loop-k.table c.loop-k.k c.entry_of.result c.loop-k.invariant.entries (c.entry_of.ensures ∙ extent_entry d c.loop-k.k c.extent_of-extent.result c.extent_of-extent.ensures);
    }

pub returns : goal.returns
returns c =
    let d = c.args.d.now in
    let low : c.loop-k.k ≤ 64 = omega (arith, (accepted-counts d c.requires).types) in
    let found : first_large d ≡ c.loop-k.k = sym c.loop-k.invariant.search ∙ search_end (large d) c.loop-k.k (types_in d) (omega arith) in (
      within-past (large d) 0 (types_in d) (omega arith),
      rw found c.loop-k.invariant.entries,
      rw (found, c.loop-k.invariant.entries) (sizes-filled d c.args.table.now c.loop-k.k c.told-table low c.loop-k.invariant.small),
    )
