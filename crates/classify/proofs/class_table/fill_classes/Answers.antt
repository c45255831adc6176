-- `fill_classes` meets its contract.
-- Assumes nothing.
use mathlib.Core.Path.{◌≡◌, ap, ◌∙◌}
use Prim.Native.Nat.{ℕ, ◌<◌}
use native.Mathlib.Omega.{arith}
use lib.ListN.{length}
use Rattle.classify.specs.Table.{full_entry}
use Rattle.classify.proofs.Table.{word_small, right-none, full_is, full_more, sizes-kept, classes-kept, tabled, accepted-filled}
use Rattle.description.specs.Description.{types_in, model_in}
use Rattle.form.proofs.Form.{accepted-headed}
use Rattle.types.specs.Table.{filled, Sizes}
use Rattle.types.proofs.Large.{accepted-form, accepted-sized}
use Rattle.types.proofs.Table.{filled_none}
use Rattle.classify.proofs.class_table.fill_classes.Goals as goal

pub byte_at-types-requires : goal.byte_at-types-requires
byte_at-types-requires c = omega (arith, accepted-headed c.args.d.now (accepted-form c.args.d.now c.requires.0))

pub loop-k-init : goal.loop-k-init
loop-k-init c = (right-none c.args.d.now 512, filled_none (full_entry c.args.d.now) c.args.table.now)

pub word_at-word-requires : goal.word_at-word-requires
word_at-word-requires c =
    let full : length c.args.table.now ≡ 64 = c.told-table in
    let low : c.loop-k.k < types_in c.args.d.now = omega (arith, c.loop-k-test.true, c.byte_at-types.ensures.0) in (
      accepted-sized c.args.d.now c.requires.0 c.loop-k.k low,
      record { sizes = rw c.loop-k.invariant.1 (sizes-kept c.args.d.now c.args.table.now c.requires.1 full (accepted-filled c.args.d.now c.requires.0) c.loop-k.k (omega (arith, low))); right = c.loop-k.invariant.0; classes = rw c.loop-k.invariant.1 (classes-kept c.args.d.now c.args.table.now c.requires.1 full (accepted-filled c.args.d.now c.requires.0) c.loop-k.k (omega (arith, low))) },
    )

pub bounds-table-k : goal.bounds-table-k
bounds-table-k c = omega (arith, c.requires.1.few, c.loop-k-test.true, c.byte_at-types.ensures.0)

pub with_word-requires : goal.with_word-requires
with_word-requires c = rw c.word_at-word.ensures.0 (word_small _)

pub bounds-table-k-in-loop-k : goal.bounds-table-k-in-loop-k
bounds-table-k-in-loop-k c = omega (arith, c.requires.1.few, c.loop-k-test.true, c.byte_at-types.ensures.0)

pub loop-k-preserved : goal.loop-k-preserved
loop-k-preserved c =
    let full : length c.args.table.now ≡ 64 = c.told-table in
    let low : c.loop-k.k < types_in c.args.d.now = omega (arith, c.loop-k-test.true, c.byte_at-types.ensures.0) in
    let sizes : Sizes (model_in c.args.d.now) c.args.d.now (types_in c.args.d.now) c.loop-k.table = rw c.loop-k.invariant.1 (sizes-kept c.args.d.now c.args.table.now c.requires.1 full (accepted-filled c.args.d.now c.requires.0) c.loop-k.k (omega (arith, low))) in
    (c.word_at-word.ensures.1, full_more c.args.d.now c.args.table.now c.loop-k.table c.loop-k.k c.with_word.result.0 c.loop-k.invariant.1 (full_is c.args.d.now c.loop-k.table sizes c.loop-k.k low c.word_at-word.result.0 c.word_at-word.ensures.0 c.with_word.result.0 c.with_word.ensures))

pub returns : goal.returns
returns c =
    let full : length c.args.table.now ≡ 64 = c.told-table in
    let all : c.loop-k.k ≡ types_in c.args.d.now = omega (arith, c.loop-k-test.false, c.loop-k.auto.k-end, c.byte_at-types.ensures.0) in
    let is : c.loop-k.table ≡ filled (full_entry c.args.d.now) (types_in c.args.d.now) c.args.table.now = c.loop-k.invariant.1 ∙ ap (λ (n : ℕ). filled (full_entry c.args.d.now) n c.args.table.now) all in
    (is, rw is (tabled c.args.d.now c.args.table.now c.requires.1 full (accepted-filled c.args.d.now c.requires.0)))
