-- `are_same_records` meets its contract.
-- Assumes nothing.
use mathlib.Core.Path.{sym, ◌∙◌}
use native.Mathlib.Omega.{arith}
use Rattle.tidying.proofs.Completing.{same_whole, same-kinds, same-basic, same-counts, same_low, same-array, same_runs, same-groups}
use Rattle.tidying.proofs.numbering.Numbering.are_same_records.Goals as goal

pub kind_at-kind-requires : goal.kind_at-kind-requires
kind_at-kind-requires c = (same_whole c.args.self.now.types.bytes.now c.args.self.now.numbers c.args.j c.args.k c.requires, c.requires.one)

pub kind_at-requires : goal.kind_at-requires
kind_at-requires c = (same_whole c.args.self.now.types.bytes.now c.args.self.now.numbers c.args.j c.args.k c.requires, c.requires.other)

pub returns-then-kind-kind_at : goal.returns-then-kind-kind_at
returns-then-kind-kind_at c = sym (same-kinds c.args.self.now.types.bytes.now c.args.self.now.numbers c.args.j c.args.k c.requires (λ e. c.if-kind-kind_at.true (c.kind_at-kind.ensures ∙ e ∙ sym c.kind_at.ensures)))

pub a_at-a-requires : goal.a_at-a-requires
a_at-a-requires c = (same_whole c.args.self.now.types.bytes.now c.args.self.now.numbers c.args.j c.args.k c.requires, c.requires.one)

pub a_at-b-requires : goal.a_at-b-requires
a_at-b-requires c = (same_whole c.args.self.now.types.bytes.now c.args.self.now.numbers c.args.j c.args.k c.requires, c.requires.other)

pub returns-then-kind-eq0 : goal.returns-then-kind-eq0
returns-then-kind-eq0 c = rw (c.a_at-a.ensures.0, c.a_at-b.ensures.0) (same-basic c.args.self.now.types.bytes.now c.args.self.now.numbers c.args.j c.args.k c.requires (sym c.kind_at-kind.ensures ∙ c.if-kind-kind_at.false ∙ c.kind_at.ensures) (sym c.kind_at-kind.ensures ∙ c.if-kind-eq0.true))

pub count_at-count-requires : goal.count_at-count-requires
count_at-count-requires c = (same_whole c.args.self.now.types.bytes.now c.args.self.now.numbers c.args.j c.args.k c.requires, c.requires.one)

pub count_at-requires : goal.count_at-requires
count_at-requires c = (same_whole c.args.self.now.types.bytes.now c.args.self.now.numbers c.args.j c.args.k c.requires, c.requires.other)

pub returns-then-count-count_at : goal.returns-then-count-count_at
returns-then-count-count_at c = sym (same-counts c.args.self.now.types.bytes.now c.args.self.now.numbers c.args.j c.args.k c.requires (sym c.kind_at-kind.ensures ∙ c.if-kind-kind_at.false ∙ c.kind_at.ensures) (λ e. c.if-kind-eq0.false (c.kind_at-kind.ensures ∙ e)) (λ e. c.if-count-count_at.true (c.count_at-count.ensures.0 ∙ e ∙ sym c.count_at.ensures.0)))

pub bounds-self-a : goal.bounds-self-a
bounds-self-a c = omega (arith, c.a_at-a.ensures.0, same_low c.args.self.now.types.bytes.now c.args.self.now.numbers c.args.j c.args.k c.requires (sym c.kind_at-kind.ensures ∙ c.if-kind-kind_at.false ∙ c.kind_at.ensures) (λ e. c.if-kind-eq0.false (c.kind_at-kind.ensures ∙ e)) (sym c.count_at-count.ensures.0 ∙ c.if-count-count_at.false ∙ c.count_at.ensures.0) (sym c.kind_at-kind.ensures ∙ c.if-kind-eq1.true))

pub bounds-self-b : goal.bounds-self-b
bounds-self-b c = omega (arith, c.a_at-b.ensures.0, same_low c.args.self.now.types.bytes.now c.args.self.now.numbers c.args.j c.args.k c.requires (sym c.kind_at-kind.ensures ∙ c.if-kind-kind_at.false ∙ c.kind_at.ensures) (λ e. c.if-kind-eq0.false (c.kind_at-kind.ensures ∙ e)) (sym c.count_at-count.ensures.0 ∙ c.if-count-count_at.false ∙ c.count_at.ensures.0) (sym c.kind_at-kind.ensures ∙ c.if-kind-eq1.true))

pub returns-then-kind-eq1 : goal.returns-then-kind-eq1
returns-then-kind-eq1 c = rw (c.a_at-a.ensures.0, c.a_at-b.ensures.0) (same-array c.args.self.now.types.bytes.now c.args.self.now.numbers c.args.j c.args.k c.requires (sym c.kind_at-kind.ensures ∙ c.if-kind-kind_at.false ∙ c.kind_at.ensures) (λ e. c.if-kind-eq0.false (c.kind_at-kind.ensures ∙ e)) (sym c.count_at-count.ensures.0 ∙ c.if-count-count_at.false ∙ c.count_at.ensures.0) (sym c.kind_at-kind.ensures ∙ c.if-kind-eq1.true))

pub are_same_members-requires : goal.are_same_members-requires
are_same_members-requires c = rw (c.a_at-a.ensures.0, c.a_at-b.ensures.0, c.count_at-count.ensures.0) (same_runs c.args.self.now.types.bytes.now c.args.self.now.numbers c.args.j c.args.k c.requires (sym c.kind_at-kind.ensures ∙ c.if-kind-kind_at.false ∙ c.kind_at.ensures) (λ e. c.if-kind-eq0.false (c.kind_at-kind.ensures ∙ e)) (sym c.count_at-count.ensures.0 ∙ c.if-count-count_at.false ∙ c.count_at.ensures.0) (omega (arith, c.kind_at-kind.ensures, c.if-kind-eq0.false, c.if-kind-eq1.false)))

pub returns : goal.returns
returns c = c.are_same_members.ensures ∙ rw (c.a_at-a.ensures.0, c.a_at-b.ensures.0, c.count_at-count.ensures.0) (same-groups c.args.self.now.types.bytes.now c.args.self.now.numbers c.args.j c.args.k c.requires (sym c.kind_at-kind.ensures ∙ c.if-kind-kind_at.false ∙ c.kind_at.ensures) (λ e. c.if-kind-eq0.false (c.kind_at-kind.ensures ∙ e)) (sym c.count_at-count.ensures.0 ∙ c.if-count-count_at.false ∙ c.count_at.ensures.0) (omega (arith, c.kind_at-kind.ensures, c.if-kind-eq0.false, c.if-kind-eq1.false)))
