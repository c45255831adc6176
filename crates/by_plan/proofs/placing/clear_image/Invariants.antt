-- Zeros up to k: first the registers, then the rest.
-- Assumes nothing.
use Rattle.std.proofs.Common.{◌≡◌, ◌++◌, length, drop, replicate}
use Rattle.by_plan.proofs.placing.clear_image.Given as goal

abbrev pub invariant-loop-k : goal.invariant-loop-k
invariant-loop-k l = (length l.image ≡ length l.initial.image) × (l.image ≡ replicate l.k 0 ++ drop l.k l.initial.image)

abbrev pub invariant-loop-k-2 : goal.invariant-loop-k-2
invariant-loop-k-2 l = (length l.image ≡ length l.initial.image) × (l.image ≡ replicate l.k 0 ++ drop l.k l.initial.image)
