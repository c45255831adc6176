-- The alignments that types have. Assumes nothing: these are definitions.
use Rattle.std.specs.Prelude.{ℕ}

-- 1, 2, 4, 8 and 16, and 32 for what holds an __m256 (request 2026-06)
pub data Alignment : ℕ → Type 0 where
  one : Alignment 1
  two : Alignment 2
  four : Alignment 4
  eight : Alignment 8
  sixteen : Alignment 16
  thirtytwo : Alignment 32
