-- All that is said of the sizes of the 386 kind. Assumes nothing.
use Rattle.old_types.specs.Statements.{OldSizes}
use Rattle.old_types.proofs.Cases.{all-sized, bit_one_lem, left_before_large}
use Rattle.old_types.proofs.Sizes.{same_align, same_size, small-align, small-high}

pub old-sizes : OldSizes
old-sizes = record {
  cases_hold = all-sized;
  same_align = same_align;
  same_size = same_size;
  four_most = λ t. small-high (small-align t);
  bit_one_lem = bit_one_lem;
  left_before_large = left_before_large;
}
