-- The buffer has room for every tidy form.
use Rattle.std.proofs.Common.{sym, ◌∙◌}
use Rattle.tidying.proofs.Wellformed.{answer-short}
use Rattle.tidier.proofs.write_tidy.Goals as goal

pub slice_bounds-out-end : goal.slice_bounds-out-end
slice_bounds-out-end c = answer-short c.args.d.now _ (sym c.tidy_length.ensures ∙ c.in_ok-length.was)
