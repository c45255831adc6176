-- Nothing is lost in the flat record of whether a call needs the stack. Assumes nothing.
use mathlib.Core.Path.{◌≡◌, refl}
use mathlib.Core.Bool.{Bool, true, false}
use Rattle.flat.specs.StackNeeds.{flat_need, need_meant, NeedMeans}

pub need_means : NeedMeans
unfolding flat_need need_meant
need_means n = by n.needed
  where
    by : (b : Bool) → need_meant (flat_need (record { needed = b; looked = n.looked })) ≡ record { needed = b; looked = n.looked }
    by true = refl
    by false = refl
