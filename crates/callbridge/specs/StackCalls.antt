-- What the call of the C interface that tells whether the stack is needed gives, by the library's answer: include/callbridge.h. Assumes nothing:
-- these are definitions.
use Rattle.std.specs.Prelude.{Err, Ok, Result}
use Rattle.layout.specs.declared.needing.StackNeed.{StackNeed as Need}
use Rattle.flat.specs.declared.StackNeed.{StackNeed}
use Rattle.flat.specs.StackNeeds.{flat_need}
use Rattle.form.specs.declared.Refusal.{Refusal}

-- cb_needs_stack
abbrev pub need_given : Result Need Refusal → Result StackNeed Refusal
need_given (Ok n) = Ok (flat_need n)
need_given (Err r) = Err r
