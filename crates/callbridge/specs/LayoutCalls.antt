-- cb_layout_of and cb_lay_out: the call as a whole, and the lent list of flat records. Assumes nothing: these are definitions.
use Rattle.std.specs.Prelude.{Err, List, Ok, Result, ℕ}
use Rattle.description.specs.Description.{arguments_in}
use Rattle.layout.specs.Placements.{placement_at}
use Rattle.layout.specs.Lists.{list_answer}
use Rattle.layout.specs.declared.Layout.{Layout as Whole}
use Rattle.flat.specs.declared.Layout.{Layout}
use Rattle.flat.specs.declared.Placement.{Placement}
use Rattle.flat.specs.Records.{placement_of, layout_of}
use Rattle.form.specs.declared.Refusal.{Refusal}

-- cb_layout_of, of a description with so many arguments
abbrev pub layout_given : ℕ → Result Whole Refusal → Result Layout Refusal
layout_given arguments (Ok l) = Ok (layout_of l arguments)
layout_given arguments (Err r) = Err r

-- the summary, for a list of so many records
unfoldable pub list_given : List ℕ → ℕ → Result Layout Refusal
list_given d room = layout_given (arguments_in d) (list_answer d room)

-- the flat record of argument i
unfoldable pub flat_at : List ℕ → ℕ → Placement
flat_at d i = placement_of (placement_at d i)
