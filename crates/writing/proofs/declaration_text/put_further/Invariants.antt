-- The arguments behind the first. The invariant: what writes the rest writes all. Assumes nothing.
use mathlib.Core.Path.{◌≡◌}
use Rattle.writing.proofs.Parts.{Listing}
use Rattle.description.specs.Description.{named_in}
use Rattle.writing.proofs.declaration_text.put_further.Given as goal

abbrev pub invariant-loop-i : goal.invariant-loop-i
invariant-loop-i l = (l.named ≡ named_in l.d) × Listing l.d l.initial.text l.text l.i
