-- The words of a refusal's line, in order. Assumes nothing.
use mathlib.Core.Path.{sym, ◌∙◌}
use native.Mathlib.Omega.{arith}
use Rattle.listing.specs.Listing.{refused_line}
use Rattle.listing.proofs.Puts.{puts_none, puts_join, puts_more}
use Rattle.listing.proofs.line_writing.put_refused.Goals as goal
use Rattle.listing.proofs.line_writing.put_refused.Goals.{then-names_type, else-names_type}

pub returns : goal.returns
unfolding refused_line
returns c =
    elim c.if-names_type.branch [
      | then-names_type w ↦ rw (sym c.names_type.ensures ∙ w.if-names_type.true, ← c.from.ensures, ← w.from-then-names_type.ensures) (puts_join (puts_join c.put_number.ensures w.put_number-then-names_type.ensures) (rw w.text-is at c.put.ensures))
      | else-names_type w ↦ rw (sym c.names_type.ensures ∙ w.if-names_type.false, ← c.from.ensures) (puts_more {k = 25} (puts_join (puts_join c.put_number.ensures (puts_none _)) (rw w.text-is at c.put.ensures)) (omega arith))
    ]
