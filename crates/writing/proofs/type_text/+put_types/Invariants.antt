-- What falls from call to call is the type's number. The loop's invariant: the members up to the next one are written.
-- Assumes nothing.
use Prim.Native.Nat.{◌+◌, ◌*◌}
use Rattle.writing.proofs.Texts.{Going}
use Rattle.writing.proofs.type_text.+put_types.Given as goal

abbrev pub decreases-put_members : goal.decreases-put_members
decreases-put_members l = 2 * l.k

abbrev pub decreases-put_type : goal.decreases-put_type
decreases-put_type l = 2 * l.k + 1

abbrev pub invariant-put_members-loop-i : goal.invariant-put_members-loop-i
invariant-put_members-loop-i l = Going l.d l.first l.count l.fn.text l.text l.i
