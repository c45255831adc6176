use Rattle.std.proofs.Common.{length, ◌≤◌}
use Rattle.streams.proofs.tool.read_input.Given as goal

-- what was read lies in the space
abbrev pub invariant-loop : goal.invariant-loop
invariant-loop g l = l.done ≤ length l.space
