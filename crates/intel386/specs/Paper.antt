-- The paper of the 386 kind: "The walk there is a single offset, on a station and a seat of its own, with document 01's orders and these sizes" (document 02,
-- request 2026-12), so that station, walk and histories are those of any paper. Assumes nothing: these are definitions.
use Rattle.std.specs.Prelude.{map, eqb}
use Rattle.std.proofs.Common.{arith}
use Rattle.addresses.specs.Addresses.{run}
use Rattle.description.specs.Description.{variadic_in, named_in, arguments_in, argument_at}
use Rattle.form.specs.Conditions.{first_broken}
use Rattle.places.specs.Places.{fours}
use Rattle.station.specs.Paper.{Paper}
use Rattle.old_types.specs.Conditions.{first_large}
use Rattle.intel386.specs.Arguments.{shapes, hidden, address_for, used_first}
use Rattle.intel386.specs.Verdict.{check_order}

-- one image, the stack's: there is no register image, and a step is lent none of its bytes
unfoldable pub intel386 : Paper
intel386 = record {
  order = check_order;
  counted = λ d. (omega arith, (omega arith, (omega arith, (omega arith, (omega arith, (omega arith, (omega arith, (omega arith, (omega arith, (omega arith, (omega arith, tt)))))))))));
  broken = first_broken;
  large = first_large;
  variadic = λ d. eqb (variadic_in d) 1;
  first = used_first;
  address = λ d. address_for (hidden d);
  named = named_in;
  types = λ d. map (argument_at d) (run 0 (arguments_in d));
  shapes = shapes;
  slot = fours;
  registers = 0;
  stack_at = 0;
}
