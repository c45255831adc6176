-- The placement record of each argument: document 01, "One placement record for each argument"; document 02, request 2026-07. Assumes nothing: these are
-- definitions.
use Rattle.std.specs.Prelude.{Bool, List, ℕ, ◌+◌}
use Rattle.description.specs.Description.{argument_at}
use Rattle.types.specs.declared.Extent.{Extent}
use Rattle.places.specs.declared.Place.{Place}
use Rattle.places.specs.declared.Used.{Used}
use Rattle.places.specs.Places.{eights, fresh, place, next}
use Rattle.places.specs.Recorded.{recorded}
use Rattle.layout.specs.Arguments.{is_named, shape_at, used_at, value_start}
use Rattle.layout.specs.declared.placements.Laying.{Laying}
use Rattle.layout.specs.declared.placements.Placement.{Placement}

-- what is laid out: so much is used, and the values have so many bytes. Before any argument, and before argument i
unfoldable pub laying_fresh : Bool → Laying
laying_fresh hidden = record { used = fresh hidden; values = record { 0 = 0 } }

unfoldable pub laying_at : List ℕ → ℕ → Laying
laying_at d i = record { used = used_at d i; values = record { 0 = value_start d i } }

-- "type, size, alignment, and either its registers in eightbyte order or its stack offset"; and "the offset of the argument in the packed values and a named
-- mark": of argument i, where l is laid out before it
abbrev pub placement_from : List ℕ → Laying → ℕ → Placement
placement_from d l i = record {
  ty = argument_at d i;
  size = record { 0 = (shape_at d i).size };
  align = record { 0 = (shape_at d i).align };
  place = recorded (place eights l.used (shape_at d i));
  at = l.values;
  named = is_named d i;
}

-- the record of an argument, and what is laid out after it
pub record Step : Type 0 where
  pub placement : Placement
  pub after : Laying

unfoldable pub step_at : List ℕ → Laying → ℕ → Step
step_at d l i = record {
  placement = placement_from d l i;
  after = record { used = next eights l.used (shape_at d i); values = record { 0 = l.values.0 + (shape_at d i).size } };
}

-- the same of an argument of type k with size and alignment x, whose place is p, and after which u is used
abbrev pub step_of : Laying → ℕ → Extent → Place → Bool → Used → Step
step_of l k x p named u = record {
  placement = record { ty = k; size = x.size; align = x.align; place = p; at = l.values; named = named };
  after = record { used = u; values = record { 0 = l.values.0 + x.size.0 } };
}

-- the record of argument i
unfoldable pub placement_at : List ℕ → ℕ → Placement
placement_at d i = placement_from d (laying_at d i) i
