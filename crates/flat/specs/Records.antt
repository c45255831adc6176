-- The flat records of the C interface (include/callbridge.h), as functions of what the library answers. Assumes nothing: these are
-- definitions.
use Rattle.std.specs.Prelude.{cond, ℕ}
use Rattle.classes.specs.declared.Class.{Class}
use Rattle.classes.specs.Classes.{code_of}
use Rattle.places.specs.declared.Place.{Place}
use Rattle.places.specs.declared.Place.TheVariants.{One, Two, Stack}
use Rattle.places.specs.declared.Used.{Used}
use Rattle.places.specs.declared.ReturnPlace.{ReturnPlace}
use Rattle.places.specs.declared.ReturnPlace.TheVariants.{Void, Memory, One as InOne, Two as InTwo, St0, St0St1}
use Rattle.layout.specs.declared.placements.Placement.{Placement as Record}
use Rattle.layout.specs.declared.Layout.{Layout as Whole}
use Rattle.flat.specs.declared.Classes.{Classes}
use Rattle.flat.specs.declared.Slot.{Slot}
use Rattle.flat.specs.declared.Pair.{Pair}
use Rattle.flat.specs.declared.Reached.{Reached}
use Rattle.flat.specs.declared.Placement.{Placement}
use Rattle.flat.specs.declared.Layout.{Layout}
use Rattle.flat.specs.Numbers.{register_number, return_number}

-- cb_classes: the numbers of enum cb_class
abbrev pub classes_of : Class × Class × Class × Class → Classes
classes_of (a, b, c, e) = record { first = code_of a; second = code_of b; third = code_of c; fourth = code_of e }

-- "In registers: .. second is CB_NONE where one register holds the value, offset is 0. On the stack: first and second are CB_NONE"
abbrev pub slot_of : Place → Slot
slot_of (One a) = record { first = register_number a; second = 255; offset = record { 0 = 0 } }
slot_of (Two a b) = record { first = register_number a; second = register_number b; offset = record { 0 = 0 } }
slot_of (Stack o) = record { first = 255; second = 255; offset = o }

-- cb_placement
unfoldable pub placement_of : Record → Placement
placement_of p = record {
  size = p.size;
  align = p.align;
  offset = (slot_of p.place).offset;
  value = p.at;
  ty = p.ty;
  first = (slot_of p.place).first;
  second = (slot_of p.place).second;
  named = cond p.named 1 0;
  reserved_4 = 0;
}

-- "CB_ST0 for a long double, CB_ST0 and CB_ST1 for a complex one. Both are CB_NONE for void .. and for a value in memory"
abbrev pub pair_of : ReturnPlace → Pair
pair_of Void = record { first = 255; second = 255 }
pair_of Memory = record { first = 255; second = 255 }
pair_of (InOne a) = record { first = return_number a; second = 255 }
pair_of (InTwo a b) = record { first = return_number a; second = return_number b }
pair_of St0 = record { first = 8; second = 255 }
pair_of St0St1 = record { first = 8; second = 9 }

-- registers used, and where the stack arguments end
abbrev pub reached_of : Used → Reached
reached_of u = record { general = u.general; vector = u.vector; stack = u.stack }

-- cb_layout, of a call with so many arguments
unfoldable pub layout_of : Whole → ℕ → Layout
layout_of l arguments = record {
  used = reached_of l.used;
  area = l.area;
  align = l.align;
  values = l.values;
  returned = l.returned;
  named = reached_of l.named;
  arguments = arguments;
  first = (pair_of l.returns).first;
  second = (pair_of l.returns).second;
  hidden = cond l.hidden 1 0;
  reserved_1 = 0;
  reserved_4 = 0;
}
