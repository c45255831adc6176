-- What a flat record means: the record that the library works with. Assumes nothing: these are definitions.
use Rattle.std.specs.Prelude.{◌≡◌, Bool, false, cond, List, ℕ, ◌<◌, eqb}
use Rattle.description.specs.Description.{arguments_in}
use Rattle.classes.specs.declared.Class.{Class}
use Rattle.classes.specs.Classes.{code_of}
use Rattle.places.specs.declared.Used.{Used}
use Rattle.places.specs.declared.Place.{Place}
use Rattle.places.specs.declared.Place.TheVariants.{One, Two, Stack}
use Rattle.places.specs.declared.ReturnPlace.{ReturnPlace}
use Rattle.places.specs.declared.ReturnPlace.TheVariants.{Void, Memory, One as InOne, Two as InTwo, St0, St0St1}
use Rattle.layout.specs.declared.placements.Placement.{Placement as Record}
use Rattle.layout.specs.declared.Layout.{Layout as Whole}
use Rattle.layout.specs.Layout.{layout_of as whole_of}
use Rattle.layout.specs.Placements.{placement_at}
use Rattle.layout.specs.Verdict.{verdict}
use Rattle.flat.specs.declared.Placement.{Placement}
use Rattle.flat.specs.declared.Reached.{Reached}
use Rattle.flat.specs.declared.Layout.{Layout}
use Rattle.flat.specs.Numbers.{register_meant, return_meant, class_meant}
use Rattle.flat.specs.Records.{placement_of, layout_of}

-- CB_NONE first: on the stack; CB_NONE second: in one register
unfoldable pub place_meant : Placement → Place
place_meant p =
    cond (eqb p.first 255) (Stack p.offset)
    (cond (eqb p.second 255) (One (register_meant p.first)) (Two (register_meant p.first) (register_meant p.second)))

unfoldable pub placement_meant : Placement → Record
placement_meant p = record { ty = p.ty; size = p.size; align = p.align; place = place_meant p; at = p.value; named = eqb p.named 1 }

-- CB_NONE first: void, or memory where a hidden address is passed; CB_ST0 first: the x87 stack
unfoldable pub return_place_meant : Layout → ReturnPlace
return_place_meant l =
    cond (eqb l.first 255) (cond (eqb l.hidden 1) Memory Void)
    (cond (eqb l.first 8) (cond (eqb l.second 255) St0 St0St1)
    (cond (eqb l.second 255) (InOne (return_meant l.first)) (InTwo (return_meant l.first) (return_meant l.second))))

-- what is used: an area that is aligned to 32 has an argument on it that is
abbrev pub used_meant : Bool → Reached → Used
used_meant strict t = record { general = t.general; vector = t.vector; stack = t.stack; strict = strict }

unfoldable pub layout_meant : Layout → Whole
layout_meant l = record {
  used = used_meant (eqb l.align.0 32) l.used;
  area = l.area;
  align = l.align;
  values = l.values;
  returns = return_place_meant l;
  returned = l.returned;
  hidden = eqb l.hidden 1;
  named = used_meant false l.named;
}

-- all of a layout but whether an argument aligned to 32 is among the named ones on the stack: the named arguments have no area of their own
unfoldable pub summary_of : Whole → Whole
summary_of w = record {
  used = w.used;
  area = w.area;
  align = w.align;
  values = w.values;
  returns = w.returns;
  returned = w.returned;
  hidden = w.hidden;
  named = used_meant false (record { general = w.named.general; vector = w.named.vector; stack = w.named.stack });
}

-- an accepted description's flat records mean what the layout says: nothing else is lost in them
abbrev pub PlacementsMean : Type 0
PlacementsMean = (d : List ℕ) → verdict d ≡ 0 → (i : ℕ) → i < arguments_in d → placement_meant (placement_of (placement_at d i)) ≡ placement_at d i

abbrev pub LayoutMeans : Type 0
LayoutMeans = (d : List ℕ) → verdict d ≡ 0 → (n : ℕ) → layout_meant (layout_of (whole_of d) n) ≡ summary_of (whole_of d)

abbrev pub ClassesMean : Type 0
ClassesMean = (c : Class) → class_meant (code_of c) ≡ c
