-- What the functions that write lines ask: numbers of at most five digits. Assumes nothing: these are definitions.
use Rattle.std.specs.Prelude.{◌≡◌, List, ℕ, ◌≤◌}
use Rattle.places.specs.declared.Used.{Used}
use Rattle.layout.specs.declared.Layout.{Layout}
use Rattle.layout.specs.declared.placements.Placement.{Placement}
use Rattle.layout.specs.Layout.{layout_of}
use Rattle.layout.specs.Verdict.{verdict}
use Rattle.listing.specs.PlaceWords.{offset_of}

pub record SmallRecord (p : Placement) : Type 0 where
  pub size : p.size.0 ≤ 4096
  pub align : p.align.0 ≤ 32
  pub offset : offset_of p.place ≤ 16384
  pub value : p.at.0 ≤ 16688

pub record SmallUsed (u : Used) : Type 0 where
  pub general : u.general.0 ≤ 6
  pub vector : u.vector.0 ≤ 8
  pub stack : u.stack.0 ≤ 16384

pub record SmallLayout (l : Layout) : Type 0 where
  pub used : SmallUsed l.used
  pub area : l.area.0 ≤ 16384

-- the layout of an accepted description
pub record Accepted (d : List ℕ) (l : Layout) : Type 0 where
  pub right : verdict d ≡ 0
  pub laid : l ≡ layout_of d
