-- What the functions of the call ask. Assumes nothing: these are definitions.
use Rattle.std.specs.Prelude.{◌≡◌, false, List, ℕ}
use Rattle.uses.specs.Uses.{uses_refusal}
use Rattle.station.specs.Paper.{kcb, area_of}
use Rattle.walk.specs.declared.Walk.{Walk}
use Rattle.walk.specs.Orders.{astray}
use Rattle.finishing.specs.Rest.{remaining, sizes_from}

-- nothing is left to refuse: the description is accepted, the record stands where it says, and images and buffer have these many bytes
pub record Judged (d : List ℕ) (w : Walk) (regs area room : ℕ) : Type 0 where
  pub uses : uses_refusal d ≡ 0
  pub on : astray kcb d w ≡ false
  pub registers : regs ≡ 176
  pub stack : area ≡ area_of kcb d
  pub out : room ≡ sizes_from kcb d w.position (remaining kcb d w)
