-- Written by tools/tightness: each public function of `flat` meets its contract, and the contract is tight. Assumes nothing.
use Rattle.std.specs.Prelude.{refl}
use Rattle.tightness.specs.Tight.{Meets, Tight}
use Rattle.tightness.proofs.Laws.{equal, result}
use Rattle.flat.specs.contracts.part_of
use Rattle.flat.proofs.part_of.Met as part_of_met
use Rattle.flat.proofs.part_of.Symbol as part_of_symbol
use Rattle.flat.specs.contracts.nowhere
use Rattle.flat.proofs.nowhere.Met as nowhere_met
use Rattle.flat.proofs.nowhere.Symbol as nowhere_symbol
use Rattle.flat.specs.contracts.version
use Rattle.flat.proofs.version.Met as version_met
use Rattle.flat.proofs.version.Symbol as version_symbol
use Rattle.flat.specs.contracts.records.ClassesFromTuple4ClassClassClassClass.from as ClassesFromTuple4ClassClassClassClass_from
use Rattle.flat.proofs.records.ClassesFromTuple4ClassClassClassClass.from.Met as ClassesFromTuple4ClassClassClassClass_from_met
use Rattle.flat.proofs.records.ClassesFromTuple4ClassClassClassClass.from.Symbol as ClassesFromTuple4ClassClassClassClass_from_symbol
use Rattle.flat.specs.contracts.records.SlotFromPlace.from as SlotFromPlace_from
use Rattle.flat.proofs.records.SlotFromPlace.from.Met as SlotFromPlace_from_met
use Rattle.flat.proofs.records.SlotFromPlace.from.Symbol as SlotFromPlace_from_symbol
use Rattle.flat.specs.contracts.records.PlacementFromLayoutPlacement.from as PlacementFromLayoutPlacement_from
use Rattle.flat.proofs.records.PlacementFromLayoutPlacement.from.Met as PlacementFromLayoutPlacement_from_met
use Rattle.flat.proofs.records.PlacementFromLayoutPlacement.from.Symbol as PlacementFromLayoutPlacement_from_symbol
use Rattle.flat.specs.contracts.records.PairFromReturnPlace.from as PairFromReturnPlace_from
use Rattle.flat.proofs.records.PairFromReturnPlace.from.Met as PairFromReturnPlace_from_met
use Rattle.flat.proofs.records.PairFromReturnPlace.from.Symbol as PairFromReturnPlace_from_symbol
use Rattle.flat.specs.contracts.records.ReachedFromUsed.from as ReachedFromUsed_from
use Rattle.flat.proofs.records.ReachedFromUsed.from.Met as ReachedFromUsed_from_met
use Rattle.flat.proofs.records.ReachedFromUsed.from.Symbol as ReachedFromUsed_from_symbol
use Rattle.flat.specs.contracts.Layout.of as Layout_of
use Rattle.flat.proofs.Layout.of.Met as Layout_of_met
use Rattle.flat.proofs.Layout.of.Symbol as Layout_of_symbol
use Rattle.flat.specs.contracts.stack_needs.StackNeedFromLayoutStackNeed.from as StackNeedFromLayoutStackNeed_from
use Rattle.flat.proofs.stack_needs.StackNeedFromLayoutStackNeed.from.Met as StackNeedFromLayoutStackNeed_from_met
use Rattle.flat.proofs.stack_needs.StackNeedFromLayoutStackNeed.from.Symbol as StackNeedFromLayoutStackNeed_from_symbol
use Rattle.flat.specs.contracts.stations.StationStationFromStation.from as StationStationFromStation_from
use Rattle.flat.proofs.stations.StationStationFromStation.from.Met as StationStationFromStation_from_met
use Rattle.flat.proofs.stations.StationStationFromStation.from.Symbol as StationStationFromStation_from_symbol
use Rattle.flat.specs.contracts.stations.StationFromStationStation.from as StationFromStationStation_from
use Rattle.flat.proofs.stations.StationFromStationStation.from.Met as StationFromStationStation_from_met
use Rattle.flat.proofs.stations.StationFromStationStation.from.Symbol as StationFromStationStation_from_symbol
use Rattle.flat.specs.contracts.stations.WalkWalkFromWalk.from as WalkWalkFromWalk_from
use Rattle.flat.proofs.stations.WalkWalkFromWalk.from.Met as WalkWalkFromWalk_from_met
use Rattle.flat.proofs.stations.WalkWalkFromWalk.from.Symbol as WalkWalkFromWalk_from_symbol
use Rattle.flat.specs.contracts.stations.WalkFromWalkWalk.from as WalkFromWalkWalk_from
use Rattle.flat.proofs.stations.WalkFromWalkWalk.from.Met as WalkFromWalkWalk_from_met
use Rattle.flat.proofs.stations.WalkFromWalkWalk.from.Symbol as WalkFromWalkWalk_from_symbol

pub meets_flat_part_of : Meets part_of.ended (λ M 𝓤 𝓛. part_of.clauses 𝓛) part_of_symbol.name part_of_symbol.code
meets_flat_part_of M = part_of_met.met

pub tight_flat_part_of : Tight part_of.ended (λ M 𝓤 𝓛. part_of.clauses 𝓛)
tight_flat_part_of c r q w v a b = (equal (result part_of.ended c) a.ensured b.ensured, refl)

pub meets_flat_nowhere : Meets nowhere.ended (λ M 𝓤 𝓛. nowhere.clauses 𝓛) nowhere_symbol.name nowhere_symbol.code
meets_flat_nowhere M = nowhere_met.met

pub tight_flat_nowhere : Tight nowhere.ended (λ M 𝓤 𝓛. nowhere.clauses 𝓛)
tight_flat_nowhere c r q w v a b = (equal (result nowhere.ended c) a.ensured b.ensured, refl)

pub meets_flat_version : Meets version.ended (λ M 𝓤 𝓛. version.clauses 𝓛) version_symbol.name version_symbol.code
meets_flat_version M = version_met.met

pub tight_flat_version : Tight version.ended (λ M 𝓤 𝓛. version.clauses 𝓛)
tight_flat_version c r q w v a b = (equal (result version.ended c) a.ensured b.ensured, refl)

pub meets_flat_ClassesFromTuple4ClassClassClassClass_from : Meets ClassesFromTuple4ClassClassClassClass_from.ended (λ M 𝓤 𝓛. ClassesFromTuple4ClassClassClassClass_from.clauses 𝓛) ClassesFromTuple4ClassClassClassClass_from_symbol.name ClassesFromTuple4ClassClassClassClass_from_symbol.code
meets_flat_ClassesFromTuple4ClassClassClassClass_from M = ClassesFromTuple4ClassClassClassClass_from_met.met

pub tight_flat_ClassesFromTuple4ClassClassClassClass_from : Tight ClassesFromTuple4ClassClassClassClass_from.ended (λ M 𝓤 𝓛. ClassesFromTuple4ClassClassClassClass_from.clauses 𝓛)
tight_flat_ClassesFromTuple4ClassClassClassClass_from c r q w v a b = (equal (result ClassesFromTuple4ClassClassClassClass_from.ended c) a.ensured b.ensured, refl)

pub meets_flat_SlotFromPlace_from : Meets SlotFromPlace_from.ended (λ M 𝓤 𝓛. SlotFromPlace_from.clauses 𝓛) SlotFromPlace_from_symbol.name SlotFromPlace_from_symbol.code
meets_flat_SlotFromPlace_from M = SlotFromPlace_from_met.met

pub tight_flat_SlotFromPlace_from : Tight SlotFromPlace_from.ended (λ M 𝓤 𝓛. SlotFromPlace_from.clauses 𝓛)
tight_flat_SlotFromPlace_from c r q w v a b = (equal (result SlotFromPlace_from.ended c) a.ensured b.ensured, refl)

pub meets_flat_PlacementFromLayoutPlacement_from : Meets PlacementFromLayoutPlacement_from.ended (λ M 𝓤 𝓛. PlacementFromLayoutPlacement_from.clauses 𝓛) PlacementFromLayoutPlacement_from_symbol.name PlacementFromLayoutPlacement_from_symbol.code
meets_flat_PlacementFromLayoutPlacement_from M = PlacementFromLayoutPlacement_from_met.met

pub tight_flat_PlacementFromLayoutPlacement_from : Tight PlacementFromLayoutPlacement_from.ended (λ M 𝓤 𝓛. PlacementFromLayoutPlacement_from.clauses 𝓛)
tight_flat_PlacementFromLayoutPlacement_from c r q w v a b = (equal (result PlacementFromLayoutPlacement_from.ended c) a.ensured b.ensured, refl)

pub meets_flat_PairFromReturnPlace_from : Meets PairFromReturnPlace_from.ended (λ M 𝓤 𝓛. PairFromReturnPlace_from.clauses 𝓛) PairFromReturnPlace_from_symbol.name PairFromReturnPlace_from_symbol.code
meets_flat_PairFromReturnPlace_from M = PairFromReturnPlace_from_met.met

pub tight_flat_PairFromReturnPlace_from : Tight PairFromReturnPlace_from.ended (λ M 𝓤 𝓛. PairFromReturnPlace_from.clauses 𝓛)
tight_flat_PairFromReturnPlace_from c r q w v a b = (equal (result PairFromReturnPlace_from.ended c) a.ensured b.ensured, refl)

pub meets_flat_ReachedFromUsed_from : Meets ReachedFromUsed_from.ended (λ M 𝓤 𝓛. ReachedFromUsed_from.clauses 𝓛) ReachedFromUsed_from_symbol.name ReachedFromUsed_from_symbol.code
meets_flat_ReachedFromUsed_from M = ReachedFromUsed_from_met.met

pub tight_flat_ReachedFromUsed_from : Tight ReachedFromUsed_from.ended (λ M 𝓤 𝓛. ReachedFromUsed_from.clauses 𝓛)
tight_flat_ReachedFromUsed_from c r q w v a b = (equal (result ReachedFromUsed_from.ended c) a.ensured b.ensured, refl)

pub meets_flat_Layout_of : Meets Layout_of.ended (λ M 𝓤 𝓛. Layout_of.clauses 𝓛) Layout_of_symbol.name Layout_of_symbol.code
meets_flat_Layout_of M = Layout_of_met.met

pub tight_flat_Layout_of : Tight Layout_of.ended (λ M 𝓤 𝓛. Layout_of.clauses 𝓛)
tight_flat_Layout_of c r q w v a b = (equal (result Layout_of.ended c) a.ensured b.ensured, refl)

pub meets_flat_StackNeedFromLayoutStackNeed_from : Meets StackNeedFromLayoutStackNeed_from.ended (λ M 𝓤 𝓛. StackNeedFromLayoutStackNeed_from.clauses 𝓛) StackNeedFromLayoutStackNeed_from_symbol.name StackNeedFromLayoutStackNeed_from_symbol.code
meets_flat_StackNeedFromLayoutStackNeed_from M = StackNeedFromLayoutStackNeed_from_met.met

pub tight_flat_StackNeedFromLayoutStackNeed_from : Tight StackNeedFromLayoutStackNeed_from.ended (λ M 𝓤 𝓛. StackNeedFromLayoutStackNeed_from.clauses 𝓛)
tight_flat_StackNeedFromLayoutStackNeed_from c r q w v a b = (equal (result StackNeedFromLayoutStackNeed_from.ended c) a.ensured b.ensured, refl)

pub meets_flat_StationStationFromStation_from : Meets StationStationFromStation_from.ended (λ M 𝓤 𝓛. StationStationFromStation_from.clauses 𝓛) StationStationFromStation_from_symbol.name StationStationFromStation_from_symbol.code
meets_flat_StationStationFromStation_from M = StationStationFromStation_from_met.met

pub tight_flat_StationStationFromStation_from : Tight StationStationFromStation_from.ended (λ M 𝓤 𝓛. StationStationFromStation_from.clauses 𝓛)
tight_flat_StationStationFromStation_from c r q w v a b = (equal (result StationStationFromStation_from.ended c) a.ensured b.ensured, refl)

pub meets_flat_StationFromStationStation_from : Meets StationFromStationStation_from.ended (λ M 𝓤 𝓛. StationFromStationStation_from.clauses 𝓛) StationFromStationStation_from_symbol.name StationFromStationStation_from_symbol.code
meets_flat_StationFromStationStation_from M = StationFromStationStation_from_met.met

pub tight_flat_StationFromStationStation_from : Tight StationFromStationStation_from.ended (λ M 𝓤 𝓛. StationFromStationStation_from.clauses 𝓛)
tight_flat_StationFromStationStation_from c r q w v a b = (equal (result StationFromStationStation_from.ended c) a.ensured b.ensured, refl)

pub meets_flat_WalkWalkFromWalk_from : Meets WalkWalkFromWalk_from.ended (λ M 𝓤 𝓛. WalkWalkFromWalk_from.clauses 𝓛) WalkWalkFromWalk_from_symbol.name WalkWalkFromWalk_from_symbol.code
meets_flat_WalkWalkFromWalk_from M = WalkWalkFromWalk_from_met.met

pub tight_flat_WalkWalkFromWalk_from : Tight WalkWalkFromWalk_from.ended (λ M 𝓤 𝓛. WalkWalkFromWalk_from.clauses 𝓛)
tight_flat_WalkWalkFromWalk_from c r q w v a b = (equal (result WalkWalkFromWalk_from.ended c) a.ensured b.ensured, refl)

pub meets_flat_WalkFromWalkWalk_from : Meets WalkFromWalkWalk_from.ended (λ M 𝓤 𝓛. WalkFromWalkWalk_from.clauses 𝓛) WalkFromWalkWalk_from_symbol.name WalkFromWalkWalk_from_symbol.code
meets_flat_WalkFromWalkWalk_from M = WalkFromWalkWalk_from_met.met

pub tight_flat_WalkFromWalkWalk_from : Tight WalkFromWalkWalk_from.ended (λ M 𝓤 𝓛. WalkFromWalkWalk_from.clauses 𝓛)
tight_flat_WalkFromWalkWalk_from c r q w v a b = (equal (result WalkFromWalkWalk_from.ended c) a.ensured b.ensured, refl)
