use mathlib.Core.Path.{◌≡◌, ◌∙◌}
use Prim.Native.Nat.{◌/◌}
use lib.ListN.{get_or}
use Rattle.description.specs.Description.{return_in}
use Rattle.layout.proofs.Steps.{return_void, return_classes_lem, hidden-some}
use Rattle.layout.proofs.described.Described.hidden.Goals as goal

pub returns-in-Some : goal.returns-in-Some
returns-in-Some c =
    let d = c.args.self.bytes.now in
    let s = c.in-Some.ensures.0 in
    let n : return_in d ≡ 255 → ⊥ = λ e. s.2 (s.0 ∙ e) in
    hidden-some d n (get_or c.args.self.table.now c.in-Some.k 0 / 524288) (return_classes_lem d c.args.self.table.now c.args.self.tabled c.args.self.judged c.in-Some.k s.0 n) c.classes_in.result c.classes_in.ensures _ c.hidden_for.ensures

pub returns-in-None : goal.returns-in-None
returns-in-None c = (return_void c.args.self.bytes.now c.in-None.ensures.1).1
