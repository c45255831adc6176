-- Condition C holds of document 01's own paper: the layout's chapters promise what `Lawful` asks. Assumes nothing.
use mathlib.Core.Path.{◌≡◌, refl, sym, ap, ◌∙◌}
use mathlib.Core.List.{List, [], ◌∷◌, map}
use Prim.Native.Nat.{ℕ, suc, ◌%◌, ◌≤◌}
use native.Mathlib.Omega.{arith}
use lib.ListN.{length, drop}
use Rattle.addresses.specs.Addresses.{run, All}
use Rattle.addresses.proofs.Runs.{length_run}
use Rattle.description.specs.Description.{named_in, arguments_in, argument_at}
use Rattle.uses.specs.Uses.{uses_refusal}
use Rattle.uses.proofs.Uses.{accepted-typed}
use Rattle.places.specs.Shapes.{Shaped}
use Rattle.places.specs.Places.{slot_size}
use Rattle.places.specs.Statements.{Seated}
use Rattle.places.proofs.Apart.{all-seated}
use Rattle.layout.specs.Arguments.{shapes}
use Rattle.layout.proofs.Bounds.{all-shaped}
use Rattle.layout.proofs.Verdict.{accepted-uses}
use Rattle.station.specs.Paper.{kcb, verdict_of, arguments}
use Rattle.station.proofs.Kcb.{kcb-verdict, kcb-arguments, kcb-short, kcb-lent}
use Rattle.walk.specs.Offsets.{Narrow}
use Rattle.walk.proofs.Unnamed.{all-narrow, all-seated as unnamed-seated}
use Rattle.histories.specs.Lawful.{Lawful}
use Rattle.histories.specs.ConditionC.{ConditionC}
use Rattle.histories.proofs.Reconnection.{condition_c as lawful-c}

length-map : (f : ℕ → ℕ) (ns : List ℕ) → length (map f ns) ≡ length ns
length-map f [] = refl
length-map f (n ∷ ns) = ap suc (length-map f ns)

module _ (d : List ℕ) (e : verdict_of kcb d ≡ 0) where
  right : uses_refusal d ≡ 0
  right = accepted-uses d (sym (kcb-verdict d) ∙ e)

  shaped : All Shaped (kcb.shapes d)
  unfolding kcb
  shaped = all-shaped d right

  within : kcb.named d ≤ arguments kcb d
  unfolding kcb
  within = rw (kcb-arguments d) (accepted-typed d right).named

  typed : length (kcb.types d) ≡ arguments kcb d
  unfolding kcb
  typed = length-map (argument_at d) (run 0 (arguments_in d)) ∙ length_run 0 (arguments_in d) ∙ sym (kcb-arguments d)

  seated : All (Seated kcb.stack_at) (kcb.shapes d)
  unfolding kcb
  seated = all-seated (shapes d)

  narrow : All Narrow (drop (kcb.named d) (kcb.shapes d))
  unfolding kcb
  narrow = all-narrow d (accepted-typed d right).named

  stepped : All (Seated kcb.registers) (drop (kcb.named d) (kcb.shapes d))
  unfolding kcb
  stepped = unnamed-seated (drop (named_in d) (shapes d)) narrow

  starts : (kcb.first d).stack.0 % slot_size kcb.slot ≡ 0
  unfolding kcb
  starts = refl

before : kcb.registers ≤ kcb.stack_at
unfolding kcb
before = omega arith

pub kcb-lawful : Lawful kcb
kcb-lawful = record { short = kcb-short; shaped = shaped; within = within; typed = typed; seated = seated; stepped = stepped; narrow = narrow; before = before; starts = starts; lent = kcb-lent }

pub condition_c : ConditionC kcb
condition_c = lawful-c kcb kcb-lawful
