-- Request 2026-10, "Does it need the stack at all?", beside demands 1 and 2: "It wants that yes or no at the first argument that goes to the stack. It equals
-- "area is not 0" of the full layout, and is yes where only 10 would refuse. The count of arguments looked at is returned too, and equals that argument's position
-- plus one, or A where there is none. Refusals: 1..9 as before; 10 is not given here." `StackNeeded` (layout/specs/StackNeeds.antt) states the sentences of the
-- definitions; what the call of a C host does is said of every outcome that its contract admits. proofs/NeedsStack.antt proves `NeedsStack`. Assumes nothing: these
-- are definitions.
use Rattle.std.specs.Prelude.{◌≡◌, ◌≢◌, Bool, true, not, List, ℕ, eqb, Err, Ok, Result}
use denote.Triple.Entry.{Res}
use denote.Triple.Clauses.{Lasts}
use Rattle.tightness.specs.Tight.{Call as Made, Admits}
use Rattle.form.specs.declared.Refusal.{Refusal}
use Rattle.form.specs.Order.{NoneHolds}
use Rattle.layout.specs.declared.needing.StackNeed.{StackNeed as Need}
use Rattle.layout.specs.StackNeeds.{stack_need, stack_answer, StackNeeded}
use Rattle.flat.specs.declared.StackNeed.{StackNeed}
use Rattle.flat.specs.declared.Layout.{Layout}
use Rattle.flat.specs.StackNeeds.{need_meant}
use Rattle.callbridge.specs.contracts.cb_needs_stack
use Rattle.callbridge.specs.contracts.cb_layout_of
use Rattle.promises.specs.Meaning.{Meaning, accepted, refused, Answered}
use Rattle.promises.specs.Orders.{need_order}
use Rattle.promises.specs.Calls.{Ensures}
use Rattle.promises.specs.Exports.{Fills}

-- yes or no, and the count of arguments looked at
abbrev pub of_need : Result Need Refusal → Meaning (Bool × ℕ)
of_need (Ok n) = accepted (n.needed, n.looked)
of_need (Err r) = refused r.number

abbrev pub need_read : StackNeed → Bool × ℕ
need_read n = ((need_meant n).needed, (need_meant n).looked)

-- cb_needs_stack; a refusal leaves the record
abbrev pub TellsNeed : List ℕ → StackNeed → Refusal → StackNeed → Type 0
TellsNeed d old r new = Fills need_read d (need_order d) ((stack_need d).needed, (stack_need d).looked) old r new

-- its refusal and the record that it leaves, beside those of cb_layout_of
pub record Beside (r : Refusal) (need : StackNeed) (q : Refusal) (layout : Layout) : Type 0 where
  -- "It equals "area is not 0" of the full layout"
  pub laid : q.number ≡ 0 → (r.number ≡ 0) × ((need_meant need).needed ≡ not (eqb layout.area.0 0))
  -- "and is yes where only 10 would refuse"
  pub ten : q.number ≡ 10 → (r.number ≡ 0) × ((need_meant need).needed ≡ true)
  -- "1..9 as before"
  pub lower : q.number ≢ 0 → q.number ≢ 10 → r ≡ q

-- a call of each, with the same description
abbrev pub BesideLayout : Type 2
BesideLayout =
    (c : Made cb_needs_stack.ended) (r : Res (cb_needs_stack.ended).signature c.lifetimes) (w : Lasts cb_needs_stack.ended c.lifetimes c.passed)
    (e : Made cb_layout_of.ended) (q : Res (cb_layout_of.ended).signature e.lifetimes) (v : Lasts cb_layout_of.ended e.lifetimes e.passed)
    → Admits cb_needs_stack.ended (λ M 𝓤 𝓛. cb_needs_stack.clauses 𝓛) c r w → Admits cb_layout_of.ended (λ M 𝓤 𝓛. cb_layout_of.clauses 𝓛) e q v
    → e.passed.0.now ≡ c.passed.0.now → Beside r w.1.0 q v.1.0

pub record NeedsStack : Type 2 where
  pub answered : (d : List ℕ) → Answered (of_need (stack_answer d)) (need_order d) ((stack_need d).needed, (stack_need d).looked)
  pub needed : (d : List ℕ) → NoneHolds (need_order d) → StackNeeded d
  -- the call
  pub tells_need : Ensures cb_needs_stack.ended (λ M 𝓤 𝓛. cb_needs_stack.clauses 𝓛) (λ c r w. TellsNeed c.passed.0.now c.passed.1.0.now r w.1.0)
  pub never_ten : Ensures cb_needs_stack.ended (λ M 𝓤 𝓛. cb_needs_stack.clauses 𝓛) (λ c r w. r.number ≢ 10)
  pub beside_layout : BesideLayout
