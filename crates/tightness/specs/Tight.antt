-- What it means that a contract leaves no room: document 01, "it determines result, station and all lent bytes at exit, for accepted and refused
-- input alike. Any two outcomes it admits are proved equal". The contract is the very one that the function is proved to meet, `clauses` of its
-- module, and no copy of it. Assumes nothing: these are definitions.
use Rattle.std.specs.Prelude.{◌≡◌, List, [], ◌∷◌, ℕ}
use seplogic.Ra.Ura.{Ura}
use base.Logic.{SProp, emp}
use prog.Memory.{Memory}
use prog.Model.{Model}
use prog.Routine.{Routine}
use prog.Wired.{Wired, Code}
use mir.Syntax.{Args as Arguments, Callee, Dict, a_number, a_type, dcons, dnil, w64}
use mir.Val.{Fits}
use denote.RattleType.{RattleType}
use denote.Param.{bounded, layouts, number}
use denote.Param.Laws.{IsCopy, Laws}
use Rattle.std.specs.declared.clone.Clone.{Ghosts}
use Rattle.std.specs.contracts.clone.Clone.TheBound.{Met}
use types.Logic.{Logic, sem}
use contract.Lifetimes.{Lfts}
use contract.Monad.{Fun}
use contract.Running.{Running}
use denote.Triple.Entry.{Args, Res}
use denote.Triple.Clauses.{Ended, Clauses, ClausesAt, Lasts, lasts, at_exit, closing}
use denote.Triple.Spec.{Meets as MeetsSpec}

-- a function's contract, in any model of the machine
abbrev pub Contract : Ended → Type 2
Contract T = (M : Type 1) (𝓤 : Ura M) (𝓛 : Logic 𝓤) → (Memory → SProp 𝓤) → (Routine → Fun 𝓤) → Clauses 𝓤 T

-- a call: a model of the machine, the lifetimes, and what is passed
pub record Call (T : Ended) : Type 2 where
  pub M : Type 1
  pub model : Ura M
  pub 𝓛 : Logic model
  pub memory : Memory → SProp model
  pub runs : Routine → Fun model
  pub lifetimes : Lfts T.signature.lifetimes
  pub passed : Args T.signature lifetimes

-- what the contract says of a call
abbrev pub contract_at : (T : Ended) → Contract T → (c : Call T) → ClausesAt c.model T c.lifetimes
contract_at T C c = C c.M c.model c.𝓛 c.memory c.runs c.lifetimes c.passed

-- an outcome of a call is the result, and the last value of everything that is lent by `&mut`. The contract admits it: what `requires` says
-- holds at entry; the last values are such as what was lent can have (a slice keeps its length); and what `ensures` says of them and of the
-- result holds at exit
pub record Admits (T : Ended) (C : Contract T) (c : Call T) (result : Res T.signature c.lifetimes) (left : Lasts T c.lifetimes c.passed) : Type 1 where
  pub ghost : (contract_at T C c).ghost
  pub entry : c.M
  pub exit : c.M
  pub held : c.M
  pub asked : ((contract_at T C c).requires ghost).holds entry
  pub lent : (sem c.𝓛 (lasts T c.lifetimes c.passed left)).holds held
  pub ensured : ((contract_at T C c).ensures ghost result (at_exit T c.lifetimes c.passed left)).holds exit

-- any two outcomes that it admits are equal
abbrev pub Tight : (T : Ended) → Contract T → Type 2
Tight T C =
    (c : Call T) (r q : Res T.signature c.lifetimes) (w v : Lasts T c.lifetimes c.passed)
    → Admits T C c r w → Admits T C c q v → (r ≡ q) × (w ≡ v)

-- the same where the result is a part of a slice that was lent: "A returned part is equal as a list". Where it lies is fixed by a function that
-- answers offset and length
abbrev pub TightPart : (T : Ended) → ((c : Call T) → Res T.signature c.lifetimes → List ℕ) → Contract T → Type 2
TightPart T read C =
    (c : Call T) (r q : Res T.signature c.lifetimes) (w v : Lasts T c.lifetimes c.passed)
    → Admits T C c r w → Admits T C c q v → (read c r ≡ read c q) × (w ≡ v)

-- "Each public call accepts all inputs": the contract asks nothing of a call
abbrev pub Total : (T : Ended) → Contract T → Type 2
Total T C = (c : Call T) (g : (contract_at T C c).ghost) → (contract_at T C c).requires g ≡ emp c.model

-- ---- the same of a function with a parameter: any number of 64 bits, or any type that is Copy, may stand for it

abbrev pub MeetsNumber : (T : RattleType → Ended) → ((N : RattleType) → Contract (T N)) → (Arguments → Callee) → Code → Type 2
MeetsNumber T C name code =
    (M : Type 1) (𝓤 : Ura M) (𝓛 : Logic 𝓤) (𝓜 : Model 𝓤 𝓛.H) (𝓡 : Running 𝓤 𝓛.H 𝓜)
    → Wired 𝓡.env code → (N : ℕ) → Fits w64 N
    → MeetsSpec 𝓛 (T (number N)).signature (𝓡.run (𝓡.env (name (layouts (a_number ∷ []) (number N, tt))))) (closing 𝓛 (T (number N)) (C (number N) M 𝓤 𝓛 𝓜.mem 𝓡.returns))

abbrev pub MeetsCopy : (T : (A : RattleType) → Ghosts A.Denot → Dict → Ended) → ((A : RattleType) (g : Ghosts A.Denot) (d : Dict) → Contract (T A g d)) → (Arguments → Callee) → Code → Type 2
MeetsCopy T C name code =
    (M : Type 1) (𝓤 : Ura M) (𝓛 : Logic 𝓤) (𝓜 : Model 𝓤 𝓛.H) (𝓡 : Running 𝓤 𝓛.H 𝓜)
    → Wired 𝓡.env code → (A : RattleType) → Laws A → IsCopy A → (g : Ghosts A.Denot) (d : Dict) → Met 𝓛 𝓜 𝓡 𝓡.env A g d
    → MeetsSpec 𝓛 (T A g d).signature (𝓡.run (𝓡.env (name (bounded (a_type ∷ []) (A, tt) (dcons d dnil))))) (closing 𝓛 (T A g d) (C A g d M 𝓤 𝓛 𝓜.mem 𝓡.returns))

-- the function of this name, with this code, is proved to meet this contract, in any model of a machine in which the name means the code
abbrev pub Meets : (T : Ended) → Contract T → Callee → Code → Type 2
Meets T C name code =
    (M : Type 1) (𝓤 : Ura M) (𝓛 : Logic 𝓤) (𝓜 : Model 𝓤 𝓛.H) (𝓡 : Running 𝓤 𝓛.H 𝓜)
    → Wired 𝓡.env code → MeetsSpec 𝓛 T.signature (𝓡.run (𝓡.env name)) (closing 𝓛 T (C M 𝓤 𝓛 𝓜.mem 𝓡.returns))
