-- The demands, of the calls themselves: what is so of every outcome that the contract of a call admits. The contract is the very one that the function is proved
-- to meet. Here stand the calls that a Rattle host has and C has not; those of C stand in Exports.antt. Assumes nothing: these are definitions.
use Rattle.std.specs.Prelude.{[]}
use denote.Triple.Entry.{Res}
use denote.Triple.Clauses.{Ended, Lasts}
use Rattle.tightness.specs.Tight.{Contract, Call, Admits}
use Rattle.description.specs.Description.{header_of, model_in}
use Rattle.types.specs.Size.{size_ty, align_ty}
use Rattle.types.specs.Decode.{ty_at}
use Rattle.walk.specs.Orders.{asking}
use Rattle.form.specs.contracts.read_form
use Rattle.questions.specs.contracts.type_size
use Rattle.questions.specs.contracts.type_align
use Rattle.walk.specs.contracts.show_number
use Rattle.promises.specs.Meaning.{of_judgment, of_reading, of_size, of_align, Answered}
use Rattle.promises.specs.Orders.{form_order, question_order, show_order}

-- something is so of every outcome that a contract admits
abbrev pub Ensures : (T : Ended) → Contract T → ((c : Call T) → Res T.signature c.lifetimes → Lasts T c.lifetimes c.passed → Type 0) → Type 2
Ensures T C P = (c : Call T) (r : Res T.signature c.lifetimes) (w : Lasts T c.lifetimes c.passed) → Admits T C c r w → P c r w

pub record Calls : Type 2 where
  pub reads : Ensures read_form.ended (λ M 𝓤 𝓛. read_form.clauses 𝓛) (λ c r w. Answered (of_reading r) (form_order c.passed.0.now) (header_of c.passed.0.now))
  pub sizes : Ensures type_size.ended (λ M 𝓤 𝓛. type_size.clauses 𝓛)
      (λ c r w. Answered (of_size r) (question_order c.passed.0.now c.passed.1.0) (size_ty (model_in c.passed.0.now) (ty_at c.passed.0.now c.passed.1.0)))
  pub aligns : Ensures type_align.ended (λ M 𝓤 𝓛. type_align.clauses 𝓛)
      (λ c r w. Answered (of_align r) (question_order c.passed.0.now c.passed.1.0) (align_ty (model_in c.passed.0.now) (ty_at c.passed.0.now c.passed.1.0)))
  pub shows : Ensures show_number.ended (λ M 𝓤 𝓛. show_number.clauses 𝓛)
      (λ c r w. Answered (of_judgment r) (show_order c.passed.0 c.passed.1.0.now c.passed.1.1.0
      (asking c.passed.1.1.1.0.now c.passed.1.1.1.1.0.now c.passed.1.1.1.1.1.0 [])) tt)
