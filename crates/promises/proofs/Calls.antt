-- The calls that C has not do what the demands say. Assumes nothing.
use Rattle.std.specs.Prelude.{Err, Ok}
use mathlib.Core.Path.{refl, sym, subst}
use mathlib.Core.List.{List, []}
use Prim.Native.Nat.{ℕ}
use Rattle.tightness.proofs.Laws.{result, told}
use Rattle.description.specs.Description.{header_of, model_in}
use Rattle.types.specs.Size.{size_ty, align_ty}
use Rattle.types.specs.Decode.{ty_at}
use Rattle.form.specs.Reading.{refusal_at, refusal_by}
use Rattle.station.specs.declared.Station.{Station}
use Rattle.station.specs.Paper.{answer_under, kcb, refusal_under}
use Rattle.station.specs.Attachment.{described}
use Rattle.walk.specs.declared.Walk.{Walk}
use Rattle.walk.specs.Orders.{Ask, asking, show_refusal}
use Rattle.form.specs.contracts.read_form
use Rattle.questions.specs.contracts.type_size
use Rattle.questions.specs.contracts.type_align
use Rattle.walk.specs.contracts.show_number
use Rattle.promises.specs.Meaning.{of_judgment, of_reading, of_size, of_align, Answered}
use Rattle.promises.specs.Orders.{form_order, question_order, show_order}
use Rattle.promises.specs.Calls.{Calls}
use Rattle.promises.proofs.Answering.{answered, decided}
use Rattle.promises.proofs.Demand1.{demand_1}

show_judged : (s : Station) (seat : List ℕ) (w : Walk) (a : Ask) → Answered (of_judgment (answer_under kcb (described s seat) (show_refusal kcb s seat w a) tt)) (show_order s seat w a) tt
unfolding answer_under kcb refusal_under refusal_by refusal_at show_refusal
show_judged s seat w a = answered refl (decided of_judgment (Ok tt) (λ n. Err (refusal_under kcb (described s seat) n)) tt refl (λ n. refl) (show_refusal kcb s seat w a))

pub calls : Calls
calls = record {
  reads = λ c r w a.
      subst (λ x. Answered (of_reading x) (form_order c.passed.0.now) (header_of c.passed.0.now)) (sym (told (result read_form.ended c) a.ensured (λ f. f)))
      (demand_1.below.read_form_lem c.passed.0.now);
  sizes = λ c r w a.
      subst (λ x. Answered (of_size x) (question_order c.passed.0.now c.passed.1.0) (size_ty (model_in c.passed.0.now) (ty_at c.passed.0.now c.passed.1.0)))
      (sym (told (result type_size.ended c) a.ensured (λ f. f))) (demand_1.questions.type_size_lem c.passed.0.now c.passed.1.0);
  aligns = λ c r w a.
      subst (λ x. Answered (of_align x) (question_order c.passed.0.now c.passed.1.0) (align_ty (model_in c.passed.0.now) (ty_at c.passed.0.now c.passed.1.0)))
      (sym (told (result type_align.ended c) a.ensured (λ f. f))) (demand_1.questions.type_align_lem c.passed.0.now c.passed.1.0);
  shows = λ c r w a.
      let a' = asking c.passed.1.1.1.0.now c.passed.1.1.1.1.0.now c.passed.1.1.1.1.1.0 [] in
      subst (λ x. Answered (of_judgment x) (show_order c.passed.0 c.passed.1.0.now c.passed.1.1.0 a') tt)
      (sym (told (result show_number.ended c) a.ensured (λ f. f))) (show_judged c.passed.0 c.passed.1.0.now c.passed.1.1.0 a');
}
