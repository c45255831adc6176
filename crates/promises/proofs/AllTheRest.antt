-- Request 2026-05, of the definitions and of the call. Assumes nothing.
use mathlib.Core.Path.{refl, sym, ap, subst, ◌∙◌}
use mathlib.Core.List.{List}
use Prim.Native.Nat.{ℕ}
use Rattle.tightness.proofs.Laws.{result, told, bytes}
use Rattle.form.specs.Reading.{refusal_by, refusal_at, refusal_in}
use Rattle.station.specs.declared.Station.{Station as Attached}
use Rattle.station.specs.Paper.{kcb, refusal_under}
use Rattle.station.specs.Attachment.{described}
use Rattle.station.proofs.Kcb.{kcb-refusal}
use Rattle.station.proofs.Orders.{kept, left}
use Rattle.walk.specs.declared.Walk.{Walk as Standing}
use Rattle.finishing.specs.Rest.{AskRest, asking_rest, finish_refusal, finish_walk, finish_out}
use Rattle.finishing.specs.Steps.{RestIsSteps}
use Rattle.finishing.proofs.Orders.{finish-left}
use Rattle.finishing.proofs.Equal.{rest-is_steps}
use Rattle.histories.proofs.Kcb.{kcb-lawful}
use Rattle.histories.proofs.Mixed.{mixed}
use Rattle.flat.specs.declared.Station.{Station}
use Rattle.flat.specs.declared.Walk.{Walk}
use Rattle.flat.specs.Stations.{station_meant, walk_meant}
use Rattle.flat.proofs.Kept.{walk-means}
use Rattle.flat.specs.contracts.Walk as walk
use Rattle.callbridge.specs.Outcome.{left_in}
use Rattle.callbridge.specs.WalkCalls.{finish_given}
use Rattle.callbridge.proofs.Told.{finish-told}
use Rattle.callbridge.specs.contracts.cb_finish_walk
use Rattle.promises.specs.Meaning.{Answered, of_refusal}
use Rattle.promises.specs.Orders.{finish_order}
use Rattle.promises.specs.WrongType.{Names}
use Rattle.promises.specs.AllTheRest.{FinishesFlat, AllTheRest}
use Rattle.promises.proofs.Answering.{answered}
use Rattle.promises.proofs.WrongType.{wrong_type}
use Rattle.promises.proofs.Exports.{told-number, along_three}

finish-answered : (s : Attached) (seat : List ℕ) (w : Standing) (a : AskRest)
    → Answered (of_refusal (refusal_under kcb (described s seat) (finish_refusal kcb s seat w a))) (finish_order s seat w a) tt
unfolding kcb finish_refusal refusal_under refusal_by refusal_at
finish-answered s seat w a = answered refl refl

is-steps : RestIsSteps kcb
is-steps = rest-is_steps kcb kcb-lawful.shaped kcb-lawful.starts

finishes-flat : (s : Station) (seat : List ℕ) (old : Walk) (a : AskRest)
    → FinishesFlat s seat old a (refusal_in (finish_given s seat old a)) (left_in (finish_given s seat old a) old) (finish_out kcb (station_meant s) seat (walk_meant old) a)
finishes-flat s seat old a =
    let x = station_meant s in
    let y = walk_meant old in
    let d = described x seat in
    let n = finish_refusal kcb x seat y a in
    let t = finish-told s seat old a in
    record {
      answered = subst (λ r. Answered (of_refusal r) (finish_order x seat y a) tt) (kcb-refusal d n ∙ sym t.refusal) (finish-answered x seat y a);
      names = subst (Names d) (kcb-refusal d n ∙ sym t.refusal) (wrong_type.finish_walk_lem x seat y a);
      refused = λ p. (t.left old ∙ left n _ old (λ z. p (told-number t ∙ z)), (finish-left kcb x seat y a (λ z. p (told-number t ∙ z))).1);
      finished = λ z qs o.
          let e = sym (told-number t) ∙ z in
          let q = is-steps x seat y a qs e o in
          (ap walk_meant (t.left old ∙ kept n _ old e) ∙ walk-means (finish_walk kcb x seat y a) ∙ q.walk, q.out);
    }

pub all-the_rest : AllTheRest
all-the_rest = record {
  answered = finish-answered;
  frame = λ s seat w a h. finish-left kcb s seat w a h;
  equals_steps = is-steps;
  mixed = mixed kcb kcb-lawful;
  finishes = λ c r w a.
      let q = asking_rest c.passed.1.1.1.0.now c.passed.1.1.1.1.0.now c.passed.1.1.1.1.1.0.now c.passed.1.1.1.1.1.1.0.now in
      along_three (FinishesFlat c.passed.0.now c.passed.1.0.now c.passed.1.1.0.now q)
      (told (result cb_finish_walk.ended c) a.ensured (λ f. f.0)) (told (walk.the_row).coded a.ensured (λ f. f.1.0)) (told bytes a.ensured (λ f. f.1.1))
      (finishes-flat c.passed.0.now c.passed.1.0.now c.passed.1.1.0.now q);
}
