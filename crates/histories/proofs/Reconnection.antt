-- Condition C holds of every lawful paper. Assumes nothing.
use mathlib.Core.Path.{◌≡◌, ap, ◌∙◌}
use mathlib.Core.Bool.{◌||◌}
use mathlib.Core.List.{List, [], ◌∷◌}
use Prim.Native.Nat.{ℕ, ◌≤◌, ◌<◌}
use native.Mathlib.Omega.{arith}
use Rattle.form.specs.Order.{rule}
use Rattle.station.specs.declared.Station.{Station}
use Rattle.station.specs.Paper.{Paper, arguments, shape_at}
use Rattle.station.specs.Attachment.{described}
use Rattle.walk.specs.declared.Walk.{Walk}
use Rattle.walk.specs.Orders.{Ask, standing, wrong_stack, wrong_out, step_refusal}
use Rattle.walk.specs.Steps.{bytes_at}
use Rattle.walk.proofs.Checks.{astray-not}
use Rattle.walk.proofs.Passes.{Passed, walk-passes}
use Rattle.histories.specs.Lawful.{Lawful}
use Rattle.histories.specs.ConditionC.{ConditionC, AnyRecord, Cut}
use Rattle.histories.proofs.Attachments.{described-held}
use Rattle.histories.proofs.Images.{cut-joined, cut-long}
use Rattle.histories.proofs.Walks.{known, reads}
use Rattle.histories.proofs.Turns.{step-wrote}
use Rattle.histories.proofs.Shown.{shows, shows_none, same-checks}
use Rattle.histories.proofs.Frames.{either, refused-unchanged, refused_out}
use Rattle.histories.proofs.Promises.{starts-anew, hands_back, hands_back_so_far, goes_on, never_another, stale-walk, stale_record, number-never_falls, number_bounded, number_passes, last-number, reached, open_reached, step_reached, show_reached, detach-leaves}
use Rattle.histories.proofs.Replacing.{change_equals, change_eleven, change_leaves, change_ends}

step-passes : (P : Paper) (s : Station) (seat : List ℕ) (w : Walk) (a : Ask) → step_refusal P s seat w a ≡ 0 → Passed P s seat w a
unfolding step_refusal
step-passes P s seat w a e = (walk-passes P s seat w a (rule 11 (wrong_stack P (described s seat) a || wrong_out P (described s seat) w a) ∷ []) e).0

module _ (P : Paper) (L : Lawful P) where
  any_record : AnyRecord P
  any_record s seat d address values w a h f g r =
      let q = described-held P s seat d h in
      let z = step-passes P s seat w a r in
      let t = astray-not P (described s seat) w z.on in
      let l : w.position < arguments P (described s seat) = omega (arith, t.to, z.before) in
      let l' : w.position < arguments P d = rw q at l in
      let from = t.from in
      let m : P.named d ≤ w.position = rw q at from in
      let same : w ≡ standing P d s.number w.position =
      t.same ∙ ap (λ (n : ℕ). standing P (described s seat) n w.position) z.number ∙ ap (λ (x : List ℕ). standing P x s.number w.position) q in (
        same,
        step-wrote P s seat w a r ∙ ap (λ (x : List ℕ). bytes_at P x w a) q ∙ ap (λ (v : Walk). bytes_at P d v a) same
            ∙ reads P L d address values s.number w.position a (known P L d h.accepted w.position m l') f g,
      )

  cuts : Cut P
  unfolding arguments shape_at
  cuts d values h = (cut-joined (P.shapes d) values h, λ p l. cut-long _ (P.shapes d) values p h l)

  pub condition_c : ConditionC P
  condition_c =
      record {
        starts = starts-anew P L;
        hands_back = hands_back P L;
        hands_back_so_far = hands_back_so_far P L;
        goes_on = goes_on P L;
        never_another = never_another P L;
        stale = stale-walk P L;
        stale_record = stale_record P L;
        any_record = any_record;
        either = λ k cs. either P cs k;
        number_counts = number-never_falls P L;
        number_bounded = number_bounded P L;
        number_passes = number_passes P L;
        number_last = last-number P L;
        reached = reached P L;
        open_reached = open_reached P L;
        step_reached = step_reached P L;
        show_reached = show_reached P L;
        show_checks = same-checks P;
        shows = shows P L;
        shows_none = shows_none P;
        detaches = detach-leaves P L;
        refused = refused-unchanged P L;
        refused_out = refused_out P;
        change_equals = change_equals P L;
        change_eleven = change_eleven P L;
        change_leaves = change_leaves P L;
        change_ends = change_ends P L;
        cuts = cuts;
      }
