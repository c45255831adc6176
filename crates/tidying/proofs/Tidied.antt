-- What request 2026-03 asks of the tidy form. Assumes nothing.
use mathlib.Core.Path.{◌≡◌, refl, sym, ap, ap₂, ◌∙◌}
use mathlib.Core.Logic.{◌↔◌}
use mathlib.Core.List.{List}
use Prim.Native.Nat.{ℕ, ◌≤◌, ◌<◌}
use native.Mathlib.Omega.{arith}
use lib.ListN.{length, get_or}
use lib.Seq.{ext_get_or}
use Rattle.description.specs.declared.Model.{Model}
use Rattle.description.specs.Description.{named_in, arguments_in, argument_at, model_in}
use Rattle.types.specs.Tree.{Ty, basic}
use Rattle.uses.proofs.Uses.{accepted-typed}
use Rattle.layout.proofs.Verdict.{accepted-uses}
use Rattle.layout.specs.declared.placements.Placement.{Placement}
use Rattle.layout.specs.Placements.{placement_at}
use Rattle.tidying.specs.Call.{Returned, Call, returned_by, call_of}
use Rattle.tidying.specs.Tidy.{tidy_of}
use Rattle.tidying.specs.Laid.{layout_in, placement_in}
use Rattle.tidying.specs.Answers.{tidied}
use Rattle.tidying.specs.Statements.{Tidiable, SameTidyBytes, SameCall, TidyForm}
use Rattle.tidying.proofs.Laid.{many-call, flags-call, named-call, argument-call, layout-call, placement_call, model-call}
use Rattle.tidying.proofs.Accepted.{tidy-call, tidy-accepted}

-- a call is its parts
calls_same : (c e : Call) → c.flags ≡ e.flags → c.named ≡ e.named → c.returns ≡ e.returns → c.arguments ≡ e.arguments → c ≡ e
calls_same c e a b r l = build c.flags e.flags c.named e.named c.returns e.returns c.arguments e.arguments a b r l
  where
    build : (f f₁ n n₁ : ℕ) (r r₁ : Returned) (l l₁ : List Ty) → f ≡ f₁ → n ≡ n₁ → r ≡ r₁ → l ≡ l₁
        → ◌≡◌ {A = Call} (record { flags = f; named = n; returns = r; arguments = l }) (record { flags = f₁; named = n₁; returns = r₁; arguments = l₁ })
    build f f₁ n n₁ r r₁ l l₁ a b x y = rw (a, b, x, y)

returns-call : (d : List ℕ) → (call_of d).returns ≡ returned_by d
unfolding call_of
returns-call d = refl

said-call : (d e : List ℕ) → SameCall d e → call_of d ≡ call_of e
said-call d e s =
    calls_same (call_of d) (call_of e) (flags-call d ∙ s.flags ∙ sym (flags-call e)) (named-call d ∙ s.named ∙ sym (named-call e))
    (returns-call d ∙ s.returns ∙ sym (returns-call e))
    (ext_get_or (basic 0) (call_of d).arguments (call_of e).arguments (many-call d ∙ s.many ∙ sym (many-call e)) (λ i l.
    let m : i < arguments_in d = omega (arith, l, many-call d) in
    argument-call d i m ∙ s.arguments i m ∙ sym (argument-call e i (omega (arith, m, s.many)))))

-- "Two descriptions have the same tidy bytes exactly when both can be tidied and they have equal flags, N, A and the same written-out types"
pub same_exactly : (d e : List ℕ) → SameTidyBytes d e ↔ SameCall d e
same_exactly d e = (λ s. to s, λ s. record { bytes = tidied d; one = record { tidiable = s.one; are = refl }; other = record { tidiable = s.other; are = ap tidy_of (sym (said-call d e s)) } })
  where
    to : SameTidyBytes d e → SameCall d e
    to s =
        let a = tidy-call d (accepted-uses d s.one.tidiable.accepted) in
        let b = tidy-call e (accepted-uses e s.other.tidiable.accepted) in
        let q : tidied d ≡ tidied e = s.one.are ∙ sym s.other.are in
        let c : call_of d ≡ call_of e = sym a ∙ ap call_of q ∙ b in
        let m : arguments_in d ≡ arguments_in e = sym (many-call d) ∙ ap (λ (x : Call). length x.arguments) c ∙ many-call e in
        record {
          one = s.one.tidiable;
          other = s.other.tidiable;
          flags = sym (flags-call d) ∙ ap (λ (x : Call). x.flags) c ∙ flags-call e;
          named = sym (named-call d) ∙ ap (λ (x : Call). x.named) c ∙ named-call e;
          many = m;
          returns = sym (returns-call d) ∙ ap (λ (x : Call). x.returns) c ∙ returns-call e;
          arguments = λ i l. sym (argument-call d i l) ∙ ap (λ (x : Call). get_or x.arguments i (basic 0)) c ∙ argument-call e i (omega (arith, l, m));
        }

-- "Tidying twice changes nothing, and the layout is the same apart from type numbers"
module _ (d : List ℕ) (t : Tidiable d) where
  same : call_of (tidied d) ≡ call_of d
  same = tidy-call d (accepted-uses d t.accepted)

  many-same : arguments_in (tidied d) ≡ arguments_in d
  many-same = sym (many-call (tidied d)) ∙ ap (λ (x : Call). length x.arguments) same ∙ many-call d

  few : named_in d ≤ arguments_in d
  few = (accepted-typed d (accepted-uses d t.accepted)).named

  named-same : named_in (tidied d) ≡ named_in d
  named-same = sym (named-call (tidied d)) ∙ ap (λ (x : Call). x.named) same ∙ named-call d

  model-same : model_in (tidied d) ≡ model_in d
  model-same = model-call (tidied d) d same

  record_same : (i : ℕ) → i < arguments_in d → placement_at (tidied d) i ≡ placement_in (model_in d) (call_of d) i (argument_at (tidied d) i)
  record_same i l =
      placement_call (tidied d) i (omega (arith, l, many-same)) ∙ ap₂ (λ (m : Model) (x : Call). placement_in m x i (argument_at (tidied d) i)) model-same same

  pub tidy-form : TidyForm d
  unfolding placement_in
  tidy-form = record {
    again = record { accepted = tidy-accepted d t.accepted; room = rw same t.room };
    twice = ap tidy_of same;
    layout = layout-call (tidied d) (omega (arith, few, many-same, named-same)) ∙ ap₂ layout_in model-same same ∙ sym (layout-call d few);
    sizes = λ i l. ap (λ (p : Placement). p.size) (record_same i l) ∙ sym (ap (λ (p : Placement). p.size) (placement_call d i l));
    aligns = λ i l. ap (λ (p : Placement). p.align) (record_same i l) ∙ sym (ap (λ (p : Placement). p.align) (placement_call d i l));
    places = λ i l. ap (λ (p : Placement). p.place) (record_same i l) ∙ sym (ap (λ (p : Placement). p.place) (placement_call d i l));
    values = λ i l. ap (λ (p : Placement). p.at) (record_same i l) ∙ sym (ap (λ (p : Placement). p.at) (placement_call d i l));
    marks = λ i l. ap (λ (p : Placement). p.named) (record_same i l) ∙ sym (ap (λ (p : Placement). p.named) (placement_call d i l));
  }
