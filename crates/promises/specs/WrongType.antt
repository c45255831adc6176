-- Request 2026-01, "Where the type is wrong", beside demand 1: "Refusals 6 and 7 now return the lowest type number that breaks the rule, and every
-- call that passes such a refusal on passes the number too. All other refusals give 0 there." proofs/WrongType.antt proves `WrongType`.
-- Assumes nothing: these are definitions.
use Rattle.std.specs.Prelude.{◌≡◌, ◌≢◌, true, List, ℕ, ◌<◌, Err, Ok, Result}
use Rattle.description.specs.Description.{types_in, model_in}
use Rattle.form.specs.declared.Refusal.{Refusal}
use Rattle.form.specs.Reading.{refusal_of, reading_of}
use Rattle.form.specs.Conditions.{broken_record}
use Rattle.types.specs.Size.{size_ty}
use Rattle.types.specs.Decode.{ty_at}
use Rattle.types.specs.Wrong.{refusal_for}
use Rattle.questions.specs.Questions.{question_refusal}
use Rattle.questions.specs.Offsets.{offsets_refusal}
use Rattle.uses.specs.Uses.{uses_refusal}
use Rattle.layout.specs.Verdict.{verdict}
use Rattle.layout.specs.Lists.{list_refusal}
use Rattle.moving.specs.Images.{amd64}
use Rattle.moving.specs.Orders.{place_refusal, gather_refusal}
use Rattle.returning.specs.Orders.{put_refusal, take_refusal}
use Rattle.station.specs.declared.Station.{Station}
use Rattle.station.specs.Paper.{kcb, refusal_under}
use Rattle.station.specs.Attachment.{described, attach_refusal, detach_refusal, change_refusal}
use Rattle.walk.specs.declared.Walk.{Walk}
use Rattle.finishing.specs.Rest.{AskRest, finish_refusal}
use Rattle.walk.specs.Orders.{Ask, open_refusal, step_refusal, show_refusal}
use Rattle.description.specs.declared.Header.{Header}

-- k is the lowest of n types that breaks a rule
pub record Lowest (Breaks : ℕ → Type 0) (n k : ℕ) : Type 0 where
  pub known : k < n
  pub breaks : Breaks k
  pub lower : (j : ℕ) → j < k → Breaks j → ⊥

-- what a refusal of this description says of its types
pub record Names (d : List ℕ) (r : Refusal) : Type 0 where
  -- 6: "a type record that breaks its kind's rule"
  pub six : r.number ≡ 6 → Lowest (λ k. broken_record d k ≡ true) (types_in d) r.ty
  -- 7: "a type over 4,096 bytes"
  pub seven : r.number ≡ 7 → Lowest (λ k. 4096 < size_ty (model_in d) (ty_at d k)) (types_in d) r.ty
  pub other : r.number ≢ 6 → r.number ≢ 7 → r.ty ≡ 0

-- the refusal of a form that is read, none where it is accepted
abbrev pub refusal_read : Result Header Refusal → Refusal
refusal_read (Ok h) = refusal_of 0
refusal_read (Err r) = r

-- the refusal of each call, as its contract gives it: of the description that is handed in, or of the one in the seat
pub record WrongType : Type 0 where
  pub read_form_lem : (d : List ℕ) → Names d (refusal_read (reading_of d))
  pub check : (d : List ℕ) → Names d (refusal_for d (verdict d))
  pub question : (d : List ℕ) (t : ℕ) → Names d (refusal_for d (question_refusal d t))
  pub member_offsets_lem : (d : List ℕ) (t room : ℕ) → Names d (refusal_for d (offsets_refusal d t room))
  pub lay_out : (d : List ℕ) (room : ℕ) → Names d (refusal_for d (list_refusal d room))
  pub needs_stack : (d : List ℕ) → Names d (refusal_for d (uses_refusal d))
  pub place_values : (d : List ℕ) (h : ℕ) (values : List ℕ) (registers_length upper_length stack_length : ℕ)
      → Names d (refusal_for d (place_refusal amd64 d h values registers_length upper_length stack_length))
  pub gather_values : (d : List ℕ) (values_length registers_length upper_length stack_length : ℕ)
      → Names d (refusal_for d (gather_refusal amd64 d values_length registers_length upper_length stack_length))
  pub put_returned : (d : List ℕ) (h : ℕ) (value : List ℕ) (image_length upper_length : ℕ) → Names d (refusal_for d (put_refusal d h value image_length upper_length))
  pub take_returned : (d image upper : List ℕ) (value_length : ℕ) → Names d (refusal_for d (take_refusal d image upper value_length))
  pub attach : (s : Station) (seat d : List ℕ) → Names d (refusal_under kcb d (attach_refusal kcb s seat d))
  pub detach : (s : Station) (seat d : List ℕ) → Names d (refusal_of (detach_refusal s seat))
  pub change : (s : Station) (seat d : List ℕ) → Names d (refusal_under kcb d (change_refusal kcb s seat d))
  pub open_walk_lem : (s : Station) (seat : List ℕ) → Names (described s seat) (refusal_under kcb (described s seat) (open_refusal kcb s seat))
  pub step : (s : Station) (seat : List ℕ) (w : Walk) (a : Ask)
      → Names (described s seat) (refusal_under kcb (described s seat) (step_refusal kcb s seat w a))
  pub show : (s : Station) (seat : List ℕ) (w : Walk) (a : Ask)
      → Names (described s seat) (refusal_under kcb (described s seat) (show_refusal kcb s seat w a))
  pub finish_walk_lem : (s : Station) (seat : List ℕ) (w : Walk) (a : AskRest)
      → Names (described s seat) (refusal_under kcb (described s seat) (finish_refusal kcb s seat w a))
