-- What is said of a plan: that of an accepted description answers and leaves what the description's own calls do. Assumes nothing: these are definitions.
use Rattle.std.specs.Prelude.{◌≡◌, true, List, ◌++◌, ℕ, ◌≤◌, ◌<◌, length}
use Rattle.addresses.specs.Addresses.{All}
use Rattle.layout.specs.Verdict.{verdict}
use Rattle.moving.specs.Images.{amd64}
use Rattle.moving.specs.Answers.{place_answer, images_after, gather_answer, values_after}
use Rattle.returning.specs.Answers.{put_answer, take_answer, value_after, images_after as return_after}
use Rattle.plans.specs.Plans.{well_formed, place_answer_by, image_after_by, gather_answer_by, values_after_by}
use Rattle.plans.specs.Returned.{returns_formed, put_answer_by, return_image_by, take_answer_by, returned_after_by}
use Rattle.plans.specs.Cuts.{plan_of}

-- its numbers are a plan, have 16 bits, and are no more than 392
pub record Planned (d : List ℕ) : Type 0 where
  pub formed : well_formed (plan_of d) ≡ true
  pub returns : returns_formed (plan_of d) ≡ true
  pub numbers : All (λ x. x < 65536) (plan_of d)
  pub room : length (plan_of d) ≤ 392

abbrev pub AllPlanned : Type 0
AllPlanned = (d : List ℕ) → verdict d ≡ 0 → Planned d

-- placing by it gives the same answer, refusals 11, 27 and 12 included, and the same images, one behind the other
abbrev pub PlacesByPlan : Type 0
PlacesByPlan = (d : List ℕ) → verdict d ≡ 0 → (h : ℕ) (vals r y s : List ℕ) → length r ≡ 176 → length y ≡ 128
    → (place_answer_by (plan_of d) h vals (length (r ++ (y ++ s))) ≡ place_answer amd64 d h vals (length r) (length y) (length s))
    × (image_after_by (plan_of d) h vals (r ++ (y ++ s)) ≡ images_after amd64 d h vals r y s)

abbrev pub GathersByPlan : Type 0
GathersByPlan = (d : List ℕ) → verdict d ≡ 0 → (r y s v : List ℕ) → length r ≡ 176 → length y ≡ 128
    → (gather_answer_by (plan_of d) (r ++ (y ++ s)) (length v) ≡ gather_answer amd64 d r y s (length v))
    × (values_after_by (plan_of d) (r ++ (y ++ s)) v ≡ values_after amd64 d r y s v)

-- and so do putting and taking a returned value
abbrev pub PutsByPlan : Type 0
PutsByPlan = (d : List ℕ) → verdict d ≡ 0 → (h : ℕ) (v i y : List ℕ) → length i ≡ 80 → length y ≡ 16
    → (put_answer_by (plan_of d) h v (length (i ++ y)) ≡ put_answer d h v (length i) (length y))
    × (return_image_by (plan_of d) h v (i ++ y) ≡ return_after d h v i y)

abbrev pub TakesByPlan : Type 0
TakesByPlan = (d : List ℕ) → verdict d ≡ 0 → (i y v : List ℕ) → length i ≡ 80 → length y ≡ 16
    → (take_answer_by (plan_of d) (i ++ y) (length v) ≡ take_answer d i y (length v))
    × (returned_after_by (plan_of d) (i ++ y) v ≡ value_after d i y v)
