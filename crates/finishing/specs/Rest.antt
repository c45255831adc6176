-- All the rest at once (document 02, request 2026-05): when the call refuses, and what it leaves. Assumes nothing: these are definitions.
use Rattle.std.specs.Prelude.{Bool, false, not, ◌||◌, List, [], ◌∷◌, ◌++◌, ℕ, zero, suc, ◌+◌, ◌-◌, eqb, length}
use Rattle.form.specs.Order.{Rule, rule, first}
use Rattle.station.specs.declared.Station.{Station}
use Rattle.station.specs.Outcome.{leaves}
use Rattle.station.specs.Paper.{Paper, arguments, shape_at, type_at}
use Rattle.station.specs.Attachment.{wrong_seat, described}
use Rattle.walk.specs.declared.Walk.{Walk}
use Rattle.walk.specs.Orders.{Ask, asking, wrong_registers, other_number, astray, wrong_stack}
use Rattle.walk.specs.Steps.{bytes_at, moved_on}

-- what the call is lent besides: the two images, "the expected type numbers", "one buffer"
pub record AskRest : Type 0 where
  pub registers : List ℕ
  pub stack : List ℕ
  pub asked : List ℕ
  pub out : List ℕ

abbrev pub asking_rest : List ℕ → List ℕ → List ℕ → List ℕ → AskRest
asking_rest registers stack asked out = record { registers = registers; stack = stack; asked = asked; out = out }

-- a step that asks for type t with these images and this buffer
abbrev pub step_ask : AskRest → ℕ → List ℕ → Ask
step_ask a t out = asking a.registers a.stack t out

module _ (P : Paper) where
  -- "those remaining": how many arguments the walk still stands before
  unfoldable pub remaining : List ℕ → Walk → ℕ
  remaining d w = arguments P d - w.position

  -- 24: "a number of types other than those remaining"
  unfoldable pub wrong_count : List ℕ → Walk → List ℕ → Bool
  wrong_count d w ts = not (eqb (length ts) (remaining d w))

  -- 20, of any of them: a type number asked differs from the argument's, from argument p on
  abbrev pub differs : List ℕ → ℕ → List ℕ → Bool
  differs d p [] = false
  differs d p (t ∷ ts) = not (eqb t (type_at P d p)) || differs d (suc p) ts

  unfoldable pub other_types : List ℕ → Walk → List ℕ → Bool
  other_types d w ts = differs d w.position ts

  -- the bytes of n arguments from p on, "packed"
  abbrev pub sizes_from : List ℕ → ℕ → ℕ → ℕ
  sizes_from d p zero = 0
  sizes_from d p (suc n) = (shape_at P d p).size + sizes_from d (suc p) n

  -- 11, late: an out buffer of exactly the sizes that remain
  unfoldable pub wrong_room : List ℕ → Walk → ℕ → Bool
  wrong_room d w n = not (eqb n (sizes_from d w.position (remaining d w)))

  -- "as for a step, but a number of types other than those remaining is 24, after 18, and 19 never occurs": of a stack image, types asked
  -- and an out buffer of so many bytes, what comes behind 1 to 10
  abbrev pub later_order : Station → List ℕ → Walk → List ℕ → List ℕ → ℕ → List Rule
  later_order s d w stack asked n =
      rule 17 (other_number s w) ∷ rule 18 (astray P d w) ∷ rule 24 (wrong_count d w asked) ∷ rule 20 (other_types d w asked)
      ∷ rule 11 (wrong_stack P d (asking [] stack 0 []) || wrong_room d w n) ∷ []

  unfoldable pub later_refusal : Station → List ℕ → Walk → List ℕ → List ℕ → ℕ → ℕ
  later_refusal s d w stack asked n = first (later_order s d w stack asked n)

  -- the same with 1 to 10 before
  abbrev pub seated_order : Station → List ℕ → Walk → AskRest → List Rule
  seated_order s d w a = P.order d ++ later_order s d w a.stack a.asked (length a.out)

  unfoldable pub seated_refusal : Station → List ℕ → Walk → AskRest → ℕ
  seated_refusal s d w a = first (seated_order s d w a)

  -- and "11 for seat, station and register image, 13" before that
  abbrev pub finish_order : Station → List ℕ → Walk → AskRest → List Rule
  finish_order s seat w a =
      rule 11 (wrong_seat s seat || wrong_registers P (step_ask a 0 [])) ∷ rule 13 (not s.attached) ∷ seated_order s (described s seat) w a

  unfoldable pub finish_refusal : Station → List ℕ → Walk → AskRest → ℕ
  finish_refusal s seat w a = first (finish_order s seat w a)

  -- the bytes of the next n arguments, each as a step fetches it, and the record behind them, as steps leave it
  abbrev pub bytes_over : List ℕ → ℕ → Walk → Ask → List ℕ
  bytes_over d zero w a = []
  bytes_over d (suc n) w a = bytes_at P d w a ++ bytes_over d n (moved_on P d w) a

  abbrev pub moved_over : List ℕ → ℕ → Walk → Walk
  moved_over d zero w = w
  moved_over d (suc n) w = moved_over d n (moved_on P d w)

  -- the record and the buffer at exit, where the call answers n: "a refusal leaves walk and buffer unchanged"
  unfoldable pub walk_left : ℕ → List ℕ → Walk → Walk
  walk_left n d w = leaves n (moved_over d (remaining d w) w) w

  unfoldable pub out_left : ℕ → List ℕ → Walk → AskRest → List ℕ
  out_left n d w a = leaves n (bytes_over d (remaining d w) w (step_ask a 0 [])) a.out

  unfoldable pub finish_walk : Station → List ℕ → Walk → AskRest → Walk
  finish_walk s seat w a = walk_left (finish_refusal s seat w a) (described s seat) w

  unfoldable pub finish_out : Station → List ℕ → Walk → AskRest → List ℕ
  finish_out s seat w a = out_left (finish_refusal s seat w a) (described s seat) w a
