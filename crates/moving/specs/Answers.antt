-- What placing and gathering answer, and what they leave in the lent buffers, of any layout: document 01, "A refusal returns its number only and writes
-- nothing". Assumes nothing: these are definitions.
use Rattle.std.specs.Prelude.{cond, List, ◌++◌, ℕ, eqb, length, take, drop, Err, Ok, Result}
use Rattle.moving.specs.Frames.{placed_in, gathered_in, own_address}
use Rattle.moving.specs.Movers.{Mover}
use Rattle.moving.specs.Orders.{place_refusal, gather_refusal}
use Rattle.form.specs.declared.Refusal.{Refusal}
use Rattle.units.specs.declared.Registers.{Registers}

module _ (M : Mover) where
  -- the vector count
  unfoldable pub place_answer : List ℕ → ℕ → List ℕ → ℕ → ℕ → ℕ → Result Registers Refusal
  place_answer d h values registers_length upper_length stack_length =
      cond (eqb (place_refusal M d h values registers_length upper_length stack_length) 0) (Ok (M.count d))
      (Err (M.told d (place_refusal M d h values registers_length upper_length stack_length)))

  -- the register image, the upper image and the stack image at exit; r, y and s at entry
  unfoldable pub registers_after : List ℕ → ℕ → List ℕ → List ℕ → List ℕ → List ℕ → List ℕ
  registers_after d h values r y s =
      cond (eqb (place_refusal M d h values (length r) (length y) (length s)) 0) (take (M.frame d).registers (placed_in (M.frame d) h values)) r

  unfoldable pub upper_after : List ℕ → ℕ → List ℕ → List ℕ → List ℕ → List ℕ → List ℕ
  upper_after d h values r y s =
      cond (eqb (place_refusal M d h values (length r) (length y) (length s)) 0)
      (take (M.frame d).upper (drop (M.frame d).registers (placed_in (M.frame d) h values))) y

  unfoldable pub stack_after : List ℕ → ℕ → List ℕ → List ℕ → List ℕ → List ℕ → List ℕ
  stack_after d h values r y s =
      cond (eqb (place_refusal M d h values (length r) (length y) (length s)) 0)
      (drop (M.frame d).upper (drop (M.frame d).registers (placed_in (M.frame d) h values))) s

  -- all of them, one behind the other
  abbrev pub images_after : List ℕ → ℕ → List ℕ → List ℕ → List ℕ → List ℕ → List ℕ
  images_after d h values r y s = registers_after d h values r y s ++ (upper_after d h values r y s ++ stack_after d h values r y s)

  -- the hidden address, 0 where none is used
  unfoldable pub gather_answer : List ℕ → List ℕ → List ℕ → List ℕ → ℕ → Result ℕ Refusal
  gather_answer d r y s values_length =
      cond (eqb (gather_refusal M d values_length (length r) (length y) (length s)) 0) (Ok (own_address (M.frame d) (r ++ (y ++ s))))
      (Err (M.told d (gather_refusal M d values_length (length r) (length y) (length s))))

  -- the values at exit, v at entry
  unfoldable pub values_after : List ℕ → List ℕ → List ℕ → List ℕ → List ℕ → List ℕ
  values_after d r y s v = cond (eqb (gather_refusal M d (length v) (length r) (length y) (length s)) 0) (gathered_in (M.frame d) (r ++ (y ++ s))) v

-- the paper's number of an answer: 0 where it is accepted
abbrev pub place_number : Result Registers Refusal → ℕ
place_number (Ok n) = 0
place_number (Err r) = r.number

abbrev pub gather_number : Result ℕ Refusal → ℕ
gather_number (Ok h) = 0
gather_number (Err r) = r.number
