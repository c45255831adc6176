-- 000, figures 3.31 and 3.32, without the arguments of 64 bytes, walked call by call (request 2026-06): the images are placed with the upper image, and
-- the walk is lent those of the registers and the stack. Assumes nothing: these are definitions.
use Rattle.std.specs.Prelude.{◌≡◌, List, [], ◌∷◌, ◌++◌, map, ℕ, take, drop, replicate}
use Rattle.addresses.specs.Addresses.{run}
use Rattle.description.specs.Description.{IsBytes}
use Rattle.station.specs.Paper.{kcb}
use Rattle.histories.specs.Calls.{attaching, opening, stepping, showing, answers, handed}
use Rattle.histories.specs.Values.{images_for}
use Rattle.histories.specs.Accident.{Told, told, made, desk, ask}

-- an int, a double and an __m256, and then, unnamed, an int, a long double, an __m256 and a double
abbrev pub figure : List ℕ
figure =
    75 ∷ 67 ∷ 66 ∷ 1 ∷ 0 ∷ 4 ∷ 1 ∷ 3 ∷ 7 ∷ 255 ∷ 0 ∷ 0 ∷ 3 ∷ 0 ∷ 0 ∷ 0 ∷ 7 ∷ 0 ∷ 0 ∷ 0 ∷ 16 ∷ 0 ∷ 0 ∷ 0 ∷ 8 ∷ 0 ∷ 0 ∷ 0 ∷ 1 ∷ 2 ∷ 0 ∷ 3 ∷ 2 ∷ 1 ∷ []

-- values of 4, 8, 32, 4, 16, 32 and 8 bytes
abbrev pub figure_images : List ℕ
figure_images = images_for kcb figure [] (run 1 104)

abbrev pub walked : IsBytes figure → List Told
walked b =
    told 0 (attaching figure b)
    ∷ told 0 (opening 4)
    -- in rsi
    ∷ told 0 (stepping 4 (ask figure_images 0 4))
    -- on the stack, at 0 and at 32
    ∷ told 0 (stepping 4 (ask figure_images 3 16))
    ∷ told 0 (showing 4 (ask figure_images 2 0))
    ∷ told 0 (stepping 4 (ask figure_images 2 32))
    -- in xmm2, behind the one that the named __m256 is in
    ∷ told 0 (stepping 4 (ask figure_images 1 8))
    ∷ told 19 (stepping 4 (ask figure_images 1 8))
    ∷ []

-- each call answers what is told, and each unnamed argument is handed back; "Bytes 16 to 31" of the named __m256 stand in the upper image, at xmm1
pub record Walked (ts : List Told) : Type 0 where
  pub answer : answers kcb desk (made ts) ≡ map (λ (t : Told). t.answered) ts
  pub each : handed kcb 4 desk (made ts) ≡ run 45 4 ∷ run 49 16 ∷ run 65 32 ∷ run 97 8 ∷ []
  pub upper : take 128 (drop 176 figure_images) ≡ replicate 16 0 ++ (run 29 16 ++ replicate 96 0)
