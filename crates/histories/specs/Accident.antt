-- "our present bridge kept a half-finished walk while one module left and another came": that history, with the module of the lister's case of
-- document 01 and another one, call by call, and what each call answers. Assumes nothing: these are definitions.
use Rattle.std.specs.Prelude.{◌≡◌, List, [], ◌∷◌, map, ℕ, take, drop, replicate}
use Rattle.addresses.specs.Addresses.{run}
use Rattle.description.specs.Description.{IsBytes}
use Rattle.places.specs.Images.{stack_at}
use Rattle.station.specs.Paper.{kcb}
use Rattle.walk.specs.Orders.{Ask}
use Rattle.histories.specs.Calls.{Desk, Call, attaching, detaching, changing, opening, stepping, showing, numbering, new_desk, answers, handed}
use Rattle.histories.specs.Values.{images_for}

-- an int, a struct of a double and a long, a long double, and then, unnamed, a double and an __int128; it returns a double
abbrev pub lister : List ℕ
lister =
    75 ∷ 67 ∷ 66 ∷ 1 ∷ 0 ∷ 6 ∷ 1 ∷ 3 ∷ 5 ∷ 1 ∷ 2 ∷ 0 ∷ 3 ∷ 0 ∷ 0 ∷ 0 ∷ 7 ∷ 0 ∷ 0 ∷ 0 ∷ 4 ∷ 0 ∷ 0 ∷ 2 ∷ 0 ∷ 2 ∷ 0 ∷ 0 ∷ 8 ∷ 0 ∷ 0 ∷ 0 ∷ 5 ∷ 0 ∷ 0
    ∷ 1 ∷ 2 ∷ 0 ∷ 3 ∷ 4 ∷ 1 ∷ 5 ∷ []

-- an int, and then, unnamed, a double and an int
abbrev pub other : List ℕ
other = 75 ∷ 67 ∷ 66 ∷ 1 ∷ 0 ∷ 2 ∷ 1 ∷ 1 ∷ 3 ∷ 255 ∷ 0 ∷ 0 ∷ 3 ∷ 0 ∷ 0 ∷ 0 ∷ 7 ∷ 0 ∷ 0 ∷ 0 ∷ 1 ∷ 0 ∷ []

abbrev pub damaged : List ℕ
damaged = 75 ∷ 67 ∷ []

-- images placed for values: 60 bytes for the one, 16 for the other
abbrev pub lister_images : List ℕ
lister_images = images_for kcb lister [] (run 1 60)

abbrev pub other_images : List ℕ
other_images = images_for kcb other [] (run 101 16)

abbrev pub ask : List ℕ → ℕ → ℕ → Ask
ask images type room = record { registers = take 176 images; stack = drop stack_at images; asked = type; out = replicate room 0 }

-- something is left in the seat from before, and the host's records are empty
abbrev pub desk : Desk
desk = new_desk (replicate 586 3) (λ i. record { number = 0; position = 0; general = record { 0 = 0 }; vector = record { 0 = 0 }; overflow = record { 0 = 0 } })

-- a call, and what it answers
pub record Told : Type 0 where
  pub called : Call
  pub answered : ℕ

abbrev pub told : ℕ → Call → Told
told n c = record { called = c; answered = n }

abbrev pub history : IsBytes lister → IsBytes other → IsBytes damaged → List Told
history b c e =
    told 13 detaching
    ∷ told 1 (attaching damaged e)
    ∷ told 0 (attaching lister b)
    -- two walks over the first module: 4 goes to its end, among refusals that leave it; 5 stops half way
    ∷ told 0 (opening 4)
    ∷ told 14 (attaching other c)
    ∷ told 0 (opening 5)
    ∷ told 0 (stepping 4 (ask lister_images 1 8))
    ∷ told 0 (showing 4 (ask lister_images 5 0))
    ∷ told 20 (stepping 4 (ask lister_images 1 8))
    ∷ told 11 (stepping 4 (ask lister_images 5 15))
    ∷ told 0 (stepping 5 (ask lister_images 1 8))
    ∷ told 0 (stepping 4 (ask lister_images 5 16))
    ∷ told 19 (stepping 4 (ask lister_images 5 16))
    -- "one module left and another came", while 5 is half-finished
    ∷ told 0 detaching
    ∷ told 13 (stepping 5 (ask lister_images 5 16))
    ∷ told 0 (attaching other c)
    ∷ told 17 (stepping 5 (ask other_images 1 8))
    ∷ told 17 (showing 5 (ask other_images 1 8))
    ∷ told 17 (numbering 5 (ask other_images 1 8))
    ∷ told 11 (stepping 5 (ask [] 1 8))
    -- opened anew, it walks the new module
    ∷ told 0 (opening 5)
    ∷ told 0 (stepping 5 (ask other_images 1 8))
    ∷ told 0 (stepping 5 (ask other_images 0 4))
    ∷ told 19 (stepping 5 (ask other_images 0 4))
    ∷ []

-- a step of the half-finished walk 5 over the new module's images: what read key pressure under the old module's offsets
abbrev pub over_the_new : Call
over_the_new = stepping 5 (ask other_images 1 8)

-- the same accident, where the host changes modules by one call
abbrev pub exchange : IsBytes lister → IsBytes other → IsBytes damaged → List Told
exchange b c e =
    -- nothing is attached: a refused change leaves all, an accepted one attaches
    told 1 (changing damaged e)
    ∷ told 13 detaching
    ∷ told 0 (changing lister b)
    ∷ told 0 (opening 4)
    ∷ told 0 (opening 5)
    ∷ told 0 (stepping 4 (ask lister_images 1 8))
    ∷ told 0 (stepping 5 (ask lister_images 1 8))
    ∷ told 0 (stepping 4 (ask lister_images 5 16))
    -- "one module left and another came", while 5 is half-finished
    ∷ told 0 (changing other c)
    ∷ told 17 over_the_new
    ∷ told 17 (showing 5 (ask other_images 1 8))
    ∷ told 17 (stepping 5 (ask lister_images 5 16))
    -- opened anew, it walks the new module
    ∷ told 0 (opening 5)
    ∷ told 0 (stepping 5 (ask other_images 1 8))
    ∷ told 0 (stepping 5 (ask other_images 0 4))
    -- a module left and none came
    ∷ told 1 (changing damaged e)
    ∷ told 13 (stepping 5 (ask other_images 0 4))
    ∷ told 13 detaching
    -- and the first came again: the old walks stay refused
    ∷ told 0 (changing lister b)
    ∷ told 17 (stepping 4 (ask lister_images 1 8))
    ∷ told 17 (stepping 5 (ask lister_images 1 8))
    ∷ []

abbrev pub made : List Told → List Call
made ts = map (λ (t : Told). t.called) ts

-- each call answers what is told, walk 4 hands back both unnamed arguments, and walk 5 the first of the old module's, and then the new's
pub record Plays (ts : List Told) : Type 0 where
  pub answer : answers kcb desk (made ts) ≡ map (λ (t : Told). t.answered) ts
  pub whole : handed kcb 4 desk (made ts) ≡ run 37 8 ∷ run 45 16 ∷ []
  pub parted : handed kcb 5 desk (made ts) ≡ run 37 8 ∷ run 105 8 ∷ run 113 4 ∷ []
