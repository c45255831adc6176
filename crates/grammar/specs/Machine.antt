-- How a text is read, byte by byte: the part of a token that is being read, and the symbols that are still to come.
-- Assumes nothing: these are definitions.
use Rattle.std.specs.Prelude.{Bool, true, false, cond, ◌&&◌, ◌||◌, List, [], ◌∷◌, ◌++◌, ℕ, suc, eqb}
use Rattle.grammar.specs.Tokens.{class_of, is_blank, joins}
use Rattle.grammar.specs.Grammar.{Event, Rest, stop, goes, Absence, required, optional, Grammar, kind_of, said, is_number, is_name}

-- what a token leads to: nowhere, or these symbols, behind what was left out
pub data Fed : Type 0 where
  dead : Fed
  fed : List ℕ → List Event → Fed

abbrev pub feed_by : Rest → Absence → List ℕ → Fed → Fed
feed_by (goes r) a ns f = fed (r ++ ns) []
feed_by stop required ns f = dead
feed_by stop (optional e) ns dead = dead
feed_by stop (optional e) ns (fed m es) = fed m (e ++ es)

-- a token of kind k, where these symbols are to come
abbrev pub feed : Grammar → List ℕ → ℕ → Fed
feed g [] k = dead
feed g (n ∷ ns) k = feed_by (g.rule n k) (g.absent n) ns (feed g ns k)

pub data End : Type 0 where
  short : End
  ended : List Event → End

abbrev pub is_ended : End → Bool
is_ended short = false
is_ended (ended es) = true

abbrev pub finish_by : Absence → End → End
finish_by required f = short
finish_by (optional e) short = short
finish_by (optional e) (ended es) = ended (e ++ es)

-- the end of the text, where these symbols are to come
abbrev pub finish : Grammar → List ℕ → End
finish g [] = ended []
finish g (n ∷ ns) = finish_by (g.absent n) (finish g ns)

abbrev pub live : Fed → Bool
live dead = false
live (fed m es) = true

abbrev pub begins : List ℕ → List ℕ → Bool
begins [] s = true
begins (x ∷ w) [] = false
begins (x ∷ w) (y ∷ s) = eqb y x && begins w s

-- a fixed token that may come next begins so; they are counted from n
abbrev pub some_fixed : Grammar → List ℕ → List (List ℕ) → ℕ → List ℕ → Bool
some_fixed g ns [] n w = false
some_fixed g ns (s ∷ ss) n w = (begins w s && live (feed g ns n)) || some_fixed g ns ss (suc n) w

-- a token that may come next begins so
unfoldable pub possible : Grammar → List ℕ → List ℕ → Bool
possible g ns w =
    (is_number w && live (feed g ns 0)) || ((is_name w && live (feed g ns 1)) || some_fixed g ns g.spellings 3 w)

-- no sentence begins so; or the part of a token, the symbols to come behind it, and what was said so far
pub data State : Type 0 where
  lost : State
  at : List ℕ → List ℕ → List Event → State

abbrev pub keep : Grammar → List ℕ → List ℕ → List Event → State
keep g w ns es = cond (possible g ns w) (at w ns es) lost

abbrev pub flushed : List ℕ → List Event → Fed → Fed
flushed w es dead = dead
flushed w es (fed m e) = fed m (es ++ (e ++ said w))

-- the token is read to its end
abbrev pub flush : Grammar → List ℕ → List ℕ → List Event → Fed
flush g [] ns es = fed ns es
flush g (x ∷ w) ns es = flushed (x ∷ w) es (feed g ns (kind_of g.spellings (x ∷ w)))

-- a byte that does not join what stands before it
abbrev pub begin : Grammar → ℕ → Fed → State
begin g b dead = lost
begin g b (fed ns es) = cond (is_blank (class_of b)) (at [] ns es) (keep g (b ∷ []) ns es)

abbrev pub joins_run : List ℕ → ℕ → Bool
joins_run [] b = false
joins_run (x ∷ w) b = joins (class_of x) (class_of b)

abbrev pub step : Grammar → State → ℕ → State
step g lost b = lost
step g (at w ns es) b = cond (joins_run w b) (keep g (w ++ (b ∷ [])) ns es) (begin g b (flush g w ns es))

abbrev pub run : Grammar → State → List ℕ → State
run g s [] = s
run g s (b ∷ t) = run g (step g s b) t

abbrev pub closing : List Event → End → End
closing es short = short
closing es (ended e) = ended (es ++ e)

abbrev pub closed : Grammar → Fed → End
closed g dead = short
closed g (fed ns es) = closing es (finish g ns)

-- the end of the text
abbrev pub close : Grammar → State → End
close g lost = short
close g (at w ns es) = closed g (flush g w ns es)

abbrev pub first : List ℕ → State
first start = at [] start []

abbrev pub is_lost : State → Bool
is_lost lost = true
is_lost (at w ns es) = false

-- the answer for a text: what it says, or the place where it is refused
pub data Outcome : Type 0 where
  accepted : List Event → Outcome
  refused_at : ℕ → Outcome

abbrev pub ending : ℕ → End → Outcome
ending p short = refused_at p
ending p (ended es) = accepted es

-- what follows in state s, p bytes behind the start
abbrev pub read_from : Grammar → State → ℕ → List ℕ → Outcome
read_from g s p [] = ending p (close g s)
read_from g s p (b ∷ t) = cond (is_lost (step g s b)) (refused_at p) (read_from g (step g s b) (suc p) t)

unfoldable pub read_text : Grammar → List ℕ → List ℕ → Outcome
read_text g start t = read_from g (first start) 0 t
