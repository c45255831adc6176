-- A number as text: decimal digits, the most significant first, no zeros in front, 0 as "0". Assumes nothing: these are definitions.
use Rattle.std.specs.Prelude.{cond, List, [], ◌∷◌, ◌++◌, ℕ, zero, suc, ◌+◌, ◌*◌, ◌-◌, ◌/◌, ◌%◌, ltb}

-- the character of a digit: "0" is 48
abbrev pub digit : ℕ → ℕ
digit n = 48 + n

-- the digits of n, the last one behind those of a tenth of n: `k` such steps are enough
unfoldable pub digits : ℕ → ℕ → List ℕ
digits zero n = digit n ∷ []
digits (suc k) n = cond (ltb n 10) (digit n ∷ []) (digits k (n / 10) ++ (digit (n % 10) ∷ []))

-- n steps are enough for n
unfoldable pub decimal : ℕ → List ℕ
decimal n = digits n n

-- the number that a text of digits says, read from the left, `n` standing before it
abbrev pub read : ℕ → List ℕ → ℕ
read n [] = n
read n (c ∷ cs) = read (n * 10 + (c - 48)) cs
