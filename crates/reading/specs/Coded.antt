-- How the tables hold the grammar: classes, alternatives and absences as numbers. Assumes nothing: these are definitions.
use Rattle.std.specs.Prelude.{Bool, true, false, [], ℕ, zero, suc, get_or, Option, None, Some}
use Rattle.grammar.specs.Tokens.{Class, blank, letter, digit, dot, alone}
use Rattle.grammar.specs.Grammar.{Rest, stop, goes, Absence, required, optional}
use Rattle.reading.specs.declared.tables.Class.{Class as Coding}
use Rattle.reading.specs.declared.tables.Class.TheVariants.{Blank, Letter, Digit, Dot, Alone}
use Rattle.reading.specs.Productions.{productions}

abbrev pub class_code : Class → ℕ
class_code blank = 0
class_code letter = 1
class_code digit = 2
class_code dot = 3
class_code alone = 4

abbrev pub number_of : Coding → ℕ
number_of Blank = 0
number_of Letter = 1
number_of Digit = 2
number_of Dot = 3
number_of Alone = 4

-- 0 is no alternative, 1 and up the productions
unfoldable pub rest_at : ℕ → Rest
rest_at zero = stop
rest_at (suc p) = goes (get_or productions p [])

abbrev pub absent_code : Absence → ℕ
absent_code required = 0
absent_code (optional e) = 1

abbrev pub may_lack : Absence → Bool
may_lack required = false
may_lack (optional e) = true

-- 0 for none, else one more
abbrev pub counted : Option ℕ → ℕ
counted None = 0
counted (Some n) = suc n
