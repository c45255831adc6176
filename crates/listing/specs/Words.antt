-- The lister's words (document 01, "The lister"; document 02, request 2026-07): a word has the blank that stands before it, and before a number the one behind it.
-- Assumes nothing: these are definitions.
use Rattle.std.specs.Prelude.{List, ◌++◌, ℕ}
use Rattle.listing.specs.Characters.{bytes}
use Rattle.listing.specs.Decimal.{decimal}

-- a word and a number
abbrev pub numbered : List ℕ → ℕ → List ℕ
numbered word n = word ++ decimal n

abbrev pub args : List ℕ
args = bytes "KCB 1 args "

abbrev pub named : List ℕ
named = bytes " named "

abbrev pub gp : List ℕ
gp = bytes " gp "

abbrev pub vec : List ℕ
vec = bytes " vec "

abbrev pub stack : List ℕ
stack = bytes " stack "

abbrev pub type : List ℕ
type = bytes " type "

abbrev pub size : List ℕ
size = bytes " size "

abbrev pub align : List ℕ
align = bytes " align "

-- where the value begins, and whether the argument is named
abbrev pub at : List ℕ
at = bytes " at "

abbrev pub marked : List ℕ
marked = bytes " named"

abbrev pub unmarked : List ℕ
unmarked = bytes " unnamed"

abbrev pub rdi : List ℕ
rdi = bytes " rdi"

abbrev pub rsi : List ℕ
rsi = bytes " rsi"

abbrev pub rdx : List ℕ
rdx = bytes " rdx"

abbrev pub rcx : List ℕ
rcx = bytes " rcx"

abbrev pub r8 : List ℕ
r8 = bytes " r8"

abbrev pub r9 : List ℕ
r9 = bytes " r9"

abbrev pub rax : List ℕ
rax = bytes " rax"

abbrev pub xmm : List ℕ
xmm = bytes " xmm"

abbrev pub half : List ℕ
half = bytes "h"

-- behind the name of a vector register: bytes 0 to 31 are in it
abbrev pub whole : List ℕ
whole = bytes "y"

abbrev pub returned : List ℕ
returned = bytes "return"

abbrev pub void : List ℕ
void = bytes " void"

abbrev pub memory : List ℕ
memory = bytes " memory"

abbrev pub st0 : List ℕ
st0 = bytes " st0"

abbrev pub st1 : List ℕ
st1 = bytes " st1"

abbrev pub walk : List ℕ
walk = bytes "walk"

abbrev pub none : List ℕ
none = bytes " none"

abbrev pub fp : List ℕ
fp = bytes " fp "

abbrev pub over : List ℕ
over = bytes " over "

abbrev pub refused : List ℕ
refused = bytes "refused "

abbrev pub newline : List ℕ
newline = bytes "\n"
