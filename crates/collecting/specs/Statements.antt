-- What is promised of the numbers that are kept while a text is read: request 2026-08. Assumes nothing: these are definitions.
use Rattle.std.specs.Prelude.{◌≡◌, Bool, false, ◌||◌, List, ℕ, ltb, length}
use Rattle.description.specs.declared.Model.{Model}
use Rattle.description.specs.declared.Model.TheVariants.{Lp64, Ilp32}
use Rattle.tidying.specs.Call.{Call}
use Rattle.tidying.specs.Numbering.{table_of}
use Rattle.tidying.specs.Tidy.{separate, tidy_of}
use Rattle.grammar.specs.Grammar.{Event}
use Rattle.grammar.specs.Meaning.{meaning, blank}
use Rattle.collecting.specs.Image.{call_from}
use Rattle.collecting.specs.Bounded.{moves, vacant, written, too_much}

-- "long is described by code 3 and long long by code 4" in ILP32 (request 2026-11)
abbrev pub long_in : Model → ℕ
long_in Lp64 = 4
long_in Ilp32 = 3

-- "Bit 1 of byte 6 selects it"
abbrev pub bit_of : Model → ℕ
bit_of Lp64 = 0
bit_of Ilp32 = 2

-- the call that a text declares in a model, written out: "with A = N"
abbrev pub declared_call : Model → List Event → Call
declared_call m es = call_from (bit_of m) (meaning (long_in m) blank es)

-- "Over 64 types, 64 arguments or 255 members is 4"
unfoldable pub over_limits : Call → Bool
over_limits c = (ltb 64 (length (table_of c)) || ltb 255 (separate (table_of c))) || ltb 64 (length c.arguments)

-- of what a text says: the mark stands exactly where the call that it declares needs over 64 types, 64 arguments or 255 members, and
-- else the numbers are the tidy bytes of that call
pub record Numbered (m : Model) (es : List Event) : Type 0 where
  pub over : too_much (moves (long_in m) vacant es) ≡ over_limits (declared_call m es)
  pub bytes : over_limits (declared_call m es) ≡ false → written (bit_of m) (moves (long_in m) vacant es) ≡ tidy_of (declared_call m es)
