-- The lister's text: document 01, "The lister"; document 02, request 2026-07. Assumes nothing: these are definitions.
use Rattle.std.specs.Prelude.{Bool, true, false, ◌||◌, List, [], ◌++◌, ℕ, zero, suc, ◌+◌, ◌*◌, eqb, Err, Ok, Result}
use Rattle.description.specs.Description.{variadic_in, named_in, arguments_in, return_in}
use Rattle.form.specs.declared.Refusal.{Refusal}
use Rattle.places.specs.declared.Used.{Used}
use Rattle.places.specs.declared.ReturnPlace.{ReturnPlace}
use Rattle.layout.specs.declared.Layout.{Layout}
use Rattle.layout.specs.declared.placements.Placement.{Placement}
use Rattle.layout.specs.Layout.{layout_answer}
use Rattle.layout.specs.Placements.{placement_at}
use Rattle.listing.specs.Decimal.{decimal}
use Rattle.listing.specs.Words.{numbered, args, named, gp, vec, stack, type, size, align, at, marked, unmarked, returned, walk, none, fp, over, refused, newline}
use Rattle.listing.specs.PlaceWords.{place_words, return_words}

-- ---- lines

-- "Line one: version, A, N, registers used (hidden address included), vector count, area"
unfoldable pub head_line : ℕ → ℕ → Layout → List ℕ
head_line all first l =
    numbered args all ++ numbered named first ++ numbered gp l.used.general.0 ++ numbered vec l.used.vector.0 ++ numbered stack l.area.0 ++ newline

-- "`named` or `unnamed`"
abbrev pub mark_word : Bool → List ℕ
mark_word true = marked
mark_word false = unmarked

-- "Then per argument: position, type, size, alignment, place"; "The lister appends `at 12 named` or `at 12 unnamed`"
unfoldable pub record_line : ℕ → Placement → List ℕ
record_line i p =
    decimal i ++ numbered type p.ty ++ numbered size p.size.0 ++ numbered align p.align.0 ++ place_words p.place ++ numbered at p.at.0 ++ mark_word p.named ++ newline

-- of n arguments from the i-th on
unfoldable pub record_lines : List ℕ → ℕ → ℕ → List ℕ
record_lines d i zero = []
record_lines d i (suc n) = record_line i (placement_at d i) ++ record_lines d (i + 1) n

-- "`return void` or `return type K memory`"
abbrev pub type_words : Bool → ℕ → List ℕ
type_words true k = []
type_words false k = numbered type k

unfoldable pub return_line : ℕ → ReturnPlace → List ℕ
return_line k p = returned ++ type_words (eqb k 255) k ++ return_words p ++ newline

-- gp_offset, fp_offset and the overflow offset where a walk starts; "a plain function ends with `walk none`"
abbrev pub walk_words : Bool → Used → List ℕ
walk_words true u = none
walk_words false u = numbered gp (8 * u.general.0) ++ numbered fp (48 + 16 * u.vector.0) ++ numbered over u.stack.0

unfoldable pub walk_line : ℕ → Used → List ℕ
walk_line variadic u = walk ++ walk_words (eqb variadic 0) u ++ newline

-- request 2026-01: 6 and 7 name a type
unfoldable pub names_type : ℕ → Bool
names_type n = eqb n 6 || eqb n 7

-- "The lister prints `refused 6 type 12`"
abbrev pub wrong_words : Bool → ℕ → List ℕ
wrong_words true t = numbered type t
wrong_words false t = []

-- "A refusal is the one line `refused n`"
unfoldable pub refused_line : Refusal → List ℕ
refused_line r = numbered refused r.number ++ wrong_words (names_type r.number) r.ty ++ newline

-- ---- the whole

unfoldable pub laid_text : List ℕ → Layout → List ℕ
laid_text d l = head_line (arguments_in d) (named_in d) l ++ record_lines d 0 (arguments_in d) ++ return_line (return_in d) l.returns ++ walk_line (variadic_in d) l.named

abbrev pub text_of : List ℕ → Result Layout Refusal → List ℕ
text_of d (Ok l) = laid_text d l
text_of d (Err r) = refused_line r

unfoldable pub listing : List ℕ → List ℕ
listing d = text_of d (layout_answer d)
