-- Worked examples: the text of some declarations, computed. Assumes nothing.
use mathlib.Core.Path.{◌≡◌, refl}
use mathlib.Core.Bool.{true, false}
use mathlib.Core.List.{[], ◌∷◌}
use Rattle.types.specs.Tree.{basic, array, struct, union, none, more}
use Rattle.listing.specs.Decimal.{digits, decimal}
use Rattle.listing.specs.Characters.{bytes}
use Rattle.grammar.specs.Meaning.{void, gives}
use Rattle.declaring.specs.Writing.{words, words_of, sizes_of, type_tokens, further_tokens, parameter_tokens, Declaration, declaration_tokens, declaration_text}
use Rattle.declaring.specs.Length.{type_length, further_length, parameters_length, declaration_length}

abbrev mix : Declaration
mix = record { returns = gives (basic 7); arguments = basic 3 ∷ struct (more (basic 7) (more (array (array (basic 6) 3) 2) (more (array (basic 15) 4) none))) ∷ []; variadic = true }

mix-text : declaration_text mix ≡ bytes "double f ( int , struct { double m0 ; float m1 [ 2 ] [ 3 ] ; void * m2 [ 4 ] ; } , ... ) ; "
unfolding declaration_text declaration_tokens parameter_tokens further_tokens type_tokens sizes_of words_of words decimal digits
mix-text = refl

mix-length : declaration_length mix ≡ 91
unfolding declaration_length parameters_length further_length type_length decimal digits
mix-length = refl

-- an array of structs, an array of arrays of unions
rows : declaration_text (record { returns = void; arguments = struct (more (array (struct (more (basic 1) none)) 16) (more (array (array (union (more (basic 4) none)) 2) 12) none)) ∷ []; variadic = false })
    ≡ bytes "void f ( struct { struct { char m0 ; } m0 [ 16 ] ; union { long long m0 ; } m1 [ 12 ] [ 2 ] ; } ) ; "
unfolding declaration_text declaration_tokens parameter_tokens further_tokens type_tokens sizes_of words_of words decimal digits
rows = refl

none_named : declaration_text (record { returns = gives (basic 15); arguments = []; variadic = true }) ≡ bytes "void * f ( ... ) ; "
unfolding declaration_text declaration_tokens parameter_tokens further_tokens type_tokens sizes_of words_of words decimal digits
none_named = refl

none_at_all : declaration_text (record { returns = void; arguments = []; variadic = false }) ≡ bytes "void f ( void ) ; "
unfolding declaration_text declaration_tokens parameter_tokens further_tokens type_tokens sizes_of words_of words decimal digits
none_at_all = refl
