-- The grammar of C prototypes (request 2026-08; docs/GRAMMAR.md has it as one reads it). Each entry is a symbol, whether it may be left out and what it
-- then says, and its alternatives: the kind of their first token, and the symbols behind it. tools/grammar works out from this table what proofs and code
-- need of it. Assumes nothing: these are definitions.
use Rattle.std.specs.Prelude.{true, false, List, [], ◌∷◌, ◌++◌, ℕ}
use Rattle.listing.specs.Characters.{bytes}
use Rattle.grammar.specs.Grammar.{required, optional, Grammar, basic, long, pointer, nothing, opened, close, item, result, variadic}
use Rattle.grammar.specs.Table.{Alternative, ◌⟶◌, Entry, entry, behind, grammar_of}

-- the fixed tokens
unfoldable pub spellings : List (List ℕ)
spellings =
    bytes "(" ∷
    bytes ")" ∷
    bytes "{" ∷
    bytes "}" ∷
    bytes "[" ∷
    bytes "]" ∷
    bytes "," ∷
    bytes ";" ∷
    bytes "*" ∷
    bytes "..." ∷
    bytes "void" ∷
    bytes "_Bool" ∷
    bytes "char" ∷
    bytes "short" ∷
    bytes "int" ∷
    bytes "long" ∷
    bytes "signed" ∷
    bytes "unsigned" ∷
    bytes "float" ∷
    bytes "double" ∷
    bytes "_Complex" ∷
    bytes "__int128" ∷
    bytes "__float128" ∷
    bytes "__m64" ∷
    bytes "__m128" ∷
    bytes "__m256" ∷
    bytes "struct" ∷
    bytes "union" ∷
    bytes "const" ∷
    bytes "volatile" ∷
    bytes "restrict" ∷
    bytes "extern" ∷
    bytes "bool" ∷
    bytes "int8_t" ∷
    bytes "uint8_t" ∷
    bytes "int16_t" ∷
    bytes "uint16_t" ∷
    bytes "int32_t" ∷
    bytes "uint32_t" ∷
    bytes "int64_t" ∷
    bytes "uint64_t" ∷
    bytes "size_t" ∷
    bytes "ptrdiff_t" ∷
    bytes "intptr_t" ∷
    bytes "uintptr_t" ∷
    []

-- the kinds of tokens
abbrev ‹number› : ℕ
‹number› = 0

abbrev ‹name› : ℕ
‹name› = 1

abbrev ‹none› : ℕ
‹none› = 2

abbrev ‹opens› : ℕ
‹opens› = 3

abbrev ‹closes› : ℕ
‹closes› = 4

abbrev ‹opensGroup› : ℕ
‹opensGroup› = 5

abbrev ‹closesGroup› : ℕ
‹closesGroup› = 6

abbrev ‹opensSize› : ℕ
‹opensSize› = 7

abbrev ‹closesSize› : ℕ
‹closesSize› = 8

abbrev ‹comma› : ℕ
‹comma› = 9

abbrev ‹semicolon› : ℕ
‹semicolon› = 10

abbrev ‹star› : ℕ
‹star› = 11

abbrev ‹dots› : ℕ
‹dots› = 12

abbrev ‹void› : ℕ
‹void› = 13

abbrev ‹Bool› : ℕ
‹Bool› = 14

abbrev ‹char› : ℕ
‹char› = 15

abbrev ‹short› : ℕ
‹short› = 16

abbrev ‹int› : ℕ
‹int› = 17

abbrev ‹long› : ℕ
‹long› = 18

abbrev ‹signed› : ℕ
‹signed› = 19

abbrev ‹unsigned› : ℕ
‹unsigned› = 20

abbrev ‹float› : ℕ
‹float› = 21

abbrev ‹double› : ℕ
‹double› = 22

abbrev ‹Complex› : ℕ
‹Complex› = 23

abbrev ‹int128› : ℕ
‹int128› = 24

abbrev ‹float128› : ℕ
‹float128› = 25

abbrev ‹m64› : ℕ
‹m64› = 26

abbrev ‹m128› : ℕ
‹m128› = 27

abbrev ‹m256› : ℕ
‹m256› = 28

abbrev ‹struct› : ℕ
‹struct› = 29

abbrev ‹union› : ℕ
‹union› = 30

abbrev ‹const› : ℕ
‹const› = 31

abbrev ‹volatile› : ℕ
‹volatile› = 32

abbrev ‹restrict› : ℕ
‹restrict› = 33

abbrev ‹extern› : ℕ
‹extern› = 34

abbrev ‹bool› : ℕ
‹bool› = 35

abbrev ‹int8_t› : ℕ
‹int8_t› = 36

abbrev ‹uint8_t› : ℕ
‹uint8_t› = 37

abbrev ‹int16_t› : ℕ
‹int16_t› = 38

abbrev ‹uint16_t› : ℕ
‹uint16_t› = 39

abbrev ‹int32_t› : ℕ
‹int32_t› = 40

abbrev ‹uint32_t› : ℕ
‹uint32_t› = 41

abbrev ‹int64_t› : ℕ
‹int64_t› = 42

abbrev ‹uint64_t› : ℕ
‹uint64_t› = 43

abbrev ‹size_t› : ℕ
‹size_t› = 44

abbrev ‹ptrdiff_t› : ℕ
‹ptrdiff_t› = 45

abbrev ‹intptr_t› : ℕ
‹intptr_t› = 46

abbrev ‹uintptr_t› : ℕ
‹uintptr_t› = 47

-- the symbols
abbrev pub ⟨bool⟩ : ℕ
⟨bool⟩ = 0

abbrev pub ⟨signedChar⟩ : ℕ
⟨signedChar⟩ = 1

abbrev pub ⟨shortAll⟩ : ℕ
⟨shortAll⟩ = 2

abbrev pub ⟨longLongAll⟩ : ℕ
⟨longLongAll⟩ = 3

abbrev pub ⟨int128All⟩ : ℕ
⟨int128All⟩ = 4

abbrev pub ⟨float128⟩ : ℕ
⟨float128⟩ = 5

abbrev pub ⟨m64⟩ : ℕ
⟨m64⟩ = 6

abbrev pub ⟨m128⟩ : ℕ
⟨m128⟩ = 7

abbrev pub ⟨m256⟩ : ℕ
⟨m256⟩ = 8

abbrev pub ⟨complexFloat⟩ : ℕ
⟨complexFloat⟩ = 9

abbrev pub ⟨complexLongDouble⟩ : ℕ
⟨complexLongDouble⟩ = 10

abbrev pub ⟨sign⟩ : ℕ
⟨sign⟩ = 11

abbrev pub ⟨signInt⟩ : ℕ
⟨signInt⟩ = 12

abbrev pub ⟨intWord⟩ : ℕ
⟨intWord⟩ = 13

abbrev pub ⟨charWord⟩ : ℕ
⟨charWord⟩ = 14

abbrev pub ⟨shortWord⟩ : ℕ
⟨shortWord⟩ = 15

abbrev pub ⟨shortInt⟩ : ℕ
⟨shortInt⟩ = 16

abbrev pub ⟨shortSign⟩ : ℕ
⟨shortSign⟩ = 17

abbrev pub ⟨longWord⟩ : ℕ
⟨longWord⟩ = 18

abbrev pub ⟨longInt⟩ : ℕ
⟨longInt⟩ = 19

abbrev pub ⟨longSign⟩ : ℕ
⟨longSign⟩ = 20

abbrev pub ⟨longSignInt⟩ : ℕ
⟨longSignInt⟩ = 21

abbrev pub ⟨longLong⟩ : ℕ
⟨longLong⟩ = 22

abbrev pub ⟨longLongInt⟩ : ℕ
⟨longLongInt⟩ = 23

abbrev pub ⟨longLongSign⟩ : ℕ
⟨longLongSign⟩ = 24

abbrev pub ⟨floatWord⟩ : ℕ
⟨floatWord⟩ = 25

abbrev pub ⟨doubleWord⟩ : ℕ
⟨doubleWord⟩ = 26

abbrev pub ⟨longDouble⟩ : ℕ
⟨longDouble⟩ = 27

abbrev pub ⟨complexDouble⟩ : ℕ
⟨complexDouble⟩ = 28

abbrev pub ⟨complexWord⟩ : ℕ
⟨complexWord⟩ = 29

abbrev pub ⟨longComplex⟩ : ℕ
⟨longComplex⟩ = 30

abbrev pub ⟨int128Word⟩ : ℕ
⟨int128Word⟩ = 31

abbrev pub ⟨intAll⟩ : ℕ
⟨intAll⟩ = 32

abbrev pub ⟨longAll⟩ : ℕ
⟨longAll⟩ = 33

abbrev pub ⟨stars⟩ : ℕ
⟨stars⟩ = 34

abbrev pub ⟨starred⟩ : ℕ
⟨starred⟩ = 35

abbrev pub ⟨pointerOnly⟩ : ℕ
⟨pointerOnly⟩ = 36

abbrev pub ⟨structTag⟩ : ℕ
⟨structTag⟩ = 37

abbrev pub ⟨structTagged⟩ : ℕ
⟨structTagged⟩ = 38

abbrev pub ⟨unionTag⟩ : ℕ
⟨unionTag⟩ = 39

abbrev pub ⟨unionTagged⟩ : ℕ
⟨unionTagged⟩ = 40

abbrev pub ⟨structOpened⟩ : ℕ
⟨structOpened⟩ = 41

abbrev pub ⟨unionOpened⟩ : ℕ
⟨unionOpened⟩ = 42

abbrev pub ⟨afterGroup⟩ : ℕ
⟨afterGroup⟩ = 43

abbrev pub ⟨firstMember⟩ : ℕ
⟨firstMember⟩ = 44

abbrev pub ⟨moreMembers⟩ : ℕ
⟨moreMembers⟩ = 45

abbrev pub ⟨pointedField⟩ : ℕ
⟨pointedField⟩ = 46

abbrev pub ⟨closed⟩ : ℕ
⟨closed⟩ = 47

abbrev pub ⟨field⟩ : ℕ
⟨field⟩ = 48

abbrev pub ⟨fieldEnd⟩ : ℕ
⟨fieldEnd⟩ = 49

abbrev pub ⟨fieldsEnd⟩ : ℕ
⟨fieldsEnd⟩ = 50

abbrev pub ⟨item⟩ : ℕ
⟨item⟩ = 51

abbrev pub ⟨dims⟩ : ℕ
⟨dims⟩ = 52

abbrev pub ⟨dim⟩ : ℕ
⟨dim⟩ = 53

abbrev pub ⟨dimEnd⟩ : ℕ
⟨dimEnd⟩ = 54

abbrev pub ⟨fieldPointer⟩ : ℕ
⟨fieldPointer⟩ = 55

abbrev pub ⟨fieldPointerName⟩ : ℕ
⟨fieldPointerName⟩ = 56

abbrev pub ⟨pointer⟩ : ℕ
⟨pointer⟩ = 57

abbrev pub ⟨pointerName⟩ : ℕ
⟨pointerName⟩ = 58

abbrev pub ⟨called⟩ : ℕ
⟨called⟩ = 59

abbrev pub ⟨aside⟩ : ℕ
⟨aside⟩ = 60

abbrev pub ⟨asideClosing⟩ : ℕ
⟨asideClosing⟩ = 61

abbrev pub ⟨asideClosed⟩ : ℕ
⟨asideClosed⟩ = 62

abbrev pub ⟨parameters⟩ : ℕ
⟨parameters⟩ = 63

abbrev pub ⟨voidAlone⟩ : ℕ
⟨voidAlone⟩ = 64

abbrev pub ⟨pointedParameter⟩ : ℕ
⟨pointedParameter⟩ = 65

abbrev pub ⟨parameter⟩ : ℕ
⟨parameter⟩ = 66

abbrev pub ⟨moreParameters⟩ : ℕ
⟨moreParameters⟩ = 67

abbrev pub ⟨nextParameter⟩ : ℕ
⟨nextParameter⟩ = 68

abbrev pub ⟨variadic⟩ : ℕ
⟨variadic⟩ = 69

abbrev pub ⟨declared⟩ : ℕ
⟨declared⟩ = 70

abbrev pub ⟨arrayed⟩ : ℕ
⟨arrayed⟩ = 71

abbrev pub ⟨anyDim⟩ : ℕ
⟨anyDim⟩ = 72

abbrev pub ⟨decayed⟩ : ℕ
⟨decayed⟩ = 73

abbrev pub ⟨external⟩ : ℕ
⟨external⟩ = 74

abbrev pub ⟨returned⟩ : ℕ
⟨returned⟩ = 75

abbrev pub ⟨voidReturned⟩ : ℕ
⟨voidReturned⟩ = 76

abbrev pub ⟨result⟩ : ℕ
⟨result⟩ = 77

abbrev pub ⟨functionName⟩ : ℕ
⟨functionName⟩ = 78

abbrev pub ⟨called0⟩ : ℕ
⟨called0⟩ = 79

abbrev pub ⟨closing⟩ : ℕ
⟨closing⟩ = 80

abbrev pub ⟨end⟩ : ℕ
⟨end⟩ = 81

abbrev pub ⟨types⟩ : ℕ
⟨types⟩ = 82

abbrev pub ⟨nextType⟩ : ℕ
⟨nextType⟩ = 83

abbrev pub ⟨pointedType⟩ : ℕ
⟨pointedType⟩ = 84

abbrev pub ⟨moreTypes⟩ : ℕ
⟨moreTypes⟩ = 85

-- the first word of a basic type, and what may follow it
abbrev word_alternatives : List Alternative
word_alternatives =
    (‹Bool› ⟶ (⟨bool⟩ ∷ ⟨stars⟩ ∷ [])) ∷
    (‹char› ⟶ (⟨charWord⟩ ∷ ⟨stars⟩ ∷ [])) ∷
    (‹short› ⟶ (⟨shortWord⟩ ∷ ⟨stars⟩ ∷ [])) ∷
    (‹int› ⟶ (⟨intWord⟩ ∷ ⟨stars⟩ ∷ [])) ∷
    (‹long› ⟶ (⟨longWord⟩ ∷ ⟨stars⟩ ∷ [])) ∷
    (‹signed› ⟶ (⟨sign⟩ ∷ ⟨stars⟩ ∷ [])) ∷
    (‹unsigned› ⟶ (⟨sign⟩ ∷ ⟨stars⟩ ∷ [])) ∷
    (‹float› ⟶ (⟨floatWord⟩ ∷ ⟨stars⟩ ∷ [])) ∷
    (‹double› ⟶ (⟨doubleWord⟩ ∷ ⟨stars⟩ ∷ [])) ∷
    (‹Complex› ⟶ (⟨complexWord⟩ ∷ ⟨stars⟩ ∷ [])) ∷
    (‹int128› ⟶ (⟨int128Word⟩ ∷ ⟨stars⟩ ∷ [])) ∷
    (‹float128› ⟶ (⟨float128⟩ ∷ ⟨stars⟩ ∷ [])) ∷
    (‹m64› ⟶ (⟨m64⟩ ∷ ⟨stars⟩ ∷ [])) ∷
    (‹m128› ⟶ (⟨m128⟩ ∷ ⟨stars⟩ ∷ [])) ∷
    (‹m256› ⟶ (⟨m256⟩ ∷ ⟨stars⟩ ∷ [])) ∷
    (‹bool› ⟶ (⟨bool⟩ ∷ ⟨stars⟩ ∷ [])) ∷
    (‹int8_t› ⟶ (⟨signedChar⟩ ∷ ⟨stars⟩ ∷ [])) ∷
    (‹uint8_t› ⟶ (⟨signedChar⟩ ∷ ⟨stars⟩ ∷ [])) ∷
    (‹int16_t› ⟶ (⟨shortAll⟩ ∷ ⟨stars⟩ ∷ [])) ∷
    (‹uint16_t› ⟶ (⟨shortAll⟩ ∷ ⟨stars⟩ ∷ [])) ∷
    (‹int32_t› ⟶ (⟨intAll⟩ ∷ ⟨stars⟩ ∷ [])) ∷
    (‹uint32_t› ⟶ (⟨intAll⟩ ∷ ⟨stars⟩ ∷ [])) ∷
    (‹int64_t› ⟶ (⟨longLongAll⟩ ∷ ⟨stars⟩ ∷ [])) ∷
    (‹uint64_t› ⟶ (⟨longLongAll⟩ ∷ ⟨stars⟩ ∷ [])) ∷
    (‹size_t› ⟶ (⟨longAll⟩ ∷ ⟨stars⟩ ∷ [])) ∷
    (‹ptrdiff_t› ⟶ (⟨longAll⟩ ∷ ⟨stars⟩ ∷ [])) ∷
    (‹intptr_t› ⟶ (⟨longAll⟩ ∷ ⟨stars⟩ ∷ [])) ∷
    (‹uintptr_t› ⟶ (⟨longAll⟩ ∷ ⟨stars⟩ ∷ [])) ∷
    []

-- a struct or a union
abbrev group_alternatives : List Alternative
group_alternatives =
    (‹struct› ⟶ (⟨structTag⟩ ∷ [])) ∷
    (‹union› ⟶ (⟨unionTag⟩ ∷ [])) ∷
    []

unfoldable pub table : List Entry
table =
    -- the words of a basic type that were read, in any order, and what may still join them: `All` where no word of a type may
    entry ⟨bool⟩ (optional ((basic 0) ∷ [])) ((‹const› ⟶ (⟨bool⟩ ∷ [])) ∷ (‹volatile› ⟶ (⟨bool⟩ ∷ [])) ∷ []) ∷
    entry ⟨signedChar⟩ (optional ((basic 1) ∷ [])) ((‹const› ⟶ (⟨signedChar⟩ ∷ [])) ∷ (‹volatile› ⟶ (⟨signedChar⟩ ∷ [])) ∷ []) ∷
    entry ⟨shortAll⟩ (optional ((basic 2) ∷ [])) ((‹const› ⟶ (⟨shortAll⟩ ∷ [])) ∷ (‹volatile› ⟶ (⟨shortAll⟩ ∷ [])) ∷ []) ∷
    entry ⟨longLongAll⟩ (optional ((basic 4) ∷ [])) ((‹const› ⟶ (⟨longLongAll⟩ ∷ [])) ∷ (‹volatile› ⟶ (⟨longLongAll⟩ ∷ [])) ∷ []) ∷
    entry ⟨int128All⟩ (optional ((basic 5) ∷ [])) ((‹const› ⟶ (⟨int128All⟩ ∷ [])) ∷ (‹volatile› ⟶ (⟨int128All⟩ ∷ [])) ∷ []) ∷
    entry ⟨float128⟩ (optional ((basic 9) ∷ [])) ((‹const› ⟶ (⟨float128⟩ ∷ [])) ∷ (‹volatile› ⟶ (⟨float128⟩ ∷ [])) ∷ []) ∷
    entry ⟨m64⟩ (optional ((basic 10) ∷ [])) ((‹const› ⟶ (⟨m64⟩ ∷ [])) ∷ (‹volatile› ⟶ (⟨m64⟩ ∷ [])) ∷ []) ∷
    entry ⟨m128⟩ (optional ((basic 11) ∷ [])) ((‹const› ⟶ (⟨m128⟩ ∷ [])) ∷ (‹volatile› ⟶ (⟨m128⟩ ∷ [])) ∷ []) ∷
    entry ⟨m256⟩ (optional ((basic 16) ∷ [])) ((‹const› ⟶ (⟨m256⟩ ∷ [])) ∷ (‹volatile› ⟶ (⟨m256⟩ ∷ [])) ∷ []) ∷
    entry ⟨complexFloat⟩ (optional ((basic 12) ∷ [])) ((‹const› ⟶ (⟨complexFloat⟩ ∷ [])) ∷ (‹volatile› ⟶ (⟨complexFloat⟩ ∷ [])) ∷ []) ∷
    entry ⟨complexLongDouble⟩ (optional ((basic 14) ∷ [])) ((‹const› ⟶ (⟨complexLongDouble⟩ ∷ [])) ∷ (‹volatile› ⟶ (⟨complexLongDouble⟩ ∷ [])) ∷ []) ∷
    entry ⟨sign⟩ (optional ((basic 3) ∷ [])) ((‹const› ⟶ (⟨sign⟩ ∷ [])) ∷ (‹volatile› ⟶ (⟨sign⟩ ∷ [])) ∷ (‹int› ⟶ (⟨signInt⟩ ∷ [])) ∷ (‹char› ⟶ (⟨signedChar⟩ ∷ [])) ∷ (‹short› ⟶ (⟨shortSign⟩ ∷ [])) ∷ (‹long› ⟶ (⟨longSign⟩ ∷ [])) ∷ (‹int128› ⟶ (⟨int128All⟩ ∷ [])) ∷ []) ∷
    entry ⟨signInt⟩ (optional ((basic 3) ∷ [])) ((‹const› ⟶ (⟨signInt⟩ ∷ [])) ∷ (‹volatile› ⟶ (⟨signInt⟩ ∷ [])) ∷ (‹short› ⟶ (⟨shortAll⟩ ∷ [])) ∷ (‹long› ⟶ (⟨longSignInt⟩ ∷ [])) ∷ []) ∷
    entry ⟨intWord⟩ (optional ((basic 3) ∷ [])) ((‹const› ⟶ (⟨intWord⟩ ∷ [])) ∷ (‹volatile› ⟶ (⟨intWord⟩ ∷ [])) ∷ (‹signed› ⟶ (⟨signInt⟩ ∷ [])) ∷ (‹unsigned› ⟶ (⟨signInt⟩ ∷ [])) ∷ (‹short› ⟶ (⟨shortInt⟩ ∷ [])) ∷ (‹long› ⟶ (⟨longInt⟩ ∷ [])) ∷ []) ∷
    entry ⟨charWord⟩ (optional ((basic 1) ∷ [])) ((‹const› ⟶ (⟨charWord⟩ ∷ [])) ∷ (‹volatile› ⟶ (⟨charWord⟩ ∷ [])) ∷ (‹signed› ⟶ (⟨signedChar⟩ ∷ [])) ∷ (‹unsigned› ⟶ (⟨signedChar⟩ ∷ [])) ∷ []) ∷
    entry ⟨shortWord⟩ (optional ((basic 2) ∷ [])) ((‹const› ⟶ (⟨shortWord⟩ ∷ [])) ∷ (‹volatile› ⟶ (⟨shortWord⟩ ∷ [])) ∷ (‹signed› ⟶ (⟨shortSign⟩ ∷ [])) ∷ (‹unsigned› ⟶ (⟨shortSign⟩ ∷ [])) ∷ (‹int› ⟶ (⟨shortInt⟩ ∷ [])) ∷ []) ∷
    entry ⟨shortInt⟩ (optional ((basic 2) ∷ [])) ((‹const› ⟶ (⟨shortInt⟩ ∷ [])) ∷ (‹volatile› ⟶ (⟨shortInt⟩ ∷ [])) ∷ (‹signed› ⟶ (⟨shortAll⟩ ∷ [])) ∷ (‹unsigned› ⟶ (⟨shortAll⟩ ∷ [])) ∷ []) ∷
    entry ⟨shortSign⟩ (optional ((basic 2) ∷ [])) ((‹const› ⟶ (⟨shortSign⟩ ∷ [])) ∷ (‹volatile› ⟶ (⟨shortSign⟩ ∷ [])) ∷ (‹int› ⟶ (⟨shortAll⟩ ∷ [])) ∷ []) ∷
    entry ⟨longWord⟩ (optional (long ∷ [])) ((‹const› ⟶ (⟨longWord⟩ ∷ [])) ∷ (‹volatile› ⟶ (⟨longWord⟩ ∷ [])) ∷ (‹signed› ⟶ (⟨longSign⟩ ∷ [])) ∷ (‹unsigned› ⟶ (⟨longSign⟩ ∷ [])) ∷ (‹int› ⟶ (⟨longInt⟩ ∷ [])) ∷ (‹long› ⟶ (⟨longLong⟩ ∷ [])) ∷ (‹double› ⟶ (⟨longDouble⟩ ∷ [])) ∷ (‹Complex› ⟶ (⟨longComplex⟩ ∷ [])) ∷ []) ∷
    entry ⟨longInt⟩ (optional (long ∷ [])) ((‹const› ⟶ (⟨longInt⟩ ∷ [])) ∷ (‹volatile› ⟶ (⟨longInt⟩ ∷ [])) ∷ (‹signed› ⟶ (⟨longSignInt⟩ ∷ [])) ∷ (‹unsigned› ⟶ (⟨longSignInt⟩ ∷ [])) ∷ (‹long› ⟶ (⟨longLongInt⟩ ∷ [])) ∷ []) ∷
    entry ⟨longSign⟩ (optional (long ∷ [])) ((‹const› ⟶ (⟨longSign⟩ ∷ [])) ∷ (‹volatile› ⟶ (⟨longSign⟩ ∷ [])) ∷ (‹int› ⟶ (⟨longSignInt⟩ ∷ [])) ∷ (‹long› ⟶ (⟨longLongSign⟩ ∷ [])) ∷ []) ∷
    entry ⟨longSignInt⟩ (optional (long ∷ [])) ((‹const› ⟶ (⟨longSignInt⟩ ∷ [])) ∷ (‹volatile› ⟶ (⟨longSignInt⟩ ∷ [])) ∷ (‹long› ⟶ (⟨longLongAll⟩ ∷ [])) ∷ []) ∷
    entry ⟨longLong⟩ (optional ((basic 4) ∷ [])) ((‹const› ⟶ (⟨longLong⟩ ∷ [])) ∷ (‹volatile› ⟶ (⟨longLong⟩ ∷ [])) ∷ (‹signed› ⟶ (⟨longLongSign⟩ ∷ [])) ∷ (‹unsigned› ⟶ (⟨longLongSign⟩ ∷ [])) ∷ (‹int› ⟶ (⟨longLongInt⟩ ∷ [])) ∷ []) ∷
    entry ⟨longLongInt⟩ (optional ((basic 4) ∷ [])) ((‹const› ⟶ (⟨longLongInt⟩ ∷ [])) ∷ (‹volatile› ⟶ (⟨longLongInt⟩ ∷ [])) ∷ (‹signed› ⟶ (⟨longLongAll⟩ ∷ [])) ∷ (‹unsigned› ⟶ (⟨longLongAll⟩ ∷ [])) ∷ []) ∷
    entry ⟨longLongSign⟩ (optional ((basic 4) ∷ [])) ((‹const› ⟶ (⟨longLongSign⟩ ∷ [])) ∷ (‹volatile› ⟶ (⟨longLongSign⟩ ∷ [])) ∷ (‹int› ⟶ (⟨longLongAll⟩ ∷ [])) ∷ []) ∷
    entry ⟨floatWord⟩ (optional ((basic 6) ∷ [])) ((‹const› ⟶ (⟨floatWord⟩ ∷ [])) ∷ (‹volatile› ⟶ (⟨floatWord⟩ ∷ [])) ∷ (‹Complex› ⟶ (⟨complexFloat⟩ ∷ [])) ∷ []) ∷
    entry ⟨doubleWord⟩ (optional ((basic 7) ∷ [])) ((‹const› ⟶ (⟨doubleWord⟩ ∷ [])) ∷ (‹volatile› ⟶ (⟨doubleWord⟩ ∷ [])) ∷ (‹Complex› ⟶ (⟨complexDouble⟩ ∷ [])) ∷ (‹long› ⟶ (⟨longDouble⟩ ∷ [])) ∷ []) ∷
    entry ⟨longDouble⟩ (optional ((basic 8) ∷ [])) ((‹const› ⟶ (⟨longDouble⟩ ∷ [])) ∷ (‹volatile› ⟶ (⟨longDouble⟩ ∷ [])) ∷ (‹Complex› ⟶ (⟨complexLongDouble⟩ ∷ [])) ∷ []) ∷
    entry ⟨complexDouble⟩ (optional ((basic 13) ∷ [])) ((‹const› ⟶ (⟨complexDouble⟩ ∷ [])) ∷ (‹volatile› ⟶ (⟨complexDouble⟩ ∷ [])) ∷ (‹long› ⟶ (⟨complexLongDouble⟩ ∷ [])) ∷ []) ∷
    entry ⟨complexWord⟩ required ((‹const› ⟶ (⟨complexWord⟩ ∷ [])) ∷ (‹volatile› ⟶ (⟨complexWord⟩ ∷ [])) ∷ (‹float› ⟶ (⟨complexFloat⟩ ∷ [])) ∷ (‹double› ⟶ (⟨complexDouble⟩ ∷ [])) ∷ (‹long› ⟶ (⟨longComplex⟩ ∷ [])) ∷ []) ∷
    entry ⟨longComplex⟩ required ((‹const› ⟶ (⟨longComplex⟩ ∷ [])) ∷ (‹volatile› ⟶ (⟨longComplex⟩ ∷ [])) ∷ (‹double› ⟶ (⟨complexLongDouble⟩ ∷ [])) ∷ []) ∷
    entry ⟨int128Word⟩ (optional ((basic 5) ∷ [])) ((‹const› ⟶ (⟨int128Word⟩ ∷ [])) ∷ (‹volatile› ⟶ (⟨int128Word⟩ ∷ [])) ∷ (‹signed› ⟶ (⟨int128All⟩ ∷ [])) ∷ (‹unsigned› ⟶ (⟨int128All⟩ ∷ [])) ∷ []) ∷
    entry ⟨intAll⟩ (optional ((basic 3) ∷ [])) ((‹const› ⟶ (⟨intAll⟩ ∷ [])) ∷ (‹volatile› ⟶ (⟨intAll⟩ ∷ [])) ∷ []) ∷
    entry ⟨longAll⟩ (optional (long ∷ [])) ((‹const› ⟶ (⟨longAll⟩ ∷ [])) ∷ (‹volatile› ⟶ (⟨longAll⟩ ∷ [])) ∷ []) ∷
    -- pointers: a target counts for nothing
    entry ⟨stars⟩ (optional []) ((‹star› ⟶ (⟨starred⟩ ∷ [])) ∷ []) ∷
    entry ⟨starred⟩ (optional (pointer ∷ [])) ((‹star› ⟶ (⟨starred⟩ ∷ [])) ∷ (‹const› ⟶ (⟨starred⟩ ∷ [])) ∷ (‹volatile› ⟶ (⟨starred⟩ ∷ [])) ∷ (‹restrict› ⟶ (⟨starred⟩ ∷ [])) ∷ []) ∷
    entry ⟨pointerOnly⟩ required ((‹const› ⟶ (⟨pointerOnly⟩ ∷ [])) ∷ (‹volatile› ⟶ (⟨pointerOnly⟩ ∷ [])) ∷ (‹star› ⟶ (⟨starred⟩ ∷ [])) ∷ []) ∷
    -- a struct or a union: its tag, its members, what stands behind them
    entry ⟨structTag⟩ required ((‹name› ⟶ (⟨structTagged⟩ ∷ [])) ∷ (‹opensGroup› ⟶ (⟨structOpened⟩ ∷ ⟨firstMember⟩ ∷ ⟨afterGroup⟩ ∷ [])) ∷ []) ∷
    entry ⟨structTagged⟩ required ((‹const› ⟶ (⟨pointerOnly⟩ ∷ [])) ∷ (‹volatile› ⟶ (⟨pointerOnly⟩ ∷ [])) ∷ (‹opensGroup› ⟶ (⟨structOpened⟩ ∷ ⟨firstMember⟩ ∷ ⟨afterGroup⟩ ∷ [])) ∷ (‹star› ⟶ (⟨starred⟩ ∷ [])) ∷ []) ∷
    entry ⟨unionTag⟩ required ((‹name› ⟶ (⟨unionTagged⟩ ∷ [])) ∷ (‹opensGroup› ⟶ (⟨unionOpened⟩ ∷ ⟨firstMember⟩ ∷ ⟨afterGroup⟩ ∷ [])) ∷ []) ∷
    entry ⟨unionTagged⟩ required ((‹const› ⟶ (⟨pointerOnly⟩ ∷ [])) ∷ (‹volatile› ⟶ (⟨pointerOnly⟩ ∷ [])) ∷ (‹opensGroup› ⟶ (⟨unionOpened⟩ ∷ ⟨firstMember⟩ ∷ ⟨afterGroup⟩ ∷ [])) ∷ (‹star› ⟶ (⟨starred⟩ ∷ [])) ∷ []) ∷
    entry ⟨structOpened⟩ (optional ((opened false) ∷ [])) [] ∷
    entry ⟨unionOpened⟩ (optional ((opened true) ∷ [])) [] ∷
    entry ⟨afterGroup⟩ (optional []) ((‹const› ⟶ (⟨afterGroup⟩ ∷ [])) ∷ (‹volatile› ⟶ (⟨afterGroup⟩ ∷ [])) ∷ (‹star› ⟶ (⟨starred⟩ ∷ [])) ∷ []) ∷
    -- members
    entry ⟨firstMember⟩ required ((behind (⟨field⟩ ∷ ⟨fieldsEnd⟩ ∷ []) word_alternatives) ++ (behind (⟨field⟩ ∷ ⟨fieldEnd⟩ ∷ []) group_alternatives) ++ ((‹void› ⟶ (⟨pointedField⟩ ∷ [])) ∷ (‹name› ⟶ (⟨pointedField⟩ ∷ [])) ∷ (‹const› ⟶ (⟨firstMember⟩ ∷ [])) ∷ (‹volatile› ⟶ (⟨firstMember⟩ ∷ [])) ∷ [])) ∷
    entry ⟨moreMembers⟩ required (((‹closesGroup› ⟶ (⟨closed⟩ ∷ [])) ∷ []) ++ (behind (⟨field⟩ ∷ ⟨fieldsEnd⟩ ∷ []) word_alternatives) ++ (behind (⟨field⟩ ∷ ⟨fieldEnd⟩ ∷ []) group_alternatives) ++ ((‹void› ⟶ (⟨pointedField⟩ ∷ [])) ∷ (‹name› ⟶ (⟨pointedField⟩ ∷ [])) ∷ (‹const› ⟶ (⟨firstMember⟩ ∷ [])) ∷ (‹volatile› ⟶ (⟨firstMember⟩ ∷ [])) ∷ [])) ∷
    entry ⟨pointedField⟩ required ((‹const› ⟶ (⟨pointedField⟩ ∷ [])) ∷ (‹volatile› ⟶ (⟨pointedField⟩ ∷ [])) ∷ (‹star› ⟶ (⟨starred⟩ ∷ ⟨field⟩ ∷ ⟨fieldEnd⟩ ∷ [])) ∷ (‹opens› ⟶ (⟨fieldPointer⟩ ∷ ⟨called⟩ ∷ ⟨item⟩ ∷ ⟨fieldEnd⟩ ∷ [])) ∷ []) ∷
    entry ⟨closed⟩ (optional (close ∷ [])) [] ∷
    -- a member's name, or a pointer to a function
    entry ⟨field⟩ required ((‹name› ⟶ (⟨dims⟩ ∷ ⟨item⟩ ∷ [])) ∷ (‹opens› ⟶ (⟨fieldPointer⟩ ∷ ⟨called⟩ ∷ ⟨item⟩ ∷ [])) ∷ []) ∷
    entry ⟨fieldEnd⟩ required ((‹semicolon› ⟶ (⟨moreMembers⟩ ∷ [])) ∷ []) ∷
    entry ⟨fieldsEnd⟩ required ((‹semicolon› ⟶ (⟨moreMembers⟩ ∷ [])) ∷ (‹comma› ⟶ (⟨stars⟩ ∷ ⟨field⟩ ∷ ⟨fieldsEnd⟩ ∷ [])) ∷ []) ∷
    entry ⟨item⟩ (optional (item ∷ [])) [] ∷
    -- sizes, the outermost first
    entry ⟨dims⟩ (optional []) ((‹opensSize› ⟶ (⟨dim⟩ ∷ ⟨dims⟩ ∷ [])) ∷ []) ∷
    entry ⟨dim⟩ required ((‹number› ⟶ (⟨dimEnd⟩ ∷ [])) ∷ []) ∷
    entry ⟨dimEnd⟩ required ((‹closesSize› ⟶ ([])) ∷ []) ∷
    -- a pointer to a function; its parameters are read, and count for nothing
    entry ⟨fieldPointer⟩ required ((‹star› ⟶ (⟨fieldPointerName⟩ ∷ ⟨closing⟩ ∷ [])) ∷ []) ∷
    entry ⟨fieldPointerName⟩ required ((‹star› ⟶ (⟨fieldPointerName⟩ ∷ [])) ∷ (‹const› ⟶ (⟨fieldPointerName⟩ ∷ [])) ∷ (‹volatile› ⟶ (⟨fieldPointerName⟩ ∷ [])) ∷ (‹name› ⟶ ([])) ∷ []) ∷
    entry ⟨pointer⟩ required ((‹star› ⟶ (⟨pointerName⟩ ∷ ⟨closing⟩ ∷ [])) ∷ []) ∷
    entry ⟨pointerName⟩ (optional []) ((‹star› ⟶ (⟨pointerName⟩ ∷ [])) ∷ (‹const› ⟶ (⟨pointerName⟩ ∷ [])) ∷ (‹volatile› ⟶ (⟨pointerName⟩ ∷ [])) ∷ (‹name› ⟶ ([])) ∷ []) ∷
    entry ⟨called⟩ required ((‹opens› ⟶ (⟨aside⟩ ∷ ⟨parameters⟩ ∷ ⟨asideClosing⟩ ∷ [])) ∷ []) ∷
    entry ⟨aside⟩ (optional (pointer ∷ (opened false) ∷ [])) [] ∷
    entry ⟨asideClosing⟩ required ((‹closes› ⟶ (⟨asideClosed⟩ ∷ [])) ∷ []) ∷
    entry ⟨asideClosed⟩ (optional (close ∷ pointer ∷ [])) [] ∷
    -- parameters: an array is a pointer
    entry ⟨parameters⟩ (optional []) (((‹name› ⟶ (⟨pointedParameter⟩ ∷ [])) ∷ (‹void› ⟶ (⟨voidAlone⟩ ∷ [])) ∷ (‹dots› ⟶ (⟨variadic⟩ ∷ [])) ∷ []) ++ (behind (⟨declared⟩ ∷ ⟨item⟩ ∷ ⟨moreParameters⟩ ∷ []) word_alternatives) ++ (behind (⟨declared⟩ ∷ ⟨item⟩ ∷ ⟨moreParameters⟩ ∷ []) group_alternatives) ++ ((‹const› ⟶ (⟨parameter⟩ ∷ [])) ∷ (‹volatile› ⟶ (⟨parameter⟩ ∷ [])) ∷ [])) ∷
    entry ⟨voidAlone⟩ (optional []) ((‹const› ⟶ (⟨pointedParameter⟩ ∷ [])) ∷ (‹volatile› ⟶ (⟨pointedParameter⟩ ∷ [])) ∷ (‹star› ⟶ (⟨starred⟩ ∷ ⟨declared⟩ ∷ ⟨item⟩ ∷ ⟨moreParameters⟩ ∷ [])) ∷ (‹opens› ⟶ (⟨pointer⟩ ∷ ⟨called⟩ ∷ ⟨item⟩ ∷ ⟨moreParameters⟩ ∷ [])) ∷ []) ∷
    entry ⟨pointedParameter⟩ required ((‹const› ⟶ (⟨pointedParameter⟩ ∷ [])) ∷ (‹volatile› ⟶ (⟨pointedParameter⟩ ∷ [])) ∷ (‹star› ⟶ (⟨starred⟩ ∷ ⟨declared⟩ ∷ ⟨item⟩ ∷ ⟨moreParameters⟩ ∷ [])) ∷ (‹opens› ⟶ (⟨pointer⟩ ∷ ⟨called⟩ ∷ ⟨item⟩ ∷ ⟨moreParameters⟩ ∷ [])) ∷ []) ∷
    entry ⟨parameter⟩ required (((‹name› ⟶ (⟨pointedParameter⟩ ∷ [])) ∷ (‹void› ⟶ (⟨pointedParameter⟩ ∷ [])) ∷ []) ++ (behind (⟨declared⟩ ∷ ⟨item⟩ ∷ ⟨moreParameters⟩ ∷ []) word_alternatives) ++ (behind (⟨declared⟩ ∷ ⟨item⟩ ∷ ⟨moreParameters⟩ ∷ []) group_alternatives) ++ ((‹const› ⟶ (⟨parameter⟩ ∷ [])) ∷ (‹volatile› ⟶ (⟨parameter⟩ ∷ [])) ∷ [])) ∷
    entry ⟨moreParameters⟩ (optional []) ((‹comma› ⟶ (⟨nextParameter⟩ ∷ [])) ∷ []) ∷
    entry ⟨nextParameter⟩ required (((‹dots› ⟶ (⟨variadic⟩ ∷ [])) ∷ (‹name› ⟶ (⟨pointedParameter⟩ ∷ [])) ∷ (‹void› ⟶ (⟨pointedParameter⟩ ∷ [])) ∷ []) ++ (behind (⟨declared⟩ ∷ ⟨item⟩ ∷ ⟨moreParameters⟩ ∷ []) word_alternatives) ++ (behind (⟨declared⟩ ∷ ⟨item⟩ ∷ ⟨moreParameters⟩ ∷ []) group_alternatives) ++ ((‹const› ⟶ (⟨parameter⟩ ∷ [])) ∷ (‹volatile› ⟶ (⟨parameter⟩ ∷ [])) ∷ [])) ∷
    entry ⟨variadic⟩ (optional (variadic ∷ [])) [] ∷
    entry ⟨declared⟩ (optional []) ((‹name› ⟶ (⟨arrayed⟩ ∷ [])) ∷ (‹opensSize› ⟶ (⟨anyDim⟩ ∷ ⟨dims⟩ ∷ ⟨decayed⟩ ∷ [])) ∷ (‹opens› ⟶ (⟨pointer⟩ ∷ ⟨called⟩ ∷ [])) ∷ []) ∷
    entry ⟨arrayed⟩ (optional []) ((‹opensSize› ⟶ (⟨anyDim⟩ ∷ ⟨dims⟩ ∷ ⟨decayed⟩ ∷ [])) ∷ []) ∷
    entry ⟨anyDim⟩ required ((‹number› ⟶ (⟨dimEnd⟩ ∷ [])) ∷ (‹closesSize› ⟶ ([])) ∷ []) ∷
    entry ⟨decayed⟩ (optional (pointer ∷ [])) [] ∷
    -- the function
    entry ⟨external⟩ (optional []) ((‹extern› ⟶ ([])) ∷ []) ∷
    entry ⟨returned⟩ required (((‹name› ⟶ (⟨pointerOnly⟩ ∷ [])) ∷ (‹void› ⟶ (⟨voidReturned⟩ ∷ [])) ∷ []) ++ word_alternatives ++ group_alternatives ++ ((‹const› ⟶ (⟨returned⟩ ∷ [])) ∷ (‹volatile› ⟶ (⟨returned⟩ ∷ [])) ∷ [])) ∷
    entry ⟨voidReturned⟩ (optional (nothing ∷ [])) ((‹const› ⟶ (⟨voidReturned⟩ ∷ [])) ∷ (‹volatile› ⟶ (⟨voidReturned⟩ ∷ [])) ∷ (‹star› ⟶ (⟨starred⟩ ∷ [])) ∷ []) ∷
    entry ⟨result⟩ (optional (result ∷ [])) [] ∷
    entry ⟨functionName⟩ (optional []) ((‹name› ⟶ ([])) ∷ []) ∷
    entry ⟨called0⟩ required ((‹opens› ⟶ (⟨parameters⟩ ∷ ⟨closing⟩ ∷ [])) ∷ []) ∷
    entry ⟨closing⟩ required ((‹closes› ⟶ ([])) ∷ []) ∷
    entry ⟨end⟩ (optional []) ((‹semicolon› ⟶ ([])) ∷ []) ∷
    -- the types of further arguments
    entry ⟨types⟩ (optional []) (((‹name› ⟶ (⟨pointedType⟩ ∷ [])) ∷ (‹void› ⟶ (⟨pointedType⟩ ∷ [])) ∷ []) ++ (behind (⟨declared⟩ ∷ ⟨item⟩ ∷ ⟨moreTypes⟩ ∷ []) word_alternatives) ++ (behind (⟨declared⟩ ∷ ⟨item⟩ ∷ ⟨moreTypes⟩ ∷ []) group_alternatives) ++ ((‹const› ⟶ (⟨nextType⟩ ∷ [])) ∷ (‹volatile› ⟶ (⟨nextType⟩ ∷ [])) ∷ [])) ∷
    entry ⟨nextType⟩ required (((‹name› ⟶ (⟨pointedType⟩ ∷ [])) ∷ (‹void› ⟶ (⟨pointedType⟩ ∷ [])) ∷ []) ++ (behind (⟨declared⟩ ∷ ⟨item⟩ ∷ ⟨moreTypes⟩ ∷ []) word_alternatives) ++ (behind (⟨declared⟩ ∷ ⟨item⟩ ∷ ⟨moreTypes⟩ ∷ []) group_alternatives) ++ ((‹const› ⟶ (⟨nextType⟩ ∷ [])) ∷ (‹volatile› ⟶ (⟨nextType⟩ ∷ [])) ∷ [])) ∷
    entry ⟨pointedType⟩ required ((‹const› ⟶ (⟨pointedType⟩ ∷ [])) ∷ (‹volatile› ⟶ (⟨pointedType⟩ ∷ [])) ∷ (‹star› ⟶ (⟨starred⟩ ∷ ⟨declared⟩ ∷ ⟨item⟩ ∷ ⟨moreTypes⟩ ∷ [])) ∷ (‹opens› ⟶ (⟨pointer⟩ ∷ ⟨called⟩ ∷ ⟨item⟩ ∷ ⟨moreTypes⟩ ∷ [])) ∷ []) ∷
    entry ⟨moreTypes⟩ (optional []) ((‹comma› ⟶ (⟨nextType⟩ ∷ [])) ∷ []) ∷
    []

abbrev pub declarations : Grammar
declarations = grammar_of spellings table

-- a prototype
abbrev pub prototype : List ℕ
prototype = ⟨external⟩ ∷ ⟨returned⟩ ∷ ⟨result⟩ ∷ ⟨functionName⟩ ∷ ⟨called0⟩ ∷ ⟨end⟩ ∷ []

-- the types of further arguments
abbrev pub types : List ℕ
types = ⟨types⟩ ∷ []
