-- Registers and classes as numbers: include/callbridge.h, enum cb_register and enum cb_class. 255, CB_NONE, is no register. Assumes nothing: these are definitions.
use Rattle.std.specs.Prelude.{cond, List, [], ◌∷◌, ℕ, ◌+◌, ◌-◌, ltb, eqb, get_or}
use Rattle.classes.specs.declared.Class.{Class}
use Rattle.classes.specs.declared.Class.TheVariants.{NoClass, Integer, Sse, SseUp, X87, X87Up, ComplexX87, Memory}
use Rattle.places.specs.declared.Register.{Register}
use Rattle.places.specs.declared.Register.TheVariants.{General, Vector, Upper, Wide}

-- CB_RDI to CB_R9: the six general registers of arguments, in order
unfoldable pub general_number : ℕ → ℕ
general_number n = cond (ltb n 6) n 255

-- CB_XMM0 to CB_XMM7 from 16 on, CB_XMM0H to CB_XMM7H from 32 on, CB_XMM0Y to CB_XMM7Y from 48 on
unfoldable pub vector_number : ℕ → ℕ → ℕ
vector_number first n = cond (ltb n 8) (first + n) 255

-- CB_RAX, then CB_RDX: the general registers of a returned value
unfoldable pub back_number : ℕ → ℕ
back_number n = cond (eqb n 0) 6 (cond (eqb n 1) 2 255)

-- a register of an argument
abbrev pub register_number : Register → ℕ
register_number (General n) = general_number n.0
register_number (Vector n) = vector_number 16 n.0
register_number (Upper n) = vector_number 32 n.0
register_number (Wide n) = vector_number 48 n.0

-- a register of a returned value
abbrev pub return_number : Register → ℕ
return_number (General n) = back_number n.0
return_number (Vector n) = vector_number 16 n.0
return_number (Upper n) = vector_number 32 n.0
return_number (Wide n) = vector_number 48 n.0

-- a register, where the general registers have these numbers in order
abbrev pub number_in : List ℕ → Register → ℕ
number_in general (General n) = get_or general n.0 255
number_in general (Vector n) = vector_number 16 n.0
number_in general (Upper n) = vector_number 32 n.0
number_in general (Wide n) = vector_number 48 n.0

-- ---- what a number means

-- of a vector register, its upper half or all 32 bytes of it
unfoldable pub vector_meant : ℕ → Register
vector_meant n = cond (ltb n 32) (Vector (record { 0 = n - 16 })) (cond (ltb n 48) (Upper (record { 0 = n - 32 })) (Wide (record { 0 = n - 48 })))

unfoldable pub register_meant : ℕ → Register
register_meant n = cond (ltb n 16) (General (record { 0 = n })) (vector_meant n)

-- of a returned value, rax stands first and rdx second
unfoldable pub return_meant : ℕ → Register
return_meant n = cond (ltb n 16) (General (record { 0 = cond (eqb n 6) 0 1 })) (vector_meant n)

-- enum cb_class: the classes in the paper's order
unfoldable pub class_meant : ℕ → Class
class_meant n = get_or (NoClass ∷ Integer ∷ Sse ∷ SseUp ∷ X87 ∷ X87Up ∷ ComplexX87 ∷ Memory ∷ []) n NoClass
