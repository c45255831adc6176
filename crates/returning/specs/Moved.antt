-- Which bytes of a returned value are moved, and where in the return images they stand: document 02, request 2026-02, "The return image
-- is 80 bytes: rax, rdx at 0 and 8, then xmm0, xmm1, st0, st1 of 16 each"; request 2026-06, "Bytes 16 to 31 stand .. for a returned value in a second return
-- image of 16". The two are one list here, the second behind the first. Assumes nothing: these are definitions.
use Rattle.std.specs.Prelude.{List, ◌++◌, ℕ, ◌+◌, ◌*◌, ◌-◌}
use Rattle.addresses.specs.Addresses.{run}
use Rattle.places.specs.declared.Register.{Register}
use Rattle.places.specs.declared.Register.TheVariants.{General, Vector, Upper, Wide}
use Rattle.places.specs.declared.ReturnPlace.{ReturnPlace}
use Rattle.places.specs.declared.ReturnPlace.TheVariants.{Void, Memory, One, Two, St0, St0St1}
use Rattle.returning.specs.declared.return_image.Part.{Part}
use Rattle.returning.specs.declared.return_image.Parts.{Parts}

-- where a register's first eightbyte begins; an upper half is the second eightbyte of its register
abbrev pub return_address : Register → ℕ
return_address (General n) = 8 * n.0
return_address (Vector n) = 16 + 16 * n.0
return_address (Upper n) = 24 + 16 * n.0
return_address (Wide n) = 16 + 16 * n.0

-- "in a second return image of 16", behind the 80 bytes of the first
abbrev pub upper_at : ℕ
upper_at = 80

-- n bytes of the value, from its byte k on, that stand in the image from its byte p on
abbrev pub moved : ℕ → ℕ → ℕ → Part
moved k p n = record { from = record { 0 = k }; to = record { 0 = p }; count = record { 0 = n } }

-- "only the first ten bytes of each long double are significant"
abbrev pub ten : ℕ → ℕ → Part
ten k p = moved k p 10

abbrev pub no_part : Part
no_part = moved 0 0 0

-- n bytes in a row
abbrev pub one_part : Register → ℕ → Parts
one_part a n = record { low = moved 0 (return_address a) n; high = no_part }

-- n bytes in one register: of a wide one bytes 0 to 15 stand in the one image, the rest in the other
abbrev pub parts_in : Register → ℕ → Parts
parts_in (General k) n = one_part (General k) n
parts_in (Vector k) n = one_part (Vector k) n
parts_in (Upper k) n = one_part (Upper k) n
parts_in (Wide k) n = record { low = moved 0 (return_address (Wide k)) 16; high = moved 16 (upper_at + 16 * k.0) (n - 16) }

-- the bytes that are moved of a value of n bytes: in registers all of them, "in eightbyte order"; ten of each long double; none
-- where it is void or in memory
unfoldable pub parts_of : ReturnPlace → ℕ → Parts
parts_of Void n = record { low = no_part; high = no_part }
parts_of Memory n = record { low = no_part; high = no_part }
parts_of (One a) n = parts_in a n
parts_of (Two a b) n = record { low = moved 0 (return_address a) 8; high = moved 8 (return_address b) (n - 8) }
parts_of St0 n = record { low = ten 0 48; high = no_part }
parts_of St0St1 n = record { low = ten 0 48; high = ten 16 64 }

-- the moved bytes, by their place in the value and by their address in the image
abbrev pub sources_in : Parts → List ℕ
sources_in p = run p.low.from.0 p.low.count.0 ++ run p.high.from.0 p.high.count.0

abbrev pub targets_in : Parts → List ℕ
targets_in p = run p.low.to.0 p.low.count.0 ++ run p.high.to.0 p.high.count.0

unfoldable pub sources : ReturnPlace → ℕ → List ℕ
sources place n = sources_in (parts_of place n)

unfoldable pub targets : ReturnPlace → ℕ → List ℕ
targets place n = targets_in (parts_of place n)
