-- Parts of the description and of the images: include/callbridge.h, enum cb_image. Assumes nothing: these are definitions.
use Rattle.std.specs.Prelude.{ℕ}
use Rattle.units.specs.declared.Bytes.{Bytes}
use Rattle.flat.specs.declared.Part.{Part}

-- so many bytes from an offset on, of what enum cb_image gives this number
abbrev pub part_of : ℕ → Bytes → Bytes → Part
part_of image o n = record { offset = o; length = n; image = image; reserved_1 = 0; reserved_2 = 0; reserved_4 = 0 }

-- CB_NOWHERE
abbrev pub nowhere : Part
nowhere = part_of 0 (record { 0 = 0 }) (record { 0 = 0 })

-- CB_DESCRIPTION, CB_REGISTERS, CB_STACK
abbrev pub of_description : Bytes → Bytes → Part
of_description o n = part_of 1 o n

abbrev pub of_registers : Bytes → Bytes → Part
of_registers o n = part_of 2 o n

abbrev pub of_stack : Bytes → Bytes → Part
of_stack o n = part_of 3 o n
