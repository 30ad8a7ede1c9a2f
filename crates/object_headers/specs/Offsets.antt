-- Where the words of an object stand, counted from its place, and how a word refers to an object.
use Rattle.std.specs.Prelude.{ℕ, ◌+◌}

-- the header stands at the place, and the serial number after it
abbrev pub serial_offset : ℕ
serial_offset = 1

-- the fields stand after header and serial number, which each object has
abbrev pub first_field : ℕ
first_field = 2

-- the reference to the object at a place; 0 refers to none
abbrev pub reference_to : ℕ → ℕ
reference_to place = place + 1
