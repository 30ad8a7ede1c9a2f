-- Text that is held back on its way to a sink.
use Rattle.std.specs.Prelude.{ℕ, List, [], ◌++◌, Option, Some, None}
use Rattle.text_devices.specs.Devices.{Grew}

-- what is held back, and how many bytes more have room
pub record PiecesState : Type 0 where
  pub held : List ℕ
  pub room : ℕ

-- nothing is held back, and a whole piece has room
abbrev pub no_pieces : PiecesState
no_pieces = record { held = []; room = 65536 }

-- what the sink took, and then what is held back
abbrev pub with_held_back : Option (List ℕ) → PiecesState → Option (List ℕ)
with_held_back None pieces = None
with_held_back (Some taken) pieces = Some (taken ++ pieces.held)

-- the sink took some text more
pub record TookMore (old new : Option (List ℕ)) : Type 0 where
  pub text : List ℕ
  pub grew : Grew old new text
