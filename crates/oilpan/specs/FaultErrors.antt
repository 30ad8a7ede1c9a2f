-- The error that a fault of types becomes.
use Rattle.std.specs.Prelude.{◌≡◌}
use Rattle.type_table.specs.declared.faults.TypeFault.{TypeFault}
use Rattle.type_table.specs.declared.faults.TypeFault.TheVariants as F
use Rattle.oilpan.specs.declared.types_errors.TypesError.{TypesError}
use Rattle.oilpan.specs.declared.types_errors.TypesError.TheVariants as T

-- the same limit; that of words is none of types without weak callbacks
abbrev pub IsErrorOf : TypeFault → TypesError → Type 0
IsErrorOf (F.TooManyTypes count) error = error ≡ T.TooManyTypes count
IsErrorOf (F.TooManyFields ty) error = error ≡ T.TooManyFields ty
IsErrorOf (F.NoCallback ty callback) error = error ≡ T.NoCallback ty callback
IsErrorOf (F.TooManyWords ty) error = ⊥
IsErrorOf F.NoMemory error = error ≡ T.NoMemory
