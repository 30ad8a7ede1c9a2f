-- The error of a read that a field's error becomes.
use Rattle.oilpan.specs.declared.errors.FieldError.{FieldError}
use Rattle.oilpan.specs.declared.errors.FieldError.TheVariants as F
use Rattle.oilpan.specs.declared.errors.GetError.{GetError}
use Rattle.oilpan.specs.declared.errors.GetError.TheVariants as G

-- the same reason
abbrev pub get_error : FieldError → GetError
get_error F.Field = G.Field
get_error F.Kind = G.Kind
