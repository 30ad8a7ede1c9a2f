-- Why declared objects make no types.
use Rattle.std.specs.Prelude.{◌≡◌, ℕ, nat_lt, Bool, List, length, Some, ⊤}
use Rattle.std.specs.List.{position}
use Rattle.gc_graph.specs.State.{ObjectType}
use Rattle.type_table.specs.Faults.{AreGoodTypes, IsTypeFault}
use Rattle.type_table.specs.declared.faults.TypeFault.TheVariants as F
use Rattle.oilpan.specs.declared.types_errors.TypesError.{TypesError}
use Rattle.oilpan.specs.declared.types_errors.TypesError.TheVariants as T

-- over sixteen prefinalizers
abbrev pub is_overcalled : ObjectType → Bool
is_overcalled type = nat_lt 16 (length type.prefinalizers)

-- the first type with over sixteen prefinalizers, where the types are within the other limits
pub record IsFirstOvercalled (callbacks : ℕ) (types : List ObjectType) (ty : ℕ) : Type 0 where
  pub good : AreGoodTypes callbacks types
  pub first : position is_overcalled types ≡ Some ty

-- the cause of each error; want of memory has none
abbrev pub IsTypesError : ℕ → List ObjectType → TypesError → Type 0
IsTypesError callbacks types (T.TooManyTypes count) = IsTypeFault callbacks types (F.TooManyTypes count)
IsTypesError callbacks types (T.TooManyFields ty) = IsTypeFault callbacks types (F.TooManyFields ty)
IsTypesError callbacks types (T.NoCallback ty callback) = IsTypeFault callbacks types (F.NoCallback ty callback)
IsTypesError callbacks types (T.TooManyPrefinalizers ty) = IsFirstOvercalled callbacks types ty
IsTypesError callbacks types T.NoMemory = ⊤
