-- Which types make a table, and why others make none.
use Rattle.std.specs.Prelude.{◌≡◌, ℕ, ◌<◌, ◌≤◌, ◌==◌, ◌&&◌, ◌++◌, nat_lt, not, Bool, List, length, Some, All}
use Rattle.std.specs.List.{list_all, position, find}
use Rattle.gc_graph.specs.Fields.{field_words}
use Rattle.gc_graph.specs.State.{ObjectType}
use Rattle.type_table.specs.Types.{type_of}
use Rattle.type_table.specs.declared.faults.TypeFault.{TypeFault}
use Rattle.type_table.specs.declared.faults.TypeFault.TheVariants.{TooManyTypes, TooManyFields, NoCallback, TooManyWords, NoMemory}

-- over 64 fields
abbrev pub is_too_wide : ObjectType → Bool
is_too_wide type = nat_lt 64 (length type.kinds)

-- the callbacks that the type names: its prefinalizers, and then its weak callbacks
abbrev pub called_of : ObjectType → List ℕ
called_of type = type.prefinalizers ++ type.weak_callbacks

-- no callback has this number
abbrev pub is_no_callback : ℕ → ℕ → Bool
is_no_callback callbacks number = not (nat_lt number callbacks)

-- some number that the type names is no callback
abbrev pub names_none : ℕ → ObjectType → Bool
names_none callbacks type = not (list_all (λ number. nat_lt number callbacks) (called_of type))

-- weak callbacks, and over 64 words of declared fields
abbrev pub is_over_words : ObjectType → Bool
is_over_words type = not (length type.weak_callbacks == 0) && nat_lt 64 (field_words type.kinds)

-- a mask of 64 bits has one for each word of the declared fields, where the type has weak callbacks
abbrev pub HasMaskedWords : ObjectType → Type 0
HasMaskedWords type = 0 < length type.weak_callbacks → field_words type.kinds ≤ 64

-- types within the limits, whose prefinalizers and weak callbacks are callbacks
pub record AreGoodTypes (callbacks : ℕ) (types : List ObjectType) : Type 0 where
  pub few : length types ≤ 16383
  pub narrow : All (λ type. length type.kinds ≤ 64) types
  pub known : All (λ type. All (λ number. number < callbacks) (called_of type)) types
  pub masked : All HasMaskedWords types

-- the first type with over 64 fields, where the types aren't too many
pub record IsFirstWide (types : List ObjectType) (ty : ℕ) : Type 0 where
  pub few : length types ≤ 16383
  pub first : position is_too_wide types ≡ Some ty

-- the first number that is no callback, and its type, where the types aren't too many or too wide
pub record IsFirstUnknown (callbacks : ℕ) (types : List ObjectType) (ty callback : ℕ) : Type 0 where
  pub few : length types ≤ 16383
  pub narrow : All (λ type. length type.kinds ≤ 64) types
  pub first : position (names_none callbacks) types ≡ Some ty
  pub number : find (is_no_callback callbacks) (called_of (type_of types ty)) ≡ Some callback

-- the first type with weak callbacks and over 64 words, where the types are within the other limits
pub record IsFirstOverWords (callbacks : ℕ) (types : List ObjectType) (ty : ℕ) : Type 0 where
  pub few : length types ≤ 16383
  pub narrow : All (λ type. length type.kinds ≤ 64) types
  pub known : All (λ type. All (λ number. number < callbacks) (called_of type)) types
  pub first : position is_over_words types ≡ Some ty

-- the cause of each fault; want of memory has none
abbrev pub IsTypeFault : ℕ → List ObjectType → TypeFault → Type 0
IsTypeFault callbacks types (TooManyTypes count) = (16383 < length types) × (count ≡ length types)
IsTypeFault callbacks types (TooManyFields ty) = IsFirstWide types ty
IsTypeFault callbacks types (NoCallback ty callback) = IsFirstUnknown callbacks types ty callback
IsTypeFault callbacks types (TooManyWords ty) = IsFirstOverWords callbacks types ty
IsTypeFault callbacks types NoMemory = Unit {0}

-- a fault other than want of memory
abbrev pub IsFaultOfTypes : ℕ → List ObjectType → TypeFault → Type 0
IsFaultOfTypes callbacks types fault = IsTypeFault callbacks types fault × (fault ≡ NoMemory → ⊥)

-- the fault of the first number that is no callback
abbrev pub IsUnknownOf : ℕ → List ObjectType → TypeFault → Type 0
IsUnknownOf callbacks types (TooManyTypes count) = ⊥
IsUnknownOf callbacks types (TooManyFields ty) = ⊥
IsUnknownOf callbacks types (NoCallback ty callback) =
    (position (names_none callbacks) types ≡ Some ty)
    × (find (is_no_callback callbacks) (called_of (type_of types ty)) ≡ Some callback)
IsUnknownOf callbacks types (TooManyWords ty) = ⊥
IsUnknownOf callbacks types NoMemory = ⊥

-- the fault of the first type with weak callbacks and over 64 words
abbrev pub IsOverWordsOf : List ObjectType → TypeFault → Type 0
IsOverWordsOf types (TooManyTypes count) = ⊥
IsOverWordsOf types (TooManyFields ty) = ⊥
IsOverWordsOf types (NoCallback ty callback) = ⊥
IsOverWordsOf types (TooManyWords ty) = position is_over_words types ≡ Some ty
IsOverWordsOf types NoMemory = ⊥
