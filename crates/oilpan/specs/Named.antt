-- Which number a name has.
use Rattle.std.specs.Prelude.{◌≡◌, ◌≢◌, ℕ, ◌<◌, List, [], length, map, slice_index_or}
use Rattle.oilpan.specs.DeclaredTypes.{NamedObject}

-- the first of the names that is this one
pub record IsFirstNamed (names : List (List ℕ)) (name : List ℕ) (k : ℕ) : Type 0 where
  pub there : k < length names
  pub named : slice_index_or names k [] ≡ name
  pub first : (i : ℕ) → i < k → slice_index_or names i [] ≢ name

-- none of the names is this one
abbrev pub IsUnnamed : List (List ℕ) → List ℕ → Type 0
IsUnnamed names name = (i : ℕ) → i < length names → slice_index_or names i [] ≢ name

-- the names of objects
abbrev pub object_names : List NamedObject → List (List ℕ)
object_names objects = map (λ o. o.name) objects

-- what stands at a number that no object has
abbrev pub no_object : NamedObject
no_object = record { name = []; fields = [] }

-- the names of the fields of the object with a number
abbrev pub field_names : List NamedObject → ℕ → List (List ℕ)
field_names objects n = map (λ f. f.name) (slice_index_or objects n no_object).fields
