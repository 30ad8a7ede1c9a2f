-- What is found of a field.
use Rattle.std.specs.Prelude.{◌≡◌, ℕ, ◌≤◌, Bool, true, Option, MatchOption, IfSome, Contains}
use Rattle.gc_graph.specs.declared.kind.Kind.{Kind}
use Rattle.gc_graph.specs.declared.kind.Kind.TheVariants.{Pair}
use Rattle.type_table.specs.Types.{declared_kinds, IsFieldAt}
use Rattle.marker_core.specs.declared.states.Body.{Body}
use Rattle.page_words.specs.Seat.{SeatView}
use Rattle.member_fields.specs.Words.{HasFieldWord, HasPair}
use Rattle.prefinalizer_effects.specs.Acting.{extra_in, body_field_count}

-- the field of the body at the place was found: its kind and its offset from the place, or that there is none
abbrev pub IsFound : SeatView → ℕ → ℕ → Option (Kind × ℕ) → Type 0
IsFound v place field found =
    (b : Body) → Contains v.bodies b → b.place ≡ place
    → MatchOption found (body_field_count v.types b ≤ field) (IsFieldAt (declared_kinds v.types b.ty) (extra_in v.types b) field)

-- the object at the place has a word at the offset that was found, and it is of the kind
abbrev pub HasFoundWord : SeatView → ℕ → Option (Kind × ℕ) → Type 0
HasFoundWord v place found = IfSome found (λ t. (is_so : Kind → Bool) → is_so t.0 ≡ true → HasFieldWord is_so v place t.1)

-- where the kind is that of pairs, it has a pair there
abbrev pub HasFoundPair : SeatView → ℕ → Option (Kind × ℕ) → Type 0
HasFoundPair v place found = IfSome found (λ t. t.0 ≡ Pair → HasPair v place t.1)
