-- What the action of a prefinalizer does to bodies (`include/cppgc/prefinalizer.h`).
use Rattle.std.specs.Prelude.{◌≡◌, ℕ, zero, suc, ◌+◌, ◌-◌, ◌%◌, ◌^◌, ◌==◌, ◌<◌, ◌≤◌, List, length, map, nat_lt, Option, Some, None, slice_set, slice_index, if◌then◌else◌, Contains}
use Rattle.gc_graph.specs.declared.action.Action.{Action}
use Rattle.gc_graph.specs.declared.action.Action.TheVariants as A
use Rattle.gc_graph.specs.declared.kind.Kind.{Kind}
use Rattle.gc_graph.specs.declared.kind.Kind.TheVariants.{Strong, Weak, Pair, Plain}
use Rattle.gc_graph.specs.State.{ObjectType}
use Rattle.object_headers.specs.Offsets.{first_field}
use Rattle.type_table.specs.Types.{declared_kinds, kind_of, count_with, size_with, offset_of}
use Rattle.marker_core.specs.Bodies.{IsReference}
use Rattle.marker_core.specs.declared.states.Body.{Body}
use Rattle.page_words.specs.Bodies.{kind_in}
use Rattle.page_words.specs.Seat.{SeatView, with_bodies}

-- ---- what is asked of the bodies

-- the body is of one of the types, and has a word for each declared field
pub record IsTypedBody (types : List ObjectType) (b : Body) : Type 0 where
  pub known : b.ty < length types
  pub whole : size_with (declared_kinds types b.ty) 0 ≤ b.size

-- so is each body
abbrev pub BodiesAreTyped : SeatView → Type 0
BodiesAreTyped v = (b : Body) → Contains v.bodies b → IsTypedBody v.types b

-- each strong word of a body is null or refers to a body
abbrev pub AreLinked : SeatView → Type 0
AreLinked v = (b : Body) (i : ℕ) → Contains v.bodies b → kind_in v.types b i ≡ Strong → IsReference v.bodies (slice_index b.fields i)

-- ---- the fields of a body

-- the words after those of the declared fields
abbrev pub extra_in : List ObjectType → Body → ℕ
extra_in types b = b.size - size_with (declared_kinds types b.ty) 0

-- the declared fields, and one for each extra word
abbrev pub body_field_count : List ObjectType → Body → ℕ
body_field_count types b = count_with (declared_kinds types b.ty) (extra_in types b)

-- the kind of a field; an extra word is a plain one
abbrev pub body_field_kind : List ObjectType → Body → ℕ → Kind
body_field_kind types b field = kind_of (declared_kinds types b.ty) field

-- the number of a field's first word among the body's field words
abbrev pub body_field_word : List ObjectType → Body → ℕ → ℕ
body_field_word types b field = offset_of (declared_kinds types b.ty) field - first_field

-- the body with w in its field word number i
abbrev pub with_field_word : Body → ℕ → ℕ → Body
with_field_word b i w = record b { fields = slice_set b.fields i w }

-- a field that isn't there is left alone
abbrev pub body_at_field : List ObjectType → Body → ℕ → Body → Body
body_at_field types b field changed = if nat_lt field (body_field_count types b) then changed else b

-- ---- the two changes

-- the field whose first word has the number i becomes null: a reference, or both words of a pair
abbrev pub body_cleared_field : Kind → Body → ℕ → Body
body_cleared_field Strong b i = with_field_word b i 0
body_cleared_field Weak b i = with_field_word b i 0
body_cleared_field Pair b i = with_field_word (with_field_word b i 0) (i + 1) 0
body_cleared_field Plain b i = b

-- the body with the field of this number cleared
abbrev pub body_cleared_at : List ObjectType → ℕ → Body → Body
body_cleared_at types field b = body_at_field types b field (body_cleared_field (body_field_kind types b field) b (body_field_word types b field))

-- the amount is added to a plain word, which begins again after 64 bits
abbrev pub body_added_field : Kind → Body → ℕ → ℕ → Body
body_added_field Plain b i amount = with_field_word b i ((slice_index b.fields i + amount) % 2 ^ 64)
body_added_field Strong b i amount = b
body_added_field Weak b i amount = b
body_added_field Pair b i amount = b

-- the body with the amount added to the field of this number
abbrev pub body_added_at : List ObjectType → ℕ → ℕ → Body → Body
body_added_at types field amount b =
    body_at_field types b field (body_added_field (body_field_kind types b field) b (body_field_word types b field) amount)

-- ---- which body is changed

-- the place that a reference names
abbrev pub place_referred_to : ℕ → Option ℕ
place_referred_to zero = None
place_referred_to (suc place) = Some place

-- the place that a strong field names which holds the word
abbrev pub place_linked_by : Kind → ℕ → Option ℕ
place_linked_by Strong w = place_referred_to w
place_linked_by Weak w = None
place_linked_by Pair w = None
place_linked_by Plain w = None

-- the place that the body's strong field of this number names
abbrev pub linked_place : List ObjectType → Body → ℕ → Option ℕ
linked_place types b link = place_linked_by (body_field_kind types b link) (slice_index b.fields (body_field_word types b link))

-- the body at the place was changed, and nothing else of the view
abbrev pub changed_at : SeatView → ℕ → (Body → Body) → SeatView
changed_at v place change = with_bodies v (map (λ b. if b.place == place then change b else b) v.bodies)

-- the body that is named was changed, where one is
abbrev pub change_linked_body : SeatView → Option ℕ → (Body → Body) → SeatView
change_linked_body v None change = v
change_linked_body v (Some place) change = changed_at v place change

-- the effect of an action for the dying body
abbrev pub after_action : SeatView → Body → Action → SeatView
after_action v dying A.Nothing = v
after_action v dying (A.Clear link field) = change_linked_body v (linked_place v.types dying link) (body_cleared_at v.types field)
after_action v dying (A.Add link field amount) = change_linked_body v (linked_place v.types dying link) (body_added_at v.types field amount)
