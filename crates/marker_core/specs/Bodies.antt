-- Objects, and what each of their words is.
use Rattle.std.specs.Prelude.{◌≡◌, ◌⊎◌, ℕ, zero, suc, ◌+◌, ◌-◌, ◌<◌, ◌≤◌, ◌==◌, ◌&&◌, ◌||◌, not, nat_le, nat_lt, Bool, true, false, List, [], ◌∷◌, length, map, filter, if◌then◌else◌, slice_index, slice_index_or, slice_set, Contains}
use Rattle.std.specs.List.{list_any, range_with_len}
use Rattle.gc_graph.specs.declared.kind.Kind.{Kind}
use Rattle.gc_graph.specs.declared.kind.Kind.TheVariants.{Strong, Weak, Pair, Plain}
use Rattle.object_headers.specs.Offsets.{first_field, reference_to}
use Rattle.marker_core.specs.declared.states.Body.{Body}
use Rattle.marker_core.specs.declared.states.Role.{Role}
use Rattle.marker_core.specs.declared.states.Role.TheVariants.{StrongWord, WeakWord, KeyWord, ValueWord, PlainWord}

-- how many words fields of these kinds take: two for a pair, one for any other
abbrev pub field_word_count : List Kind → ℕ
field_word_count [] = 0
field_word_count (Pair ∷ kinds) = 2 + field_word_count kinds
field_word_count (kind ∷ kinds) = 1 + field_word_count kinds

-- what the field word with this number is; what comes after the declared fields is plain
abbrev pub role_at : List Kind → ℕ → Role
role_at [] i = PlainWord
role_at (Strong ∷ kinds) zero = StrongWord
role_at (Strong ∷ kinds) (suc i) = role_at kinds i
role_at (Weak ∷ kinds) zero = WeakWord
role_at (Weak ∷ kinds) (suc i) = role_at kinds i
role_at (Pair ∷ kinds) zero = KeyWord
role_at (Pair ∷ kinds) (suc zero) = ValueWord
role_at (Pair ∷ kinds) (suc (suc i)) = role_at kinds i
role_at (Plain ∷ kinds) zero = PlainWord
role_at (Plain ∷ kinds) (suc i) = role_at kinds i

-- a word of this role is a reference: 0 for null, and else one more than a place
abbrev pub refers : Role → Bool
refers PlainWord = false
refers role = true

-- what is stored in a word of this role while marking goes on has to be marked
abbrev pub keeps : Role → Bool
keeps StrongWord = true
keeps ValueWord = true
keeps role = false

-- a word of this role is where tracing stops: a strong field, or a pair, which is known by its key
abbrev pub is_traced_role : Role → Bool
is_traced_role StrongWord = true
is_traced_role KeyWord = true
is_traced_role role = false

-- the kinds of the fields of a type
abbrev pub kinds_of_type : List (List Kind) → ℕ → List Kind
kinds_of_type types ty = slice_index_or types ty []

-- the field word with the number i of a body, and what it is
abbrev pub word_in : Body → ℕ → ℕ
word_in b i = slice_index b.fields i

-- what the field word with the number i of a body is
abbrev pub role_in : List (List Kind) → Body → ℕ → Role
role_in types b i = role_at (kinds_of_type types b.ty) i

-- the address past the last word of a body
abbrev pub end_of : Body → ℕ
end_of b = b.place + b.size

-- the body has the word at a; as a field word; as the field word with this number
abbrev pub body_has_word : ℕ → Body → Bool
body_has_word a b = nat_le b.place a && nat_lt a (end_of b)

-- the body has a field word at a
abbrev pub has_field : ℕ → Body → Bool
has_field a b = nat_le (b.place + first_field) a && nat_lt a (end_of b)

-- the number of the field word at a
abbrev pub field_number : ℕ → Body → ℕ
field_number a b = a - (b.place + first_field)

-- the body with w in its field word at a, where it has that word
abbrev pub with_word : ℕ → ℕ → Body → Body
with_word a w b = record b { fields = if has_field a b then slice_set b.fields (field_number a b) w else b.fields }

-- what stands where there is no body
abbrev pub no_body : Body
no_body = record { place = 0; ty = 0; size = 0; serial = 0; fields = [] }

-- the places of the bodies
abbrev pub places : List Body → List ℕ
places bodies = map (λ b. b.place) bodies

-- a body stands at a
abbrev pub is_place : List Body → ℕ → Bool
is_place bodies a = list_any (λ b. b.place == a) bodies

-- one of the bodies has the word at a
abbrev pub in_body : List Body → ℕ → Bool
in_body bodies a = list_any (body_has_word a) bodies

-- the place that a reference other than null names
abbrev pub place_named : ℕ → ℕ
place_named w = w - 1

-- a reference is null or names a body
abbrev pub names_body : List Body → ℕ → Bool
names_body bodies w = (w == 0) || is_place bodies (place_named w)

-- one of the body's references names the object at a
abbrev pub refers_to : List (List Kind) → ℕ → Body → Bool
refers_to types a b = list_any (λ i. refers (role_in types b i) && (word_in b i == reference_to a)) (range_with_len 0 (length b.fields))

-- ---- the same said of bodies as a set

-- a is the place of one of the bodies
abbrev pub IsPlace : List Body → ℕ → Type 0
IsPlace bodies a = (b : Body) × Contains bodies b × (b.place ≡ a)

-- one of the bodies has the word at a
abbrev pub IsInBody : List Body → ℕ → Type 0
IsInBody bodies a = (b : Body) × Contains bodies b × (b.place ≤ a) × (a < end_of b)

-- the address of its first field word
abbrev pub fields_at : Body → ℕ
fields_at b = b.place + first_field

-- the word at a is a field word of one of the bodies
abbrev pub IsFieldWord : List Body → ℕ → Type 0
IsFieldWord bodies a = (b : Body) × Contains bodies b × (fields_at b ≤ a) × (a < end_of b)

-- the word is null, or refers to one of the bodies
abbrev pub IsReference : List Body → ℕ → Type 0
IsReference bodies w = (w ≡ 0) ⊎ ((b : Body) × Contains bodies b × (w ≡ reference_to b.place))

-- ---- lists of places as sets

-- the place is in the list
abbrev pub holds : List ℕ → ℕ → Bool
holds set a = list_any (λ p. p == a) set

-- the list without a place
abbrev pub without : List ℕ → ℕ → List ℕ
without set a = filter (λ p. not (p == a)) set
