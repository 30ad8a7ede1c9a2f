-- Where the fields of a body are.
use Rattle.std.proofs.Common.{◌≡◌, ℕ, ◌+◌, ◌-◌, ◌^◌, ◌<◌, ◌≤◌, Bool, true, List, length, take, get_or, Option, Some, None, refl, sym, ap, ◌∙◌, subst, inl, inr, arith}
use Rattle.std.specs.Prelude.{MatchOption, IfSome}
use Rattle.std.specs.List.{Contains}
use Rattle.std.proofs.lemmas.Bool.{true≢false, cases_lt}
use Rattle.std.proofs.lemmas.List.{take_all, get_or_past}
use Rattle.std.proofs.lemmas.List.Sums.{sum_by_more_le}
use Rattle.gc_graph.specs.declared.kind.Kind.{Kind}
use Rattle.gc_graph.specs.declared.kind.Kind.TheVariants.{Strong, Weak, Pair, Plain}
use Rattle.gc_graph.specs.Fields.{words_of_kind, field_words, is_pair}
use Rattle.gc_graph.specs.State.{ObjectType}
use Rattle.object_headers.specs.declared.header.Header.{Header}
use Rattle.type_table.specs.Types.{declared_kinds, kind_of, count_with, size_with, is_kind, offsets_of_kind, IsFieldAt}
use Rattle.type_table.specs.FieldLaw.{FieldsStandApart}
use Rattle.marker_core.specs.Bodies.{IsPlace, IsReference}
use Rattle.marker_core.specs.declared.states.Body.{Body}
use Rattle.marker_core.specs.Matching.{IsWhole}
use Rattle.page_words.specs.Bodies.{kind_in}
use Rattle.page_words.specs.BodyPlaces.{whole_body}
use Rattle.page_words.specs.Roles.{kind_lists}
use Rattle.page_words.specs.Seat.{SeatView, IsView}
use Rattle.nodes_in_words.specs.Space.{IsHeaderOf}
use Rattle.member_fields.specs.Words.{HasFieldWord, HasPair, IsWordIn}
use Rattle.prefinalizer_effects.specs.Acting.{IsTypedBody, BodiesAreTyped, AreLinked, extra_in, body_field_count}
use Rattle.prefinalizer_effects.specs.Places.{IsFound, HasFoundWord, HasFoundPair}

-- ---- what the header tells

pub type_told : (v : SeatView) (b : Body) (header : Header) → IsHeaderOf v b header → header.ty ≡ b.ty
type_told v b header is = is.ty

pub extra_told : (v : SeatView) (types : List ObjectType) (b : Body) (header : Header) (none : ℕ) → types ≡ v.types → IsHeaderOf v b header
    → none ≡ size_with (declared_kinds types header.ty) 0 → header.size - none ≡ extra_in v.types b
extra_told v types b header none same is size =
    let least : none ≡ size_with (declared_kinds v.types b.ty) 0 =
    size ∙ ap (λ ts. size_with (declared_kinds ts header.ty) 0) same ∙ ap (λ ty. size_with (declared_kinds v.types ty) 0) (type_told v b header is) in
    ap (λ n. n - none) is.size ∙ ap (λ n. b.size - n) least

-- what the table tells of the field, for this body
pub field_told : (v : SeatView) (types : List ObjectType) (b : Body) (ty extra field : ℕ) (found : Option (Kind × ℕ)) → types ≡ v.types → ty ≡ b.ty
    → extra ≡ extra_in v.types b → MatchOption found (count_with (declared_kinds types ty) extra ≤ field) (IsFieldAt (declared_kinds types ty) extra field)
    → MatchOption found (body_field_count v.types b ≤ field) (IsFieldAt (declared_kinds v.types b.ty) (extra_in v.types b) field)
field_told v types b ty extra field found same type extras is =
    let told : List Kind → ℕ → Type 0 = λ kinds n. MatchOption found (count_with kinds n ≤ field) (IsFieldAt kinds n field) in
    subst (told (declared_kinds v.types b.ty)) extras
    (subst (λ t. told (declared_kinds v.types t) extra) type (subst (λ ts. told (declared_kinds ts ty) extra) same is))

-- ---- where the words are

pub some_words : (kind : Kind) → 1 ≤ words_of_kind kind
some_words Strong = omega arith
some_words Weak = omega arith
some_words Pair = omega arith
some_words Plain = omega arith

-- a field that isn't plain is a declared one
pub declared_field : (kinds : List Kind) (field : ℕ) → (kind_of kinds field ≡ Plain → ⊥) → field < length kinds
declared_field kinds field other = elim (cases_lt field (length kinds)) [
  | inl low ↦ low
  | inr past ↦ absurd (other (get_or_past kinds field Plain past))
]

-- the first word of a field is one of the object's
word_below : (kinds : List Kind) (extra field : ℕ) → field < length kinds + extra
    → field_words (take field kinds) + (field - length kinds) < field_words kinds + extra
word_below kinds extra field low = elim (cases_lt field (length kinds)) [
  | inl declared ↦ omega (arith, sum_by_more_le words_of_kind kinds field Plain declared, some_words (get_or kinds field Plain))
  | inr past ↦ omega (arith, low, ap field_words (take_all field kinds past))
]

pub found_word : (v : SeatView) (place field : ℕ) (b : Body) (t : Kind × ℕ) (is_so : Kind → Bool) → FieldsStandApart → Contains v.bodies b → b.place ≡ place
    → IsTypedBody v.types b → IsFieldAt (declared_kinds v.types b.ty) (extra_in v.types b) field t → is_so t.0 ≡ true → HasFieldWord is_so v place t.1
found_word v place field b t is_so law there at typed found so =
    let kinds : List Kind = declared_kinds v.types b.ty in
    let kind : kind_in v.types b (t.1 - 2) ≡ kind_of kinds field =
    law.kind kinds field t.1 (record { first = omega (arith, found.offset); last = omega (arith, found.offset, some_words (kind_of kinds field)) }) in
    record {
      body = b;
      there = there;
      place = at;
      first = omega (arith, found.offset);
      last = omega (arith, found.offset, typed.whole, word_below kinds (extra_in v.types b) field found.there);
      kind = ap is_so (kind ∙ sym found.kind) ∙ so;
    }

pub found_pair : (v : SeatView) (place field : ℕ) (b : Body) (t : Kind × ℕ) → FieldsStandApart → Contains v.bodies b → b.place ≡ place → IsTypedBody v.types b
    → IsFieldAt (declared_kinds v.types b.ty) (extra_in v.types b) field t → t.0 ≡ Pair → HasPair v place t.1
found_pair v place field b t law there at typed found pair =
    let kinds : List Kind = declared_kinds v.types b.ty in
    let kind : kind_of kinds field ≡ Pair = sym found.kind ∙ pair in
    let low : field < length kinds = declared_field kinds field (λ plain. true≢false (sym (ap is_pair (sym plain ∙ kind)))) in
    let two : words_of_kind (kind_of kinds field) ≡ 2 = ap words_of_kind kind in
    let same : t.1 ≡ t.1 - 2 + 2 = omega (arith, found.offset) in
    record {
      body = b;
      there = there;
      place = at;
      first = omega (arith, found.offset);
      last = omega (arith, found.offset, typed.whole, low, two, sum_by_more_le words_of_kind kinds field Plain low);
      key = subst (Contains (offsets_of_kind Pair kinds)) same
          (law.told (is_kind Pair) kinds t.1 field (record { declared = low; kind = ap (is_kind Pair) kind; offset_is = found.offset }));
    }

pub kinds_told : (v : SeatView) (types : List ObjectType) (b : Body) (header : Header) → types ≡ v.types → IsHeaderOf v b header
    → declared_kinds types header.ty ≡ declared_kinds v.types b.ty
kinds_told v types b header same is = ap (λ ts. declared_kinds ts header.ty) same ∙ ap (declared_kinds v.types) (type_told v b header is)

pub size_told : (v : SeatView) (types : List ObjectType) (b : Body) (header : Header) (none : ℕ) → types ≡ v.types → IsHeaderOf v b header
    → none ≡ size_with (declared_kinds types header.ty) 0 → none ≡ field_words (declared_kinds v.types b.ty) + 2
size_told v types b header none same is size =
    (let told = size ∙ ap (λ kinds. size_with kinds 0) (kinds_told v types b header same is) in omega (arith, told))

-- the body has a word for each word of its declared fields
pub long_fields : (v : SeatView) (b : Body) → IsView v → Contains v.bodies b → IsTypedBody v.types b → field_words (declared_kinds v.types b.ty) ≤ length b.fields
long_fields v b view there typed =
    let whole : IsWhole v.count (kind_lists v.types) b = whole_body v view b there in
    omega (arith, whole.fields, typed.whole)

pub fields_inside : (v : SeatView) (b : Body) → IsView v → Contains v.bodies b → b.place + (2 + length b.fields) ≤ v.count
fields_inside v b view there =
    let whole : IsWhole v.count (kind_lists v.types) b = whole_body v view b there in
    omega (arith, whole.fields, whole.inside)

-- ---- what was found

-- the body has all words that its type asks for
pub size_least : (v : SeatView) (types : List ObjectType) (b : Body) (header : Header) (none : ℕ) → types ≡ v.types → IsHeaderOf v b header
    → none ≡ size_with (declared_kinds types header.ty) 0 → IsTypedBody v.types b → none ≤ header.size
size_least v types b header none same is size typed =
    let least : none ≡ size_with (declared_kinds v.types b.ty) 0 =
    size ∙ ap (λ ts. size_with (declared_kinds ts header.ty) 0) same ∙ ap (λ ty. size_with (declared_kinds v.types ty) 0) (type_told v b header is) in
    omega (arith, least, typed.whole, is.size)

pub type_known : (v : SeatView) (types : List ObjectType) (b : Body) (header : Header) → types ≡ v.types → IsHeaderOf v b header → IsTypedBody v.types b
    → header.ty < length types
type_known v types b header same is typed = omega (arith, typed.known, type_told v b header is, ap length same)

pub found_words : (v : SeatView) (place field : ℕ) (found : Option (Kind × ℕ)) → FieldsStandApart → BodiesAreTyped v → IsPlace v.bodies place → IsFound v place field found
    → HasFoundWord v place found
found_words v place field None law typed at is = tt
found_words v place field (Some t) law typed (b, there, at) is = λ is_so so. found_word v place field b t is_so law there at (typed b there) (is b there at) so

pub found_pairs : (v : SeatView) (place field : ℕ) (found : Option (Kind × ℕ)) → FieldsStandApart → BodiesAreTyped v → IsPlace v.bodies place → IsFound v place field found
    → HasFoundPair v place found
found_pairs v place field None law typed at is = tt
found_pairs v place field (Some t) law typed (b, there, at) is = λ pair. found_pair v place field b t law there at (typed b there) (is b there at) pair

-- ---- what a strong field names

is_strong : (kind : Kind) → is_kind Strong kind ≡ true → kind ≡ Strong
is_strong Strong is = refl
is_strong Weak is = absurd (true≢false (sym is))
is_strong Pair is = absurd (true≢false (sym is))
is_strong Plain is = absurd (true≢false (sym is))

pub link_reference : (v : SeatView) (place word w : ℕ) → AreLinked v → HasFieldWord (is_kind Strong) v place word → IsWordIn v place word w → IsReference v.bodies w
link_reference v place word w links has is =
    subst (IsReference v.bodies) (sym (is has.body has.there has.place))
    (links has.body (word - 2) has.there (is_strong (kind_in v.types has.body (word - 2)) has.kind))

pub reference_fits : (v : SeatView) (w : ℕ) → IsView v → IsReference v.bodies w → w ≤ 2 ^ 32
reference_fits v w view (inl null) = omega arith
reference_fits v w view (inr (b, there, at)) =
    let whole : IsWhole v.count (kind_lists v.types) b = whole_body v view b there in
    omega (arith, at, whole.fields, whole.inside, view.count)

pub names_place : (bodies : List Body) (w : ℕ) (named : Option ℕ) → IsReference bodies w → MatchOption named (w ≡ 0) (λ p. w ≡ p + 1) → IfSome named (IsPlace bodies)
names_place bodies w None is tells = tt
names_place bodies w (Some p) (inl null) tells = absurd (omega (arith, null, tells))
names_place bodies w (Some p) (inr (b, there, at)) tells = (b, there, omega (arith, at, tells))
