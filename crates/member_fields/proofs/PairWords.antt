-- The two words of a pair.
use Rattle.std.proofs.Common.{◌≡◌, ℕ, ◌+◌, ◌-◌, ◌<◌, get_or, refl, sym, ap, ◌∙◌, subst, inl, inr, arith, Fits, w32}
use Rattle.std.specs.Prelude.{◌↔◌}
use Rattle.std.proofs.lemmas.List.{get_or-map, length-map}
use Rattle.gc_graph.specs.declared.kind.Kind.TheVariants.{Pair}
use Rattle.object_headers.specs.Offsets.{reference_to}
use Rattle.type_table.specs.Types.{is_kind}
use Rattle.type_table.specs.FieldLaw.{FieldsStandApart}
use Rattle.marker_core.specs.Bodies.{IsReference}
use Rattle.marker_core.specs.declared.states.Body.{Body}
use Rattle.page_words.specs.Bodies.{IsKeyWord, kind_in}
use Rattle.page_words.specs.Roles.{kind_of_role}
use Rattle.page_words.specs.Seat.{SeatView, IsView, stored}
use Rattle.member_fields.specs.Words.{HasFieldWord, HasWordOfSomeKind, HasPair, IsWordIn, with_word_in, written}
use Rattle.page_words.specs.BodyPlaces.{whole_body, same_body}
use Rattle.member_fields.proofs.Roles.{kind_told, key_role, value_role}
use Rattle.member_fields.proofs.Writes.{by_place, rewritten_word}

-- both words of each pair are of the kind of pairs
abbrev pub KindsOfPairs : SeatView → Type 0
KindsOfPairs v = (b : Body) (i : ℕ) → IsKeyWord v.types b i → (kind_in v.types b i ≡ Pair) × (kind_in v.types b (i + 1) ≡ Pair)

pub kinds_of_pairs : FieldsStandApart → (v : SeatView) → KindsOfPairs v
kinds_of_pairs law v b i key =
    (kind_told v b i ∙ ap kind_of_role (key_role law v b i key), kind_told v b (i + 1) ∙ ap kind_of_role (value_role law v b i key))

pub key_word : (v : SeatView) (holder word : ℕ) → KindsOfPairs v → HasPair v holder word → HasFieldWord (is_kind Pair) v holder word
key_word v holder word kinds has = record {
  body = has.body;
  there = has.there;
  place = has.place;
  first = has.first;
  last = omega (arith, has.last);
  kind = ap (is_kind Pair) (kinds has.body (word - 2) has.key).0;
}

pub value_word : (v : SeatView) (holder word : ℕ) → KindsOfPairs v → HasPair v holder word → HasFieldWord (is_kind Pair) v holder (word + 1)
value_word v holder word kinds has =
    let next : word - 2 + 1 ≡ word + 1 - 2 = omega (arith, has.first) in
    record {
      body = has.body;
      there = has.there;
      place = has.place;
      first = omega (arith, has.first);
      last = has.last;
      kind = ap (λ i. is_kind Pair (kind_in v.types has.body i)) (sym next) ∙ ap (is_kind Pair) (kinds has.body (word - 2) has.key).1;
    }

pub next_fits : (v : SeatView) (holder word : ℕ) → IsView v → HasPair v holder word → Fits w32 (word + 1)
next_fits v holder word is has = let whole = whole_body v is has.body has.there in omega (arith, has.last, whole.size)

-- the value of the pair, as the words tell it
pub told_value : (v : SeatView) (holder word : ℕ) → IsView v → (has : HasPair v holder word)
    → IsWordIn v holder (word + 1) (get_or has.body.fields (word - 2 + 1) 0)
told_value v holder word is has b there place =
    let same : has.body ≡ b = same_body v has.body b is has.there there (has.place ∙ sym place) in
    let next : word - 2 + 1 ≡ word + 1 - 2 = omega (arith, has.first) in
    ap (λ (c : Body). get_or c.fields (word - 2 + 1) 0) same ∙ ap (λ i. get_or b.fields i 0) next

-- a write leaves the pairs
pub pair_kept : (v : SeatView) (holder word place offset w : ℕ) → HasPair v holder word → HasPair (written v place offset w) holder word
pair_kept v holder word place offset w has =
    let b : Body = has.body in
    record {
      body = with_word_in place offset w b;
      there = (
        has.there.0,
        omega (arith, has.there.1, length-map v.bodies (with_word_in place offset w)),
        get_or-map (with_word_in place offset w) v.bodies has.there.0 b (with_word_in place offset w b) has.there.1 ∙ ap (with_word_in place offset w) has.there.2,
      );
      place = by_place (λ c. c.place ≡ holder) place offset w b (λ _. has.place) (λ _. has.place);
      first = has.first;
      last = by_place (λ c. word + 1 < c.size) place offset w b (λ _. has.last) (λ _. has.last);
      key = by_place (λ c. IsKeyWord v.types c (word - 2)) place offset w b (λ _. has.key) (λ _. has.key);
    }

pub reference_kept : (v : SeatView) (place offset w reference : ℕ) → IsReference v.bodies reference → IsReference (written v place offset w).bodies reference
reference_kept v place offset w reference (inl null) = inl null
reference_kept v place offset w reference (inr (b, there, at)) = inr (
  with_word_in place offset w b,
  (
    there.0,
    omega (arith, there.1, length-map v.bodies (with_word_in place offset w)),
    get_or-map (with_word_in place offset w) v.bodies there.0 b (with_word_in place offset w b) there.1 ∙ ap (with_word_in place offset w) there.2,
  ),
  at ∙ ap reference_to (by_place (λ c. b.place ≡ c.place) place offset w b (λ _. refl) (λ _. refl)),
)

-- the value that was written is the one that is told
pub one_value : (v : SeatView) (holder word key value told : ℕ) → HasPair v holder word → IsWordIn v holder (word + 1) value → IsWordIn v holder (word + 1) told
    → (key ≡ 0) ↔ (value ≡ 0) → (key ≡ 0) ↔ (told ≡ 0)
one_value v holder word key value told has is also both =
    let same : value ≡ told = is has.body has.there has.place ∙ sym (also has.body has.there has.place) in
    subst (λ w. (key ≡ 0) ↔ (w ≡ 0)) same both

-- references to bodies stay such under a store
pub stored_reference : (v : SeatView) (holder word w reference : ℕ) → IsView v → HasWordOfSomeKind v holder word → IsReference v.bodies reference
    → IsReference (stored v (holder + word) w).bodies reference
stored_reference v holder word w reference is has names =
    subst (λ (u : SeatView). IsReference u.bodies reference) (sym (rewritten_word v holder word w is has)) (reference_kept v holder word w reference names)
