-- The words of strong fields and of pairs, and what the type table tells of them.
use Rattle.std.proofs.Common.{◌≡◌, ℕ, zero, suc, ◌+◌, ◌<◌, ◌≤◌, true, false, List, [], ◌∷◌, length, get_or, take, refl, sym, ap, ◌∙◌, subst, inl, inr, arith}
use Rattle.std.specs.List.{Contains, filter, range_with_len}
use Rattle.std.proofs.lemmas.Bool.{true≢false}
use Rattle.std.proofs.lemmas.List.Sums.{sum_by-cons, sum_by_more_le}
use Rattle.gc_graph.specs.declared.kind.Kind.{Kind}
use Rattle.gc_graph.specs.declared.kind.Kind.TheVariants.{Strong, Weak, Pair, Plain}
use Rattle.gc_graph.specs.Graph.{strong_targets}
use Rattle.gc_graph.specs.Fields.{words_of_kind, field_words}
use Rattle.page_words.specs.Types.{offset_of, is_kind, is_field, offsets_of_kind}
use Rattle.pair_notes.specs.BodyGraph.{values_in}
use Rattle.gc_graph.specs.Members.{Contains-cons_cases, Contains-cons, Contains-head, Contains-map, Contains-map_some, was_in, has_passed, stays_in, in_range, to_range}
use Rattle.page_words.specs.KindLaws.{same_kind, kind_itself}

-- the number of the first word of a declared field
abbrev pub first_of : List Kind → ℕ → ℕ
first_of kinds i = field_words (take i kinds)

-- it is one of the declared fields, and of this kind
pub record IsFieldOfKind (kind : Kind) (kinds : List Kind) (i : ℕ) : Type 0 where
  pub low : i < length kinds
  pub is : get_or kinds i Plain ≡ kind

one_more : (kind : Kind) (kinds : List Kind) (i : ℕ) → words_of_kind kind ≡ 1 → first_of (kind ∷ kinds) (suc i) ≡ suc (first_of kinds i)
one_more kind kinds i one = omega (arith, sum_by-cons words_of_kind kind (take i kinds), one)

pub two_more : (kinds : List Kind) (i : ℕ) → first_of (Pair ∷ kinds) (suc i) ≡ suc (suc (first_of kinds i))
two_more kinds i = omega (arith, sum_by-cons words_of_kind Pair (take i kinds))

-- ---- the offsets of the fields of a kind

-- each offset of the fields of a kind is that of the first word of a declared field of this kind
pub field_at_offset : (kind : Kind) (kinds : List Kind) (offset : ℕ) → Contains (offsets_of_kind kind kinds) offset
    → (i : ℕ) × IsFieldOfKind kind kinds i × (offset ≡ 2 + first_of kinds i)
field_at_offset kind kinds offset there =
    let all : List ℕ = range_with_len 0 (length kinds) in
    let w = Contains-map_some (offset_of kinds) (filter (is_field (is_kind kind) kinds) all) offset there in
    let low : w.0 < length kinds = omega (arith, (in_range 0 (length kinds) w.0 (was_in (is_field (is_kind kind) kinds) all w.0 w.1)).1) in
    let is : is_kind kind (get_or kinds w.0 Plain) ≡ true = has_passed (is_field (is_kind kind) kinds) all w.0 w.1 in
    (w.0, record { low = low; is = same_kind kind (get_or kinds w.0 Plain) is }, omega (arith, w.2, low))

pub offset_of_field : (kind : Kind) (kinds : List Kind) (i : ℕ) → IsFieldOfKind kind kinds i → Contains (offsets_of_kind kind kinds) (2 + first_of kinds i)
offset_of_field kind kinds i field =
    let all : List ℕ = range_with_len 0 (length kinds) in
    let at : offset_of kinds i ≡ 2 + first_of kinds i = omega (arith, field.low) in
    subst (Contains (offsets_of_kind kind kinds)) at
    (Contains-map (offset_of kinds) (filter (is_field (is_kind kind) kinds) all) i
    (stays_in (is_field (is_kind kind) kinds) all i (to_range 0 (length kinds) i (omega arith) (omega (arith, field.low)))
    (ap (is_kind kind) field.is ∙ kind_itself kind)))

-- all words of a field are among those of the fields
pub field_below : (kind : Kind) (kinds : List Kind) (i : ℕ) → IsFieldOfKind kind kinds i → first_of kinds i + words_of_kind kind ≤ field_words kinds
field_below kind kinds i field = omega (arith, sum_by_more_le words_of_kind kinds i Plain field.low, ap words_of_kind field.is)

pub tail_field : (wanted kind : Kind) (kinds : List Kind) (i : ℕ) → IsFieldOfKind wanted (kind ∷ kinds) (suc i) → IsFieldOfKind wanted kinds i
tail_field wanted kind kinds i field = record { low = omega (arith, field.low); is = field.is }

pub later_field : (wanted kind : Kind) (kinds : List Kind) (i : ℕ) → IsFieldOfKind wanted kinds i → IsFieldOfKind wanted (kind ∷ kinds) (suc i)
later_field wanted kind kinds i field = record { low = omega (arith, field.low); is = field.is }

pub other_field : (wanted kind : Kind) (kinds : List Kind) → is_kind wanted kind ≡ false → IsFieldOfKind wanted (kind ∷ kinds) 0 → ⊥
other_field wanted kind kinds other field = true≢false (sym (ap (is_kind wanted) field.is ∙ kind_itself wanted) ∙ other)

-- a word after the first field, seen in all words and in those after it
pub word_after_one : (kind : Kind) (kinds : List Kind) (i n w : ℕ) (words : List ℕ) → words_of_kind kind ≡ 1
    → get_or (w ∷ words) (first_of (kind ∷ kinds) (suc i) + n) 0 ≡ get_or words (first_of kinds i + n) 0
word_after_one kind kinds i n w words one =
    let at : first_of (kind ∷ kinds) (suc i) + n ≡ suc (first_of kinds i + n) = omega (arith, one_more kind kinds i one) in
    ap (λ m. get_or (w ∷ words) m 0) at

pub word_after_two : (kinds : List Kind) (i n k w : ℕ) (words : List ℕ)
    → get_or (k ∷ w ∷ words) (first_of (Pair ∷ kinds) (suc i) + n) 0 ≡ get_or words (first_of kinds i + n) 0
word_after_two kinds i n k w words =
    let at : first_of (Pair ∷ kinds) (suc i) + n ≡ suc (suc (first_of kinds i + n)) = omega (arith, two_more kinds i) in
    ap (λ m. get_or (k ∷ w ∷ words) m 0) at

-- ---- what the words of the strong fields name

-- a strong field whose word names q
pub record NamesIn (kinds : List Kind) (words : List ℕ) (q : ℕ) : Type 0 where
  pub index : ℕ
  pub field : IsFieldOfKind Strong kinds index
  pub word : get_or words (first_of kinds index + 0) 0 ≡ q + 1

after_one : (kind : Kind) (kinds : List Kind) (w : ℕ) (words : List ℕ) (q : ℕ) → words_of_kind kind ≡ 1 → NamesIn kinds words q → NamesIn (kind ∷ kinds) (w ∷ words) q
after_one kind kinds w words q one is = record {
  index = suc is.index;
  field = later_field Strong kind kinds is.index is.field;
  word = word_after_one kind kinds is.index 0 w words one ∙ is.word;
}

after_pair : (kinds : List Kind) (k w : ℕ) (words : List ℕ) (q : ℕ) → NamesIn kinds words q → NamesIn (Pair ∷ kinds) (k ∷ w ∷ words) q
after_pair kinds k w words q is = record {
  index = suc is.index;
  field = later_field Strong Pair kinds is.index is.field;
  word = word_after_two kinds is.index 0 k w words ∙ is.word;
}

no_words : (kinds : List Kind) (q : ℕ) → Contains (strong_targets kinds []) q → ⊥
no_words [] q there = omega (arith, there.1)
no_words (Strong ∷ kinds) q there = omega (arith, there.1)
no_words (Weak ∷ kinds) q there = omega (arith, there.1)
no_words (Pair ∷ kinds) q there = omega (arith, there.1)
no_words (Plain ∷ kinds) q there = omega (arith, there.1)

pub field_of_strong : (kinds : List Kind) (q : ℕ) (words : List ℕ) → Contains (strong_targets kinds (values_in kinds words)) q → NamesIn kinds words q
field_of_strong [] q words there = absurd (omega (arith, there.1))
field_of_strong (Strong ∷ kinds) q [] there = absurd (omega (arith, there.1))
field_of_strong (Weak ∷ kinds) q [] there = absurd (omega (arith, there.1))
field_of_strong (Pair ∷ kinds) q [] there = absurd (omega (arith, there.1))
field_of_strong (Plain ∷ kinds) q [] there = absurd (omega (arith, there.1))
field_of_strong (Strong ∷ kinds) q (zero ∷ words) there = after_one Strong kinds 0 words q refl (field_of_strong kinds q words there)
field_of_strong (Strong ∷ kinds) q (suc p ∷ words) there = elim (Contains-cons_cases p (strong_targets kinds (values_in kinds words)) q there) [
  | inl here ↦ record { index = 0; field = record { low = omega arith; is = refl }; word = (let e : suc p ≡ q + 1 = omega arith in e) }
  | inr later ↦ after_one Strong kinds (suc p) words q refl (field_of_strong kinds q words later)
]
field_of_strong (Weak ∷ kinds) q (w ∷ words) there = after_one Weak kinds w words q refl (field_of_strong kinds q words there)
field_of_strong (Plain ∷ kinds) q (w ∷ words) there = after_one Plain kinds w words q refl (field_of_strong kinds q words there)
field_of_strong (Pair ∷ kinds) q (k ∷ []) there = absurd (no_words kinds q there)
field_of_strong (Pair ∷ kinds) q (k ∷ w ∷ words) there = after_pair kinds k w words q (field_of_strong kinds q words there)

pub strong_of_field : (kinds : List Kind) (q i : ℕ) (words : List ℕ) → IsFieldOfKind Strong kinds i → get_or words (first_of kinds i + 0) 0 ≡ q + 1
    → Contains (strong_targets kinds (values_in kinds words)) q
strong_of_field [] q i words field is = absurd (omega (arith, field.low))
strong_of_field (kind ∷ kinds) q i [] field is = absurd (omega (arith, is))
strong_of_field (Strong ∷ kinds) q zero (zero ∷ words) field is = absurd (omega (arith, is))
strong_of_field (Strong ∷ kinds) q zero (suc p ∷ words) field is =
    subst (Contains (p ∷ strong_targets kinds (values_in kinds words))) (let e : p ≡ q = omega (arith, is) in e) (Contains-head p (strong_targets kinds (values_in kinds words)))
strong_of_field (Strong ∷ kinds) q (suc i) (zero ∷ words) field is =
    strong_of_field kinds q i words (tail_field Strong Strong kinds i field) (sym (word_after_one Strong kinds i 0 0 words refl) ∙ is)
strong_of_field (Strong ∷ kinds) q (suc i) (suc p ∷ words) field is =
    Contains-cons p (strong_targets kinds (values_in kinds words)) q
    (strong_of_field kinds q i words (tail_field Strong Strong kinds i field) (sym (word_after_one Strong kinds i 0 (suc p) words refl) ∙ is))
strong_of_field (Weak ∷ kinds) q zero (w ∷ words) field is = absurd (other_field Strong Weak kinds refl field)
strong_of_field (Weak ∷ kinds) q (suc i) (w ∷ words) field is =
    strong_of_field kinds q i words (tail_field Strong Weak kinds i field) (sym (word_after_one Weak kinds i 0 w words refl) ∙ is)
strong_of_field (Plain ∷ kinds) q zero (w ∷ words) field is = absurd (other_field Strong Plain kinds refl field)
strong_of_field (Plain ∷ kinds) q (suc i) (w ∷ words) field is =
    strong_of_field kinds q i words (tail_field Strong Plain kinds i field) (sym (word_after_one Plain kinds i 0 w words refl) ∙ is)
strong_of_field (Pair ∷ kinds) q zero (k ∷ words) field is = absurd (other_field Strong Pair kinds refl field)
strong_of_field (Pair ∷ kinds) q (suc i) (k ∷ []) field is =
    (let at : first_of (Pair ∷ kinds) (suc i) + 0 ≡ suc (suc (first_of kinds i)) = omega (arith, two_more kinds i) in
    let past : 0 ≡ q + 1 = ap (λ n. get_or (k ∷ []) n 0) (sym at) ∙ is in
    absurd (omega arith))
strong_of_field (Pair ∷ kinds) q (suc i) (k ∷ w ∷ words) field is =
    strong_of_field kinds q i words (tail_field Strong Pair kinds i field) (sym (word_after_two kinds i 0 k w words) ∙ is)
