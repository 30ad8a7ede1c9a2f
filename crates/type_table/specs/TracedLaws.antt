-- What traced words tell: all strong fields, all pairs, and nothing else.
use Rattle.std.proofs.Common.{◌≡◌, ℕ, zero, suc, ◌+◌, ◌-◌, Bool, true, false, cond, List, [], ◌∷◌, length, get_or, take, map, refl, ap, ◌∙◌, subst, inl, inr, arith}
use Rattle.std.specs.List.{Contains, filter, range_with_len}
use Rattle.std.proofs.lemmas.List.Sums.{sum_by-cons}
use Rattle.gc_graph.specs.declared.kind.Kind.{Kind}
use Rattle.gc_graph.specs.declared.kind.Kind.TheVariants.{Strong, Weak, Pair, Plain}
use Rattle.gc_graph.specs.Fields.{words_of_kind, field_words}
use Rattle.gc_graph.specs.Members.{Contains-cons, Contains-head, Contains-cons_cases}
use Rattle.type_table.specs.Types.{is_field, is_kind, offsets_of_kind}
use Rattle.type_table.specs.declared.traced.TracedWord.{TracedWord}
use Rattle.type_table.specs.declared.traced.TracedWord.TheVariants.{StrongAt, PairAt}
use Rattle.type_table.specs.TracedWords.{traced_from, traced_words_of, offset_in, strong_among, pairs_among}

-- ---- the offsets of the fields that pass a test, field by field

-- those of kinds of which the first begins at the offset
abbrev offsets_from : (Kind → Bool) → ℕ → List Kind → List ℕ
offsets_from is_so offset [] = []
offsets_from is_so offset (kind ∷ kinds) =
    cond (is_so kind) (offset ∷ offsets_from is_so (offset + words_of_kind kind) kinds) (offsets_from is_so (offset + words_of_kind kind) kinds)

-- where a field begins, the first one of these at the offset
abbrev begins : ℕ → List Kind → ℕ → ℕ
begins offset kinds field = offset + (field_words (take field kinds) + (field - length kinds))

one_later : (offset : ℕ) (kind : Kind) (kinds : List Kind) (field : ℕ) → begins offset (kind ∷ kinds) (suc field) ≡ begins (offset + words_of_kind kind) kinds field
one_later offset kind kinds field = omega (arith, sum_by-cons words_of_kind kind (take field kinds))

same_choice : (b : Bool) (f : ℕ → ℕ) (x y : ℕ) (xs ys : List ℕ) → f x ≡ y → map f xs ≡ ys → map f (cond b (x ∷ xs) xs) ≡ cond b (y ∷ ys) ys
same_choice true f x y xs ys head rest = ap (λ z. z ∷ map f xs) head ∙ ap (λ zs. y ∷ zs) rest
same_choice false f x y xs ys head rest = rest

mapped_choice : (b : Bool) (f : ℕ → ℕ) (x : ℕ) (xs : List ℕ) → cond b (f x ∷ map f xs) (map f xs) ≡ map f (cond b (x ∷ xs) xs)
mapped_choice true f x xs = refl
mapped_choice false f x xs = refl

one_more : (is_so : Kind → Bool) (offset : ℕ) (kind : Kind) (kinds : List Kind) (first n : ℕ)
    → map (begins offset (kind ∷ kinds)) (filter (is_field is_so (kind ∷ kinds)) (range_with_len (suc first) n))
    ≡ map (begins (offset + words_of_kind kind) kinds) (filter (is_field is_so kinds) (range_with_len first n))
one_more is_so offset kind kinds first zero = refl
one_more is_so offset kind kinds first (suc n) =
    let f : ℕ → ℕ = begins (offset + words_of_kind kind) kinds in
    let rest : List ℕ = filter (is_field is_so kinds) (range_with_len (first + 1) n) in
    let next : suc first + 1 ≡ suc (first + 1) = omega arith in
    ap (λ m. map (begins offset (kind ∷ kinds)) (filter (is_field is_so (kind ∷ kinds)) (suc first ∷ range_with_len m n))) next
    ∙ same_choice (is_so (get_or kinds first Plain)) (begins offset (kind ∷ kinds)) (suc first) (f first)
    (filter (is_field is_so (kind ∷ kinds)) (range_with_len (suc (first + 1)) n)) (map f rest) (one_later offset kind kinds first)
    (one_more is_so offset kind kinds (first + 1) n)
    ∙ mapped_choice (is_so (get_or kinds first Plain)) f first rest

in_turn : (is_so : Kind → Bool) (offset : ℕ) (kinds : List Kind)
    → map (begins offset kinds) (filter (is_field is_so kinds) (range_with_len 0 (length kinds))) ≡ offsets_from is_so offset kinds
in_turn is_so offset [] = refl
in_turn is_so offset (kind ∷ kinds) =
    let at : begins offset (kind ∷ kinds) 0 ≡ offset = omega arith in
    same_choice (is_so kind) (begins offset (kind ∷ kinds)) 0 offset (filter (is_field is_so (kind ∷ kinds)) (range_with_len 1 (length kinds)))
    (offsets_from is_so (offset + words_of_kind kind) kinds) at
    (one_more is_so offset kind kinds 0 (length kinds) ∙ in_turn is_so (offset + words_of_kind kind) kinds)

-- ---- strong fields and pairs among the traced words

strong_in_turn : (offset : ℕ) (kinds : List Kind) → offsets_from (is_kind Strong) offset kinds ≡ strong_among (traced_from offset kinds)
strong_in_turn offset [] = refl
strong_in_turn offset (Strong ∷ kinds) = ap (λ xs. offset ∷ xs) (strong_in_turn (offset + 1) kinds)
strong_in_turn offset (Weak ∷ kinds) = strong_in_turn (offset + 1) kinds
strong_in_turn offset (Pair ∷ kinds) = strong_in_turn (offset + 2) kinds
strong_in_turn offset (Plain ∷ kinds) = strong_in_turn (offset + 1) kinds

pairs_in_turn : (offset : ℕ) (kinds : List Kind) → offsets_from (is_kind Pair) offset kinds ≡ pairs_among (traced_from offset kinds)
pairs_in_turn offset [] = refl
pairs_in_turn offset (Strong ∷ kinds) = pairs_in_turn (offset + 1) kinds
pairs_in_turn offset (Weak ∷ kinds) = pairs_in_turn (offset + 1) kinds
pairs_in_turn offset (Pair ∷ kinds) = ap (λ xs. offset ∷ xs) (pairs_in_turn (offset + 2) kinds)
pairs_in_turn offset (Plain ∷ kinds) = pairs_in_turn (offset + 1) kinds

-- the offsets of the declared strong fields are those of the strong fields among the traced words, in their order
pub strong_told : (kinds : List Kind) → offsets_of_kind Strong kinds ≡ strong_among (traced_words_of kinds)
strong_told kinds = in_turn (is_kind Strong) 2 kinds ∙ strong_in_turn 2 kinds

-- the offsets of the declared pairs are those of the pairs among the traced words, in their order
pub pairs_told : (kinds : List Kind) → offsets_of_kind Pair kinds ≡ pairs_among (traced_words_of kinds)
pairs_told kinds = in_turn (is_kind Pair) 2 kinds ∙ pairs_in_turn 2 kinds

-- without pairs, all traced words are strong fields
pub all_strong : (words : List TracedWord) → pairs_among words ≡ [] → map offset_in words ≡ strong_among words
all_strong [] none = refl
all_strong (StrongAt offset ∷ words) none = ap (λ xs. offset ∷ xs) (all_strong words none)
all_strong (PairAt offset ∷ words) none = absurd (omega (arith, ap length none))

-- the offset of each strong field among traced words is one of their strong offsets
pub strong_there : (words : List TracedWord) (offset : ℕ) → Contains words (StrongAt offset) → Contains (strong_among words) offset
strong_there [] offset there = absurd (omega (arith, there.1))
strong_there (StrongAt first ∷ words) offset there = elim (Contains-cons_cases (StrongAt first) words (StrongAt offset) there) [
  | inl here ↦ (let same : first ≡ offset = cc in subst (Contains (first ∷ strong_among words)) same (Contains-head first (strong_among words)))
  | inr later ↦ Contains-cons first (strong_among words) offset (strong_there words offset later)
]
strong_there (PairAt first ∷ words) offset there = elim (Contains-cons_cases (PairAt first) words (StrongAt offset) there) [
  | inl here ↦ cc
  | inr later ↦ strong_there words offset later
]

-- each of the strong offsets of traced words is that of a strong field among them
pub strong_back : (words : List TracedWord) (offset : ℕ) → Contains (strong_among words) offset → Contains words (StrongAt offset)
strong_back [] offset there = absurd (omega (arith, there.1))
strong_back (StrongAt first ∷ words) offset there = elim (Contains-cons_cases first (strong_among words) offset there) [
  | inl here ↦ subst (λ x. Contains (StrongAt first ∷ words) (StrongAt x)) here (Contains-head (StrongAt first) words)
  | inr later ↦ Contains-cons (StrongAt first) words (StrongAt offset) (strong_back words offset later)
]
strong_back (PairAt first ∷ words) offset there = Contains-cons (PairAt first) words (StrongAt offset) (strong_back words offset there)

-- the offset of each pair among traced words is one of their pairs' offsets
pub pair_there : (words : List TracedWord) (offset : ℕ) → Contains words (PairAt offset) → Contains (pairs_among words) offset
pair_there [] offset there = absurd (omega (arith, there.1))
pair_there (PairAt first ∷ words) offset there = elim (Contains-cons_cases (PairAt first) words (PairAt offset) there) [
  | inl here ↦ (let same : first ≡ offset = cc in subst (Contains (first ∷ pairs_among words)) same (Contains-head first (pairs_among words)))
  | inr later ↦ Contains-cons first (pairs_among words) offset (pair_there words offset later)
]
pair_there (StrongAt first ∷ words) offset there = elim (Contains-cons_cases (StrongAt first) words (PairAt offset) there) [
  | inl here ↦ cc
  | inr later ↦ pair_there words offset later
]

-- each of the pairs' offsets of traced words is that of a pair among them
pub pair_back : (words : List TracedWord) (offset : ℕ) → Contains (pairs_among words) offset → Contains words (PairAt offset)
pair_back [] offset there = absurd (omega (arith, there.1))
pair_back (PairAt first ∷ words) offset there = elim (Contains-cons_cases first (pairs_among words) offset there) [
  | inl here ↦ subst (λ x. Contains (PairAt first ∷ words) (PairAt x)) here (Contains-head (PairAt first) words)
  | inr later ↦ Contains-cons (PairAt first) words (PairAt offset) (pair_back words offset later)
]
pair_back (StrongAt first ∷ words) offset there = Contains-cons (StrongAt first) words (PairAt offset) (pair_back words offset there)
