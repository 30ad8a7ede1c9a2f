-- The first word of each field of a valid object, and the value in it.
use Rattle.std.proofs.Common.{◌≡◌, ℕ, zero, suc, ◌+◌, ◌-◌, ◌<◌, ◌≤◌, List, [], ◌∷◌, length, get_or, take, refl, ap, subst, inl, inr, arith}
use Rattle.std.proofs.lemmas.Bool.{cases_lt}
use Rattle.std.proofs.lemmas.List.{take_all}
use Rattle.std.proofs.lemmas.List.Elements.{All-get_or}
use Rattle.std.proofs.lemmas.List.Sums.{sum_by-cons, sum_by_more_le}
use Rattle.gc_graph.specs.declared.kind.Kind.{Kind}
use Rattle.gc_graph.specs.declared.kind.Kind.TheVariants.{Strong, Weak, Pair, Plain}
use Rattle.gc_graph.specs.declared.kind.Value.{Value}
use Rattle.gc_graph.specs.declared.kind.Value.TheVariants.{Null}
use Rattle.gc_graph.specs.Fields.{words_of_kind, field_words}
use Rattle.gc_graph.specs.Valid.{HaveKinds, IsReferenceBelow, IsPlainWord}

-- the number of a field's first word; the extra words stand after the declared fields
abbrev pub first_word_of_kinds : List Kind → ℕ → ℕ
first_word_of_kinds kinds f = field_words (take f kinds) + (f - length kinds)

pub some_words : (kind : Kind) → 1 ≤ words_of_kind kind
some_words Strong = omega arith
some_words Weak = omega arith
some_words Pair = omega arith
some_words Plain = omega arith

-- the first word of a field is one of the object's
pub first_word_below : (kinds : List Kind) (extra f : ℕ) → f < length kinds + extra → first_word_of_kinds kinds f < field_words kinds + extra
first_word_below kinds extra f low = elim (cases_lt f (length kinds)) [
  | inl declared ↦ omega (arith, sum_by_more_le words_of_kind kinds f Plain declared, some_words (get_or kinds f Plain))
  | inr past ↦ omega (arith, low, ap field_words (take_all f kinds past))
]

-- the value is one that a field of the kind holds
abbrev pub IsOfKind : ℕ → Kind → Value → Type 0
IsOfKind bound Strong value = IsReferenceBelow bound value
IsOfKind bound Weak value = IsReferenceBelow bound value
IsOfKind bound Pair value = IsReferenceBelow bound value
IsOfKind bound Plain value = IsPlainWord value

-- field f's value is of its kind, if it is there
abbrev HasOfKind : ℕ → List Kind → ℕ → List Value → Type 0
HasOfKind bound kinds f values =
    first_word_of_kinds kinds f < length values → IsOfKind bound (get_or kinds f Plain) (get_or values (first_word_of_kinds kinds f) Null)

value_here : (bound : ℕ) (kind : Kind) (kinds : List Kind) (v : Value) (values : List Value) → IsOfKind bound kind v → HasOfKind bound (kind ∷ kinds) 0 (v ∷ values)
value_here bound kind kinds v values is low =
    let first : 0 ≡ first_word_of_kinds (kind ∷ kinds) 0 = omega arith in
    subst (λ n. IsOfKind bound kind (get_or (v ∷ values) n Null)) first is

value_later : (bound : ℕ) (kind : Kind) (kinds : List Kind) (f : ℕ) (v : Value) (values : List Value) → words_of_kind kind ≡ 1 → HasOfKind bound kinds f values
    → HasOfKind bound (kind ∷ kinds) (suc f) (v ∷ values)
value_later bound kind kinds f v values one has low =
    let next : suc (first_word_of_kinds kinds f) ≡ first_word_of_kinds (kind ∷ kinds) (suc f) = omega (arith, sum_by-cons words_of_kind kind (take f kinds), one) in
    subst (λ n. IsOfKind bound (get_or kinds f Plain) (get_or (v ∷ values) n Null)) next (has (omega (arith, low, next)))

value_after_pair : (bound : ℕ) (kinds : List Kind) (f : ℕ) (key v : Value) (values : List Value) → HasOfKind bound kinds f values
    → HasOfKind bound (Pair ∷ kinds) (suc f) (key ∷ v ∷ values)
value_after_pair bound kinds f key v values has low =
    let next : suc (suc (first_word_of_kinds kinds f)) ≡ first_word_of_kinds (Pair ∷ kinds) (suc f) = omega (arith, sum_by-cons words_of_kind Pair (take f kinds)) in
    subst (λ n. IsOfKind bound (get_or kinds f Plain) (get_or (key ∷ v ∷ values) n Null)) next (has (omega (arith, low, next)))

-- where values are of their fields' kinds, the first value of each field is of its kind, if it is there
pub value_of_kind : (bound : ℕ) (kinds : List Kind) (f : ℕ) (values : List Value) → HaveKinds bound kinds values → HasOfKind bound kinds f values
value_of_kind bound [] f values have = λ low. All-get_or IsPlainWord values (first_word_of_kinds [] f) Null low have
value_of_kind bound (Strong ∷ kinds) f [] have = absurd have
value_of_kind bound (Weak ∷ kinds) f [] have = absurd have
value_of_kind bound (Pair ∷ kinds) f [] have = absurd have
value_of_kind bound (Plain ∷ kinds) f [] have = absurd have
value_of_kind bound (Strong ∷ kinds) zero (v ∷ values) have = value_here bound Strong kinds v values have.0
value_of_kind bound (Weak ∷ kinds) zero (v ∷ values) have = value_here bound Weak kinds v values have.0
value_of_kind bound (Plain ∷ kinds) zero (v ∷ values) have = value_here bound Plain kinds v values have.0
value_of_kind bound (Pair ∷ kinds) f (key ∷ []) have = absurd have
value_of_kind bound (Pair ∷ kinds) zero (key ∷ v ∷ values) have = value_here bound Pair kinds key (v ∷ values) have.0
value_of_kind bound (Strong ∷ kinds) (suc f) (v ∷ values) have = value_later bound Strong kinds f v values refl (value_of_kind bound kinds f values have.1)
value_of_kind bound (Weak ∷ kinds) (suc f) (v ∷ values) have = value_later bound Weak kinds f v values refl (value_of_kind bound kinds f values have.1)
value_of_kind bound (Plain ∷ kinds) (suc f) (v ∷ values) have = value_later bound Plain kinds f v values refl (value_of_kind bound kinds f values have.1)
value_of_kind bound (Pair ∷ kinds) (suc f) (key ∷ v ∷ values) have = value_after_pair bound kinds f key v values (value_of_kind bound kinds f values have.3)
