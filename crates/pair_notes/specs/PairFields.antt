-- What the words of pairs name.
use Rattle.std.proofs.Common.{◌≡◌, ℕ, zero, suc, ◌+◌, List, [], ◌∷◌, get_or, refl, sym, ap, ◌∙◌, subst, inl, inr, arith}
use Rattle.std.specs.List.{Contains}
use Rattle.gc_graph.specs.declared.kind.Kind.{Kind}
use Rattle.gc_graph.specs.declared.kind.Kind.TheVariants.{Strong, Weak, Pair, Plain}
use Rattle.gc_graph.specs.declared.kind.Value.{Value}
use Rattle.gc_graph.specs.declared.kind.Value.TheVariants.{Null, Ref, Word}
use Rattle.gc_graph.specs.Graph.{pair_targets}
use Rattle.gc_graph.specs.Fields.{words_of_kind}
use Rattle.pair_notes.specs.BodyGraph.{values_in}
use Rattle.gc_graph.specs.Members.{Contains-cons_cases, Contains-cons, Contains-head}
use Rattle.pair_notes.specs.Fields.{first_of, IsFieldOfKind, later_field, tail_field, other_field, word_after_one, word_after_two, two_more}

-- a pair whose words name k and q
pub record PairsIn (kinds : List Kind) (words : List ℕ) (k q : ℕ) : Type 0 where
  pub index : ℕ
  pub field : IsFieldOfKind Pair kinds index
  pub key : get_or words (first_of kinds index + 0) 0 ≡ k + 1
  pub value : get_or words (first_of kinds index + 1) 0 ≡ q + 1

after_one : (kind : Kind) (kinds : List Kind) (w : ℕ) (words : List ℕ) (k q : ℕ) → words_of_kind kind ≡ 1 → PairsIn kinds words k q
    → PairsIn (kind ∷ kinds) (w ∷ words) k q
after_one kind kinds w words k q one is = record {
  index = suc is.index;
  field = later_field Pair kind kinds is.index is.field;
  key = word_after_one kind kinds is.index 0 w words one ∙ is.key;
  value = word_after_one kind kinds is.index 1 w words one ∙ is.value;
}

after_pair : (kinds : List Kind) (u w : ℕ) (words : List ℕ) (k q : ℕ) → PairsIn kinds words k q → PairsIn (Pair ∷ kinds) (u ∷ w ∷ words) k q
after_pair kinds u w words k q is = record {
  index = suc is.index;
  field = later_field Pair Pair kinds is.index is.field;
  key = word_after_two kinds is.index 0 u w words ∙ is.key;
  value = word_after_two kinds is.index 1 u w words ∙ is.value;
}

no_values : (kinds : List Kind) (k q : ℕ) → Contains (pair_targets kinds []) (k, q) → ⊥
no_values [] k q there = omega (arith, there.1)
no_values (Strong ∷ kinds) k q there = omega (arith, there.1)
no_values (Weak ∷ kinds) k q there = omega (arith, there.1)
no_values (Pair ∷ kinds) k q there = omega (arith, there.1)
no_values (Plain ∷ kinds) k q there = omega (arith, there.1)

alone : (v : Value) (kinds : List Kind) (k n : ℕ) → Contains (pair_targets (Pair ∷ kinds) (v ∷ [])) (k, n) → Contains (pair_targets kinds []) (k, n)
alone Null kinds k n there = there
alone (Ref m) kinds k n there = there
alone (Word w) kinds k n there = there

pub field_of_pair : (kinds : List Kind) (k q : ℕ) (words : List ℕ) → Contains (pair_targets kinds (values_in kinds words)) (k, q) → PairsIn kinds words k q
field_of_pair [] k q words there = absurd (omega (arith, there.1))
field_of_pair (Strong ∷ kinds) k q [] there = absurd (omega (arith, there.1))
field_of_pair (Weak ∷ kinds) k q [] there = absurd (omega (arith, there.1))
field_of_pair (Pair ∷ kinds) k q [] there = absurd (omega (arith, there.1))
field_of_pair (Plain ∷ kinds) k q [] there = absurd (omega (arith, there.1))
field_of_pair (Strong ∷ kinds) k q (w ∷ words) there = after_one Strong kinds w words k q refl (field_of_pair kinds k q words there)
field_of_pair (Weak ∷ kinds) k q (w ∷ words) there = after_one Weak kinds w words k q refl (field_of_pair kinds k q words there)
field_of_pair (Plain ∷ kinds) k q (w ∷ words) there = after_one Plain kinds w words k q refl (field_of_pair kinds k q words there)
field_of_pair (Pair ∷ kinds) k q (zero ∷ []) there = absurd (no_values kinds k q there)
field_of_pair (Pair ∷ kinds) k q (suc u ∷ []) there = absurd (no_values kinds k q there)
field_of_pair (Pair ∷ kinds) k q (zero ∷ zero ∷ words) there = after_pair kinds 0 0 words k q (field_of_pair kinds k q words there)
field_of_pair (Pair ∷ kinds) k q (zero ∷ suc w ∷ words) there = after_pair kinds 0 (suc w) words k q (field_of_pair kinds k q words there)
field_of_pair (Pair ∷ kinds) k q (suc u ∷ zero ∷ words) there = after_pair kinds (suc u) 0 words k q (field_of_pair kinds k q words there)
field_of_pair (Pair ∷ kinds) k q (suc u ∷ suc w ∷ words) there =
    elim (Contains-cons_cases (u, w) (pair_targets kinds (values_in kinds words)) (k, q) there) [
      | inl here ↦ record {
        index = 0;
        field = record { low = omega arith; is = refl };
        key = (let e : u ≡ k = ap (λ (p : ℕ × ℕ). p.0) here in let s : suc u ≡ k + 1 = omega arith in s);
        value = (let e : w ≡ q = ap (λ (p : ℕ × ℕ). p.1) here in let s : suc w ≡ q + 1 = omega arith in s);
      }
      | inr later ↦ after_pair kinds (suc u) (suc w) words k q (field_of_pair kinds k q words later)
    ]

-- a declared pair whose two words name objects is a pair edge with these as its key and its value
pub pair_of_field : (kinds : List Kind) (k q i : ℕ) (words : List ℕ) → IsFieldOfKind Pair kinds i → get_or words (first_of kinds i + 0) 0 ≡ k + 1
    → get_or words (first_of kinds i + 1) 0 ≡ q + 1 → Contains (pair_targets kinds (values_in kinds words)) (k, q)
pair_of_field [] k q i words field key value = absurd (omega (arith, field.low))
pair_of_field (kind ∷ kinds) k q i [] field key value = absurd (omega (arith, key))
pair_of_field (Strong ∷ kinds) k q zero (w ∷ words) field key value = absurd (other_field Pair Strong kinds refl field)
pair_of_field (Weak ∷ kinds) k q zero (w ∷ words) field key value = absurd (other_field Pair Weak kinds refl field)
pair_of_field (Plain ∷ kinds) k q zero (w ∷ words) field key value = absurd (other_field Pair Plain kinds refl field)
pair_of_field (Strong ∷ kinds) k q (suc i) (w ∷ words) field key value = pair_of_field kinds k q i words (tail_field Pair Strong kinds i field)
    (sym (word_after_one Strong kinds i 0 w words refl) ∙ key) (sym (word_after_one Strong kinds i 1 w words refl) ∙ value)
pair_of_field (Weak ∷ kinds) k q (suc i) (w ∷ words) field key value = pair_of_field kinds k q i words (tail_field Pair Weak kinds i field)
    (sym (word_after_one Weak kinds i 0 w words refl) ∙ key) (sym (word_after_one Weak kinds i 1 w words refl) ∙ value)
pair_of_field (Plain ∷ kinds) k q (suc i) (w ∷ words) field key value = pair_of_field kinds k q i words (tail_field Pair Plain kinds i field)
    (sym (word_after_one Plain kinds i 0 w words refl) ∙ key) (sym (word_after_one Plain kinds i 1 w words refl) ∙ value)
pair_of_field (Pair ∷ kinds) k q zero (zero ∷ words) field key value = absurd (omega (arith, key))
pair_of_field (Pair ∷ kinds) k q zero (suc u ∷ []) field key value = absurd (omega (arith, value))
pair_of_field (Pair ∷ kinds) k q zero (suc u ∷ zero ∷ words) field key value = absurd (omega (arith, value))
pair_of_field (Pair ∷ kinds) k q zero (suc u ∷ suc w ∷ words) field key value =
    let all : List (ℕ × ℕ) = (u, w) ∷ pair_targets kinds (values_in kinds words) in
    let a : u ≡ k = omega (arith, key) in
    let b : w ≡ q = omega (arith, value) in
    subst (λ x. Contains all (x, q)) a (subst (λ y. Contains all (u, y)) b (Contains-head (u, w) (pair_targets kinds (values_in kinds words))))
pair_of_field (Pair ∷ kinds) k q (suc i) (u ∷ []) field key value =
    (let at : first_of (Pair ∷ kinds) (suc i) + 0 ≡ suc (suc (first_of kinds i)) = omega (arith, two_more kinds i) in
    let past : 0 ≡ k + 1 = ap (λ n. get_or (u ∷ []) n 0) (sym at) ∙ key in
    absurd (omega arith))
pair_of_field (Pair ∷ kinds) k q (suc i) (zero ∷ zero ∷ words) field key value = pair_of_field kinds k q i words (tail_field Pair Pair kinds i field)
    (sym (word_after_two kinds i 0 0 0 words) ∙ key) (sym (word_after_two kinds i 1 0 0 words) ∙ value)
pair_of_field (Pair ∷ kinds) k q (suc i) (zero ∷ suc w ∷ words) field key value = pair_of_field kinds k q i words (tail_field Pair Pair kinds i field)
    (sym (word_after_two kinds i 0 0 (suc w) words) ∙ key) (sym (word_after_two kinds i 1 0 (suc w) words) ∙ value)
pair_of_field (Pair ∷ kinds) k q (suc i) (suc u ∷ zero ∷ words) field key value = pair_of_field kinds k q i words (tail_field Pair Pair kinds i field)
    (sym (word_after_two kinds i 0 (suc u) 0 words) ∙ key) (sym (word_after_two kinds i 1 (suc u) 0 words) ∙ value)
pair_of_field (Pair ∷ kinds) k q (suc i) (suc u ∷ suc w ∷ words) field key value =
    Contains-cons (u, w) (pair_targets kinds (values_in kinds words)) (k, q) (pair_of_field kinds k q i words (tail_field Pair Pair kinds i field)
    (sym (word_after_two kinds i 0 (suc u) (suc w) words) ∙ key) (sym (word_after_two kinds i 1 (suc u) (suc w) words) ∙ value))
