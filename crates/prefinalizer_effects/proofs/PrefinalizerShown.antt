-- What a prefinalizer is shown of a node and of its body alike.
use Rattle.std.proofs.Common.{◌≡◌, ℕ, suc, ◌+◌, false, eqb, List, [], ◌∷◌, map, take, refl, sym, ap, ◌∙◌, arith}
use Rattle.std.proofs.lemmas.Bool.{cond-false, eqb-true, false_from_ne_true}
use Rattle.std.proofs.lemmas.List.{take-map}
use Rattle.std.proofs.lemmas.List.Sums.{sum_by-cons}
use Rattle.gc_graph.specs.declared.kind.Kind.{Kind}
use Rattle.gc_graph.specs.declared.kind.Kind.TheVariants.{Strong, Weak, Pair, Plain}
use Rattle.gc_graph.specs.declared.kind.Value.{Value}
use Rattle.gc_graph.specs.declared.kind.Value.TheVariants.{Null, Ref, Word}
use Rattle.gc_graph.specs.State.{Setup, Node}
use Rattle.gc_graph.specs.Fields.{words_of_kind, field_words}
use Rattle.gc_graph.specs.Valid.{IsReferenceBelow, IsPlainWord, HaveKinds, IsTyped}
use Rattle.gc_graph.specs.Actions as graph
use Rattle.type_table.specs.Layouts.{kinds_of_words}
use Rattle.prefinalizer_effects.specs.Shown as words
use Rattle.nodes_in_words.specs.Nodes.{word_of, body_of}

module _ (place : ℕ → ℕ) where
  shown_reference : (bound : ℕ) (x : Value) → IsReferenceBelow bound x → graph.shown x ≡ words.shown_reference (word_of place x)
  shown_reference bound Null is = refl
  shown_reference bound (Ref n) is =
      let some : eqb (place n + 1) 0 ≡ false = false_from_ne_true (eqb (place n + 1) 0) (λ null. absurd (omega (arith, eqb-true (place n + 1) 0 null))) in
      sym (cond-false (eqb (place n + 1) 0) 0 1 some)
  shown_reference bound (Word w) is = absurd is

  shown_plain : (x : Value) → IsPlainWord x → graph.shown x ≡ word_of place x
  shown_plain Null is = absurd is
  shown_plain (Ref n) is = absurd is
  shown_plain (Word w) is = refl

  shown_kinds : (bound : ℕ) (kinds : List Kind) (values : List Value) → HaveKinds bound kinds values
      → map graph.shown (take (field_words kinds) values) ≡ words.shown_of_kinds (kinds_of_words kinds) (map (word_of place) values)
  shown_kinds bound [] values have = refl
  shown_kinds bound (Strong ∷ kinds) [] have = absurd have
  shown_kinds bound (Weak ∷ kinds) [] have = absurd have
  shown_kinds bound (Pair ∷ kinds) [] have = absurd have
  shown_kinds bound (Plain ∷ kinds) [] have = absurd have
  shown_kinds bound (Pair ∷ kinds) (x ∷ []) have = absurd have
  shown_kinds bound (Strong ∷ kinds) (x ∷ values) have =
      let count : field_words (Strong ∷ kinds) ≡ suc (field_words kinds) = omega (arith, sum_by-cons words_of_kind Strong kinds) in
      ap (λ n. map graph.shown (take n (x ∷ values))) count
      ∙ ap (λ w. w ∷ map graph.shown (take (field_words kinds) values)) (shown_reference bound x have.0)
      ∙ ap (λ ws. words.shown_reference (word_of place x) ∷ ws) (shown_kinds bound kinds values have.1)
  shown_kinds bound (Weak ∷ kinds) (x ∷ values) have =
      let count : field_words (Weak ∷ kinds) ≡ suc (field_words kinds) = omega (arith, sum_by-cons words_of_kind Weak kinds) in
      ap (λ n. map graph.shown (take n (x ∷ values))) count
      ∙ ap (λ w. w ∷ map graph.shown (take (field_words kinds) values)) (shown_reference bound x have.0)
      ∙ ap (λ ws. words.shown_reference (word_of place x) ∷ ws) (shown_kinds bound kinds values have.1)
  shown_kinds bound (Plain ∷ kinds) (x ∷ values) have =
      let count : field_words (Plain ∷ kinds) ≡ suc (field_words kinds) = omega (arith, sum_by-cons words_of_kind Plain kinds) in
      ap (λ n. map graph.shown (take n (x ∷ values))) count
      ∙ ap (λ w. w ∷ map graph.shown (take (field_words kinds) values)) (shown_plain x have.0)
      ∙ ap (λ ws. word_of place x ∷ ws) (shown_kinds bound kinds values have.1)
  shown_kinds bound (Pair ∷ kinds) (x ∷ y ∷ values) have =
      let count : field_words (Pair ∷ kinds) ≡ suc (suc (field_words kinds)) = omega (arith, sum_by-cons words_of_kind Pair kinds) in
      ap (λ n. map graph.shown (take n (x ∷ y ∷ values))) count
      ∙ ap (λ w. w ∷ graph.shown y ∷ map graph.shown (take (field_words kinds) values)) (shown_reference bound x have.0)
      ∙ ap (λ w. words.shown_reference (word_of place x) ∷ w ∷ map graph.shown (take (field_words kinds) values)) (shown_reference bound y have.1)
      ∙ ap (λ ws. words.shown_reference (word_of place x) ∷ words.shown_reference (word_of place y) ∷ ws) (shown_kinds bound kinds values have.3)

  -- a prefinalizer is shown the same of a node and of its body
  pub shown_body : (setup : Setup) (bound n : ℕ) (node : Node) → IsTyped setup bound node
      → graph.shown_words node ≡ words.shown_body_words setup.types (body_of place n node)
  shown_body setup bound n node typed =
      sym (take-map graph.shown 64 (take (field_words node.object.kinds) node.object.values))
      ∙ ap (take 64) (shown_kinds bound node.object.kinds node.object.values typed.values_are)
      ∙ ap (λ kinds. take 64 (words.shown_of_kinds (kinds_of_words kinds) (map (word_of place) node.object.values))) typed.kinds_are
