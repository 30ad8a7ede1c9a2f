-- The graph of the bodies is that of the nodes, with places in place of numbers.
use Rattle.std.proofs.Common.{◌≡◌, ℕ, suc, ◌+◌, Bool, List, [], ◌∷◌, map, refl, sym, ap, ◌∙◌, subst, arith}
use Rattle.std.specs.List.{All}
use Rattle.std.proofs.lemmas.List.Elements.{All-head, All-tail}
use Rattle.gc_graph.specs.declared.kind.Kind.{Kind}
use Rattle.gc_graph.specs.declared.kind.Kind.TheVariants.{Strong, Weak, Pair, Plain}
use Rattle.gc_graph.specs.declared.kind.Value.{Value}
use Rattle.gc_graph.specs.declared.kind.Value.TheVariants.{Null, Ref, Word}
use Rattle.gc_graph.specs.Graph.{Object}
use Rattle.gc_graph.specs.State.{Setup, Node}
use Rattle.gc_graph.specs.Valid.{IsTyped, HaveKinds, IsReferenceBelow, IsPlainWord}
use Rattle.gc_graph.specs.Leading.{IsLed}
use Rattle.pair_notes.specs.BodyGraph.{reference_in, values_in, object_in}
use Rattle.nodes_in_words.specs.Nodes.{word_of, body_of}
use Rattle.nodes_in_words.specs.BodyGraph.{renamed, renamed_object}

reference_told : (f : ℕ → ℕ) (bound : ℕ) (v : Value) → IsReferenceBelow bound v → reference_in (word_of f v) ≡ renamed f v
reference_told f bound Null is = refl
reference_told f bound (Ref n) is = ap reference_in (let e : f n + 1 ≡ suc (f n) = omega arith in e)
reference_told f bound (Word w) is = absurd is

word_told : (f : ℕ → ℕ) (v : Value) → IsPlainWord v → Word (word_of f v) ≡ renamed f v
word_told f Null is = absurd is
word_told f (Ref n) is = absurd is
word_told f (Word w) is = refl

extra_told : (f : ℕ → ℕ) (values : List Value) → All IsPlainWord values → map (λ w. Word w) (map (word_of f) values) ≡ map (renamed f) values
extra_told f [] plain = refl
extra_told f (v ∷ values) plain =
    ap (λ x. x ∷ map (λ w. Word w) (map (word_of f) values)) (word_told f v (All-head IsPlainWord v values plain))
    ∙ ap (λ xs. renamed f v ∷ xs) (extra_told f values (All-tail IsPlainWord v values plain))

-- the words of values of these kinds stand for the values, with places in place of numbers
pub values_told : (f : ℕ → ℕ) (bound : ℕ) (kinds : List Kind) (values : List Value) → HaveKinds bound kinds values → values_in kinds (map (word_of f) values) ≡ map (renamed f) values
values_told f bound [] values have = extra_told f values have
values_told f bound (Strong ∷ kinds) [] have = absurd have
values_told f bound (Weak ∷ kinds) [] have = absurd have
values_told f bound (Pair ∷ kinds) [] have = absurd have
values_told f bound (Plain ∷ kinds) [] have = absurd have
values_told f bound (Strong ∷ kinds) (v ∷ values) have =
    ap (λ x. x ∷ values_in kinds (map (word_of f) values)) (reference_told f bound v have.0) ∙ ap (λ xs. renamed f v ∷ xs) (values_told f bound kinds values have.1)
values_told f bound (Weak ∷ kinds) (v ∷ values) have =
    ap (λ x. x ∷ values_in kinds (map (word_of f) values)) (reference_told f bound v have.0) ∙ ap (λ xs. renamed f v ∷ xs) (values_told f bound kinds values have.1)
values_told f bound (Plain ∷ kinds) (v ∷ values) have =
    ap (λ x. x ∷ values_in kinds (map (word_of f) values)) (word_told f v have.0) ∙ ap (λ xs. renamed f v ∷ xs) (values_told f bound kinds values have.1)
values_told f bound (Pair ∷ kinds) (key ∷ []) have = absurd have
values_told f bound (Pair ∷ kinds) (key ∷ v ∷ values) have =
    ap (λ x. x ∷ reference_in (word_of f v) ∷ values_in kinds (map (word_of f) values)) (reference_told f bound key have.0)
    ∙ ap (λ x. renamed f key ∷ x ∷ values_in kinds (map (word_of f) values)) (reference_told f bound v have.1)
    ∙ ap (λ xs. renamed f key ∷ renamed f v ∷ xs) (values_told f bound kinds values have.3)

-- the object with these kinds and values
abbrev told_object : Object → List Kind → List Value → Object
told_object o kinds values = record o { kinds = kinds; values = values }

-- both ways, for fields of all kinds
pub node_led : (setup : Setup) (f : ℕ → ℕ) (bound n : ℕ) (node : Node) (test : ℕ → Bool) (q : ℕ) → IsTyped setup bound node
    → IsLed test (object_in setup.types (body_of f n node)) q → IsLed test (renamed_object f node.object) q
node_led setup f bound n node test q typed led =
    subst (λ vs. IsLed test (told_object node.object node.object.kinds vs) q) (values_told f bound node.object.kinds node.object.values typed.values_are)
    (subst (λ ks. IsLed test (told_object node.object ks (values_in ks (map (word_of f) node.object.values))) q) (sym typed.kinds_are) led)

pub led_node : (setup : Setup) (f : ℕ → ℕ) (bound n : ℕ) (node : Node) (test : ℕ → Bool) (q : ℕ) → IsTyped setup bound node
    → IsLed test (renamed_object f node.object) q → IsLed test (object_in setup.types (body_of f n node)) q
led_node setup f bound n node test q typed led =
    subst (λ ks. IsLed test (told_object node.object ks (values_in ks (map (word_of f) node.object.values))) q) typed.kinds_are
    (subst (λ vs. IsLed test (told_object node.object node.object.kinds vs) q) (sym (values_told f bound node.object.kinds node.object.values typed.values_are)) led)
