-- Where the words of a field stand among those of an object, and what a command found of a field.
use Rattle.std.proofs.Common.{◌≡◌, ℕ, zero, suc, ◌+◌, ◌<◌, ◌≤◌, Bool, true, false, true≢false, List, [], ◌∷◌, length, get_or, Option, Some, None, sym, subst, arith, MatchBool, MatchOption}
use Rattle.std.proofs.lemmas.Bool.{lt-ltb}
use Rattle.std.proofs.lemmas.List.Sums.{sum_by-cons}
use Rattle.gc_graph.specs.declared.kind.Kind.{Kind}
use Rattle.gc_graph.specs.declared.kind.Kind.TheVariants.{Strong, Weak, Pair, Plain}
use Rattle.gc_graph.specs.declared.line.Line.{Line}
use Rattle.gc_graph.specs.declared.line.Line.TheVariants as L
use Rattle.gc_graph.specs.State.{State, Setup, Node, node_at}
use Rattle.gc_graph.specs.Fields.{words_of_kind, field_words, field_count, kind_of_field, word_of_field}
use Rattle.gc_graph.specs.Outcomes.{slot_at}
use Rattle.gc_graph.specs.ObjectSteps.{AtField}
use Rattle.gc_graph.specs.Valid.{IsTyped}
use Rattle.gc_graph.proofs.Shapes.{word_at, word_at_is}
use Rattle.gc_graph.proofs.ValidCases.{IsFound, field_is}

-- ---- the words of a field

words_fit : (kinds : List Kind) (f extra : ℕ) → f < length kinds + extra
    → word_at kinds f + words_of_kind (get_or kinds f Plain) ≤ field_words kinds + extra
words_fit [] f extra l = omega arith
words_fit (Strong ∷ kinds) zero extra l = omega (arith, sum_by-cons words_of_kind Strong kinds)
words_fit (Weak ∷ kinds) zero extra l = omega (arith, sum_by-cons words_of_kind Weak kinds)
words_fit (Pair ∷ kinds) zero extra l = omega (arith, sum_by-cons words_of_kind Pair kinds)
words_fit (Plain ∷ kinds) zero extra l = omega (arith, sum_by-cons words_of_kind Plain kinds)
words_fit (Strong ∷ kinds) (suc f) extra l = omega (arith, sum_by-cons words_of_kind Strong kinds, words_fit kinds f extra (omega arith))
words_fit (Weak ∷ kinds) (suc f) extra l = omega (arith, sum_by-cons words_of_kind Weak kinds, words_fit kinds f extra (omega arith))
words_fit (Pair ∷ kinds) (suc f) extra l = omega (arith, sum_by-cons words_of_kind Pair kinds, words_fit kinds f extra (omega arith))
words_fit (Plain ∷ kinds) (suc f) extra l = omega (arith, sum_by-cons words_of_kind Plain kinds, words_fit kinds f extra (omega arith))

-- the words of a field of a typed object lie within it
pub words_within : (setup : Setup) (bound : ℕ) (node : Node) (f : ℕ) → IsTyped setup bound node → f < field_count node
    → word_of_field node.object f + words_of_kind (kind_of_field node.object f) ≤ length node.object.values
words_within setup bound node f typed l =
    omega (arith, typed.count, word_at_is node.object.kinds f, words_fit node.object.kinds f node.object.extra l)

-- ---- a field that was found

pub ok_field : (allowed : Kind → Bool) (old new : State) (p f : ℕ) (Done : ℕ → Type 0) → AtField allowed old p f (L.Fine ∷ []) new Done
    → (n : ℕ) × IsFound allowed old p f n × Done n
ok_field allowed old new p f Done h =
    field_is allowed old new p f (L.Fine ∷ []) Done ((n : ℕ) × IsFound allowed old p f n × Done n) (λ n found d. (n, found, d))
    (λ why r. (let e = r.0 in absurd cc)) h

pub when : (test : Bool) (A B : Type 0) → test ≡ true → MatchBool test A B → A
when true A B e h = h
when false A B e h = absurd (true≢false (sym e))

pub unless : (test : Bool) (A B : Type 0) → test ≡ false → MatchBool test A B → B
unless true A B e h = absurd (true≢false e)
unless false A B e h = h

pub at_some : {T : Type 0} (o : Option T) (n : T) (A : Type 0) (B : T → Type 0) → o ≡ Some n → MatchOption o A B → B n
at_some None n A B e h = absurd cc
at_some (Some m) n A B e h = (let same : m ≡ n = cc in subst B same h)

pub then_field : (allowed : Kind → Bool) (s new : State) (p f n : ℕ) (lines : List Line) (Done : ℕ → Type 0) → IsFound allowed s p f n
    → AtField allowed s p f lines new Done → Done n
then_field allowed s new p f n lines Done found h =
    when (allowed (kind_of_field (node_at s.nodes n).object f)) _ _ found.allows
    (when _ _ _ (lt-ltb f (field_count (node_at s.nodes n)) found.there) (at_some (slot_at s p) n _ _ found.slot h))
