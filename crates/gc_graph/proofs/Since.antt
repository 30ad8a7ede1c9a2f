-- Edges since the start of a collection: each is one of the start's graph, or leads to a node that may be kept.
use Rattle.std.proofs.Common.{◌≡◌, ℕ, ◌<◌, ◌==◌, ◌&&◌, Bool, true, true≢false, List, [], ◌∷◌, ◌++◌, refl, sym, subst, inl, inr, eqb-true, eq-eqb}
use mathlib.Core.Logic.{◌⊎◌}
use Rattle.std.specs.Prelude.{⊤}
use Rattle.std.specs.List.{list_any}
use Rattle.std.proofs.lemmas.Bool.{or_cases, or_left, or_right, and_parts, and_from}
use Rattle.gc_graph.specs.declared.kind.Kind.{Kind}
use Rattle.gc_graph.specs.declared.kind.Kind.TheVariants.{Strong, Weak, Pair, Plain}
use Rattle.gc_graph.specs.declared.kind.Value.{Value}
use Rattle.gc_graph.specs.declared.kind.Value.TheVariants.{Null, Ref, Word}
use Rattle.gc_graph.specs.Graph.{Object, has, IsIn, pair_targets}
use Rattle.gc_graph.specs.Fields.{nulls_of}
use Rattle.gc_graph.specs.Valid.{HaveKinds}
use Rattle.gc_graph.proofs.Shapes.{Each}
use Rattle.gc_graph.proofs.Follows.{Anything, AnyStrong, AnyPair}

abbrev pub IsStrongOf : Object → ℕ → Type 0
IsStrongOf object n = AnyStrong n object.kinds object.values ≡ true

-- the values have this pair
abbrev pub HasPair : ℕ → ℕ → List Kind → List Value → Bool
HasPair k n kinds values = list_any (λ p. (p.0 == k) && (p.1 == n)) (pair_targets kinds values)

abbrev pub IsPairOf : Object → ℕ → ℕ → Type 0
IsPairOf object k n = HasPair k n object.kinds object.values ≡ true

module _ (may : List Bool) (before : Object) where
  abbrev pub StrongSince : Value → Type 0
  StrongSince Null = ⊤
  StrongSince (Ref n) = IsStrongOf before n ⊎ IsIn may n
  StrongSince (Word w) = ⊤

  abbrev pub PairSince : Value → Value → Type 0
  PairSince (Ref k) (Ref n) = IsPairOf before k n ⊎ IsIn may n
  PairSince (Ref k) Null = ⊤
  PairSince (Ref k) (Word w) = ⊤
  PairSince Null value = ⊤
  PairSince (Word w) value = ⊤

  abbrev pub Since : List Kind → List Value → Type 0
  Since kinds values = Each StrongSince Anything Anything PairSince kinds values

  -- a strong edge
  pub strong_since : (n : ℕ) (kinds : List Kind) (values : List Value) → Since kinds values → AnyStrong n kinds values ≡ true
      → IsStrongOf before n ⊎ IsIn may n
  strong_since n [] values h e = absurd (true≢false (sym e))
  strong_since n (Strong ∷ kinds) [] h e = absurd h
  strong_since n (Weak ∷ kinds) [] h e = absurd h
  strong_since n (Pair ∷ kinds) [] h e = absurd h
  strong_since n (Plain ∷ kinds) [] h e = absurd h
  strong_since n (Strong ∷ kinds) (Null ∷ xs) h e = strong_since n kinds xs h.1 e
  strong_since n (Strong ∷ kinds) (Word w ∷ xs) h e = strong_since n kinds xs h.1 e
  strong_since n (Strong ∷ kinds) (Ref m ∷ xs) h e =
      elim (or_cases (m == n) (AnyStrong n kinds xs) e) [
        | inl here ↦ subst (λ k. IsStrongOf before k ⊎ IsIn may k) (eqb-true m n here) h.0
        | inr rest ↦ strong_since n kinds xs h.1 rest
      ]
  strong_since n (Weak ∷ kinds) (x ∷ xs) h e = strong_since n kinds xs h.1 e
  strong_since n (Pair ∷ kinds) (x ∷ []) h e = absurd h
  strong_since n (Pair ∷ kinds) (x ∷ y ∷ xs) h e = strong_since n kinds xs h.1 e
  strong_since n (Plain ∷ kinds) (x ∷ xs) h e = strong_since n kinds xs h.1 e

  -- a pair edge whose key is in a set
  pub pair_since : (t : List Bool) (n : ℕ) (kinds : List Kind) (values : List Value) → Since kinds values → AnyPair t n kinds values ≡ true
      → ((k : ℕ) × IsIn t k × IsPairOf before k n) ⊎ IsIn may n
  pair_since t n [] values h e = absurd (true≢false (sym e))
  pair_since t n (Strong ∷ kinds) [] h e = absurd h
  pair_since t n (Weak ∷ kinds) [] h e = absurd h
  pair_since t n (Pair ∷ kinds) [] h e = absurd h
  pair_since t n (Plain ∷ kinds) [] h e = absurd h
  pair_since t n (Strong ∷ kinds) (x ∷ xs) h e = pair_since t n kinds xs h.1 e
  pair_since t n (Weak ∷ kinds) (x ∷ xs) h e = pair_since t n kinds xs h.1 e
  pair_since t n (Plain ∷ kinds) (x ∷ xs) h e = pair_since t n kinds xs h.1 e
  pair_since t n (Pair ∷ kinds) (x ∷ []) h e = absurd h
  pair_since t n (Pair ∷ kinds) (Null ∷ y ∷ xs) h e = pair_since t n kinds xs h.1 e
  pair_since t n (Pair ∷ kinds) (Word w ∷ y ∷ xs) h e = pair_since t n kinds xs h.1 e
  pair_since t n (Pair ∷ kinds) (Ref k ∷ Null ∷ xs) h e = pair_since t n kinds xs h.1 e
  pair_since t n (Pair ∷ kinds) (Ref k ∷ Word w ∷ xs) h e = pair_since t n kinds xs h.1 e
  pair_since t n (Pair ∷ kinds) (Ref k ∷ Ref m ∷ xs) h e =
      elim (or_cases (has t k && (m == n)) (AnyPair t n kinds xs) e) [
        | inl here ↦
            (let both = and_parts (has t k) (m == n) here in
            subst (λ j. ((i : ℕ) × IsIn t i × IsPairOf before i j) ⊎ IsIn may j) (eqb-true m n both.1)
            (elim h.0 [ inl old ↦ inl (k, both.0, old) | inr new ↦ inr new ]))
        | inr rest ↦ pair_since t n kinds xs h.1 rest
      ]

  -- ---- where it begins

  -- the words that an object has itself
  self : (bound : ℕ) (kinds : List Kind) (values : List Value) → ((n : ℕ) → AnyStrong n kinds values ≡ true → IsStrongOf before n)
      → ((k n : ℕ) → HasPair k n kinds values ≡ true → IsPairOf before k n) → HaveKinds bound kinds values → Since kinds values
  self bound [] values s p h = λ k d l. tt
  self bound (Strong ∷ kinds) [] s p h = absurd h
  self bound (Weak ∷ kinds) [] s p h = absurd h
  self bound (Pair ∷ kinds) [] s p h = absurd h
  self bound (Plain ∷ kinds) [] s p h = absurd h
  self bound (Strong ∷ kinds) (Null ∷ xs) s p h = (tt, self bound kinds xs s p h.1)
  self bound (Strong ∷ kinds) (Word w ∷ xs) s p h = (tt, self bound kinds xs s p h.1)
  self bound (Strong ∷ kinds) (Ref m ∷ xs) s p h = (
    inl (s m (or_left (m == m) (AnyStrong m kinds xs) (eq-eqb m m refl))),
    self bound kinds xs (λ n e. s n (or_right (m == n) (AnyStrong n kinds xs) e)) p h.1,
  )
  self bound (Weak ∷ kinds) (x ∷ xs) s p h = (tt, self bound kinds xs s p h.1)
  self bound (Plain ∷ kinds) (x ∷ xs) s p h = (tt, self bound kinds xs s p h.1)
  self bound (Pair ∷ kinds) (x ∷ []) s p h = absurd h
  self bound (Pair ∷ kinds) (Null ∷ y ∷ xs) s p h = (tt, self bound kinds xs s p h.3)
  self bound (Pair ∷ kinds) (Word w ∷ y ∷ xs) s p h = (tt, self bound kinds xs s p h.3)
  self bound (Pair ∷ kinds) (Ref k ∷ Null ∷ xs) s p h = (tt, self bound kinds xs s p h.3)
  self bound (Pair ∷ kinds) (Ref k ∷ Word w ∷ xs) s p h = (tt, self bound kinds xs s p h.3)
  self bound (Pair ∷ kinds) (Ref k ∷ Ref m ∷ xs) s p h = (
    inl (p k m (or_left ((k == k) && (m == m)) (HasPair k m kinds xs) (and_from (k == k) (m == m) (eq-eqb k k refl) (eq-eqb m m refl)))),
    self bound kinds xs s (λ j n e. p j n (or_right ((k == j) && (m == n)) (HasPair j n kinds xs) e)) h.3,
  )

  -- a new object leads nowhere
  pub fresh : (kinds : List Kind) (more : List Value) → Since kinds (nulls_of kinds ++ more)
  fresh [] more = λ k d l. tt
  fresh (Strong ∷ kinds) more = (tt, fresh kinds more)
  fresh (Weak ∷ kinds) more = (tt, fresh kinds more)
  fresh (Pair ∷ kinds) more = (tt, fresh kinds more)
  fresh (Plain ∷ kinds) more = (tt, fresh kinds more)

pub own_since : (may : List Bool) (object : Object) (bound : ℕ) → HaveKinds bound object.kinds object.values → Since may object object.kinds object.values
own_since may object bound h = self may object bound object.kinds object.values (λ n e. e) (λ k n e. e) h

-- the key of a pair is below the bound
pub pair_key_below : (bound k n : ℕ) (kinds : List Kind) (values : List Value) → HaveKinds bound kinds values → HasPair k n kinds values ≡ true → k < bound
pair_key_below bound k n [] values h e = absurd (true≢false (sym e))
pair_key_below bound k n (Strong ∷ kinds) [] h e = absurd h
pair_key_below bound k n (Weak ∷ kinds) [] h e = absurd h
pair_key_below bound k n (Pair ∷ kinds) [] h e = absurd h
pair_key_below bound k n (Plain ∷ kinds) [] h e = absurd h
pair_key_below bound k n (Strong ∷ kinds) (x ∷ xs) h e = pair_key_below bound k n kinds xs h.1 e
pair_key_below bound k n (Weak ∷ kinds) (x ∷ xs) h e = pair_key_below bound k n kinds xs h.1 e
pair_key_below bound k n (Plain ∷ kinds) (x ∷ xs) h e = pair_key_below bound k n kinds xs h.1 e
pair_key_below bound k n (Pair ∷ kinds) (x ∷ []) h e = absurd h
pair_key_below bound k n (Pair ∷ kinds) (Null ∷ y ∷ xs) h e = pair_key_below bound k n kinds xs h.3 e
pair_key_below bound k n (Pair ∷ kinds) (Word w ∷ y ∷ xs) h e = absurd h.0
pair_key_below bound k n (Pair ∷ kinds) (Ref j ∷ Null ∷ xs) h e = pair_key_below bound k n kinds xs h.3 e
pair_key_below bound k n (Pair ∷ kinds) (Ref j ∷ Word w ∷ xs) h e = absurd h.1
pair_key_below bound k n (Pair ∷ kinds) (Ref j ∷ Ref m ∷ xs) h e =
    elim (or_cases ((j == k) && (m == n)) (HasPair k n kinds xs) e) [
      | inl here ↦ subst (λ i. i < bound) (eqb-true j k (and_parts (j == k) (m == n) here).0) h.0
      | inr rest ↦ pair_key_below bound k n kinds xs h.3 rest
    ]

-- ---- more may be kept

strong_more : (may after : List Bool) (before : Object) → ((n : ℕ) → IsIn may n → IsIn after n) → (value : Value) → StrongSince may before value
    → StrongSince after before value
strong_more may after before w Null h = tt
strong_more may after before w (Ref n) h = elim h [ inl old ↦ inl old | inr new ↦ inr (w n new) ]
strong_more may after before w (Word x) h = tt

pair_more : (may after : List Bool) (before : Object) → ((n : ℕ) → IsIn may n → IsIn after n) → (key value : Value) → PairSince may before key value
    → PairSince after before key value
pair_more may after before w Null value h = tt
pair_more may after before w (Word x) value h = tt
pair_more may after before w (Ref k) Null h = tt
pair_more may after before w (Ref k) (Word x) h = tt
pair_more may after before w (Ref k) (Ref n) h = elim h [ inl old ↦ inl old | inr new ↦ inr (w n new) ]

pub since_more : (may after : List Bool) (before : Object) → ((n : ℕ) → IsIn may n → IsIn after n) → (kinds : List Kind) (values : List Value)
    → Since may before kinds values → Since after before kinds values
since_more may after before w [] values h = h
since_more may after before w (Strong ∷ kinds) [] h = absurd h
since_more may after before w (Weak ∷ kinds) [] h = absurd h
since_more may after before w (Pair ∷ kinds) [] h = absurd h
since_more may after before w (Plain ∷ kinds) [] h = absurd h
since_more may after before w (Strong ∷ kinds) (x ∷ xs) h = (strong_more may after before w x h.0, since_more may after before w kinds xs h.1)
since_more may after before w (Weak ∷ kinds) (x ∷ xs) h = (tt, since_more may after before w kinds xs h.1)
since_more may after before w (Plain ∷ kinds) (x ∷ xs) h = (tt, since_more may after before w kinds xs h.1)
since_more may after before w (Pair ∷ kinds) (x ∷ []) h = absurd h
since_more may after before w (Pair ∷ kinds) (x ∷ y ∷ xs) h = (pair_more may after before w x y h.0, since_more may after before w kinds xs h.1)
