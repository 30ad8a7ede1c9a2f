-- What an object leads to, and that it is named in it.
use Rattle.std.proofs.Common.{◌≡◌, ℕ, Bool, true, ◌&&◌, List, [], ◌∷◌, refl, ap, subst, inl, inr, arith, eqb}
use mathlib.Core.Logic.{◌⊎◌}
use Rattle.std.specs.List.{Contains, list_any}
use Rattle.std.proofs.lemmas.Bool.{or_cases, or_left, or_right, and_parts, and_from, eqb-true, eq-eqb}
use Rattle.gc_graph.specs.declared.kind.Kind.{Kind}
use Rattle.gc_graph.specs.declared.kind.Kind.TheVariants.{Strong, Weak, Pair, Plain}
use Rattle.gc_graph.specs.declared.kind.Value.{Value}
use Rattle.gc_graph.specs.declared.kind.Value.TheVariants.{Null, Ref, Word}
use Rattle.gc_graph.specs.Graph.{Object, no_object, strong_targets, pair_targets, leads_by}
use Rattle.gc_graph.specs.Members.{Contains-cons, Contains-head, Contains-cons_cases, any_member, any_from}

-- by a strong field, or by a pair whose key passes the test
abbrev pub IsLed : (ℕ → Bool) → Object → ℕ → Type 0
IsLed test o n =
    Contains (strong_targets o.kinds o.values) n ⊎ ((key : ℕ) × Contains (pair_targets o.kinds o.values) (key, n) × (test key ≡ true))

-- a node that an object leads to is named by a strong field, or is the value of a pair whose key passes the test
pub is_led : (test : ℕ → Bool) (o : Object) (n : ℕ) → leads_by test o n ≡ true → IsLed test o n
is_led test o n leads =
    elim (or_cases (list_any (λ t. eqb t n) (strong_targets o.kinds o.values)) _ leads) [
      | inl strong ↦ (let w = any_member (λ t. eqb t n) (strong_targets o.kinds o.values) strong in
          inl (subst (Contains (strong_targets o.kinds o.values)) (eqb-true w.0 n w.2) w.1))
      | inr pair ↦ (let w = any_member (λ (p : ℕ × ℕ). test p.0 && eqb p.1 n) (pair_targets o.kinds o.values) pair in
          let both = and_parts (test w.0.0) (eqb w.0.1 n) w.2 in
          inr (w.0.0, subst (λ m. Contains (pair_targets o.kinds o.values) (w.0.0, m)) (eqb-true w.0.1 n both.1) w.1, both.0))
    ]

-- an object leads to what its strong fields name, and to the value of each of its pairs whose key passes the test
pub led_leads : (test : ℕ → Bool) (o : Object) (n : ℕ) → IsLed test o n → leads_by test o n ≡ true
led_leads test o n led =
    elim led [
      | inl strong ↦ or_left _ _ (any_from (λ t. eqb t n) (strong_targets o.kinds o.values) n strong (eq-eqb n n refl))
      | inr pair ↦ or_right (list_any (λ t. eqb t n) (strong_targets o.kinds o.values)) _
          (any_from (λ (p : ℕ × ℕ). test p.0 && eqb p.1 n) (pair_targets o.kinds o.values) (pair.0, n) pair.1
          (and_from (test pair.0) (eqb n n) pair.2 (eq-eqb n n refl)))
    ]

-- what an object leads to is named in it, and so is the key by which it does
later : {k n : ℕ} (v : Value) (values : List Value) → Contains values (Ref k) × Contains values (Ref n) → Contains (v ∷ values) (Ref k) × Contains (v ∷ values) (Ref n)
later {k} {n} v values both = (Contains-cons v values (Ref k) both.0, Contains-cons v values (Ref n) both.1)

strong_named : (kinds : List Kind) (values : List Value) (n : ℕ) → Contains (strong_targets kinds values) n → Contains values (Ref n)
strong_named [] values n there = absurd (omega (arith, there.1))
strong_named (kind ∷ kinds) [] n there = absurd (none kind kinds n there) where
  none : (kind : Kind) (kinds : List Kind) (n : ℕ) → Contains (strong_targets (kind ∷ kinds) []) n → ⊥
  none Strong kinds n there = omega (arith, there.1)
  none Weak kinds n there = omega (arith, there.1)
  none Pair kinds n there = omega (arith, there.1)
  none Plain kinds n there = omega (arith, there.1)
strong_named (Strong ∷ kinds) (Ref t ∷ values) n there = elim (Contains-cons_cases t (strong_targets kinds values) n there) [
  | inl here ↦ subst (λ m. Contains (Ref t ∷ values) (Ref m)) here (Contains-head (Ref t) values)
  | inr later ↦ Contains-cons (Ref t) values (Ref n) (strong_named kinds values n later)
]
strong_named (Strong ∷ kinds) (Null ∷ values) n there = Contains-cons Null values (Ref n) (strong_named kinds values n there)
strong_named (Strong ∷ kinds) (Word w ∷ values) n there = Contains-cons (Word w) values (Ref n) (strong_named kinds values n there)
strong_named (Weak ∷ kinds) (v ∷ values) n there = Contains-cons v values (Ref n) (strong_named kinds values n there)
strong_named (Plain ∷ kinds) (v ∷ values) n there = Contains-cons v values (Ref n) (strong_named kinds values n there)
strong_named (Pair ∷ kinds) (key ∷ []) n there = Contains-cons key [] (Ref n) (strong_named kinds [] n there)
strong_named (Pair ∷ kinds) (key ∷ v ∷ values) n there =
    Contains-cons key (v ∷ values) (Ref n) (Contains-cons v values (Ref n) (strong_named kinds values n there))

pair_named : (kinds : List Kind) (values : List Value) (k n : ℕ) → Contains (pair_targets kinds values) (k, n) → Contains values (Ref k) × Contains values (Ref n)
pair_named [] values k n there = absurd (omega (arith, there.1))
pair_named (kind ∷ kinds) [] k n there = absurd (none kind kinds k n there) where
  none : (kind : Kind) (kinds : List Kind) (k n : ℕ) → Contains (pair_targets (kind ∷ kinds) []) (k, n) → ⊥
  none Strong kinds k n there = omega (arith, there.1)
  none Weak kinds k n there = omega (arith, there.1)
  none Pair kinds k n there = omega (arith, there.1)
  none Plain kinds k n there = omega (arith, there.1)
pair_named (Strong ∷ kinds) (v ∷ values) k n there = later v values (pair_named kinds values k n there)
pair_named (Weak ∷ kinds) (v ∷ values) k n there = later v values (pair_named kinds values k n there)
pair_named (Plain ∷ kinds) (v ∷ values) k n there = later v values (pair_named kinds values k n there)
pair_named (Pair ∷ kinds) (v ∷ []) k n there = later v [] (pair_named kinds [] k n (alone v kinds k n there)) where
  alone : (v : Value) (kinds : List Kind) (k n : ℕ) → Contains (pair_targets (Pair ∷ kinds) (v ∷ [])) (k, n) → Contains (pair_targets kinds []) (k, n)
  alone Null kinds k n there = there
  alone (Ref m) kinds k n there = there
  alone (Word w) kinds k n there = there
pair_named (Pair ∷ kinds) (Ref key ∷ Ref v ∷ values) k n there = elim (Contains-cons_cases (key, v) (pair_targets kinds values) (k, n) there) [
  | inl here ↦ (
    subst (λ m. Contains (Ref key ∷ Ref v ∷ values) (Ref m)) (ap (λ (p : ℕ × ℕ). p.0) here) (Contains-head (Ref key) (Ref v ∷ values)),
    subst (λ m. Contains (Ref key ∷ Ref v ∷ values) (Ref m)) (ap (λ (p : ℕ × ℕ). p.1) here) (Contains-cons (Ref key) (Ref v ∷ values) (Ref v) (Contains-head (Ref v) values)),
  )
  | inr after ↦ later (Ref key) (Ref v ∷ values) (later (Ref v) values (pair_named kinds values k n after))
]
pair_named (Pair ∷ kinds) (Ref key ∷ Null ∷ values) k n there = later (Ref key) (Null ∷ values) (later Null values (pair_named kinds values k n there))
pair_named (Pair ∷ kinds) (Ref key ∷ Word w ∷ values) k n there = later (Ref key) (Word w ∷ values) (later (Word w) values (pair_named kinds values k n there))
pair_named (Pair ∷ kinds) (Null ∷ v ∷ values) k n there = later Null (v ∷ values) (later v values (pair_named kinds values k n there))
pair_named (Pair ∷ kinds) (Word w ∷ v ∷ values) k n there = later (Word w) (v ∷ values) (later v values (pair_named kinds values k n there))

-- what an object leads to is named in one of its values
pub led_named : (test : ℕ → Bool) (o : Object) (n : ℕ) → IsLed test o n → Contains o.values (Ref n)
led_named test o n led = elim led [
  | inl strong ↦ strong_named o.kinds o.values n strong
  | inr pair ↦ (pair_named o.kinds o.values pair.0 n pair.1).1
]

-- a test that holds of no fewer of the names leads on as well
pub led_wider : (test other : ℕ → Bool) (o : Object) (n : ℕ) → ((k : ℕ) → Contains o.values (Ref k) → test k ≡ true → other k ≡ true) → IsLed test o n → IsLed other o n
led_wider test other o n wider led = elim led [
  | inl strong ↦ inl strong
  | inr pair ↦ inr (pair.0, pair.1, wider pair.0 (pair_named o.kinds o.values pair.0 n pair.1).0 pair.2)
]

-- what stands where there is no object leads to no node
pub nowhere : (test : ℕ → Bool) (q : ℕ) → IsLed test no_object q → ⊥
nowhere test q led = elim led [ inl strong ↦ omega (arith, strong.1) | inr pair ↦ omega (arith, pair.1.1) ]
