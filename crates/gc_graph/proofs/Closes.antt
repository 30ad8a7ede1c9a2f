-- The fields of an object, one by one, and what it leads to.
use Rattle.std.proofs.Common.{◌≡◌, ℕ, Bool, true, false, ◌||◌, ◌&&◌, not, List, [], ◌∷◌, refl, sym, ap, ◌∙◌, subst, inl, inr, eqb}
use Rattle.std.specs.List.{list_any, list_all}
use Rattle.std.proofs.lemmas.Bool.{true≢false, or_cases, or_left, or_right, and_parts, and_from, eqb-true, eq-eqb}
use Rattle.gc_graph.specs.declared.kind.Kind.{Kind}
use Rattle.gc_graph.specs.declared.kind.Kind.TheVariants.{Strong, Weak, Pair, Plain}
use Rattle.gc_graph.specs.declared.kind.Value.{Value}
use Rattle.gc_graph.specs.declared.kind.Value.TheVariants.{Null, Ref, Word}
use Rattle.gc_graph.specs.Graph.{Object, object_at, strong_targets, pair_targets, leads_by, ClosesUnder}
use Rattle.gc_graph.specs.Checking.{is_listed, fields_close, object_closes}
use Rattle.gc_graph.proofs.Listed.{each_passes, all_pass}

-- a pair's value passes where its key does
abbrev pub edge_passes : (ℕ → Bool) → ℕ × ℕ → Bool
edge_passes test p = not (test p.0) || test p.1

-- where there are no values, nothing is led to
no_values_close : (test : ℕ → Bool) (kinds : List Kind) → fields_close test kinds [] ≡ true
no_values_close test [] = refl
no_values_close test (Strong ∷ kinds) = no_values_close test kinds
no_values_close test (Weak ∷ kinds) = no_values_close test kinds
no_values_close test (Pair ∷ kinds) = no_values_close test kinds
no_values_close test (Plain ∷ kinds) = no_values_close test kinds

no_strong_targets : (kinds : List Kind) → strong_targets kinds [] ≡ []
no_strong_targets [] = refl
no_strong_targets (Strong ∷ kinds) = refl
no_strong_targets (Weak ∷ kinds) = refl
no_strong_targets (Pair ∷ kinds) = refl
no_strong_targets (Plain ∷ kinds) = refl

no_pair_targets : (kinds : List Kind) → pair_targets kinds [] ≡ []
no_pair_targets [] = refl
no_pair_targets (Strong ∷ kinds) = refl
no_pair_targets (Weak ∷ kinds) = refl
no_pair_targets (Pair ∷ kinds) = refl
no_pair_targets (Plain ∷ kinds) = refl

targets_pass : (ℕ → Bool) → List Kind → List Value → Bool
targets_pass test kinds values = list_all test (strong_targets kinds values) && list_all (edge_passes test) (pair_targets kinds values)

no_targets_pass : (test : ℕ → Bool) (kinds : List Kind) → targets_pass test kinds [] ≡ true
unfolding targets_pass
no_targets_pass test kinds =
    ap (λ ts. list_all test ts && list_all (edge_passes test) (pair_targets kinds [])) (no_strong_targets kinds)
    ∙ ap (list_all (edge_passes test)) (no_pair_targets kinds)

and_assoc : (a b c : Bool) → (a && (b && c)) ≡ ((a && b) && c)
and_assoc true b c = refl
and_assoc false b c = refl

and_middle : (a b c : Bool) → (a && (b && c)) ≡ (b && (a && c))
and_middle true b c = refl
and_middle false true c = refl
and_middle false false c = refl

-- a pair without a value has nothing to pass
no_value : (a b : Bool) → ((a || true) && b) ≡ b
no_value true b = refl
no_value false b = refl

-- fields close exactly where their targets pass
fields_are_targets : (test : ℕ → Bool) (kinds : List Kind) (values : List Value) → fields_close test kinds values ≡ targets_pass test kinds values
unfolding targets_pass
fields_are_targets test [] values = refl
fields_are_targets test (Strong ∷ kinds) [] = no_values_close test kinds
fields_are_targets test (Strong ∷ kinds) (Null ∷ values) = fields_are_targets test kinds values
fields_are_targets test (Strong ∷ kinds) (Ref t ∷ values) = ap (λ b. test t && b) (fields_are_targets test kinds values) ∙ and_assoc (test t) _ _
fields_are_targets test (Strong ∷ kinds) (Word w ∷ values) = fields_are_targets test kinds values
fields_are_targets test (Weak ∷ kinds) [] = no_values_close test kinds
fields_are_targets test (Weak ∷ kinds) (value ∷ values) = fields_are_targets test kinds values
fields_are_targets test (Plain ∷ kinds) [] = no_values_close test kinds
fields_are_targets test (Plain ∷ kinds) (value ∷ values) = fields_are_targets test kinds values
fields_are_targets test (Pair ∷ kinds) [] = no_values_close test kinds
fields_are_targets test (Pair ∷ kinds) (Null ∷ []) = no_values_close test kinds ∙ sym (no_targets_pass test kinds)
fields_are_targets test (Pair ∷ kinds) (Word w ∷ []) = no_values_close test kinds ∙ sym (no_targets_pass test kinds)
fields_are_targets test (Pair ∷ kinds) (Ref key ∷ []) =
    no_value (not (test key)) _ ∙ no_values_close test kinds ∙ sym (no_targets_pass test kinds)
fields_are_targets test (Pair ∷ kinds) (Null ∷ value ∷ values) = fields_are_targets test kinds values
fields_are_targets test (Pair ∷ kinds) (Word w ∷ value ∷ values) = fields_are_targets test kinds values
fields_are_targets test (Pair ∷ kinds) (Ref key ∷ Null ∷ values) =
    no_value (not (test key)) _ ∙ fields_are_targets test kinds values
fields_are_targets test (Pair ∷ kinds) (Ref key ∷ Word w ∷ values) =
    no_value (not (test key)) _ ∙ fields_are_targets test kinds values
fields_are_targets test (Pair ∷ kinds) (Ref key ∷ Ref value ∷ values) =
    ap (λ b. edge_passes test (key, value) && b) (fields_are_targets test kinds values) ∙ and_middle (edge_passes test (key, value)) _ _

-- ---- and the targets pass exactly where all that is led to passes

edge_in : (test : ℕ → Bool) (key value : ℕ) → edge_passes test (key, value) ≡ true → test key ≡ true → test value ≡ true
edge_in test key value edge has = sym (ap (λ b. not b || test value) has) ∙ edge

edge_from : (test : ℕ → Bool) (key value : ℕ) (has : Bool) → has ≡ test key → (has ≡ true → test value ≡ true) → (not has || test value) ≡ true
edge_from test key value true is into = into refl
edge_from test key value false is into = refl

values_pass : (test : ℕ → Bool) (pairs : List (ℕ × ℕ)) → list_all (edge_passes test) pairs ≡ true → (n : ℕ)
    → list_any (λ p. test p.0 && eqb p.1 n) pairs ≡ true → test n ≡ true
values_pass test [] all n some = absurd (true≢false (sym some))
values_pass test (p ∷ pairs) all n some =
    let both = and_parts (edge_passes test p) (list_all (edge_passes test) pairs) all in
    elim (or_cases (test p.0 && eqb p.1 n) (list_any (λ q. test q.0 && eqb q.1 n) pairs) some) [
      | inl here ↦
          (let keyed = and_parts (test p.0) (eqb p.1 n) here in
          subst (λ x. test x ≡ true) (eqb-true p.1 n keyed.1) (edge_in test p.0 p.1 both.0 keyed.0))
      | inr rest ↦ values_pass test pairs both.1 n rest
    ]

pairs_pass : (test : ℕ → Bool) (pairs : List (ℕ × ℕ))
    → ((n : ℕ) → list_any (λ p. test p.0 && eqb p.1 n) pairs ≡ true → test n ≡ true) → list_all (edge_passes test) pairs ≡ true
pairs_pass test [] each = refl
pairs_pass test (p ∷ pairs) each =
    and_from (edge_passes test p) (list_all (edge_passes test) pairs)
    (edge_from test p.0 p.1 (test p.0) refl
    (λ has. each p.1 (or_left (test p.0 && eqb p.1 p.1) _ (and_from (test p.0) (eqb p.1 p.1) has (eq-eqb p.1 p.1 refl)))))
    (pairs_pass test pairs (λ n some. each n (or_right (test p.0 && eqb p.1 n) _ some)))

led_to_passes : (test : ℕ → Bool) (object : Object) → object_closes test object ≡ true → (n : ℕ) → leads_by test object n ≡ true → test n ≡ true
unfolding targets_pass
led_to_passes test object closes n leads =
    let both = and_parts (list_all test (strong_targets object.kinds object.values)) (list_all (edge_passes test) (pair_targets object.kinds object.values))
    (sym (fields_are_targets test object.kinds object.values) ∙ closes) in
    elim (or_cases _ _ leads) [
      | inl strong ↦ each_passes test (strong_targets object.kinds object.values) both.0 n strong
      | inr pair ↦ values_pass test (pair_targets object.kinds object.values) both.1 n pair
    ]

closes_from_led : (test : ℕ → Bool) (object : Object) → ((n : ℕ) → leads_by test object n ≡ true → test n ≡ true) → object_closes test object ≡ true
unfolding targets_pass
closes_from_led test object each =
    fields_are_targets test object.kinds object.values
    ∙ and_from (list_all test (strong_targets object.kinds object.values)) (list_all (edge_passes test) (pair_targets object.kinds object.values))
    (all_pass test (strong_targets object.kinds object.values) (λ n strong. each n (or_left _ _ strong)))
    (pairs_pass test (pair_targets object.kinds object.values) (λ n pair. each n (or_right _ _ pair)))

-- what each member leads to is a member
pub closed_from_members : (graph : List Object) (members : List ℕ)
    → list_all (λ m. object_closes (is_listed members) (object_at graph m)) members ≡ true → ClosesUnder graph (is_listed members)
closed_from_members graph members all m n listed leads =
    led_to_passes (is_listed members) (object_at graph m)
    (each_passes (λ x. object_closes (is_listed members) (object_at graph x)) members all m listed) n leads

pub members_close : (graph : List Object) (members : List ℕ) → ClosesUnder graph (is_listed members)
    → list_all (λ m. object_closes (is_listed members) (object_at graph m)) members ≡ true
members_close graph members closed =
    all_pass (λ m. object_closes (is_listed members) (object_at graph m)) members
    (λ m listed. closes_from_led (is_listed members) (object_at graph m) (λ n leads. closed m n listed leads))
