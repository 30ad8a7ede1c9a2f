-- The edges of the object that a body stands for, by its words.
use Rattle.std.proofs.Common.{◌≡◌, ℕ, zero, suc, ◌-◌, ◌<◌, List, [], ◌∷◌, get_or, Bool, true, ◌&&◌, eqb, refl, ap, ◌∙◌, inl, inr, arith}
use mathlib.Core.Logic.{◌⊎◌}
use Rattle.std.specs.List.{list_any}
use Rattle.std.proofs.lemmas.Bool.{false≢true, eq-eqb, eqb-true, or_cases, or_left, or_right, and_parts, and_from}
use Rattle.gc_graph.specs.declared.kind.Kind.{Kind}
use Rattle.gc_graph.specs.declared.kind.Kind.TheVariants.{Strong, Weak, Pair, Plain}
use Rattle.gc_graph.specs.Graph.{strong_targets, pair_targets}
use Rattle.marker_core.specs.declared.states.Role.TheVariants.{StrongWord, WeakWord, KeyWord, ValueWord, PlainWord}
use Rattle.marker_core.specs.declared.states.Role.{Role}
use Rattle.marker_core.specs.Bodies.{role_at, refers, is_traced_role, field_word_count}
use Rattle.marker_core.specs.Closed.{values_of}

-- a strong word that names n
abbrev pub StrongWordTo : List Kind → List ℕ → ℕ → Type 0
StrongWordTo kinds ws n = (i : ℕ) × (role_at kinds i ≡ StrongWord) × (0 < get_or ws i 0) × (get_or ws i 0 - 1 ≡ n)

-- a pair whose key passes and whose value names n
abbrev pub PairTo : (ℕ → Bool) → List Kind → List ℕ → ℕ → Type 0
PairTo test kinds ws n =
    (i : ℕ) × (role_at kinds i ≡ KeyWord) × (0 < get_or ws i 0) × (test (get_or ws i 0 - 1) ≡ true) × (0 < get_or ws (suc i) 0)
    × (get_or ws (suc i) 0 - 1 ≡ n)

abbrev strong_to : List Kind → List ℕ → ℕ → Bool
strong_to kinds ws n = list_any (λ t. eqb t n) (strong_targets kinds (values_of kinds ws))

abbrev pair_to : (ℕ → Bool) → List Kind → List ℕ → ℕ → Bool
pair_to test kinds ws n = list_any (λ (p : ℕ × ℕ). test p.0 && eqb p.1 n) (pair_targets kinds (values_of kinds ws))

next_word : (kind : Kind) (kinds : List Kind) (w : ℕ) (ws : List ℕ) (n : ℕ) → ((i : ℕ) → role_at (kind ∷ kinds) (suc i) ≡ role_at kinds i)
    → StrongWordTo kinds ws n → StrongWordTo (kind ∷ kinds) (w ∷ ws) n
next_word kind kinds w ws n same at = (suc at.0, same at.0 ∙ at.1, at.2, at.3)

pub strong_edge : (kinds : List Kind) (ws : List ℕ) (n : ℕ) → strong_to kinds ws n ≡ true → StrongWordTo kinds ws n
strong_edge [] ws n h = absurd (false≢true h)
strong_edge (Strong ∷ kinds) [] n h = absurd (false≢true h)
strong_edge (Strong ∷ kinds) (zero ∷ ws) n h = next_word Strong kinds 0 ws n (λ _. refl) (strong_edge kinds ws n h)
strong_edge (Strong ∷ kinds) (suc p ∷ ws) n h = elim (or_cases (eqb p n) (strong_to kinds ws n) h) [
  | inl here ↦ (0, refl, omega arith, omega (arith, eqb-true p n here))
  | inr rest ↦ next_word Strong kinds (suc p) ws n (λ _. refl) (strong_edge kinds ws n rest)
]
strong_edge (Weak ∷ kinds) [] n h = absurd (false≢true h)
strong_edge (Weak ∷ kinds) (w ∷ ws) n h = next_word Weak kinds w ws n (λ _. refl) (strong_edge kinds ws n h)
strong_edge (Plain ∷ kinds) [] n h = absurd (false≢true h)
strong_edge (Plain ∷ kinds) (w ∷ ws) n h = next_word Plain kinds w ws n (λ _. refl) (strong_edge kinds ws n h)
strong_edge (Pair ∷ kinds) [] n h = absurd (false≢true h)
strong_edge (Pair ∷ kinds) (k ∷ []) n h = absurd (false≢true h)
strong_edge (Pair ∷ kinds) (k ∷ v ∷ ws) n h =
    let at = strong_edge kinds ws n h in (suc (suc at.0), at.1, at.2, at.3)

pub edge_strong : (kinds : List Kind) (ws : List ℕ) (i n : ℕ) → role_at kinds i ≡ StrongWord → 0 < get_or ws i 0 → get_or ws i 0 - 1 ≡ n
    → strong_to kinds ws n ≡ true
edge_strong [] ws i n role some to = cc
edge_strong (Strong ∷ kinds) [] i n role some to = absurd (omega arith)
edge_strong (Strong ∷ kinds) (zero ∷ ws) zero n role some to = absurd (omega arith)
edge_strong (Strong ∷ kinds) (suc p ∷ ws) zero n role some to = or_left (eqb p n) (strong_to kinds ws n) (eq-eqb p n (omega arith))
edge_strong (Strong ∷ kinds) (zero ∷ ws) (suc i) n role some to = edge_strong kinds ws i n role some to
edge_strong (Strong ∷ kinds) (suc p ∷ ws) (suc i) n role some to = or_right (eqb p n) (strong_to kinds ws n) (edge_strong kinds ws i n role some to)
edge_strong (Weak ∷ kinds) [] i n role some to = absurd (omega arith)
edge_strong (Weak ∷ kinds) (w ∷ ws) zero n role some to = cc
edge_strong (Weak ∷ kinds) (w ∷ ws) (suc i) n role some to = edge_strong kinds ws i n role some to
edge_strong (Plain ∷ kinds) [] i n role some to = absurd (omega arith)
edge_strong (Plain ∷ kinds) (w ∷ ws) zero n role some to = cc
edge_strong (Plain ∷ kinds) (w ∷ ws) (suc i) n role some to = edge_strong kinds ws i n role some to
edge_strong (Pair ∷ kinds) [] i n role some to = absurd (omega arith)
edge_strong (Pair ∷ kinds) (k ∷ ws) zero n role some to = cc
edge_strong (Pair ∷ kinds) (k ∷ ws) (suc zero) n role some to = cc
edge_strong (Pair ∷ kinds) (k ∷ []) (suc (suc i)) n role some to = absurd (omega arith)
edge_strong (Pair ∷ kinds) (k ∷ v ∷ ws) (suc (suc i)) n role some to = edge_strong kinds ws i n role some to

next_pair : (test : ℕ → Bool) (kind : Kind) (kinds : List Kind) (w : ℕ) (ws : List ℕ) (n : ℕ) → ((i : ℕ) → role_at (kind ∷ kinds) (suc i) ≡ role_at kinds i)
    → PairTo test kinds ws n → PairTo test (kind ∷ kinds) (w ∷ ws) n
next_pair test kind kinds w ws n same at = (suc at.0, same at.0 ∙ at.1, at.2, at.3, at.4, at.5)

past_pair : (test : ℕ → Bool) (kinds : List Kind) (k v : ℕ) (ws : List ℕ) (n : ℕ) → PairTo test kinds ws n → PairTo test (Pair ∷ kinds) (k ∷ v ∷ ws) n
past_pair test kinds k v ws n at = (suc (suc at.0), at.1, at.2, at.3, at.4, at.5)

pub pair_edge : (test : ℕ → Bool) (kinds : List Kind) (ws : List ℕ) (n : ℕ) → pair_to test kinds ws n ≡ true → PairTo test kinds ws n
pair_edge test [] ws n h = absurd (false≢true h)
pair_edge test (Strong ∷ kinds) [] n h = absurd (false≢true h)
pair_edge test (Strong ∷ kinds) (w ∷ ws) n h = next_pair test Strong kinds w ws n (λ _. refl) (pair_edge test kinds ws n h)
pair_edge test (Weak ∷ kinds) [] n h = absurd (false≢true h)
pair_edge test (Weak ∷ kinds) (w ∷ ws) n h = next_pair test Weak kinds w ws n (λ _. refl) (pair_edge test kinds ws n h)
pair_edge test (Plain ∷ kinds) [] n h = absurd (false≢true h)
pair_edge test (Plain ∷ kinds) (w ∷ ws) n h = next_pair test Plain kinds w ws n (λ _. refl) (pair_edge test kinds ws n h)
pair_edge test (Pair ∷ kinds) [] n h = absurd (false≢true h)
pair_edge test (Pair ∷ kinds) (k ∷ []) n h = absurd (false≢true h)
pair_edge test (Pair ∷ kinds) (zero ∷ v ∷ ws) n h = past_pair test kinds 0 v ws n (pair_edge test kinds ws n h)
pair_edge test (Pair ∷ kinds) (suc k ∷ zero ∷ ws) n h = past_pair test kinds (suc k) 0 ws n (pair_edge test kinds ws n h)
pair_edge test (Pair ∷ kinds) (suc k ∷ suc v ∷ ws) n h = elim (or_cases (test k && eqb v n) (pair_to test kinds ws n) h) [
  | inl here ↦
      (let both = and_parts (test k) (eqb v n) here in
      (0, refl, omega arith, ap test (omega arith) ∙ both.0, omega arith, omega (arith, eqb-true v n both.1)))
  | inr rest ↦ past_pair test kinds (suc k) (suc v) ws n (pair_edge test kinds ws n rest)
]

pub edge_pair : (test : ℕ → Bool) (kinds : List Kind) (ws : List ℕ) (i n : ℕ) → role_at kinds i ≡ KeyWord → 0 < get_or ws i 0
    → test (get_or ws i 0 - 1) ≡ true → 0 < get_or ws (suc i) 0 → get_or ws (suc i) 0 - 1 ≡ n → pair_to test kinds ws n ≡ true
edge_pair test [] ws i n role key passes value to = cc
edge_pair test (Strong ∷ kinds) [] i n role key passes value to = absurd (omega arith)
edge_pair test (Strong ∷ kinds) (w ∷ ws) zero n role key passes value to = cc
edge_pair test (Strong ∷ kinds) (w ∷ ws) (suc i) n role key passes value to = edge_pair test kinds ws i n role key passes value to
edge_pair test (Weak ∷ kinds) [] i n role key passes value to = absurd (omega arith)
edge_pair test (Weak ∷ kinds) (w ∷ ws) zero n role key passes value to = cc
edge_pair test (Weak ∷ kinds) (w ∷ ws) (suc i) n role key passes value to = edge_pair test kinds ws i n role key passes value to
edge_pair test (Plain ∷ kinds) [] i n role key passes value to = absurd (omega arith)
edge_pair test (Plain ∷ kinds) (w ∷ ws) zero n role key passes value to = cc
edge_pair test (Plain ∷ kinds) (w ∷ ws) (suc i) n role key passes value to = edge_pair test kinds ws i n role key passes value to
edge_pair test (Pair ∷ kinds) [] i n role key passes value to = absurd (omega arith)
edge_pair test (Pair ∷ kinds) (k ∷ []) zero n role key passes value to = absurd (omega arith)
edge_pair test (Pair ∷ kinds) (zero ∷ v ∷ ws) zero n role key passes value to = absurd (omega arith)
edge_pair test (Pair ∷ kinds) (suc k ∷ zero ∷ ws) zero n role key passes value to = absurd (omega arith)
edge_pair test (Pair ∷ kinds) (suc k ∷ suc v ∷ ws) zero n role key passes value to =
    or_left (test k && eqb v n) (pair_to test kinds ws n) (and_from (test k) (eqb v n) (ap test (omega arith) ∙ passes) (eq-eqb v n (omega arith)))
edge_pair test (Pair ∷ kinds) (k ∷ ws) (suc zero) n role key passes value to = cc
edge_pair test (Pair ∷ kinds) (k ∷ []) (suc (suc i)) n role key passes value to = absurd (omega arith)
edge_pair test (Pair ∷ kinds) (zero ∷ v ∷ ws) (suc (suc i)) n role key passes value to = edge_pair test kinds ws i n role key passes value to
edge_pair test (Pair ∷ kinds) (suc k ∷ zero ∷ ws) (suc (suc i)) n role key passes value to = edge_pair test kinds ws i n role key passes value to
edge_pair test (Pair ∷ kinds) (suc k ∷ suc v ∷ ws) (suc (suc i)) n role key passes value to =
    or_right (test k && eqb v n) (pair_to test kinds ws n) (edge_pair test kinds ws i n role key passes value to)

-- a reference is a word of the declared fields
pub refers_within : (kinds : List Kind) (i : ℕ) → refers (role_at kinds i) ≡ true → i < field_word_count kinds
refers_within [] i h = absurd (false≢true h)
refers_within (Strong ∷ kinds) zero h = omega arith
refers_within (Strong ∷ kinds) (suc i) h = omega (arith, refers_within kinds i h)
refers_within (Weak ∷ kinds) zero h = omega arith
refers_within (Weak ∷ kinds) (suc i) h = omega (arith, refers_within kinds i h)
refers_within (Plain ∷ kinds) zero h = omega arith
refers_within (Plain ∷ kinds) (suc i) h = omega (arith, refers_within kinds i h)
refers_within (Pair ∷ kinds) zero h = omega arith
refers_within (Pair ∷ kinds) (suc zero) h = omega arith
refers_within (Pair ∷ kinds) (suc (suc i)) h = omega (arith, refers_within kinds i h)

pub traced_cases : (role : Role) → is_traced_role role ≡ true → (role ≡ StrongWord) ⊎ (role ≡ KeyWord)
traced_cases StrongWord h = inl refl
traced_cases KeyWord h = inr refl
traced_cases WeakWord h = absurd (false≢true h)
traced_cases ValueWord h = absurd (false≢true h)
traced_cases PlainWord h = absurd (false≢true h)

pub traced_refers : (role : Role) → is_traced_role role ≡ true → refers role ≡ true
traced_refers StrongWord h = refl
traced_refers KeyWord h = refl
traced_refers WeakWord h = refl
traced_refers ValueWord h = refl
traced_refers PlainWord h = absurd (false≢true h)
