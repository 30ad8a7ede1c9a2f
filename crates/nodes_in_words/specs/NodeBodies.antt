-- The bodies of a list of nodes, node by node.
use Rattle.std.proofs.Common.{◌≡◌, ℕ, zero, suc, ◌+◌, ◌<◌, true, false, List, [], ◌∷◌, ◌++◌, length, refl, sym, ap, ◌∙◌, subst, inl, inr, arith, cond}
use Rattle.std.specs.List.{Contains, sum_by}
use Rattle.std.proofs.lemmas.Bool.{true≢false, cases_Bool}
use Rattle.std.proofs.lemmas.List.Sums.{sum_by-cons}
use Rattle.gc_graph.specs.State.{Node, node_at, is_there, size_of, objects_of, used_of}
use Rattle.gc_graph.specs.Placement.{extents_of}
use Rattle.gc_graph.specs.Members.{Contains-cons, Contains-head, Contains-cons_cases}
use Rattle.marker_core.specs.declared.states.Body.{Body}
use Rattle.page_space.specs.Space.{extents_of_bodies}
use Rattle.nodes_in_words.specs.Nodes.{body_of, bodies_from, IsThere}

-- where the first node is there, its body comes before those of the nodes after it
pub bodies-there : (f : ℕ → ℕ) (k : ℕ) (x : Node) (nodes : List Node) → is_there x.life ≡ true
    → bodies_from f k (x ∷ nodes) ≡ body_of f k x ∷ bodies_from f (suc k) nodes
bodies-there f k x nodes there = ap (λ b. cond b (body_of f k x ∷ bodies_from f (suc k) nodes) (bodies_from f (suc k) nodes)) there

-- where the first node is finalised, the bodies are those of the nodes after it
pub bodies-gone : (f : ℕ → ℕ) (k : ℕ) (x : Node) (nodes : List Node) → is_there x.life ≡ false
    → bodies_from f k (x ∷ nodes) ≡ bodies_from f (suc k) nodes
bodies-gone f k x nodes gone = ap (λ b. cond b (body_of f k x ∷ bodies_from f (suc k) nodes) (bodies_from f (suc k) nodes)) gone

-- one more node, which is there
pub bodies-push : (f : ℕ → ℕ) (k : ℕ) (nodes : List Node) (x : Node) → is_there x.life ≡ true
    → bodies_from f k (nodes ++ x ∷ []) ≡ bodies_from f k nodes ++ body_of f (k + length nodes) x ∷ []
bodies-push f k [] x there = bodies-there f k x [] there ∙ ap (λ n. body_of f n x ∷ []) (let e : k ≡ k + 0 = omega arith in e)
bodies-push f k (y ∷ nodes) x there =
    let number : suc k + length nodes ≡ k + length (y ∷ nodes) = omega arith in
    let rest : bodies_from f (suc k) (nodes ++ x ∷ []) ≡ bodies_from f (suc k) nodes ++ body_of f (k + length (y ∷ nodes)) x ∷ [] =
    bodies-push f (suc k) nodes x there ∙ ap (λ n. bodies_from f (suc k) nodes ++ body_of f n x ∷ []) number in
    elim (cases_Bool (is_there y.life)) [
      | inl present ↦ bodies-there f k y (nodes ++ x ∷ []) present ∙ ap (λ bs. body_of f k y ∷ bs) rest
          ∙ sym (ap (λ bs. bs ++ body_of f (k + length (y ∷ nodes)) x ∷ []) (bodies-there f k y nodes present))
      | inr gone ↦ bodies-gone f k y (nodes ++ x ∷ []) gone ∙ rest
          ∙ sym (ap (λ bs. bs ++ body_of f (k + length (y ∷ nodes)) x ∷ []) (bodies-gone f k y nodes gone))
    ]

-- a body is that of a node
pub node_of_body : (f : ℕ → ℕ) (k : ℕ) (nodes : List Node) (b : Body) → Contains (bodies_from f k nodes) b
    → (n : ℕ) × (n < length nodes) × IsThere nodes n × (b ≡ body_of f (k + n) (node_at nodes n))
node_of_body f k [] b there = absurd (omega (arith, there.1))
node_of_body f k (x ∷ nodes) b there =
    elim (cases_Bool (is_there x.life)) [
      | inl present ↦ elim (Contains-cons_cases (body_of f k x) (bodies_from f (suc k) nodes) b (subst (λ bs. Contains bs b) (bodies-there f k x nodes present) there)) [
        | inl here ↦ (0, omega arith, present, sym here ∙ ap (λ n. body_of f n x) (let e : k ≡ k + 0 = omega arith in e))
        | inr later ↦ shift f k x nodes b (node_of_body f (suc k) nodes b later)
      ]
      | inr gone ↦ shift f k x nodes b (node_of_body f (suc k) nodes b (subst (λ bs. Contains bs b) (bodies-gone f k x nodes gone) there))
    ] where
      shift : (f : ℕ → ℕ) (k : ℕ) (x : Node) (nodes : List Node) (b : Body)
          → (n : ℕ) × (n < length nodes) × IsThere nodes n × (b ≡ body_of f (suc k + n) (node_at nodes n))
          → (n : ℕ) × (n < length (x ∷ nodes)) × IsThere (x ∷ nodes) n × (b ≡ body_of f (k + n) (node_at (x ∷ nodes) n))
      shift f k x nodes b w = (suc w.0, omega (arith, w.1), w.2, w.3 ∙ ap (λ n. body_of f n (node_at nodes w.0)) (let e : suc k + w.0 ≡ k + suc w.0 = omega arith in e))

-- a node that is there has its body
pub body_of_node : (f : ℕ → ℕ) (k : ℕ) (nodes : List Node) (n : ℕ) → IsThere nodes n → Contains (bodies_from f k nodes) (body_of f (k + n) (node_at nodes n))
body_of_node f k [] n there = absurd (true≢false (sym there))
body_of_node f k (x ∷ nodes) zero there =
    subst (λ bs. Contains bs (body_of f (k + 0) x)) (sym (bodies-there f k x nodes there))
    (subst (λ n. Contains (body_of f k x ∷ bodies_from f (suc k) nodes) (body_of f n x)) (let e : k ≡ k + 0 = omega arith in e)
    (Contains-head (body_of f k x) (bodies_from f (suc k) nodes)))
body_of_node f k (x ∷ nodes) (suc n) there =
    let e : suc k + n ≡ k + suc n = omega arith in
    let rest : Contains (bodies_from f (suc k) nodes) (body_of f (k + suc n) (node_at nodes n)) =
    subst (λ m. Contains (bodies_from f (suc k) nodes) (body_of f m (node_at nodes n))) e (body_of_node f (suc k) nodes n there) in
    elim (cases_Bool (is_there x.life)) [
      | inl present ↦ subst (λ bs. Contains bs (body_of f (k + suc n) (node_at nodes n))) (sym (bodies-there f k x nodes present))
          (Contains-cons (body_of f k x) (bodies_from f (suc k) nodes) (body_of f (k + suc n) (node_at nodes n)) rest)
      | inr gone ↦ subst (λ bs. Contains bs (body_of f (k + suc n) (node_at nodes n))) (sym (bodies-gone f k x nodes gone)) rest
    ]

-- the extents, the number and the words of the bodies are those of the nodes
pub extents-bodies : (f : ℕ → ℕ) (k : ℕ) (nodes : List Node) → extents_of_bodies (bodies_from f k nodes) ≡ extents_of nodes
extents-bodies f k [] = refl
extents-bodies f k (x ∷ nodes) =
    elim (cases_Bool (is_there x.life)) [
      | inl present ↦ ap extents_of_bodies (bodies-there f k x nodes present) ∙ ap (λ es. record { place = x.place; size = size_of x } ∷ es) (extents-bodies f (suc k) nodes)
          ∙ sym (ap (λ b. cond b (record { place = x.place; size = size_of x } ∷ extents_of nodes) (extents_of nodes)) present)
      | inr gone ↦ ap extents_of_bodies (bodies-gone f k x nodes gone) ∙ extents-bodies f (suc k) nodes
          ∙ sym (ap (λ b. cond b (record { place = x.place; size = size_of x } ∷ extents_of nodes) (extents_of nodes)) gone)
    ]

pub length-bodies : (f : ℕ → ℕ) (k : ℕ) (nodes : List Node) → length (bodies_from f k nodes) ≡ objects_of nodes
length-bodies f k [] = refl
length-bodies f k (x ∷ nodes) =
    let split : objects_of (x ∷ nodes) ≡ cond (is_there x.life) 1 0 + objects_of nodes = sum_by-cons (λ (n : Node). cond (is_there n.life) 1 0) x nodes in
    elim (cases_Bool (is_there x.life)) [
      | inl present ↦ (let one : objects_of (x ∷ nodes) ≡ 1 + objects_of nodes = split ∙ ap (λ b. cond b 1 0 + objects_of nodes) present in
          omega (arith, ap length (bodies-there f k x nodes present), length-bodies f (suc k) nodes, one))
      | inr gone ↦ (let none : objects_of (x ∷ nodes) ≡ 0 + objects_of nodes = split ∙ ap (λ b. cond b 1 0 + objects_of nodes) gone in
          omega (arith, ap length (bodies-gone f k x nodes gone), length-bodies f (suc k) nodes, none))
    ]

pub used-bodies : (f : ℕ → ℕ) (k : ℕ) (nodes : List Node) → sum_by (λ (b : Body). b.size) (bodies_from f k nodes) ≡ used_of nodes
used-bodies f k [] = refl
used-bodies f k (x ∷ nodes) =
    let split : used_of (x ∷ nodes) ≡ cond (is_there x.life) (size_of x) 0 + used_of nodes =
    sum_by-cons (λ (n : Node). cond (is_there n.life) (size_of n) 0) x nodes in
    elim (cases_Bool (is_there x.life)) [
      | inl present ↦ (let one : used_of (x ∷ nodes) ≡ size_of x + used_of nodes = split ∙ ap (λ b. cond b (size_of x) 0 + used_of nodes) present in
          let first : sum_by (λ (b : Body). b.size) (bodies_from f k (x ∷ nodes)) ≡ size_of x + sum_by (λ (b : Body). b.size) (bodies_from f (suc k) nodes) =
          ap (sum_by (λ (b : Body). b.size)) (bodies-there f k x nodes present) ∙ sum_by-cons (λ (b : Body). b.size) (body_of f k x) (bodies_from f (suc k) nodes) in
          omega (arith, first, used-bodies f (suc k) nodes, one))
      | inr gone ↦ (let none : used_of (x ∷ nodes) ≡ 0 + used_of nodes = split ∙ ap (λ b. cond b (size_of x) 0 + used_of nodes) gone in
          omega (arith, ap (sum_by (λ (b : Body). b.size)) (bodies-gone f k x nodes gone), used-bodies f (suc k) nodes, none))
    ]
