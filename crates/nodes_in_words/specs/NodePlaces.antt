-- One node alone has a place, and names of nodes are names of bodies.
use Rattle.std.proofs.Common.{◌≡◌, ℕ, suc, ◌+◌, ◌<◌, ◌≤◌, ◌^◌, true, List, [], ◌∷◌, length, get_or, refl, sym, ap, ◌∙◌, subst, inl, inr, arith}
use Rattle.std.specs.List.{All, Contains}
use Rattle.std.proofs.lemmas.Bool.{true≢false, cases_Bool}
use Rattle.std.proofs.lemmas.List.Elements.{Contains-get_or, All-from_get_or}
use Rattle.gc_graph.specs.State.{Node, Life, node_at, is_there, is_live, IsLive}
use Rattle.gc_graph.specs.State.Life.{Live, Dead, Gone}
use Rattle.gc_graph.specs.Members.{Contains-cons, Contains-head}
use Rattle.marker_core.specs.declared.states.Body.{Body}
use Rattle.marker_core.specs.Bodies.{no_body}
use Rattle.page_words.specs.Seat.{SeatView, IsView}
use Rattle.page_words.specs.BodyPlaces.{same_body}
use Rattle.pair_notes.specs.BodyGraph.{PlacesDiffer}
use Rattle.nodes_in_words.specs.Nodes.{place_of, body_of, bodies_from, bodies_of, most_nodes, IsThere}
use Rattle.nodes_in_words.specs.NodeBodies.{bodies-there, bodies-gone, node_of_body, body_of_node}

pub live_is_there : (nodes : List Node) (n : ℕ) → IsLive nodes n → IsThere nodes n
live_is_there nodes n live = ap is_there live

pub live_is_live : (nodes : List Node) (n : ℕ) → IsLive nodes n → is_live (node_at nodes n).life ≡ true
live_is_live nodes n live = ap is_live live

pub is_live_life : (l : Life) → is_live l ≡ true → l ≡ Live
is_live_life Live is = refl
is_live_life Dead is = absurd (true≢false (sym is))
is_live_life Gone is = absurd (true≢false (sym is))

-- the body of a node that is there, among all bodies
pub node_body : (nodes : List Node) (v : SeatView) (n : ℕ) → v.bodies ≡ bodies_of nodes → IsThere nodes n → Contains v.bodies (body_of (place_of nodes) n (node_at nodes n))
node_body nodes v n held there =
    subst (λ bs. Contains bs (body_of (place_of nodes) n (node_at nodes n))) (sym held)
    (subst (λ m. Contains (bodies_of nodes) (body_of (place_of nodes) m (node_at nodes n))) (let e : 0 + n ≡ n = omega arith in e) (body_of_node (place_of nodes) 0 nodes n there))

-- where the bodies are those of the nodes, each body is that of a node that is there
pub body_node : (nodes : List Node) (v : SeatView) (b : Body) → v.bodies ≡ bodies_of nodes → Contains v.bodies b
    → (n : ℕ) × (n < length nodes) × IsThere nodes n × (b ≡ body_of (place_of nodes) n (node_at nodes n))
body_node nodes v b held there =
    let w = node_of_body (place_of nodes) 0 nodes b (subst (λ bs. Contains bs b) held there) in
    (w.0, w.1, w.2, w.3 ∙ ap (λ m. body_of (place_of nodes) m (node_at nodes w.0)) (let e : 0 + w.0 ≡ w.0 = omega arith in e))

-- where a view's bodies are those of the nodes, two nodes that are there and lie at one place are one
pub same_node : (nodes : List Node) (v : SeatView) (n m : ℕ) → IsView v → v.bodies ≡ bodies_of nodes → IsThere nodes n → IsThere nodes m
    → place_of nodes n ≡ place_of nodes m → n ≡ m
same_node nodes v n m view held n_there m_there same =
    ap (λ (b : Body). b.serial) (same_body v (body_of (place_of nodes) n (node_at nodes n)) (body_of (place_of nodes) m (node_at nodes m)) view
    (node_body nodes v n held n_there) (node_body nodes v m held m_there) same)

differ_from : (f : ℕ → ℕ) (k : ℕ) (nodes : List Node)
    → ((b c : Body) → Contains (bodies_from f k nodes) b → Contains (bodies_from f k nodes) c → b.place ≡ c.place → b ≡ c)
    → PlacesDiffer (bodies_from f k nodes)
differ_from f k [] one = tt
differ_from f k (x ∷ nodes) one =
    elim (cases_Bool (is_there x.life)) [
      | inl present ↦
          (let is : bodies_from f k (x ∷ nodes) ≡ body_of f k x ∷ bodies_from f (suc k) nodes = bodies-there f k x nodes present in
          let apart : (b c : Body) → Contains (body_of f k x ∷ bodies_from f (suc k) nodes) b → Contains (body_of f k x ∷ bodies_from f (suc k) nodes) c
          → b.place ≡ c.place → b ≡ c =
          subst (λ bs. (b c : Body) → Contains bs b → Contains bs c → b.place ≡ c.place → b ≡ c) is one in
          subst PlacesDiffer (sym is) (
            (λ i d low same.
                let c : Body = get_or (bodies_from f (suc k) nodes) i d in
                let there : Contains (bodies_from f (suc k) nodes) c = Contains-get_or (bodies_from f (suc k) nodes) i d low in
                let equal : c ≡ body_of f k x =
                apart c (body_of f k x) (Contains-cons (body_of f k x) (bodies_from f (suc k) nodes) c there) (Contains-head (body_of f k x) (bodies_from f (suc k) nodes)) same in
                let w = node_of_body f (suc k) nodes c there in
                omega (arith, ap (λ (b : Body). b.serial) equal, ap (λ (b : Body). b.serial) w.3)),
            differ_from f (suc k) nodes (λ b c bt ct. apart b c (Contains-cons (body_of f k x) (bodies_from f (suc k) nodes) b bt) (Contains-cons (body_of f k x) (bodies_from f (suc k) nodes) c ct)),
          ))
      | inr gone ↦
          (let is : bodies_from f k (x ∷ nodes) ≡ bodies_from f (suc k) nodes = bodies-gone f k x nodes gone in
          subst PlacesDiffer (sym is)
          (differ_from f (suc k) nodes (subst (λ bs. (b c : Body) → Contains bs b → Contains bs c → b.place ≡ c.place → b ≡ c) is one)))
    ]

pub places_differ : (nodes : List Node) (v : SeatView) → IsView v → v.bodies ≡ bodies_of nodes → PlacesDiffer v.bodies
places_differ nodes v view held =
    subst PlacesDiffer (sym held)
    (differ_from (place_of nodes) 0 nodes (subst (λ bs. (b c : Body) → Contains bs b → Contains bs c → b.place ≡ c.place → b ≡ c) held (λ b c. same_body v b c view)))

-- serial numbers are numbers of nodes
pub serials_fit : (nodes : List Node) (v : SeatView) → v.bodies ≡ bodies_of nodes → length nodes ≤ most_nodes → All (λ (b : Body). b.serial < 2 ^ 32) v.bodies
serials_fit nodes v held few =
    All-from_get_or (λ (b : Body). b.serial < 2 ^ 32) v.bodies no_body
    (λ i low.
    let node = body_node nodes v (get_or v.bodies i no_body) held (Contains-get_or v.bodies i no_body low) in
    omega (arith, node.1, ap (λ (b : Body). b.serial) node.3))
