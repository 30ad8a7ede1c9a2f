-- How the bodies change with the nodes.
use Rattle.std.proofs.Common.{◌≡◌, ℕ, suc, ◌+◌, Bool, true, false, List, [], ◌∷◌, map, refl, ap, ◌∙◌, cond, zero, set}
use Rattle.std.specs.List.{All}
use Rattle.std.proofs.lemmas.List.Elements.{All-head, All-tail}
use Rattle.gc_graph.specs.declared.kind.Value.{Value}
use Rattle.gc_graph.specs.declared.kind.Value.TheVariants.{Null, Ref, Word}
use Rattle.gc_graph.specs.State.{Node, node_at, Life, is_there, size_of}
use Rattle.gc_graph.specs.State.Life.{Live, Dead, Gone}
use Rattle.gc_graph.specs.Pause.{judged, condemn}
use Rattle.marker_core.specs.declared.states.Body.{Body}
use Rattle.nodes_in_words.specs.Nodes.{place_of, word_of, body_of, bodies_from}

-- two functions agree on the node that the value names
abbrev pub AgreeOn : (ℕ → ℕ) → (ℕ → ℕ) → Value → Type 0
AgreeOn f g Null = Unit {0}
AgreeOn f g (Ref n) = f n ≡ g n
AgreeOn f g (Word w) = Unit {0}

-- and on all that the node names
abbrev pub AgreeIn : (ℕ → ℕ) → (ℕ → ℕ) → Node → Type 0
AgreeIn f g x = All (AgreeOn f g) x.object.values

pub agrees : (f g : ℕ → ℕ) (v : Value) → ((n : ℕ) → f n ≡ g n) → AgreeOn f g v
agrees f g Null same = tt
agrees f g (Ref n) same = same n
agrees f g (Word w) same = tt

word-places : (f g : ℕ → ℕ) (v : Value) → AgreeOn f g v → word_of f v ≡ word_of g v
word-places f g Null same = refl
word-places f g (Ref n) same = ap (λ p. p + 1) same
word-places f g (Word w) same = refl

words-places : (f g : ℕ → ℕ) (vs : List Value) → All (AgreeOn f g) vs → map (word_of f) vs ≡ map (word_of g) vs
words-places f g [] same = refl
words-places f g (v ∷ vs) same =
    ap (λ w. w ∷ map (word_of f) vs) (word-places f g v (All-head (AgreeOn f g) v vs same))
    ∙ ap (λ ws. word_of g v ∷ ws) (words-places f g vs (All-tail (AgreeOn f g) v vs same))

body-places : (f g : ℕ → ℕ) (k : ℕ) (x : Node) → AgreeIn f g x → body_of f k x ≡ body_of g k x
body-places f g k x same =
    ap (λ ws. let b : Body = record { place = x.place; ty = x.object.ty; size = size_of x; serial = k; fields = ws } in b) (words-places f g x.object.values same)

-- the bodies depend on the places of the nodes that are named
pub bodies-places : (f g : ℕ → ℕ) (k : ℕ) (nodes : List Node) → All (AgreeIn f g) nodes → bodies_from f k nodes ≡ bodies_from g k nodes
bodies-places f g k [] same = refl
bodies-places f g k (x ∷ nodes) same =
    let first : body_of f k x ≡ body_of g k x = body-places f g k x (All-head (AgreeIn f g) x nodes same) in
    let rest : bodies_from f (suc k) nodes ≡ bodies_from g (suc k) nodes = bodies-places f g (suc k) nodes (All-tail (AgreeIn f g) x nodes same) in
    ap (λ b. cond (is_there x.life) (b ∷ bodies_from f (suc k) nodes) (bodies_from f (suc k) nodes)) first
    ∙ ap (λ bs. cond (is_there x.life) (body_of g k x ∷ bs) bs) rest

-- nodes have the same bodies by two maps from numbers to places that agree on every number
pub bodies-same : (f g : ℕ → ℕ) (nodes : List Node) → ((n : ℕ) → f n ≡ g n) → bodies_from f 0 nodes ≡ bodies_from g 0 nodes
bodies-same f g nodes same = bodies-places f g 0 nodes (λ i x low j v inside. agrees f g _ same)

there-judged : (flag : Bool) (l : Life) → is_there (judged flag l) ≡ is_there l
there-judged true l = refl
there-judged false Live = refl
there-judged false Dead = refl
there-judged false Gone = refl

-- a condemned node keeps its body
pub bodies-condemn : (f : ℕ → ℕ) (k : ℕ) (kept : List Bool) (nodes : List Node) → bodies_from f k (condemn kept nodes) ≡ bodies_from f k nodes
bodies-condemn f k [] [] = refl
bodies-condemn f k (flag ∷ kept) [] = refl
bodies-condemn f k [] (x ∷ nodes) =
    ap (λ b. cond b (body_of f k x ∷ bodies_from f (suc k) (condemn [] nodes)) (bodies_from f (suc k) (condemn [] nodes))) (there-judged false x.life)
    ∙ ap (λ bs. cond (is_there x.life) (body_of f k x ∷ bs) bs) (bodies-condemn f (suc k) [] nodes)
bodies-condemn f k (flag ∷ kept) (x ∷ nodes) =
    ap (λ b. cond b (body_of f k x ∷ bodies_from f (suc k) (condemn kept nodes)) (bodies_from f (suc k) (condemn kept nodes))) (there-judged flag x.life)
    ∙ ap (λ bs. cond (is_there x.life) (body_of f k x ∷ bs) bs) (bodies-condemn f (suc k) kept nodes)

-- ---- one node in place of another

-- a node put in place of one that lies where it does leaves each node's place as it was
pub place_set : (nodes : List Node) (n : ℕ) (y : Node) (m : ℕ) → y.place ≡ place_of nodes n → place_of (set nodes n y) m ≡ place_of nodes m
place_set [] n y m is = refl
place_set (x ∷ nodes) zero y zero is = is
place_set (x ∷ nodes) zero y (suc m) is = refl
place_set (x ∷ nodes) (suc n) y zero is = refl
place_set (x ∷ nodes) (suc n) y (suc m) is = place_set nodes n y m is

-- a node put in place of one with the same life leaves each node's life as it was
pub life_set : (nodes : List Node) (n : ℕ) (y : Node) (m : ℕ) → y.life ≡ (node_at nodes n).life → (node_at (set nodes n y) m).life ≡ (node_at nodes m).life
life_set [] n y m is = refl
life_set (x ∷ nodes) zero y zero is = is
life_set (x ∷ nodes) zero y (suc m) is = refl
life_set (x ∷ nodes) (suc n) y zero is = refl
life_set (x ∷ nodes) (suc n) y (suc m) is = life_set nodes n y m is
