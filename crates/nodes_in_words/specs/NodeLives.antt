-- What a pause makes of each node.
use Rattle.std.proofs.Common.{◌≡◌, ℕ, zero, suc, ◌+◌, Bool, true, false, ◌&&◌, not, List, [], ◌∷◌, refl, sym, ap, ◌∙◌, inl, inr, arith, cond}
use Rattle.std.specs.List.{count_by}
use Rattle.std.proofs.lemmas.Bool.{true≢false, cases_Bool}
use Rattle.std.proofs.lemmas.List.Sums.{sum_by-cons}
use Rattle.gc_graph.specs.Graph.{has}
use Rattle.gc_graph.specs.State.{Node, Life, node_at, is_there, is_live, is_dead, IsDead, objects_of}
use Rattle.gc_graph.specs.State.Life.{Live, Dead, Gone}
use Rattle.gc_graph.specs.Pause.{judged, condemn, live_count, dead_count}
use Rattle.gc_graph.specs.Condemning.{judged_gone}
use Rattle.marker_core.specs.declared.states.Body.{Body}
use Rattle.marker_core.specs.Bodies.{holds}
use Rattle.page_words.specs.Seat.{SeatView}
use Rattle.nodes_in_words.specs.Nodes.{place_of, body_of, bodies_from, IsThere, IsHeld}
use Rattle.nodes_in_words.specs.Places.{kept_of}
use Rattle.nodes_in_words.specs.NodeBodies.{bodies-there, bodies-gone}

-- ---- condemned

pub life-condemn : (kept : List Bool) (nodes : List Node) (n : ℕ) → (node_at (condemn kept nodes) n).life ≡ judged (has kept n) (node_at nodes n).life
life-condemn [] [] n = refl
life-condemn (flag ∷ kept) [] n = sym (judged_gone (has (flag ∷ kept) n))
life-condemn [] (x ∷ nodes) zero = refl
life-condemn [] (x ∷ nodes) (suc n) = life-condemn [] nodes n
life-condemn (flag ∷ kept) (x ∷ nodes) zero = refl
life-condemn (flag ∷ kept) (x ∷ nodes) (suc n) = life-condemn kept nodes n

pub object-condemn : (kept : List Bool) (nodes : List Node) (n : ℕ) → (node_at (condemn kept nodes) n).object ≡ (node_at nodes n).object
object-condemn [] [] n = refl
object-condemn (flag ∷ kept) [] n = refl
object-condemn [] (x ∷ nodes) zero = refl
object-condemn [] (x ∷ nodes) (suc n) = object-condemn [] nodes n
object-condemn (flag ∷ kept) (x ∷ nodes) zero = refl
object-condemn (flag ∷ kept) (x ∷ nodes) (suc n) = object-condemn kept nodes n

pub place-condemn : (kept : List Bool) (nodes : List Node) (n : ℕ) → place_of (condemn kept nodes) n ≡ place_of nodes n
place-condemn [] [] n = refl
place-condemn (flag ∷ kept) [] n = refl
place-condemn [] (x ∷ nodes) zero = refl
place-condemn [] (x ∷ nodes) (suc n) = place-condemn [] nodes n
place-condemn (flag ∷ kept) (x ∷ nodes) zero = refl
place-condemn (flag ∷ kept) (x ∷ nodes) (suc n) = place-condemn kept nodes n

-- ---- lives

pub is_dead_life : (l : Life) → is_dead l ≡ true → l ≡ Dead
is_dead_life Live is = absurd (true≢false (sym is))
is_dead_life Dead is = refl
is_dead_life Gone is = absurd (true≢false (sym is))

pub live_if_there : (l : Life) → is_there l ≡ true → (l ≡ Dead → ⊥) → l ≡ Live
live_if_there Live there alive = refl
live_if_there Dead there alive = absurd (alive refl)
live_if_there Gone there alive = absurd (true≢false (sym there))

pub dead_judged : (flag : Bool) → is_dead (judged flag Live) ≡ not flag
dead_judged true = refl
dead_judged false = refl

there_judged : (flag : Bool) (l : Life) → is_there (judged flag l) ≡ is_there l
there_judged true l = refl
there_judged false Live = refl
there_judged false Dead = refl
there_judged false Gone = refl

pub there-condemn : (kept : List Bool) (nodes : List Node) (n : ℕ) → IsThere (condemn kept nodes) n → IsThere nodes n
there-condemn kept nodes n there = sym (there_judged (has kept n) (node_at nodes n).life) ∙ sym (ap is_there (life-condemn kept nodes n)) ∙ there

-- where nothing is dead in the words, no node is dead
pub none_dead : (nodes : List Node) (v : SeatView) → IsHeld nodes v → v.dead ≡ [] → (n : ℕ) → IsDead nodes n → ⊥
none_dead nodes v held empty n dead =
    never (sym (ap is_dead dead) ∙ sym (held.dead n (ap is_there dead)) ∙ ap (λ l. holds l (place_of nodes n)) empty) where
      never : true ≡ false → ⊥
      never e = cc

-- who was live is still there once it was judged
pub still_there : (flag : Bool) → is_there (judged flag Live) ≡ true
still_there true = refl
still_there false = refl

-- ---- counts

each_is_one : (l : Life) → cond (is_live l) 1 0 + cond (is_dead l) 1 0 ≡ cond (is_there l) 1 0
each_is_one Live = refl
each_is_one Dead = refl
each_is_one Gone = refl

pub live_and_dead : (nodes : List Node) → live_count nodes + dead_count nodes ≡ objects_of nodes
live_and_dead [] = refl
live_and_dead (x ∷ nodes) =
    let live : live_count (x ∷ nodes) ≡ cond (is_live x.life) 1 0 + live_count nodes = sum_by-cons (λ (n : Node). cond (is_live n.life) 1 0) x nodes in
    let dead : dead_count (x ∷ nodes) ≡ cond (is_dead x.life) 1 0 + dead_count nodes = sum_by-cons (λ (n : Node). cond (is_dead n.life) 1 0) x nodes in
    let all : objects_of (x ∷ nodes) ≡ cond (is_there x.life) 1 0 + objects_of nodes = sum_by-cons (λ (n : Node). cond (is_there n.life) 1 0) x nodes in
    omega (arith, live, dead, all, live_and_dead nodes, each_is_one x.life)

objects-judged : (kept : List Bool) (nodes : List Node) → objects_of (condemn kept nodes) ≡ objects_of nodes
objects-judged [] [] = refl
objects-judged (flag ∷ kept) [] = refl
objects-judged [] (x ∷ nodes) =
    sum_by-cons (λ (n : Node). cond (is_there n.life) 1 0) (record x { life = judged false x.life }) (condemn [] nodes)
    ∙ ap (λ b. cond b 1 0 + objects_of (condemn [] nodes)) (there_judged false x.life) ∙ ap (λ n. cond (is_there x.life) 1 0 + n) (objects-judged [] nodes)
    ∙ sym (sum_by-cons (λ (n : Node). cond (is_there n.life) 1 0) x nodes)
objects-judged (flag ∷ kept) (x ∷ nodes) =
    sum_by-cons (λ (n : Node). cond (is_there n.life) 1 0) (record x { life = judged flag x.life }) (condemn kept nodes)
    ∙ ap (λ b. cond b 1 0 + objects_of (condemn kept nodes)) (there_judged flag x.life) ∙ ap (λ n. cond (is_there x.life) 1 0 + n) (objects-judged kept nodes)
    ∙ sym (sum_by-cons (λ (n : Node). cond (is_there n.life) 1 0) x nodes)

-- the live nodes after a pause are the marked bodies, where no node was dead before
live_flag : (mark : Bool) (l : Life) → (l ≡ Dead → ⊥) → is_live (judged (is_live l && mark) l) ≡ (is_there l && mark)
live_flag true Live alive = refl
live_flag false Live alive = refl
live_flag mark Dead alive = absurd (alive refl)
live_flag mark Gone alive = refl

pub live-condemn : (f : ℕ → ℕ) (k : ℕ) (marked : ℕ → Bool) (nodes : List Node) → ((n : ℕ) → IsDead nodes n → ⊥)
    → live_count (condemn (kept_of marked nodes) nodes) ≡ count_by (λ (b : Body). marked b.place) (bodies_from f k nodes)
live-condemn f k marked [] alive = refl
live-condemn f k marked (x ∷ nodes) alive =
    let first : live_count (condemn (kept_of marked (x ∷ nodes)) (x ∷ nodes))
    ≡ cond (is_live (judged (is_live x.life && marked x.place) x.life)) 1 0 + live_count (condemn (kept_of marked nodes) nodes) =
    sum_by-cons (λ (n : Node). cond (is_live n.life) 1 0) (record x { life = judged (is_live x.life && marked x.place) x.life }) (condemn (kept_of marked nodes) nodes) in
    let flag : is_live (judged (is_live x.life && marked x.place) x.life) ≡ (is_there x.life && marked x.place) = live_flag (marked x.place) x.life (alive 0) in
    let rest : live_count (condemn (kept_of marked nodes) nodes) ≡ count_by (λ (b : Body). marked b.place) (bodies_from f (suc k) nodes) =
    live-condemn f (suc k) marked nodes (λ n dead. alive (suc n) dead) in
    first ∙ ap (λ b. cond b 1 0 + live_count (condemn (kept_of marked nodes) nodes)) flag
    ∙ ap (λ n. cond (is_there x.life && marked x.place) 1 0 + n) rest
    ∙ counted f k marked x nodes where
      counted : (f : ℕ → ℕ) (k : ℕ) (marked : ℕ → Bool) (x : Node) (nodes : List Node)
          → cond (is_there x.life && marked x.place) 1 0 + count_by (λ (b : Body). marked b.place) (bodies_from f (suc k) nodes) ≡ count_by (λ (b : Body). marked b.place) (bodies_from f k (x ∷ nodes))
      counted f k marked x nodes =
          elim (cases_Bool (is_there x.life)) [
            | inl present ↦
                ap (λ b. cond (b && marked x.place) 1 0 + count_by (λ (c : Body). marked c.place) (bodies_from f (suc k) nodes)) present
                ∙ sym (ap (count_by (λ (b : Body). marked b.place)) (bodies-there f k x nodes present)
                ∙ sum_by-cons (λ (b : Body). cond (marked b.place) 1 0) (body_of f k x) (bodies_from f (suc k) nodes))
            | inr gone ↦
                (let none : count_by (λ (b : Body). marked b.place) (bodies_from f k (x ∷ nodes)) ≡ count_by (λ (b : Body). marked b.place) (bodies_from f (suc k) nodes) =
                ap (count_by (λ (b : Body). marked b.place)) (bodies-gone f k x nodes gone) in
                let zero_now : cond (is_there x.life && marked x.place) 1 0 + count_by (λ (b : Body). marked b.place) (bodies_from f (suc k) nodes)
                ≡ 0 + count_by (λ (b : Body). marked b.place) (bodies_from f (suc k) nodes) =
                ap (λ b. cond (b && marked x.place) 1 0 + count_by (λ (c : Body). marked c.place) (bodies_from f (suc k) nodes)) gone in
                omega (arith, none, zero_now))
          ]
