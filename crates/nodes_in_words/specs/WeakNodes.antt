-- What weak clearing makes of each node: its place and its life stay.
use Rattle.std.proofs.Common.{◌≡◌, ℕ, zero, suc, ◌+◌, Bool, true, false, List, [], ◌∷◌, length, map, refl, sym, ap, ◌∙◌, arith, cond}
use Rattle.std.specs.List.{count_by}
use Rattle.std.proofs.lemmas.List.Sums.{sum_by-cons}
use Rattle.std.proofs.lemmas.List.{length-map}
use Rattle.gc_graph.specs.State.{Node, Life, node_at, is_live, is_dead}
use Rattle.gc_graph.specs.Pause.{with_cleared, clear_node, is_dead_at, condemn, live_count, dead_count}
use Rattle.gc_graph.specs.Condemning.{length-condemn}
use Rattle.nodes_in_words.specs.Judgement.{nodes_after}
use Rattle.nodes_in_words.specs.Nodes.{place_of}
use Rattle.nodes_in_words.specs.NodeLives.{place-condemn}

pub life-clear : (dead : ℕ → Bool) (x : Node) → (clear_node dead x).life ≡ x.life
life-clear dead x = go (is_live x.life) where
  go : (b : Bool) → (cond b (with_cleared dead x) x).life ≡ x.life
  go true = refl
  go false = refl

place-clear : (dead : ℕ → Bool) (x : Node) → (clear_node dead x).place ≡ x.place
place-clear dead x = go (is_live x.life) where
  go : (b : Bool) → (cond b (with_cleared dead x) x).place ≡ x.place
  go true = refl
  go false = refl

life-clear_nodes : (dead : ℕ → Bool) (nodes : List Node) (n : ℕ) → (node_at (map (clear_node dead) nodes) n).life ≡ (node_at nodes n).life
life-clear_nodes dead [] n = refl
life-clear_nodes dead (x ∷ nodes) zero = life-clear dead x
life-clear_nodes dead (x ∷ nodes) (suc n) = life-clear_nodes dead nodes n

place-clear_nodes : (dead : ℕ → Bool) (nodes : List Node) (n : ℕ) → place_of (map (clear_node dead) nodes) n ≡ place_of nodes n
place-clear_nodes dead [] n = refl
place-clear_nodes dead (x ∷ nodes) zero = place-clear dead x
place-clear_nodes dead (x ∷ nodes) (suc n) = place-clear_nodes dead nodes n

-- a count of nodes by their lives
count-clear : (is : Life → Bool) (dead : ℕ → Bool) (nodes : List Node)
    → count_by (λ (n : Node). is n.life) (map (clear_node dead) nodes) ≡ count_by (λ (n : Node). is n.life) nodes
count-clear is dead [] = refl
count-clear is dead (x ∷ nodes) =
    sum_by-cons (λ (n : Node). cond (is n.life) 1 0) (clear_node dead x) (map (clear_node dead) nodes)
    ∙ ap (λ l. cond (is l) 1 0 + count_by (λ (n : Node). is n.life) (map (clear_node dead) nodes)) (life-clear dead x)
    ∙ ap (λ k. cond (is x.life) 1 0 + k) (count-clear is dead nodes)
    ∙ sym (sum_by-cons (λ (n : Node). cond (is n.life) 1 0) x nodes)

-- ---- the nodes after a pause

pub life-after : (kept : List Bool) (nodes : List Node) (n : ℕ) → (node_at (nodes_after kept nodes) n).life ≡ (node_at (condemn kept nodes) n).life
life-after kept nodes n = life-clear_nodes (is_dead_at (condemn kept nodes)) (condemn kept nodes) n

pub place-after : (kept : List Bool) (nodes : List Node) (n : ℕ) → place_of (nodes_after kept nodes) n ≡ place_of nodes n
place-after kept nodes n = place-clear_nodes (is_dead_at (condemn kept nodes)) (condemn kept nodes) n ∙ place-condemn kept nodes n

pub length-after : (kept : List Bool) (nodes : List Node) → length (nodes_after kept nodes) ≡ length nodes
length-after kept nodes = length-map (condemn kept nodes) (clear_node (is_dead_at (condemn kept nodes))) ∙ length-condemn kept nodes

pub live-after : (kept : List Bool) (nodes : List Node) → live_count (nodes_after kept nodes) ≡ live_count (condemn kept nodes)
live-after kept nodes = count-clear is_live (is_dead_at (condemn kept nodes)) (condemn kept nodes)

pub dead-after : (kept : List Bool) (nodes : List Node) → dead_count (nodes_after kept nodes) ≡ dead_count (condemn kept nodes)
dead-after kept nodes = count-clear is_dead (is_dead_at (condemn kept nodes)) (condemn kept nodes)

-- nodes with the same lives count alike
pub count-stays : (is : Life → Bool) (old new : List Node) → length new ≡ length old → ((n : ℕ) → (node_at new n).life ≡ (node_at old n).life)
    → count_by (λ (x : Node). is x.life) new ≡ count_by (λ (x : Node). is x.life) old
count-stays is [] [] whole lives = refl
count-stays is [] (x ∷ new) whole lives = absurd (omega arith)
count-stays is (x ∷ old) [] whole lives = absurd (omega arith)
count-stays is (x ∷ old) (y ∷ new) whole lives =
    sum_by-cons (λ (n : Node). cond (is n.life) 1 0) y new
    ∙ ap (λ l. cond (is l) 1 0 + count_by (λ (n : Node). is n.life) new) (lives 0)
    ∙ ap (λ k. cond (is x.life) 1 0 + k) (count-stays is old new (omega arith) (λ n. lives (suc n)))
    ∙ sym (sum_by-cons (λ (n : Node). cond (is n.life) 1 0) x old)
