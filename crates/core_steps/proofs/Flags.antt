-- Flags of what roots reach.
use Rattle.std.proofs.Common.{◌≡◌, ℕ, List, length, map, filter, Bool, ◌&&◌, eqb, sym, ap, ◌∙◌}
use Rattle.std.specs.List.{find, range_with_len}
use Rattle.std.proofs.lemmas.List.FromFn.{length-map-range_with_len}
use Rattle.gc_graph.specs.declared.kind.Kind.{Kind}
use Rattle.gc_graph.specs.Graph.{has}
use Rattle.gc_graph.specs.Reach.{closed_times, Reach}
use Rattle.gc_graph.specs.Members.{filtered_holds}
use Rattle.marker_core.specs.declared.states.Body.{Body}
use Rattle.marker_core.specs.Bodies.{holds, places, is_place}
use Rattle.marker_core.specs.Closed.{address_node, address_graph, reach_over}

-- a root that is a place
pub root_is : (p : ℕ → Bool) (roots : List ℕ) (n : ℕ) → holds (filter p roots) n ≡ (p n && holds roots n)
root_is p roots n = filtered_holds p roots n

-- the flags closed as many times as there are words are those of what the roots reach
pub reached_is : (count : ℕ) (types : List (List Kind)) (bodies : List Body) (roots : List ℕ) (set : List Bool) (n : ℕ) → n ≡ count
    → set ≡ closed_times n (address_graph count types bodies) (map (holds (filter (is_place bodies) roots)) (range_with_len 0 count))
    → filter (has set) (places bodies) ≡ reach_over count types bodies roots
unfolding reach_over Reach
reached_is count types bodies roots set n all closed =
    let g = address_graph count types bodies in
    let start = holds (filter (is_place bodies) roots) in
    let long : length g ≡ count = length-map-range_with_len (λ a. address_node types (find (λ (b : Body). eqb b.place a) bodies)) 0 count in
    ap (λ l. filter (has l) (places bodies))
    (closed ∙ ap (λ k. closed_times k g (map start (range_with_len 0 count))) (all ∙ sym long)
    ∙ ap (λ k. closed_times (length g) g (map start (range_with_len 0 k))) (sym long))
