-- A reach has a flag for each node.
use Rattle.std.proofs.Common.{◌≡◌, ℕ, zero, suc, ◌&&◌, ◌||◌, Bool, List, length, eqb}
use Rattle.std.specs.List.{list_any}
use Rattle.std.proofs.lemmas.List.FromFn.{length-map-range_with_len}
use Rattle.gc_graph.specs.Graph.{Object, object_at, has, leads_to}
use Rattle.gc_graph.specs.Reach.{set_of, any_below, closing, closed_times, Reach}

pub length-closing : (g : List Object) (s : List Bool) → length (closing g s) ≡ length g
length-closing g s = length-map-range_with_len (λ k. has s k || any_below (λ i. has s i && leads_to s (object_at g i) k) (length g)) 0 (length g)

pub length-closed_times : (n : ℕ) (g : List Object) (s : List Bool) → length s ≡ length g → length (closed_times n g s) ≡ length g
length-closed_times zero g s e = e
length-closed_times (suc n) g s e = length-closing g (closed_times n g s)

-- the reach of roots in a graph has as many flags as the graph has nodes
pub reach_length : (g : List Object) (roots : List ℕ) → length (Reach g roots) ≡ length g
unfolding Reach
reach_length g roots =
    length-closed_times (length g) g (set_of (λ k. list_any (λ r. eqb r k) roots) (length g))
    (length-map-range_with_len (λ k. list_any (λ r. eqb r k) roots) 0 (length g))
