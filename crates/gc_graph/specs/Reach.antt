-- What the roots reach (atomic, incremental and concurrent garbage collection, `include/cppgc/README.md`).
use Rattle.std.specs.Prelude.{◌≡◌, ℕ, zero, suc, ◌==◌, ◌&&◌, ◌||◌, ◌<◌, Bool, true, false, List, length, map}
use Rattle.std.specs.List.{list_any, range_with_len}
use Rattle.gc_graph.specs.Graph.{Object, object_at, has, IsIn, IsWithin, IsClosed, leads_to}

-- whether some number below the bound passes
abbrev pub any_below : (ℕ → Bool) → ℕ → Bool
any_below test zero = false
any_below test (suc n) = test n || any_below test n

-- the set of the numbers below the bound that pass
abbrev pub set_of : (ℕ → Bool) → ℕ → List Bool
set_of test n = map test (range_with_len 0 n)

-- the set together with what its members lead to
abbrev pub closing : List Object → List Bool → List Bool
closing graph set =
    set_of (λ n. has set n || any_below (λ m. has set m && leads_to set (object_at graph m) n) (length graph)) (length graph)

-- the set closed so many times
abbrev pub closed_times : ℕ → List Object → List Bool → List Bool
closed_times zero graph set = set
closed_times (suc n) graph set = closing graph (closed_times n graph set)

-- reach: the roots, closed as many times as there are nodes
unfoldable pub Reach : List Object → List ℕ → List Bool
Reach graph roots = closed_times (length graph) graph (set_of (λ n. list_any (λ r. r == n) roots) (length graph))

-- each edge leads to a node of the graph
abbrev pub RefersWithin : List Object → Type 0
RefersWithin graph = (set : List Bool) (m n : ℕ) → leads_to set (object_at graph m) n ≡ true → n < length graph

-- the set holds each of the numbers
abbrev pub HoldsAll : List Bool → List ℕ → Type 0
HoldsAll set roots = (n : ℕ) → list_any (λ r. r == n) roots ≡ true → IsIn set n

-- each of the numbers is a node of the graph
abbrev pub AreNodes : List Object → List ℕ → Type 0
AreNodes graph roots = (n : ℕ) → list_any (λ r. r == n) roots ≡ true → n < length graph

-- the least closed set that holds the roots
pub record IsLeastClosed (graph : List Object) (roots : List ℕ) (set : List Bool) : Type 0 where
  pub closed : IsClosed graph set
  pub roots_in : HoldsAll set roots
  pub least : (other : List Bool) → IsClosed graph other → HoldsAll other roots → IsWithin set other

-- the law of reach
abbrev pub ReachIsLeast : Type 0
ReachIsLeast =
    (graph : List Object) (roots : List ℕ) → RefersWithin graph → AreNodes graph roots → IsLeastClosed graph roots (Reach graph roots)
