-- Which places are left without those between two addresses.
use Rattle.std.proofs.Common.{◌≡◌, ℕ, not, ◌&&◌, List}
use Rattle.gc_graph.specs.Members.{filtered_holds}
use Rattle.marker_core.specs.Bodies.{holds}
use Rattle.page_space.specs.Pages.{is_between}
use Rattle.sweeper.specs.Sweeping.{outside}

-- an address is among the places left exactly where it was among them and doesn't lie between the two addresses
pub outside_holds : (from until : ℕ) (places : List ℕ) (a : ℕ) → holds (outside from until places) a ≡ (not (is_between from until a) && holds places a)
outside_holds from until places a = filtered_holds (λ x. not (is_between from until x)) places a
