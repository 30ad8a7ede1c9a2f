use Rattle.std.proofs.Common.{◌≡◌, ℕ, drop}
use Rattle.std.specs.List.{list_all}
use Rattle.gc_graph.specs.Graph.{object_at}
use Rattle.gc_graph.specs.Checking.{is_listed, object_closes}
use Rattle.gc_graph.proofs.checking.is_closed.Given as goal

abbrev pub invariant-loop-m : goal.invariant-loop-m
invariant-loop-m l =
    let closes = λ (m : ℕ). object_closes (is_listed l.members) (object_at l.graph m) in
    list_all closes (drop l.m-index l.members) ≡ list_all closes l.members
