use Rattle.std.proofs.Common.{◌≡◌, drop}
use Rattle.std.specs.List.{list_all}
use Rattle.gc_graph.specs.Checking.{is_listed}
use Rattle.gc_graph.proofs.members.Members.has_all.Given as goal

abbrev pub invariant-loop-n : goal.invariant-loop-n
invariant-loop-n l = list_all (is_listed l.self) (drop l.n-index l.numbers) ≡ list_all (is_listed l.self) l.numbers
