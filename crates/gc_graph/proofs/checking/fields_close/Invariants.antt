use Rattle.std.proofs.Common.{◌≡◌, drop}
use Rattle.gc_graph.specs.Checking.{is_listed, fields_close}
use Rattle.gc_graph.proofs.checking.fields_close.Given as goal

abbrev pub invariant-loop-kind : goal.invariant-loop-kind
invariant-loop-kind l =
    fields_close (is_listed l.members) (drop l.kind-index l.kinds) l.rest ≡ fields_close (is_listed l.members) l.kinds l.values
