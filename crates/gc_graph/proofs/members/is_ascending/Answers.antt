use Rattle.std.proofs.lemmas.List.Sorted.{non_decreasing_from_is_sorted}
use Rattle.gc_graph.proofs.Listed.{ascends}
use Rattle.gc_graph.proofs.members.is_ascending.Goals as goal

pub returns : goal.returns
returns c =
    ascends c.args.numbers.now c.is_sorted.result
    (non_decreasing_from_is_sorted c.args.numbers.now c.is_sorted.result c.is_sorted.ensures.cases)
