use Rattle.gc_graph.proofs.CountedLines.{steps_count_lines}
use Rattle.gc_graph.proofs.laws_of_cycles.steps_count_their_lines.Goals as goal

pub returns : goal.returns
returns c = steps_count_lines
