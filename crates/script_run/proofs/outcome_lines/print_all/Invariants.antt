use Rattle.std.proofs.Common.{◌≡◌, false, take, drop}
use Rattle.gc_graph.specs.Sections.{AreInSections}
use Rattle.report_text.specs.Pieces.{with_held_back, TookMore}
use Rattle.script_run.specs.Printed.{IsPrintedRun}
use Rattle.script_run.proofs.outcome_lines.print_all.Given as goal

abbrev pub invariant-loop-command : goal.invariant-loop-command
invariant-loop-command g l = record {
  setup : l.heap.core.setup ≡ l.initial.heap.core.setup;
  sections : AreInSections l.heap.core.state.awaiting (drop l.command-index l.commands);
  ordinal : l.heap.core.state.ordinal ≡ l.command-index;
  opened : l.heap.core.closed ≡ false;
  steady : g.K.Sink.faults l.sink ≡ g.K.Sink.faults l.initial.sink;
  taken : TookMore (g.K.Sink.written l.initial.sink) (g.K.Sink.written l.sink);
  printed : IsPrintedRun l.initial.heap.core.setup (take l.command-index l.commands)
      (with_held_back (g.K.Sink.written l.initial.sink) l.initial.pieces) (with_held_back (g.K.Sink.written l.sink) l.pieces) l.heap.core;
}
