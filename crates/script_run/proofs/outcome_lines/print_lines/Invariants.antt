use Rattle.std.proofs.Common.{◌≡◌, take}
use Rattle.gc_graph.specs.Report.{lines_bytes}
use Rattle.text_devices.specs.Devices.{Grew}
use Rattle.report_text.specs.Pieces.{with_held_back, TookMore}
use Rattle.script_run.proofs.outcome_lines.print_lines.Given as goal

abbrev pub invariant-loop-index : goal.invariant-loop-index
invariant-loop-index g l = record {
  same : l.heap.core ≡ l.fn.heap.core;
  steady : g.K.Sink.faults l.sink ≡ g.K.Sink.faults l.fn.sink;
  taken : TookMore (g.K.Sink.written l.fn.sink) (g.K.Sink.written l.sink);
  printed : Grew (with_held_back (g.K.Sink.written l.fn.sink) l.fn.pieces) (with_held_back (g.K.Sink.written l.sink) l.pieces) (lines_bytes (take l.index l.fn.heap.core.lines));
}
