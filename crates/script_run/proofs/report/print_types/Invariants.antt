use Rattle.std.proofs.Common.{◌≡◌, take}
use Rattle.gc_graph.specs.Report.{lines_bytes}
use Rattle.script_run.specs.Printed.{counted_lines}
use Rattle.text_devices.specs.Devices.{Grew}
use Rattle.report_text.specs.Pieces.{with_held_back, TookMore}
use Rattle.script_run.proofs.report.print_types.Given as goal

abbrev pub invariant-loop-t : goal.invariant-loop-t
invariant-loop-t g l = record {
  steady : g.K.Sink.faults l.sink ≡ g.K.Sink.faults l.initial.sink;
  taken : TookMore (g.K.Sink.written l.initial.sink) (g.K.Sink.written l.sink);
  printed : Grew (with_held_back (g.K.Sink.written l.initial.sink) l.initial.pieces) (with_held_back (g.K.Sink.written l.sink) l.pieces) (lines_bytes (take l.t (counted_lines l.count)));
}
