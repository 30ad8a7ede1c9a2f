use Rattle.std.proofs.Common.{◌≡◌, take}
use Rattle.gc_graph.specs.Outcomes.{finalise_lines}
use Rattle.gc_graph.specs.Report.{lines_bytes}
use Rattle.text_devices.specs.Devices.{Grew}
use Rattle.report_text.specs.Pieces.{with_held_back, TookMore}
use Rattle.script_run.proofs.outcome_lines.print_finalised.Given as goal

abbrev pub invariant-loop-number : goal.invariant-loop-number
invariant-loop-number g l = record {
  steady : g.K.Sink.faults l.sink ≡ g.K.Sink.faults l.initial.sink;
  taken : TookMore (g.K.Sink.written l.initial.sink) (g.K.Sink.written l.sink);
  printed : Grew (with_held_back (g.K.Sink.written l.initial.sink) l.initial.pieces) (with_held_back (g.K.Sink.written l.sink) l.pieces)
      (lines_bytes (take l.number-index (finalise_lines l.numbers)));
}
