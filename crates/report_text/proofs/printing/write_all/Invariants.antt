use Rattle.std.proofs.Common.{◌≡◌, length}
use Rattle.report_text.proofs.PieceByPiece.{TookFront}
use Rattle.report_text.proofs.printing.write_all.Given as goal

abbrev pub invariant-loop-rest : goal.invariant-loop-rest
invariant-loop-rest g l = record {
  took : TookFront (g.K.Sink.written l.initial.sink) (g.K.Sink.written l.sink) l.fn.text l.rest;
  steady : g.K.Sink.faults l.sink ≡ g.K.Sink.faults l.initial.sink;
}

abbrev pub decreases-loop-rest : goal.decreases-loop-rest
decreases-loop-rest g l = length l.rest
