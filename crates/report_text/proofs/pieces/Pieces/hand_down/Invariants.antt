use Rattle.std.proofs.Common.{◌≡◌, ◌-◌, ◌≤◌, length, drop}
use Rattle.report_text.specs.Pieces.{with_held_back, TookMore}
use Rattle.report_text.proofs.pieces.Pieces.hand_down.Given as goal

abbrev pub invariant-loop-self : goal.invariant-loop-self
invariant-loop-self g l = record {
  within : l.self-inside.sent ≤ length l.self-inside.text;
  told : with_held_back (g.K.Sink.written l.sink) (record {
    held = drop l.self-inside.sent l.self-inside.text;
    room = 65536 - length l.self-inside.text;
  }) ≡ with_held_back (g.K.Sink.written l.initial.sink) l.fn.self;
  taken : TookMore (g.K.Sink.written l.initial.sink) (g.K.Sink.written l.sink);
  steady : g.K.Sink.faults l.sink ≡ g.K.Sink.faults l.initial.sink;
}

abbrev pub decreases-loop-self : goal.decreases-loop-self
decreases-loop-self g l = length l.self-inside.text - l.self-inside.sent
