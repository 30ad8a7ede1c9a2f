use Rattle.std.proofs.Common.{◌≡◌, false, take, drop}
use Rattle.gc_graph.specs.Sections.{AreInSections}
use Rattle.script_run.specs.Printed.{HasRunAll}
use Rattle.script_run.proofs.report.do_all.Given as goal

abbrev pub invariant-loop-command : goal.invariant-loop-command
invariant-loop-command g l = record {
  setup : l.heap.core.setup ≡ l.initial.heap.core.setup;
  sections : AreInSections l.heap.core.state.awaiting (drop l.command-index l.commands);
  ordinal : l.heap.core.state.ordinal ≡ l.command-index;
  opened : l.heap.core.closed ≡ false;
  ran : HasRunAll l.initial.heap.core.setup (take l.command-index l.commands) l.heap.core;
}
