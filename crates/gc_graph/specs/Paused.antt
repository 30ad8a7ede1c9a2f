-- The pause in whole: the state that it leaves, and the lines of the callbacks that it ran.
use Rattle.std.specs.Prelude.{◌+◌, List, ◌++◌, filter, not}
use Rattle.gc_graph.specs.declared.line.Line.{Line}
use Rattle.gc_graph.specs.declared.phase.Phase.TheVariants.{Sweeping}
use Rattle.gc_graph.specs.declared.region.Entry.{Entry}
use Rattle.gc_graph.specs.declared.region.Op.TheVariants as O
use Rattle.gc_graph.specs.State.{Setup, State, Node, Registration}
use Rattle.gc_graph.specs.Outcomes.{with_entry, owner_entry}
use Rattle.gc_graph.specs.Pause.{cleared, dies, run_order, prefinalised, prefinalise_lines}
use Rattle.gc_graph.specs.WeakCalls.{WeakCall, weak_calls, called, weakcall_lines}

-- the owner's entry of a pause, which clears the slots of the region
abbrev pub entry_of_pause : State → List Node → Entry
entry_of_pause s judged_nodes = owner_entry s (O.Pause (cleared s judged_nodes).region_mask)

-- the state after a pause, from the one just before its entry and the nodes after judgement: the entry is made, weak handles
-- are cleared, weak callbacks run and then prefinalizers; then a sweep is open
abbrev pub paused : Setup → State → List Node → State
paused setup s judged_nodes = record (with_entry s (entry_of_pause s judged_nodes)) {
  nodes =
      prefinalised setup.callbacks (run_order judged_nodes s.registrations)
      (called setup.callbacks (weak_calls setup.types judged_nodes) (cleared s judged_nodes).nodes);
  weak = (cleared s judged_nodes).weak;
  registrations = filter (λ r. not (dies judged_nodes r)) s.registrations;
  phase = Sweeping;
  cursor = 0;
  pauses = s.pauses + 1;
}

-- a line for each callback that ran: the weak ones, and then the prefinalizers
abbrev pub callback_lines : List WeakCall → List Registration → List Line
callback_lines calls registrations = weakcall_lines calls ++ prefinalise_lines registrations
