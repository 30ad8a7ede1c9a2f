use Rattle.std.proofs.Common.{refl, rules}
use Rattle.script_run.proofs.Printing.{printed_more, printed_part, printed_none, section_at, sections_none, sections_after}
use Rattle.script_run.proofs.HeldBack.{taken_none, taken_on}
use Rattle.script_run.proofs.outcome_lines.print_all.Goals as goal

pub print_outcome-requires-clause-section : goal.print_outcome-requires-clause-section
print_outcome-requires-clause-section g c κs live =
    section_at c.args.commands.now c.loop-command.command-index _ _ c.loop-command-test.true c.loop-command.invariant.sections

pub returns-in-Err-clause-part : goal.returns-in-Err-clause-part
returns-in-Err-clause-part g c =
    printed_part c.args.heap.now.core.setup c.args.commands.now c.loop-command.command-index _ _ _ _ c.loop-command.heap.core c.print_outcome.new.heap.core
    c.runs_are_replayed.ensures c.loop-command-test.true c.loop-command.invariant.printed c.loop-command.invariant.setup c.print_outcome.ensures.acted c.in-Err.ensures.bytes

pub loop-command-init : goal.loop-command-init
loop-command-init g c = record {
  setup = refl;
  sections = sections_none c.args.commands.now c.args.heap.now.core c.requires.start c.requires.sections;
  ordinal = search rules;
  opened = c.requires.opened;
  steady = refl;
  taken = taken_none (g.K.Sink.written c.args.sink.now);
  printed = printed_none c.args.heap.now.core.setup c.args.commands.now _ c.args.heap.now.core c.requires.start c.requires.fresh;
}

pub loop-command-preserved : goal.loop-command-preserved
loop-command-preserved g c = record {
  setup = search rules;
  sections = sections_after c.args.commands.now c.loop-command.command-index _ c.loop-command.heap.core c.print_outcome.new.heap.core _
      c.steps_leave_threads.ensures c.loop-command-test.true c.loop-command.invariant.sections c.print_outcome.ensures.acted;
  ordinal = search rules;
  opened = search rules;
  steady = search rules;
  taken = taken_on _ _ _ c.loop-command.invariant.taken c.print_outcome.ensures.taken;
  printed =
      printed_more c.args.heap.now.core.setup c.args.commands.now c.loop-command.command-index _ _ _ _ c.loop-command.heap.core c.print_outcome.new.heap.core
      c.runs_are_replayed.ensures c.loop-command-test.true c.loop-command.invariant.printed c.loop-command.invariant.setup c.print_outcome.ensures.acted c.in-Ok.ensures.bytes;
}

pub returns-in-Err-clause-taken : goal.returns-in-Err-clause-taken
returns-in-Err-clause-taken g c = taken_on _ _ _ c.loop-command.invariant.taken c.print_outcome.ensures.taken
