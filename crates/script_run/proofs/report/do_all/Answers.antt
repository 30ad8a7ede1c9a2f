use Rattle.std.proofs.Common.{refl, rules, arith}
use Rattle.script_run.proofs.Printing.{section_at, sections_none, sections_after}
use Rattle.script_run.proofs.Summaries.{ran_none, ran_more, ran_all}
use Rattle.script_run.proofs.report.do_all.Goals as goal

pub loop-command-init : goal.loop-command-init
loop-command-init g c = record {
  setup = refl;
  sections = sections_none c.args.commands.now c.args.heap.now.core c.requires.start c.requires.sections;
  ordinal = search rules;
  opened = c.requires.opened;
  ran = ran_none c.args.heap.now.core.setup c.args.commands.now c.args.heap.now.core c.requires.start c.requires.fresh;
}

pub act-lines-requires-clause-numbered : goal.act-lines-requires-clause-numbered
act-lines-requires-clause-numbered g c = λ p t e is.
    omega (arith, c.requires.few, c.loop-command-test.true, c.loop-command.invariant.ordinal, c.nodes_are_few.ensures)

pub act-lines-requires-clause-section : goal.act-lines-requires-clause-section
act-lines-requires-clause-section g c κs live =
    section_at c.args.commands.now c.loop-command.command-index _ _ c.loop-command-test.true c.loop-command.invariant.sections

pub loop-command-preserved : goal.loop-command-preserved
loop-command-preserved g c = record {
  setup = search rules;
  sections = sections_after c.args.commands.now c.loop-command.command-index _ c.loop-command.heap.core c.act-lines.new.self.core _
      c.steps_leave_threads.ensures c.loop-command-test.true c.loop-command.invariant.sections c.act-lines.ensures.acted;
  ordinal = search rules;
  opened = search rules;
  ran = ran_more c.args.heap.now.core.setup c.args.commands.now c.loop-command.command-index _ c.loop-command.heap.core c.act-lines.new.self.core
      c.runs_are_replayed.ensures c.loop-command-test.true c.loop-command.invariant.ran c.loop-command.invariant.setup _ c.act-lines.ensures.acted;
}

pub returns-clause-done : goal.returns-clause-done
returns-clause-done g c =
    ran_all c.args.heap.now.core.setup c.args.commands.now c.loop-command.command-index c.loop-command.heap.core (search rules) c.loop-command.invariant.ran
