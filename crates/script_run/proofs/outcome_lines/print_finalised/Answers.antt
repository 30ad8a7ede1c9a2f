use Rattle.std.proofs.Common.{refl, rules}
use Rattle.gc_graph.specs.Outcomes.{finalise_lines}
use Rattle.script_run.proofs.Writing.{line_more, line_fails, finalise_at}
use Rattle.script_run.proofs.HeldBack.{taken_on}
use Rattle.script_run.proofs.outcome_lines.print_finalised.Goals as goal

pub returns-in-Err-clause-bytes : goal.returns-in-Err-clause-bytes
returns-in-Err-clause-bytes g c =
    line_fails _ _ _ (finalise_lines c.args.numbers.now) c.loop-number.number-index _
    (finalise_at c.args.numbers.now c.loop-number.number-index _ c.loop-number-test.true) c.loop-number.invariant.printed c.in-Err.ensures.bytes

pub returns-in-Err-clause-taken : goal.returns-in-Err-clause-taken
returns-in-Err-clause-taken g c = taken_on _ _ _ c.loop-number.invariant.taken c.print.ensures.taken

pub loop-number-preserved : goal.loop-number-preserved
loop-number-preserved g c = record {
  steady = search rules;
  taken = taken_on _ _ _ c.loop-number.invariant.taken c.print.ensures.taken;
  printed = line_more _ _ _ (finalise_lines c.args.numbers.now) c.loop-number.number-index _ _
      (finalise_at c.args.numbers.now c.loop-number.number-index _ c.loop-number-test.true) refl c.loop-number.invariant.printed c.in-Ok.ensures.bytes;
}
