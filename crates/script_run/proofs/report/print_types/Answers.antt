use Rattle.std.proofs.Common.{◌<◌, ◌≤◌, length, refl, rules, arith}
use Rattle.gc_graph.specs.declared.line.Line.TheVariants as L
use Rattle.script_run.specs.Printed.{counted_lines}
use Rattle.script_run.proofs.Writing.{line_more, line_fails, lines_whole, type_line_at, type_line_count}
use Rattle.script_run.proofs.HeldBack.{taken_on}
use Rattle.script_run.proofs.report.print_types.Goals as goal

pub returns-in-Err-clause-bytes : goal.returns-in-Err-clause-bytes
returns-in-Err-clause-bytes g c =
    let low : c.loop-t.t < c.args.count = search rules in
    line_fails _ _ _ (counted_lines c.args.count) c.loop-t.t (L.TypeLine c.loop-t.t) (type_line_at c.args.count c.loop-t.t low)
    c.loop-t.invariant.printed c.in-Err.ensures.bytes

pub loop-t-preserved : goal.loop-t-preserved
loop-t-preserved g c =
    let low : c.loop-t.t < c.args.count = search rules in
    record {
      steady = search rules;
      taken = taken_on _ _ _ c.loop-t.invariant.taken c.print.ensures.taken;
      printed = line_more _ _ _ (counted_lines c.args.count) c.loop-t.t _ (L.TypeLine c.loop-t.t)
          (type_line_at c.args.count c.loop-t.t low) refl c.loop-t.invariant.printed c.in-Ok.ensures.bytes;
    }

pub returns-clause-bytes : goal.returns-clause-bytes
returns-clause-bytes g c =
    let end : length (counted_lines c.args.count) ≤ c.loop-t.t = omega (arith, type_line_count c.args.count) in
    lines_whole _ _ (counted_lines c.args.count) c.loop-t.t end c.loop-t.invariant.printed

pub returns-in-Err-clause-taken : goal.returns-in-Err-clause-taken
returns-in-Err-clause-taken g c = taken_on _ _ _ c.loop-t.invariant.taken c.print.ensures.taken
