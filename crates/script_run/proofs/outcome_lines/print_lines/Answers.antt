use Rattle.std.proofs.Common.{◌≡◌, length, refl, rules, sym, subst, Some}
use Rattle.std.specs.List.{slice_get}
use Rattle.gc_graph.specs.Outcomes.{finalise_lines}
use Rattle.gc_graph.specs.Report.{lines_bytes}
use Rattle.text_devices.specs.Devices.{Grew}
use Rattle.report_text.specs.Pieces.{with_held_back}
use Rattle.script_run.proofs.Writing.{line_more, line_fails, front_fails}
use Rattle.script_run.proofs.HeldBack.{taken_on}
use Rattle.script_run.proofs.outcome_lines.print_lines.Goals as goal

pub returns-in-Err-clause-bytes : goal.returns-in-Err-clause-bytes
returns-in-Err-clause-bytes g c =
    front_fails _ _ c.args.heap.now.core.lines (finalise_lines c.finalised-numbers.result.now) (length c.finalised-numbers.result.now)
    c.finalised-numbers.ensures.lines c.in-Err.ensures.bytes

pub loop-index-init : goal.loop-index-init
loop-index-init g c = record {
  same = refl;
  steady = search rules;
  taken = c.print_finalised.ensures.taken;
  printed = subst (λ lines. Grew (with_held_back (g.K.Sink.written c.args.sink.now) c.args.pieces.now)
      (with_held_back (g.K.Sink.written c.print_finalised.new.sink) c.print_finalised.new.pieces) (lines_bytes lines))
      (sym c.finalised-numbers.ensures.lines) c.in-Ok.ensures.bytes;
}

pub returns-in-Err-print-clause-bytes : goal.returns-in-Err-print-clause-bytes
returns-in-Err-print-clause-bytes g c =
    let at : slice_get c.args.heap.now.core.lines c.loop-index.index ≡ Some c.line-line.result =
    rw (← c.loop-index.invariant.same) c.line-line.ensures.line in
    line_fails _ _ _ c.args.heap.now.core.lines c.loop-index.index c.line-line.result at c.loop-index.invariant.printed c.in-Err-print.ensures.bytes

pub returns-in-Err-print-clause-taken : goal.returns-in-Err-print-clause-taken
returns-in-Err-print-clause-taken g c = taken_on _ _ _ c.loop-index.invariant.taken c.print.ensures.taken

pub loop-index-preserved : goal.loop-index-preserved
loop-index-preserved g c =
    let at : slice_get c.args.heap.now.core.lines c.loop-index.index ≡ Some c.line-line.result =
    rw (← c.loop-index.invariant.same) c.line-line.ensures.line in
    record {
      same = search rules;
      steady = search rules;
      taken = taken_on _ _ _ c.loop-index.invariant.taken c.print.ensures.taken;
      printed = line_more (with_held_back (g.K.Sink.written c.args.sink.now) c.args.pieces.now) (with_held_back (g.K.Sink.written c.loop-index.sink) c.loop-index.pieces)
          (with_held_back (g.K.Sink.written c.print.new.sink) c.print.new.self) c.args.heap.now.core.lines c.loop-index.index _ c.line-line.result at refl
          c.loop-index.invariant.printed c.in-Ok-print.ensures.bytes;
    }
