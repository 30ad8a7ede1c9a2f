use Rattle.std.proofs.Common.{true, ap, subst, refl}
use Rattle.gc_graph.specs.declared.line.Line.{Line}
use Rattle.gc_graph.specs.Report.{line_bytes}
use Rattle.report_text.specs.Pieces.{with_held_back}
use Rattle.heap_engine.specs.View.{View}
use Rattle.text_devices.specs.Devices.{Writes}
use Rattle.script_run.specs.Setting.{plan_of, script_on}
use Rattle.script_run.proofs.HeldBack.{told_at_last}
use Rattle.script_run.proofs.Summaries.{told_in_summary}
use Rattle.script_run.proofs.report.print_summary.Goals as goal

pub returns-clause-told : goal.returns-clause-told
returns-clause-told g c =
    told_at_last true _ _ _ _ _ c.args.pieces.now c.print_end.new.pieces _ c.print_end.result c.requires.empty c.print_end.ensures.empty c.print_end.ensures.taken
    (told_in_summary c.args.heap.now.core.setup.callbacks (plan_of c.args.heap.now.core.setup) (script_on c.args.heap.now.core.setup c.args.commands.now) _ _
    c.args.heap.now.core c.do_all.new.heap.core _ c.print_end.result
    (record { setup = refl; same = c.do_all.ensures.setup; ran = c.do_all.ensures.done; count = c.do_all.ensures.count; begun = c.close-end.ensures.begun })
    c.close-end.ensures.closed
    (subst (λ (line : Line). Writes (with_held_back (g.K.Sink.written c.args.sink.now) c.args.pieces.now) (with_held_back (g.K.Sink.written c.print_end.new.sink) c.print_end.new.pieces) (line_bytes line) c.print_end.result)
    c.summary-line.ensures c.print_end.ensures.bytes))

pub returns-clause-closed : goal.returns-clause-closed
returns-clause-closed g c = ap (λ (v : View). v.closed) c.close-end.ensures.closed

pub returns-clause-joined : goal.returns-clause-joined
returns-clause-joined g c = ap (λ (v : View). v.lent) c.close-end.ensures.closed
