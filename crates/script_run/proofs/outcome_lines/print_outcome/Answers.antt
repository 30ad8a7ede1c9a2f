use Rattle.std.proofs.Common.{sym, ap, ◌∙◌, subst, arith}
use Rattle.gc_graph.specs.Report.{lines_bytes}
use Rattle.text_devices.specs.Devices.{Writes}
use Rattle.report_text.specs.Pieces.{with_held_back}
use Rattle.script_run.proofs.Writing.{one_line}
use Rattle.script_run.proofs.outcome_lines.print_outcome.Goals as goal

pub act-count-requires-clause-numbered : goal.act-count-requires-clause-numbered
act-count-requires-clause-numbered g c = λ p t e is. omega (arith, c.requires.few, c.nodes_are_few.ensures)

pub returns-in-Some-clause-bytes : goal.returns-in-Some-clause-bytes
returns-in-Some-clause-bytes g c =
    subst (λ text. Writes (with_held_back (g.K.Sink.written c.args.sink.now) c.args.pieces.now) (with_held_back (g.K.Sink.written c.print.new.sink) c.print.new.self) text c.print.result)
    (sym (ap lines_bytes c.in-Some.ensures.line ∙ one_line c.in-Some.line.now)) c.print.ensures.bytes
