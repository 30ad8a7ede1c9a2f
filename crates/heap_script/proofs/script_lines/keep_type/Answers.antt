use Rattle.std.proofs.Common.{drop}
use Rattle.line_words.specs.Cursor.{line_words}
use Rattle.heap_script.proofs.LineReasons.{type_faulty, type_late, type_fine}
use Rattle.heap_script.proofs.script_lines.keep_type.Goals as goal

pub returns-then-not-kept-clause-fault : goal.returns-then-not-kept-clause-fault
returns-then-not-kept-clause-fault c =
    type_late c.args.callbacks c.args.kept.now.past (line_words (drop c.args.from c.args.bytes.now)) c.in-Ok.ensures.fine c.if-not-kept.true

pub returns-else-is_err-clause-fine : goal.returns-else-is_err-clause-fine
returns-else-is_err-clause-fine c =
    type_fine c.args.callbacks c.args.kept.now.past (line_words (drop c.args.from c.args.bytes.now)) c.in-Ok.ensures.fine c.if-not-kept.false

pub returns-in-Err-clause-fault : goal.returns-in-Err-clause-fault
returns-in-Err-clause-fault c =
    type_faulty c.args.callbacks c.args.kept.now.past (line_words (drop c.args.from c.args.bytes.now)) c.in-Err.reason c.in-Err.ensures.fault
