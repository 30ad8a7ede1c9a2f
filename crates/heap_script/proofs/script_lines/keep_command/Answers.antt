use Rattle.std.proofs.Common.{sym, ◌∙◌}
use Rattle.line_words.specs.Cursor.{words_from}
use Rattle.heap_script.proofs.LineReasons.{words_faulty, command_late, command_fine}
use Rattle.heap_script.proofs.script_lines.keep_command.Goals as goal

pub returns-in-Err-clause-fault : goal.returns-in-Err-clause-fault
returns-in-Err-clause-fault c =
    words_faulty c.args.callbacks c.args.kept.now.past (words_from c.args.bytes.now c.args.start c.args.end) c.in-Err.reason
    c.requires.plain (rw c.in-Err.is at c.read_command-line.ensures.fault)

pub returns-then-breaks-clause-fault : goal.returns-then-breaks-clause-fault
returns-then-breaks-clause-fault c =
    let said = rw c.in-Ok.is at c.read_command-line.ensures.said in
    command_late c.args.callbacks c.args.kept.now.past (words_from c.args.bytes.now c.args.start c.args.end) c.in-Ok.command said.1 said.0
    c.requires.plain (sym c.breaks.ensures ∙ c.if-breaks.true)

pub returns-else-is_err-clause-fine : goal.returns-else-is_err-clause-fine
returns-else-is_err-clause-fine c =
    let said = rw c.in-Ok.is at c.read_command-line.ensures.said in
    command_fine c.args.callbacks c.args.kept.now.past (words_from c.args.bytes.now c.args.start c.args.end) c.in-Ok.command said.1 said.0
    c.requires.plain (sym c.breaks.ensures ∙ c.if-breaks.false)
