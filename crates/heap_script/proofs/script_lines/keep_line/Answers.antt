use Rattle.std.proofs.Common.{drop}
use Rattle.line_words.specs.Cursor.{line_words}
use Rattle.heap_script.proofs.QuickKept.{frequent_plain, quick_kept}
use Rattle.heap_script.proofs.script_lines.keep_line.Goals as goal

pub keep_quick-requires-clause-plain : goal.keep_quick-requires-clause-plain
keep_quick-requires-clause-plain c = frequent_plain c.in-Some.line.command c.in-Some.ensures.frequent

pub returns-in-Some-clause-kept : goal.returns-in-Some-clause-kept
returns-in-Some-clause-kept c =
    quick_kept c.args.callbacks (line_words (drop c.args.at c.args.bytes.now)) c.args.bytes.now c.args.at c.in-Some.line c.args.kept.now
    c.keep_quick.new.kept c.keep_quick.result c.in-Some.ensures c.keep_quick.ensures.kept
