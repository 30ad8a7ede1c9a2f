use Rattle.line_words.proofs.QuickWords.{no_words}
use Rattle.line_words.proofs.quick_words.line_end.Goals as goal

pub returns-then-is_line_end-2 : goal.returns-then-is_line_end-2
returns-then-is_line_end-2 c =
    no_words c.args.bytes.now c.args.from c.past_spaces-end.result c.past_spaces-end.ensures (c.is_line_end-2.ensures c.if-is_line_end-2.true)
