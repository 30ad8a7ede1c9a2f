use Rattle.std.proofs.lemmas.Bool.{eqb-true}
use Rattle.line_words.proofs.QuickWords.{ends_here}
use Rattle.line_words.proofs.quick_words.is_line_end.Goals as goal

pub returns-else-place-bytes : goal.returns-else-place-bytes
returns-else-place-bytes c = λ e. ends_here c.args.bytes.now c.args.place c.requires (λ low. eqb-true _ 10 e)
