use Rattle.std.proofs.Common.{sym, ◌∙◌, arith}
use Rattle.heap_script.proofs.TypeLists.{wrong_name}
use Rattle.heap_script.proofs.type_lines.read_first.Goals as goal

pub returns-clause-fault : goal.returns-clause-fault
returns-clause-fault c =
    wrong_name c.args.version _ _ _ (c.next_word-start.ensures.some (omega arith)) (sym c.is_text.ensures ∙ c.if-is_text.false)
    (sym c.stops_at.ensures ∙ c.if-stops_at.false)
