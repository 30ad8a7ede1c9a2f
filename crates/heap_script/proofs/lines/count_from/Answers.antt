use Rattle.std.proofs.Common.{◌≡◌, ◌∷◌, length, drop, ap, ◌∙◌, sym, arith}
use Rattle.gc_graph.specs.Words.{lines_of}
use Rattle.line_words.specs.Cursor.{first_line}
use Rattle.heap_script.proofs.LinesInTurn.{lines_left}
use Rattle.heap_script.proofs.lines.count_from.Goals as goal

pub loop-at-preserved : goal.loop-at-preserved
loop-at-preserved c =
    let first = first_line (drop c.loop-at.at c.args.bytes.now) in
    let lines : lines_of (drop c.loop-at.at c.args.bytes.now) ≡ first ∷ lines_of (drop c.next_line-at.result c.args.bytes.now) =
    lines_left c.args.bytes.now c.loop-at.at c.loop-at-test.true
    ∙ ap (λ more. first ∷ more) (c.line_end.ensures.same ∙ sym c.next_line-at.ensures.lines) in
    let count = ap length lines in
    record { counted = omega (arith, count); within = omega arith; room = grind (arith, c.next_line-at.ensures.later) }
