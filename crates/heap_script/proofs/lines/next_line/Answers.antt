use Rattle.std.proofs.Common.{refl, inl, inr, arith}
use Rattle.heap_script.proofs.LinesInTurn.{lines_next}
use Rattle.heap_script.proofs.lines.next_line.Goals as goal

pub returns-then-end-bytes-clause-lines : goal.returns-then-end-bytes-clause-lines
returns-then-end-bytes-clause-lines c = elim c.requires.stop [
  | inl last ↦ absurd (omega arith)
  | inr mark ↦ lines_next c.args.bytes.now c.args.end c.args.end
      (record { order = omega arith; within = c.requires.within; stop = c.requires.stop; same = refl }) mark
]
