use Rattle.std.proofs.Common.{ℕ, ◌<◌, Bool, cond, get_or, length, ap, arith}
use Rattle.std.proofs.lemmas.Bool.{eq-eqb, ne_eqb}
use Rattle.callback_table.proofs.Masking.{one_more_shown}
use Rattle.callback_table.proofs.masked.show_under.Goals as goal
use Rattle.callback_table.proofs.masked.show_under.Goals.{then-rest-ne0, else-rest-ne0}

pub loop-word-preserved : goal.loop-word-preserved
loop-word-preserved c =
    let within : c.loop-word.word-index < length c.loop-word.shown = omega arith in
    let shown : Bool → ℕ = λ even. cond even (get_or c.loop-word.shown c.loop-word.word-index 0) 2 in
    elim c.if-rest-ne0.branch [
      | then-rest-ne0 w ↦ one_more_shown _ _ _ _ _ _ within (ap shown (ne_eqb _ 0 w.if-rest-ne0.true)) c.loop-word.invariant _ w.shown-is
      | else-rest-ne0 w ↦ one_more_shown _ _ _ _ _ _ within (ap shown (eq-eqb _ 0 w.if-rest-ne0.false)) c.loop-word.invariant _ w.shown-is
    ]
