use Rattle.std.proofs.Common.{rules, arith, ◌∙◌}
use Rattle.std.proofs.lemmas.List.{take_rest}
use Rattle.std.proofs.lemmas.Grind.{common_steps}
use Rattle.report_text.proofs.PieceByPiece.{sent_more, taken_more}
use Rattle.report_text.proofs.pieces.Pieces.hand_down.Goals as goal

pub loop-self-preserved : goal.loop-self-preserved
loop-self-preserved g c = record {
  within = grind (arith, common_steps);
  told = sent_more _ _ c.loop-self.self-inside.text _ c.loop-self.self-inside.sent c.in-Ok.count _
      (rw c.as_slice-in-loop-self.ensures.value (take_rest c.loop-self.self-inside.text c.loop-self.self-inside.sent)) c.in-Ok.ensures.bytes.2
      ∙ c.loop-self.invariant.told;
  taken = taken_more _ _ _ _ c.loop-self.invariant.taken c.in-Ok.ensures.bytes.2;
  steady = search rules;
}
