use Rattle.std.proofs.Common.{rules}
use Rattle.std.proofs.lemmas.List.{take_rest}
use Rattle.report_text.proofs.PieceByPiece.{took_next}
use Rattle.report_text.proofs.printing.write_all.Goals as goal

pub loop-rest-preserved : goal.loop-rest-preserved
loop-rest-preserved g c = record {
  took = took_next _ _ _ _ c.loop-rest.rest.now _ c.in-Ok.count c.loop-rest.invariant.took c.in-Ok.ensures.bytes.2
      (take_rest c.loop-rest.rest.now c.in-Ok.count);
  steady = search rules;
}
