use Rattle.std.proofs.Common.{true, false, ◌∙◌}
use Rattle.std.proofs.lemmas.List.{get_or-set_other}
use Rattle.oilpan.proofs.heap.Oilpan.release_weak.Goals as goal

pub returns-clause-watches : goal.returns-clause-watches
returns-clause-watches g c o h other = record {
  given = get_or-set_other c.args.self.now.watched c.args.weak.slot o.slot false true other ∙ h.given;
  tells = h.tells;
}
