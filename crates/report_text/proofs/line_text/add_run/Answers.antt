use Rattle.std.proofs.Common.{refl}
use Rattle.std.proofs.lemmas.List.{append_assoc}
use Rattle.report_text.proofs.line_text.add_run.Goals as goal

pub returns-clause-items : goal.returns-clause-items
returns-clause-items g c = simp (c.add_named-2.ensures.items, c.add_named.ensures.items, append_assoc) refl
