use Rattle.std.proofs.Common.{refl}
use Rattle.std.proofs.lemmas.List.{append_assoc}
use Rattle.report_text.proofs.line_text.add_summary.Goals as goal

pub returns-clause-items : goal.returns-clause-items
returns-clause-items g c =
    simp (
      c.add_wide-6.ensures.items,
      c.add_wide-5.ensures.items,
      c.add_wide-4.ensures.items,
      c.add_wide-3.ensures.items,
      c.add_wide-2.ensures.items,
      c.add_wide.ensures.items,
      append_assoc,
    ) refl
