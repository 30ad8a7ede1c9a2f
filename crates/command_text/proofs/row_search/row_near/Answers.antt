use Rattle.std.proofs.Common.{refl, sym, ◌∙◌}
use Rattle.command_text.proofs.RowsFound.{named_distinct}
use Rattle.command_text.proofs.row_search.row_near.Goals as goal

pub returns-then-eq-clause-same : goal.returns-then-eq-clause-same
returns-then-eq-clause-same g c =
    rw (named_distinct c.args.word.now c.args.table.now c.args.place _ c.if-place-table.true c.requires.0 (sym c.eq.ensures ∙ c.if-eq.true)) refl
