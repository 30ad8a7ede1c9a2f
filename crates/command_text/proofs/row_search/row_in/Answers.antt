use Rattle.std.proofs.Common.{refl, sym, ◌∙◌}
use Rattle.command_text.proofs.RowsFound.{named_at, named_past, named_nowhere, test_holds, test_next, no_row}
use Rattle.command_text.proofs.row_search.row_in.Goals as goal

pub returns-then-eq-clause-same : goal.returns-then-eq-clause-same
returns-then-eq-clause-same g c =
    rw (sym c.loop-row.invariant.named
    ∙ named_at c.args.word.now c.args.table.now _ _ c.loop-row-test.true (sym c.eq.ensures ∙ c.if-eq.true)) refl

pub returns-then-eq-clause-sound : goal.returns-then-eq-clause-sound
returns-then-eq-clause-sound g c =
    test_holds g.test c.args.table.now c.loop-row.row-index _ c.loop-row-test.true c.loop-row.invariant.tested

pub loop-row-preserved : goal.loop-row-preserved
loop-row-preserved g c = record {
  named = named_past c.args.word.now c.args.table.now _ _ c.loop-row-test.true (sym c.eq.ensures ∙ c.if-eq.false)
      ∙ c.loop-row.invariant.named;
  tested = test_next g.test c.args.table.now c.loop-row.row-index c.loop-row.invariant.tested;
}

pub returns-clause-same : goal.returns-clause-same
returns-clause-same g c =
    no_row _ (sym c.loop-row.invariant.named ∙ named_nowhere c.args.word.now c.args.table.now _ c.loop-row-test.false)
