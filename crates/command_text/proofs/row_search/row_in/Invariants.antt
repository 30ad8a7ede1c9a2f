use Rattle.std.proofs.Common.{◌≡◌, true, drop}
use Rattle.std.specs.List.{list_all}
use Rattle.gc_graph.specs.Forms.{row_named}
use Rattle.command_text.specs.Rows.{rows_by}
use Rattle.command_text.proofs.row_search.row_in.Given as goal

abbrev pub invariant-loop-row : goal.invariant-loop-row
invariant-loop-row g l = record {
  named : row_named l.word (rows_by (drop l.row-index l.table)) ≡ row_named l.word (rows_by l.table);
  tested : list_all g.test (drop l.row-index l.table) ≡ true;
}
