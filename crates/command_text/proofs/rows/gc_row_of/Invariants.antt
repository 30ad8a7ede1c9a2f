use Rattle.command_text.specs.Rows.{is_gc_row}
use Rattle.command_text.proofs.rows.gc_row_of.Given as goal

abbrev pub ghost-row_in : goal.ghost-row_in
ghost-row_in a = is_gc_row
