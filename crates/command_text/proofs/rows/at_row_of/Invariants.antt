use Rattle.command_text.specs.Rows.{is_at_row}
use Rattle.command_text.proofs.rows.at_row_of.Given as goal

abbrev pub ghost-row_in : goal.ghost-row_in
ghost-row_in a = is_at_row
