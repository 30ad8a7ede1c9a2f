use Rattle.command_text.specs.Rows.{is_plain_row}
use Rattle.command_text.proofs.rows.row_of.Given as goal

abbrev pub ghost-row_near : goal.ghost-row_near
ghost-row_near a = is_plain_row
