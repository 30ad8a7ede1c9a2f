use Rattle.command_text.proofs.QuickRows.{number_read}
use Rattle.command_text.proofs.quick_lines.small_number.Goals as goal

pub returns : goal.returns
returns c =
    number_read _ _ c.args.bytes.now c.args.from c.in_ok-range.range c.in_ok-number.number c.in_ok-number.ensures c.in_ok-range.ensures.says
