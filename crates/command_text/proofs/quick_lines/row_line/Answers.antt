use Rattle.std.proofs.Common.{refl, sym, ◌∙◌}
use Rattle.command_text.specs.Rows.{bounds_of}
use Rattle.command_text.proofs.RowRanks.{good_line}
use Rattle.command_text.proofs.RowEnds.{made_small, made_wide}
use Rattle.command_text.proofs.QuickRows.{quick_small, quick_end, quick_wide, quick_wide_end}
use Rattle.command_text.proofs.quick_lines.row_line.Goals as goal

pub line_end-requires-in-Wide : goal.line_end-requires-in-Wide
line_end-requires-in-Wide g c = (c.in_ok-number-in-Wide.ensures.number (bounds_of c.args.bounds)).within

pub returns-in-Some : goal.returns-in-Some
returns-in-Some g c =
    let read = c.in_ok-said.ensures in
    good_line c.args.bounds c.args.row.now c.args.bytes.now c.args.before 9 _ c.in-Some.command c.in_ok-end-in-Small.end
    (quick_small c.args.bounds c.args.row.now c.in-Small.form c.args.bytes.now c.args.before c.in_ok-said.said c.in_ok-end-in-Small.end
    c.requires c.in-Small.is read.0 read.1 c.in_ok-end-in-Small.ensures (sym c.are_right.ensures ∙ c.if-not-are_right.false)) refl
    (sym c.in-Some.is ∙ c.small_command.ensures ∙ made_small c.args.row.now _ _ c.in-Small.is)
    (quick_end c.args.bounds c.args.row.now c.args.bytes.now c.args.before c.in_ok-said.said c.in_ok-end-in-Small.end read.1 c.in_ok-end-in-Small.ensures)

pub returns-in-Some-wide_command : goal.returns-in-Some-wide_command
returns-in-Some-wide_command g c =
    let read = c.in_ok-said.ensures in
    let number = c.in_ok-number-in-Wide.ensures.number (bounds_of c.args.bounds) in
    good_line c.args.bounds c.args.row.now c.args.bytes.now c.args.before 9 _ c.in-Some-wide_command.command c.in_ok-end-in-Wide.end
    (quick_wide c.args.bounds c.args.row.now c.in-Wide.form c.args.bytes.now c.args.before c.in_ok-said.said c.in_ok-number-in-Wide.number.end
    c.in_ok-number-in-Wide.number.value c.in_ok-end-in-Wide.end c.requires c.in-Wide.is read.0 read.1 number c.in_ok-end-in-Wide.ensures) refl
    (sym c.in-Some-wide_command.is ∙ c.wide_command.ensures ∙ made_wide c.args.row.now _ _ c.in-Wide.is)
    (quick_wide_end c.args.bounds c.args.row.now c.in-Wide.form c.args.bytes.now c.args.before c.in_ok-said.said c.in_ok-number-in-Wide.number.end
    c.in_ok-number-in-Wide.number.value c.in_ok-end-in-Wide.end read.1 number c.in_ok-end-in-Wide.ensures)
