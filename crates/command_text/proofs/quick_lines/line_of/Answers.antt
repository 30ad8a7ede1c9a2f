use Rattle.command_text.proofs.QuickCommands.{quick_start, quick_done}
use Rattle.command_text.proofs.quick_lines.line_of.Goals as goal

pub row_line-requires : goal.row_line-requires
row_line-requires g c =
    let start = c.nothing_said.ensures in
    quick_start c.args.row.now c.args.bytes.now c.args.at c.nothing_said.result c.requires.quick c.requires.first start.rank start.end start.count

pub returns : goal.returns
returns g c =
    let start = c.nothing_said.ensures in
    quick_done c.args.bounds c.args.row.now c.args.bytes.now c.args.at c.nothing_said.result c.row_line.result c.requires.quick
    c.requires.named c.requires.first start.rank start.end start.count c.row_line.ensures
