use Rattle.command_text.proofs.QuickRows.{at_no_place}
use Rattle.command_text.proofs.quick_lines.quick_next.Goals as goal

pub returns-then-place-row : goal.returns-then-place-row
returns-then-place-row c =
    (c.requires.rank, at_no_place c.args.bounds c.args.row.now.spots.now c.args.place _ c.args.said c.requires.within c.requires.rank c.if-place-row.true)
