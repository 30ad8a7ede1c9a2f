use Rattle.command_text.proofs.QuickRows.{on_three}
use Rattle.command_text.proofs.quick_lines.quick_places.Goals as goal

pub returns : goal.returns
returns c =
    let one = c.in_ok-one.ensures in
    on_three c.args.bounds c.args.row.now.spots.now c.args.bytes.now c.args.before c.in_ok-one.one c.in_ok-two.two c.quick_next-3.result
    c.requires.few c.requires.rank one.0 one.1 c.in_ok-two.ensures.1 c.quick_next-3.ensures
