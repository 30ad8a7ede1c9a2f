use Rattle.std.proofs.Common.{rules}
use Rattle.std.proofs.lemmas.List.Edits.{map_over_more}
use Rattle.callback_table.specs.Registry.{placed_at}
use Rattle.callback_table.proofs.registry.place_all.Goals as goal

pub loop-entry-preserved : goal.loop-entry-preserved
loop-entry-preserved c = search (rules, map_over_more (placed_at c.args.place))
