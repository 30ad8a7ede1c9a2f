use Rattle.std.proofs.Common.{rules, sym, ◌∙◌}
use Rattle.heap_stats.proofs.Turns.{looks}
use Rattle.heap_stats.proofs.board.Board.look.Goals as goal

pub load_as-requires : goal.load_as-requires
load_as-requires g c = (
  search rules,
  (search rules, (c.requires.board ∙ sym c.self.view_is, looks c.args.pass.now.id c.args.pass.now.me.0.client c.requires.writes)),
)
