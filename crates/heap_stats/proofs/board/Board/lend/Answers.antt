use Rattle.std.proofs.Common.{rules, sym, ap, ◌∙◌}
use Rattle.heap_stats.specs.Boards.{PublisherView}
use Rattle.heap_stats.proofs.Turns.{lends}
use Rattle.heap_stats.proofs.board.Board.lend.Goals as goal

pub split_pass-pass-requires : goal.split_pass-pass-requires
split_pass-pass-requires c = (
  search rules,
  (
    search rules,
    (
      ap (λ (p : PublisherView). p.board) c.publisher.view_is ∙ c.requires.board ∙ sym c.self.view_is,
      lends c.publisher.inside.pass.id c.publisher.inside.pass.me.0.client c.publisher.invariant.writes,
    ),
  ),
)
