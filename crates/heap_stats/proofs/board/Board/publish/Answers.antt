use Rattle.std.proofs.Common.{rules, sym, ap, subst, ◌∙◌, ◌<◌}
use Rattle.heap_stats.specs.Boards.{PublisherView}
use Rattle.heap_stats.specs.Rule.{IsPublisher}
use Rattle.heap_stats.proofs.Between.{publisher_stays}
use Rattle.heap_stats.proofs.Turns.{publishes}
use Rattle.heap_stats.proofs.board.Board.publish.Goals as goal

pub swap_as-requires : goal.swap_as-requires
swap_as-requires g c = (
  search rules,
  (
    search rules,
    (
      ap (λ (p : PublisherView). p.board) c.publisher.view_is ∙ c.requires.board ∙ sym c.self.view_is,
      publishes c.publisher.inside.pass.id c.publisher.inside.pass.me.0.client c.args.totals c.publisher.invariant.writes
          (subst (λ (p : PublisherView). p.last.ordinal < c.args.totals.ordinal) (sym c.publisher.view_is) c.requires.greater),
    ),
  ),
)

pub invariant_of-publisher : goal.invariant_of-publisher
invariant_of-publisher g c =
    subst IsPublisher (sym c.swap_as.ensures.rule)
    (publisher_stays c.publisher.inside.pass.me.0.client c.args.totals c.publisher.invariant
    (subst (λ (p : PublisherView). p.last.ordinal < c.args.totals.ordinal) (sym c.publisher.view_is) c.requires.greater))
