use Rattle.std.proofs.Common.{rules, sym, ◌∙◌}
use Rattle.heap_stats.proofs.Turns.{moves_out, takes_back}
use Rattle.heap_stats.proofs.board.Board.join.Goals as goal

pub split_pass-other-requires : goal.split_pass-other-requires
split_pass-other-requires c = (
  search rules,
  (search rules, (c.requires.same ∙ sym c.self.view_is, moves_out c.args.spent.id c.args.spent.me.0.client c.requires.reads)),
)

pub join_pass-requires : goal.join_pass-requires
join_pass-requires c =
    let own = c.requires.board ∙ sym c.self.view_is in (
      search rules,
      (
        search rules,
        (
          (own, c.split_pass-other.ensures.given.0 ∙ c.requires.same ∙ sym c.requires.board, c.split_pass-other.ensures.given.2),
          takes_back c.args.pass.now.id c.args.pass.now.me.0.client c.split_pass-other.result.id c.split_pass-other.result.me.0.client,
        ),
      ),
    )
