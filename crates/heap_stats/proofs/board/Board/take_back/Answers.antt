use Rattle.std.proofs.Common.{subst, All, Contains}
use Rattle.heap_stats.specs.declared.views.BoardView.{BoardView}
use Rattle.heap_stats.specs.Boards.{PublisherView, ReaderView}
use Rattle.heap_stats.proofs.board.Board.take_back.Goals as goal

pub returns-clause-read : goal.returns-clause-read
returns-clause-read g c =
    subst (λ (q : ReaderView). All (Contains c.args.publisher.now.published) q.read) c.pass.view_is
    (subst (λ (p : PublisherView). All (Contains p.published) c.pass.inside.pass.me.0.client.read) c.publisher.view_is
    (subst (λ (v : BoardView). All (Contains v.published) v.taken) c.join.ensures.joined c.look.ensures.looked.taken))
