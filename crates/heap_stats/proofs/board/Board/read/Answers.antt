use Rattle.std.proofs.Common.{rules, sym, ap, subst, ◌∙◌}
use Rattle.heap_stats.specs.Boards.{ReaderView}
use Rattle.heap_stats.specs.Rule.{IsReader}
use Rattle.heap_stats.proofs.Between.{reader_stays}
use Rattle.heap_stats.proofs.Turns.{reads}
use Rattle.heap_stats.proofs.board.Board.read.Goals as goal

pub load_as-requires : goal.load_as-requires
load_as-requires g c = (
  search rules,
  (
    search rules,
    (
      ap (λ (p : ReaderView). p.board) c.pass.view_is ∙ c.requires.board ∙ sym c.self.view_is,
      reads c.pass.inside.pass.id c.pass.inside.pass.me.0.client c.pass.invariant.reads,
    ),
  ),
)

pub invariant_of-pass : goal.invariant_of-pass
invariant_of-pass g c =
    subst IsReader (sym c.load_as.ensures.rule.1)
    (reader_stays c.pass.inside.pass.me.0.client c.load_as.result c.pass.invariant c.load_as.ensures.rule.0)
