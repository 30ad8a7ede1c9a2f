use Rattle.std.proofs.Common.{◌+◌, ◌*◌, ap, arith}
use Rattle.std.specs.Option.{unwrap_or}
use Rattle.page_space.proofs.PlaceFound.{gap_less}
use Rattle.page_space.proofs.space.Space.pass_searched.Goals as goal

pub pass-requires-clause-worth : goal.pass-requires-clause-worth
pass-requires-clause-worth c size a has least gap =
    omega (
      arith,
      c.requires.searched a (gap_less c.args.self.now.shape _ c.args.size size c.args.page a (omega (arith, c.requires.class.least_is, c.if-size-class.true)) gap),
      c.unwrap_or.ensures,
      ap (λ s. unwrap_or c.args.found ((c.args.page + 1) * s.shape.page_words)) c.self.view_is,
    )
