use Rattle.std.proofs.Common.{ap, get_or, arith}
use Rattle.page_space.specs.Space.{extents_of_bodies}
use Rattle.page_space.proofs.Shapes.{shape_words}
use Rattle.page_space.proofs.UsedPages.{held_is_used}
use Rattle.page_space.proofs.space.Space.first_empty.Goals as goal

pub returns-clause-used : goal.returns-clause-used
returns-clause-used c page below =
    let now = c.args.self.now in
    let words = shape_words now.shape c.shape_is_valid.ensures in
    (held_is_used now c.args.seat.now.count (extents_of_bodies c.args.seat.now.bodies) page (omega (arith, words.0)) c.requires.space.over
    (omega (arith, c.first_empty.ensures.within, c.self.invariant.objects, ap (λ s. s.shape.pages) c.self.view_is))).0
    (omega (arith, c.first_empty.ensures.below page below, ap (λ s. get_or s.table.objects page 0) c.self.view_is))
