use Rattle.std.proofs.Common.{◌≡◌, ◌*◌, ◌+◌, ap, arith}
use Rattle.page_space.specs.Space.{extents_of_bodies}
use Rattle.gc_graph.specs.PageNumbers.{page_before}
use Rattle.page_space.proofs.KnownGaps.{space_stays}
use Rattle.page_space.proofs.Shapes.{shape_words}
use Rattle.page_space.proofs.space.Space.learn.Goals as goal

pub returns-then-not-is_known-clause-space : goal.returns-then-not-is_known-clause-space
returns-then-not-is_known-clause-space c =
    let now = c.args.self.now in
    let es = extents_of_bodies c.args.seat.now.bodies in
    let same : c.self.inside.gaps ≡ now.gaps = ap (λ s. s.gaps) c.self.view_is in
    space_stays _ now c.args.seat.now c.learn.new.self c.self.view_is c.requires.space
    (c.learn.ensures.knows now.shape es c.groups-groups.ensures (shape_words now.shape c.shape_is_valid.ensures).1 (rw same c.requires.space.gaps))

pub learn-requires-clause-groups : goal.learn-requires-clause-groups
learn-requires-clause-groups c =
    let now = c.args.self.now in
    omega (
      arith,
      c.self.invariant.blocks,
      ap (λ s. s.shape.pages * s.shape.page_words) c.self.view_is,
      ap (λ n. (c.args.page + 1) * n) c.groups-groups.ensures,
      page_before now.shape.page_words c.args.page now.shape.pages c.requires.page,
    )
