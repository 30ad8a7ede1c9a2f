use Rattle.std.proofs.Common.{◌≡◌, ◌*◌, ◌+◌, ap, arith}
use Rattle.page_space.specs.Space.{extents_of_bodies}
use Rattle.gc_graph.specs.PageNumbers.{page_before}
use Rattle.page_space.proofs.KnownGaps.{space_stays}
use Rattle.page_space.proofs.space.Space.tighten.Goals as goal

pub returns-clause-space : goal.returns-clause-space
returns-clause-space c =
    let now = c.args.self.now in
    let es = extents_of_bodies c.args.seat.now.bodies in
    let same : c.self.inside.gaps ≡ now.gaps = ap (λ s. s.gaps) c.self.view_is in
    space_stays _ now c.args.seat.now c.tighten.new.self c.self.view_is c.requires.space
    (c.tighten.ensures.knows now.shape es c.groups-groups.ensures (rw same c.requires.space.gaps))

pub tighten-requires-clause-groups : goal.tighten-requires-clause-groups
tighten-requires-clause-groups c =
    let now = c.args.self.now in
    omega (
      arith,
      c.self.invariant.blocks,
      ap (λ s. s.shape.pages * s.shape.page_words) c.self.view_is,
      ap (λ n. (c.args.page + 1) * n) c.groups-groups.ensures,
      page_before now.shape.page_words c.args.page now.shape.pages c.requires.page,
    )
