use Rattle.std.proofs.Common.{◌≡◌, ℕ, ◌+◌, ◌*◌, ◌<◌, ◌≤◌, length, ap, ◌∙◌, sym, subst, inl, inr, arith}
use Rattle.std.proofs.lemmas.Bool.{cases_lt}
use Rattle.gap_bounds.specs.Seat.{SeatView, OnlyLooked}
use Rattle.gap_bounds.specs.Gaps.{IsGap}
use Rattle.page_space.specs.Pages.{word_count}
use Rattle.page_space.specs.Space.{SpaceView, HoldsWhole, extents_of_bodies}
use Rattle.page_space.specs.Walks.{IsEdge}
use Rattle.gc_graph.specs.PageNumbers.{same_page, page_before}
use Rattle.page_space.proofs.KnownGaps.{space_stays}
use Rattle.page_space.proofs.WalkSteps.{from_edge, block_ends}
use Rattle.page_space.proofs.SeatExtents.{lasts}
use Rattle.page_space.proofs.Shapes.{shape_words}
use Rattle.page_space.proofs.space.Space.look.Goals as goal

pub walk-requires-clause-until : goal.walk-requires-clause-until
walk-requires-clause-until c =
    block_ends c.args.self.now.shape c.args.page c.args.at.now (shape_words c.args.self.now.shape c.shape_is_valid.ensures).2 c.requires.address

pub walk-requires-clause-whole : goal.walk-requires-clause-whole
walk-requires-clause-whole c =
    subst (λ (v : SeatView). HoldsWhole c.args.self.now.shape v.bodies c.args.page) (sym c.edge_from.ensures.view) c.requires.whole

pub walk-requires-clause-edge : goal.walk-requires-clause-edge
walk-requires-clause-edge c = subst (λ (v : SeatView). IsEdge v.bodies c.edge_from.result) (sym c.edge_from.ensures.view) c.edge_from.ensures.edge

pub returns-in-Some-clause-found : goal.returns-in-Some-clause-found
returns-in-Some-clause-found c =
    let shape = c.args.self.now.shape in
    let low = rw (ap (λ (v : SeatView). v.bodies) c.edge_from.ensures.view) at c.in-Some.ensures.found in
    let until = block_ends shape c.args.page c.args.at.now (shape_words shape c.shape_is_valid.ensures).2 c.requires.address in (
      (omega (arith, low.0.0, c.edge_from.ensures.from), omega (arith, low.0.1, until), low.0.2),
      (λ b before begins.
          low.1 b before (
            from_edge c.args.seat.now shape c.args.size c.args.page c.args.at.now c.edge_from.result b c.edge_from.ensures.taken
                (omega (arith, c.requires.some)) begins.0 begins.2,
            omega (arith, low.0.1, before),
            begins.2,
          )),
    )

pub returns-clause-none : goal.returns-clause-none
returns-clause-none c a begins =
    rw (ap (λ (v : SeatView). v.bodies) c.edge_from.ensures.view) at c.in_default.ensures.none a (
      from_edge c.args.seat.now c.args.self.now.shape c.args.size c.args.page c.args.at.now c.edge_from.result a c.edge_from.ensures.taken
          (omega (arith, c.requires.some)) begins.0 begins.2,
      omega (arith, begins.1),
      begins.2,
    )

pub saw-requires-clause-end : goal.saw-requires-clause-end
saw-requires-clause-end c =
    let now = c.args.self.now in
    let blocks : 64 * length now.gaps.bounds ≡ now.shape.pages * now.shape.page_words =
    subst (λ (s : SpaceView). 64 * length s.gaps.bounds ≡ word_count s.shape) c.self.view_is c.self.invariant.blocks in
    omega (
      arith,
      ap (λ s. length s.gaps.bounds) c.self.view_is,
      c.walk.ensures.inside,
      page_before now.shape.page_words c.args.page now.shape.pages c.requires.page,
    )

pub returns-clause-space : goal.returns-clause-space
returns-clause-space c =
    let now = c.args.self.now in
    let v = c.args.seat.now in
    let w : ℕ = now.shape.page_words in
    let es = extents_of_bodies v.bodies in
    let same : c.self.inside.gaps ≡ now.gaps = ap (λ s. s.gaps) c.self.view_is in
    let longest = rw (ap (λ (v : SeatView). v.bodies) c.edge_from.ensures.view) at c.in_default.ensures.longest in
    let view : OnlyLooked v c.walk.new.seat = c.walk.ensures.view ∙ c.edge_from.ensures.view in
    lasts _ v c.walk.new.seat (ap (λ (u : SeatView). u.heap) view) (ap (λ (u : SeatView). extents_of_bodies u.bodies) view)
    (space_stays _ now v c.saw.new.self c.self.view_is c.requires.space
    (c.saw.ensures.knows now.shape es
    (λ page size a gap from to. elim (cases_lt 0 size) [
      | inl some ↦
          (let low : page * w ≤ a = gap.first in
          let high : a + size ≤ (page + 1) * w = gap.last in
          let at : c.args.at.now ≤ a = omega arith in
          let before : a < c.walk.new.walk.at = omega arith in
          let here : page ≡ c.args.page =
          same_page w page c.args.page a low (omega arith) (omega (arith, c.requires.first)) (omega (arith, c.walk.ensures.inside)) in
          let own : IsGap now.shape es size c.args.page a = subst (λ p. IsGap now.shape es size p a) here gap in
          longest size a (from_edge v now.shape size c.args.page c.args.at.now c.edge_from.result a c.edge_from.ensures.taken some at own, before, own))
      | inr none ↦ omega arith
    ])
    (rw same c.requires.space.gaps)))

pub returns-in-Some-clause-done : goal.returns-in-Some-clause-done
returns-in-Some-clause-done c a there = c.walk.ensures.done a (c.edge_from.ensures.done a there)

pub returns-clause-done : goal.returns-clause-done
returns-clause-done c a there = c.walk.ensures.done a (c.edge_from.ensures.done a there)
