use Rattle.std.proofs.Common.{get_or, ap, sym, subst, arith}
use Rattle.gc_graph.specs.State.{Shape}
use Rattle.gap_bounds.specs.Seat.{SeatView}
use Rattle.gap_bounds.specs.Gaps.{IsGap}
use Rattle.page_space.specs.Space.{IsSpaceOf, HoldsWhole, extents_of_bodies}
use Rattle.page_space.proofs.FoundKept.{found_same}
use Rattle.page_space.proofs.space.Space.gap_in.Goals as goal

pub returns-then-most-size-clause-none : goal.returns-then-most-size-clause-none
returns-then-most-size-clause-none c a begins =
    let space : IsSpaceOf c.learn.new.self c.args.seat.now = subst (IsSpaceOf c.learn.new.self) c.learn.ensures.view c.learn.ensures.space in
    omega (
      arith,
      space.gaps.most c.args.page c.args.size a c.learn.ensures.known
          (subst (λ s. IsGap s (extents_of_bodies c.args.seat.now.bodies) c.args.size c.args.page a) (sym c.learn.ensures.shape) begins.2),
      c.most.ensures,
      ap (λ s. get_or s.gaps.most c.args.page 0) c.self.view_is,
      c.if-most-size.true,
    )

pub gap_from-requires-clause-whole : goal.gap_from-requires-clause-whole
gap_from-requires-clause-whole c =
    subst (λ (s : Shape). HoldsWhole s c.learn.new.seat.bodies c.args.page) (sym c.learn.ensures.shape)
    (subst (λ (v : SeatView). HoldsWhole c.args.self.now.shape v.bodies c.args.page) (sym c.learn.ensures.view) c.requires.whole)

pub returns-in-Some-clause-found : goal.returns-in-Some-clause-found
returns-in-Some-clause-found c = rw (c.learn.ensures.view, c.learn.ensures.shape) at c.in-Some.ensures.found

pub returns-clause-none : goal.returns-clause-none
returns-clause-none c = rw (c.learn.ensures.view, c.learn.ensures.shape) at c.in_default.ensures.none

pub returns-then-most-size-clause-done : goal.returns-then-most-size-clause-done
returns-then-most-size-clause-done c a there = found_same c.learn.ensures.view a there

pub returns-in-Some-clause-done : goal.returns-in-Some-clause-done
returns-in-Some-clause-done c a there = c.gap_from.ensures.done a (found_same c.learn.ensures.view a there)

pub returns-clause-done : goal.returns-clause-done
returns-clause-done c a there = found_same c.tighten.ensures.view a (c.gap_from.ensures.done a (found_same c.learn.ensures.view a there))
