use Rattle.std.proofs.Common.{◌≡◌, ◌+◌, ◌*◌, Bool, false, get_or, List, refl, ap, ◌∙◌, sym, subst, inl, inr, arith}
use Rattle.std.proofs.lemmas.Bool.{cases_lt}
use Rattle.gc_graph.specs.State.{Shape}
use Rattle.gap_bounds.specs.Seat.{SeatView, OnlyLooked}
use Rattle.gap_bounds.specs.Gaps.{IsGap, bound_at}
use Rattle.page_space.specs.Space.{IsSpaceOf, HoldsWhole, extents_of_bodies}
use Rattle.gc_graph.specs.PageNumbers.{page_before}
use Rattle.page_space.proofs.space.Space.gap_from.Goals as goal

pub worth_from-at-requires-clause-end : goal.worth_from-at-requires-clause-end
worth_from-at-requires-clause-end c =
    let now = c.args.self.now in
    omega (
      arith,
      ap (λ s. s.shape.pages * s.shape.page_words) c.self.view_is,
      c.self.invariant.blocks,
      ap (λ s. (c.args.page + 1) * s.shape.page_words) c.self.view_is,
      page_before now.shape.page_words c.args.page now.shape.pages c.requires.page,
    )

pub loop-at-init : goal.loop-at-init
loop-at-init c =
    let now = c.args.self.now in
    let end : (c.args.page + 1) * c.self.inside.page_words ≡ (c.args.page + 1) * now.shape.page_words = ap (λ s. (c.args.page + 1) * s.shape.page_words) c.self.view_is in
    record {
      view = refl;
      done = λ a there. there;
      space = c.requires.space;
      shape = refl;
      known = refl;
      low = c.worth_from-at.ensures.from;
      high = omega (arith, c.worth_from-at.ensures.end);
      none = λ a begins.
          omega (
            arith,
            c.worth_from-at.ensures.passed a begins.0 begins.1,
            ap (λ s. bound_at s.gaps a) c.self.view_is,
            c.requires.space.gaps.bounded c.args.page c.args.size a c.requires.known begins.2,
          );
    }

pub look-requires-clause-whole : goal.look-requires-clause-whole
look-requires-clause-whole c =
    subst (λ (s : Shape). HoldsWhole s c.loop-at.seat.bodies c.args.page) (sym c.loop-at.invariant.shape)
    (subst (λ (v : SeatView). HoldsWhole c.args.self.now.shape v.bodies c.args.page) (sym c.loop-at.invariant.view) c.requires.whole)

pub returns-in-Some-clause-found : goal.returns-in-Some-clause-found
returns-in-Some-clause-found c =
    let low = rw (ap (λ (v : SeatView). v.bodies) c.loop-at.invariant.view, c.loop-at.invariant.shape) at c.in-Some.ensures.found in (
      (omega (arith, low.0.0, c.loop-at.invariant.low), low.0.1, low.0.2),
      (λ b before begins. elim (cases_lt b c.loop-at.at) [
        | inl earlier ↦ c.loop-at.invariant.none b (begins.0, earlier, begins.2)
        | inr later ↦ low.1 b before (later, begins.1, begins.2)
      ]),
    )

pub returns-clause-none : goal.returns-clause-none
returns-clause-none c a begins =
    let end : (c.args.page + 1) * c.self.inside.page_words ≡ (c.args.page + 1) * c.args.self.now.shape.page_words =
    ap (λ s. (c.args.page + 1) * s.shape.page_words) c.self.view_is in
    c.loop-at.invariant.none a (begins.0, omega (arith, begins.1, c.loop-at-test.false), begins.2)

pub loop-at-preserved : goal.loop-at-preserved
loop-at-preserved c =
    let shape = c.args.self.now.shape in
    let view : OnlyLooked c.args.seat.now c.look.new.seat = c.look.ensures.view ∙ c.loop-at.invariant.view in
    let same : c.look.new.self.shape ≡ shape = c.look.ensures.shape ∙ c.loop-at.invariant.shape in
    let known : c.look.new.self.gaps.known ≡ c.args.self.now.gaps.known = c.look.ensures.known ∙ c.loop-at.invariant.known in
    let end : (c.args.page + 1) * c.self.inside.page_words ≡ (c.args.page + 1) * shape.page_words = ap (λ s. (c.args.page + 1) * s.shape.page_words) c.self.view_is in
    let space : IsSpaceOf c.look.new.self c.args.seat.now = subst (IsSpaceOf c.look.new.self) view c.look.ensures.space in
    let vain = rw (ap (λ (v : SeatView). v.bodies) c.loop-at.invariant.view, c.loop-at.invariant.shape) at c.in_default.ensures.none in
    record {
      view = view;
      done = λ a there. c.look.ensures.done a (c.loop-at.invariant.done a there);
      space = space;
      shape = same;
      known = known;
      low = omega (arith, c.loop-at.invariant.low, c.in_default.ensures.on, c.worth_from-at-in-loop-at.ensures.from);
      high = omega (arith, c.worth_from-at-in-loop-at.ensures.end);
      none = λ a begins. elim (cases_lt a c.look.new.at) [
        | inl before ↦ elim (cases_lt a c.loop-at.at) [
          | inl earlier ↦ c.loop-at.invariant.none a (begins.0, earlier, begins.2)
          | inr later ↦ vain a (later, before, begins.2)
        ]
        | inr after ↦
            omega (
              arith,
              c.worth_from-at-in-loop-at.ensures.passed a after begins.1,
              ap (λ s. bound_at s.gaps a) c.self-in-loop-at.view_is,
              space.gaps.bounded c.args.page c.args.size a (ap (λ (k : List Bool). get_or k c.args.page false) known ∙ c.requires.known)
                  (subst (λ s. IsGap s (extents_of_bodies c.args.seat.now.bodies) c.args.size c.args.page a) (sym same) begins.2),
            )
      ];
    }

pub returns-in-Some-clause-done : goal.returns-in-Some-clause-done
returns-in-Some-clause-done c a there = c.look.ensures.done a (c.loop-at.invariant.done a there)

pub returns-clause-done : goal.returns-clause-done
returns-clause-done c a there = c.loop-at.invariant.done a there
