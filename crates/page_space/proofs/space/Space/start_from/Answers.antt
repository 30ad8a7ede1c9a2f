use Rattle.std.proofs.Common.{◌≡◌, ◌∙◌, subst, inl, inr, arith}
use Rattle.std.proofs.lemmas.Bool.{cases_lt}
use Rattle.gap_bounds.specs.Bodies.{IsPlace}
use Rattle.page_space.proofs.space.Space.start_from.Goals as goal

pub returns-in-Some-clause-none : goal.returns-in-Some-clause-none
returns-in-Some-clause-none c p low high place =
    let next = rw c.loop-at.invariant.view at c.in-Some.ensures.found in
    elim (cases_lt p c.loop-at.at) [
      | inl before ↦ c.loop-at.invariant.none p low before place
      | inr after ↦ next.1 p (omega (arith, c.min.ensures)) (after, place)
    ]

pub returns-in-Some-clause-start : goal.returns-in-Some-clause-start
returns-in-Some-clause-start c below =
    let next = rw c.loop-at.invariant.view at c.in-Some.ensures.found in
    let is : c.in-Some.place ≡ c.min.result = omega (arith, c.min.ensures) in
    subst (IsPlace c.args.seat.now.bodies) is next.0.1

pub loop-at-preserved : goal.loop-at-preserved
loop-at-preserved c = record {
  view = c.start_in_block.ensures.view ∙ c.loop-at.invariant.view;
  low = omega (arith, c.loop-at.invariant.low);
  none = λ p low high place. elim (cases_lt p c.loop-at.at) [
    | inl before ↦ c.loop-at.invariant.none p low before place
    | inr after ↦ (rw c.loop-at.invariant.view at c.in_default.ensures.none) p after high place
  ];
}

pub returns-clause-none : goal.returns-clause-none
returns-clause-none c p low high place = c.loop-at.invariant.none p low (omega (arith, c.loop-at-test.false)) place
