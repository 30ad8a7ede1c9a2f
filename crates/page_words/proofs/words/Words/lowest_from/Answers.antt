use Rattle.std.proofs.Common.{◌≡◌, ap, ◌∙◌, sym, inl, inr, arith}
use Rattle.std.proofs.lemmas.Bool.{cases_lt}
use Rattle.page_words.specs.BodyPlaces.{place_below}
use Rattle.page_words.specs.Seat.{Heap}
use Rattle.page_words.proofs.words.Words.lowest_from.Goals as goal
use Rattle.page_words.proofs.words.Words.lowest_from.Goals.{In-loop-at}

-- the words are counted as the seat counts them
counted : (c : In-loop-at) → c.count-count.result ≡ c.args.seat.now.count
counted c = c.count-count.ensures.count ∙ ap (λ (h : Heap). h.count) (sym c.requires.heap)

pub returns-in-Some-clause-found : goal.returns-in-Some-clause-found
returns-in-Some-clause-found c =
    let next = rw c.loop-at.invariant.view at c.in-Some.ensures.found in (
      (omega (arith, c.loop-at.invariant.low, next.0.0), next.0.1),
      (λ p before place. elim (cases_lt p c.loop-at.at) [
        | inl below ↦ c.loop-at.invariant.none p place.0 below place.1
        | inr above ↦ next.1 p before (above, place.1)
      ]),
    )

pub loop-at-preserved : goal.loop-at-preserved
loop-at-preserved c = record {
  view = c.start_in_block.ensures.view ∙ c.loop-at.invariant.view;
  low = omega (arith, c.loop-at.invariant.low);
  none = λ p low high place. elim (cases_lt p c.loop-at.at) [
    | inl before ↦ c.loop-at.invariant.none p low before place
    | inr after ↦ (rw c.loop-at.invariant.view at c.in_default.ensures.none) p after high place
  ];
}

pub returns-clause-none : goal.returns-clause-none
returns-clause-none c a place =
    let count : c.count-count.result ≡ c.args.seat.now.count = c.count-count.ensures.count ∙ ap (λ (h : Heap). h.count) (sym c.requires.heap) in
    c.loop-at.invariant.none a place.0
    (omega (arith, place_below c.args.seat.now a c.bodies_lie_apart.ensures place.1, count, c.loop-at-test.false)) place.1
