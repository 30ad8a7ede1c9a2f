use Rattle.std.proofs.Common.{refl, rules}
use Rattle.marker_core.specs.Bodies.{places}
use Rattle.page_words.specs.PlaceTests.{test_of_place}
use Rattle.page_words.specs.Seat.{SeatView}
use Rattle.marking_trials.proofs.Young.{pairs_are_whole, all_held, under_way, begun_places}
use Rattle.marking_trials.proofs.barriers.begin.Goals as goal

pub set_stop-requires : goal.set_stop-requires
set_stop-requires c = (search rules, (c.requires.young.quiet, pairs_are_whole c.args.three.now.space c.args.three.now.seat 4 c.requires.young))

pub returns : goal.returns
returns c =
    let v : SeatView = c.args.three.now.seat in
    let s : SeatView = c.set_stop.new.seat in
    record {
      goes =
          under_way c.args.three.now.space v s 4 (places v.bodies) c.bodies_lie_apart.ensures c.requires.young c.set_stop.ensures.view (λ p at.
          (c.set_stop.ensures.may refl).roots_in p (all_held v p at) (test_of_place v.bodies p at));
      first = begun_places v s (places v.bodies) c.args.three.now.first c.set_stop.ensures.view c.requires.first;
      second = begun_places v s (places v.bodies) c.args.three.now.second c.set_stop.ensures.view c.requires.second;
      third = begun_places v s (places v.bodies) c.args.three.now.third c.set_stop.ensures.view c.requires.third;
    }
