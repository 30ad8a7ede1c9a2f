use Rattle.std.proofs.Common.{rules, ◌≡◌}
use Rattle.marker_core.specs.SeatLaws.{IsReadyToPublish}
use Rattle.page_words.specs.Seat.{side}
use Rattle.page_words.proofs.Steps.{publishes}
use Rattle.page_words.proofs.words.Words.publish.Goals as goal

pub set_bits_at-requires-clause-step : goal.set_bits_at-requires-clause-step
set_bits_at-requires-clause-step g c =
    let ready : IsReadyToPublish (side c.args.seat.now) g.body = search rules in
    let place : g.body.place ≡ c.args.a = search rules in
    publishes c.publishes_are_steps.ensures c.args.seat.now g.body c.self.inside.count c.args.a ready place (search rules)
