use Rattle.std.proofs.Common.{sym, subst}
use Rattle.marker_core.specs.MarkerFacts.{MarkerMayFind}
use Rattle.page_words.specs.MarkerRule.{IsMarkerStepOf}
use Rattle.page_words.specs.Markers.{MarkerSeatView, marker_side}
use Rattle.page_words.proofs.MarkerSeats.{same_table_as, within_table_as, marker_finds}
use Rattle.page_words.proofs.words.Words.look_at.Goals as goal

pub load-requires : goal.load-requires
load-requires g c = (
  same_table_as c.seat.inside.seat.table_id c.self.inside.table.shared.table_id c.seat.inside.seat.me.0 c.self.inside.count c.args.seat.now c.args.self.now
      c.seat.view_is c.requires.heap c.self.view_is,
  within_table_as c.self.inside.table.shared.table_id c.self.inside.count c.args.at c.args.seat.now c.args.self.now c.self.invariant c.requires.heap
      c.self.view_is c.requires.address,
  marker_finds c.every_step_keeps.ensures c.marker_words_may_be_found.ensures c.seat.inside.seat.table_id c.self.inside.table.shared.table_id.slots
      c.seat.inside.seat.id c.args.at c.seat.inside.seat.me (λ n. n) g.N.NextMarker.next c.seat.invariant
      (subst (λ (s : MarkerSeatView). IsMarkerStepOf s c.args.at (λ n. n) g.N.NextMarker.next) (sym c.seat.view_is) c.requires.step),
)

pub returns-clause-word : goal.returns-clause-word
returns-clause-word g c =
    subst (λ (s : MarkerSeatView). MarkerMayFind (marker_side s) c.args.at c.load.result) c.seat.view_is c.load.ensures.2.told
