use Rattle.std.proofs.Common.{◌≡◌, ◌+◌, ◌/◌, None, sym, subst, ◌∙◌}
use Rattle.page_words.specs.Markers.{MarkerSeatView}
use Rattle.page_words.proofs.Owning.{same_table}
use Rattle.page_words.proofs.MarkerSeats.{same_table_as}
use Rattle.page_words.proofs.Lending.{takes_back, looks_after, some_word, stop_within}
use Rattle.page_words.proofs.words.Words.join.Goals as goal

pub join_seat-requires : goal.join_seat-requires
join_seat-requires c = (
  same_table c.seat.inside.seat.table_id c.self.inside.table.shared.table_id c.seat.inside.seat.me.0 c.self.inside.count c.args.seat.now c.args.self.now
      c.seat.view_is c.requires.heap c.self.view_is,
  same_table_as c.marker.inside.seat.table_id c.self.inside.table.shared.table_id c.marker.inside.seat.me.0 c.self.inside.count c.args.marker
      c.args.self.now c.marker.view_is c.requires.same c.self.view_is,
  c.marker.invariant.empty,
  some_word c.self.inside.count c.self.inside.table.shared.table_id.words c.self.invariant,
  takes_back c.every_step_keeps.ensures c.joins_are_steps.ensures c.lent_while_on.ensures c.seat.inside.seat.me.0 c.marker.inside.seat.me.0
      c.seat.inside.seat.id c.marker.inside.seat.id c.seat.invariant.owns c.marker.invariant.owns c.marker.invariant.sure.out
      (subst (λ (s : MarkerSeatView). s.hand ≡ None) (sym c.marker.view_is) c.requires.hand),
)

pub load-requires : goal.load-requires
load-requires c = (
  c.join_seat.ensures.0
      ∙ same_table c.seat.inside.seat.table_id c.self.inside.table.shared.table_id c.seat.inside.seat.me.0 c.self.inside.count c.args.seat.now
      c.args.self.now c.seat.view_is c.requires.heap c.self.view_is,
  stop_within c.self.inside.count c.self.inside.table.shared.table_id.words c.self.invariant,
  looks_after c.views_are_ok.ensures c.seat.inside.seat.me c.marker.inside.seat.me.0 c.seat.invariant c.join_seat.new.seat.me c.join_seat.ensures.2
      c.self.inside.table.shared.table_id.slots c.join_seat.new.seat.id (c.self.inside.count + c.self.inside.count / 64),
)
