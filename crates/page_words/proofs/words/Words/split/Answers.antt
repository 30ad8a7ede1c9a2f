use Rattle.std.proofs.Common.{◌≡◌, true, sym, subst}
use Rattle.page_words.specs.MarkerRule.{IsMarker}
use Rattle.page_words.specs.Rule.{IsOwner}
use Rattle.page_words.specs.Seat.{SeatView}
use Rattle.page_words.proofs.Owning.{same_table}
use Rattle.page_words.proofs.Lending.{lends, lender_is, lent_is, some_word}
use Rattle.page_words.proofs.words.Words.split.Goals as goal

pub split_seat-given-requires : goal.split_seat-given-requires
split_seat-given-requires c = (
  same_table c.seat.inside.seat.table_id c.self.inside.table.shared.table_id c.seat.inside.seat.me.0 c.self.inside.count c.args.seat.now c.args.self.now
      c.seat.view_is c.requires.heap c.self.view_is,
  some_word c.self.inside.count c.self.inside.table.shared.table_id.words c.self.invariant,
  lends c.every_step_keeps.ensures c.splits_are_steps.ensures c.seat.inside.seat.me c.seat.invariant
      (subst (λ (s : SeatView). s.on ≡ true) (sym c.seat.view_is) c.requires.on) c.seat.inside.seat.id,
)

pub invariant_of-seat : goal.invariant_of-seat
invariant_of-seat c =
    subst IsOwner (sym c.split_seat-given.ensures.2)
    (lender_is c.every_step_keeps.ensures c.splits_are_steps.ensures c.seat.inside.seat.me c.seat.invariant
    (subst (λ (s : SeatView). s.on ≡ true) (sym c.seat.view_is) c.requires.on))

pub invariant_of-result : goal.invariant_of-result
invariant_of-result c =
    subst IsMarker (sym c.split_seat-given.ensures.4)
    (lent_is c.every_step_keeps.ensures c.splits_are_steps.ensures c.seat.inside.seat.me c.seat.invariant
    (subst (λ (s : SeatView). s.on ≡ true) (sym c.seat.view_is) c.requires.on))
