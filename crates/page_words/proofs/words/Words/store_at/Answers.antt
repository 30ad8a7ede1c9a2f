use Rattle.std.proofs.Common.{ℕ, sym, subst}
use Rattle.page_words.specs.Rule.{IsStepOf}
use Rattle.page_words.specs.Seat.{SeatView}
use Rattle.page_words.proofs.Owning.{same_table, within_table, turns}
use Rattle.page_words.proofs.words.Words.store_at.Goals as goal

pub store-requires : goal.store-requires
store-requires g c = (
  same_table c.seat.inside.seat.table_id c.self.inside.table.shared.table_id c.seat.inside.seat.me.0 c.self.inside.count c.args.seat.now c.args.self.now
      c.seat.view_is c.requires.heap c.self.view_is,
  within_table c.self.inside.table.shared.table_id c.self.inside.count c.args.at c.args.seat.now c.args.self.now c.self.invariant c.requires.heap
      c.self.view_is c.requires.address,
  turns c.every_step_keeps.ensures c.views_are_ok.ensures c.seat.inside.seat.table_id c.self.inside.table.shared.table_id.slots c.seat.inside.seat.id c.args.at
      c.seat.inside.seat.me (λ (_ : ℕ). c.args.w) (λ (_ : ℕ). g.N.Next.next c.args.w) c.seat.invariant
      (subst (λ (s : SeatView). IsStepOf s c.args.at (λ (_ : ℕ). c.args.w) (λ (_ : ℕ). g.N.Next.next c.args.w)) (sym c.seat.view_is) c.requires.step),
)
