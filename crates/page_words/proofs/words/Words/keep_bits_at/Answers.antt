use Rattle.std.proofs.Common.{bit_and, sym, subst}
use Rattle.page_words.specs.Rule.{IsStepOf, seat_view}
use Rattle.page_words.specs.Seat.{SeatView, TellsWordAt}
use Rattle.page_words.proofs.Owning.{same_table, within_table, finds}
use Rattle.page_words.proofs.ViewFacts.{word_is}
use Rattle.page_words.proofs.words.Words.keep_bits_at.Goals as goal

pub fetch_and-requires : goal.fetch_and-requires
fetch_and-requires g c = (
  same_table c.seat.inside.seat.table_id c.self.inside.table.shared.table_id c.seat.inside.seat.me.0 c.self.inside.count c.args.seat.now c.args.self.now
      c.seat.view_is c.requires.heap c.self.view_is,
  within_table c.self.inside.table.shared.table_id c.self.inside.count c.args.at c.args.seat.now c.args.self.now c.self.invariant c.requires.heap
      c.self.view_is c.requires.address,
  finds c.every_step_keeps.ensures c.views_are_ok.ensures c.seat.inside.seat.table_id c.self.inside.table.shared.table_id.slots c.seat.inside.seat.id c.args.at
      c.seat.inside.seat.me (λ n. bit_and n c.args.bits) g.N.Next.next c.seat.invariant
      (subst (λ (s : SeatView). IsStepOf s c.args.at (λ n. bit_and n c.args.bits) g.N.Next.next) (sym c.seat.view_is) c.requires.step) c.words_may_be_found.ensures,
)

pub returns-clause-word : goal.returns-clause-word
returns-clause-word g c =
    subst (λ (s : SeatView). TellsWordAt s c.args.at c.fetch_and.result) c.seat.view_is
    (word_is (seat_view c.seat.inside.seat.table_id c.seat.inside.seat.me.0) c.args.at c.fetch_and.result c.fetch_and.ensures.2.told)
