use Rattle.std.proofs.Common.{refl, sym, subst}
use Rattle.page_words.specs.Seat.{SeatView, OnlyLooked}
use Rattle.page_space.specs.Space.{IsSpaceOf}
use Rattle.words_trials.proofs.AgedHeaps.{aged_still}
use Rattle.words_trials.proofs.aged.Aged.word.Goals as goal

pub invariant_of-self : goal.invariant_of-self
invariant_of-self c =
    let same : OnlyLooked c.self.inside.seat c.load.new.seat = c.load.ensures.read refl in
    aged_still c.self.inside.space c.self.inside.space c.self.inside.seat c.load.new.seat c.self.inside.dead.items c.self.inside.young.items c.self.inside.next same
    (subst (λ (v : SeatView). IsSpaceOf c.self.inside.space v) (sym same) c.self.invariant.0) c.self.invariant
