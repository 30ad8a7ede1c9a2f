use Rattle.std.proofs.Common.{◌∙◌, sym, subst}
use Rattle.page_words.specs.Seat.{SeatView, OnlyLooked}
use Rattle.page_space.specs.Space.{IsSpaceOf}
use Rattle.words_trials.proofs.AgedHeaps.{aged_still}
use Rattle.words_trials.proofs.aged.Aged.agrees.Goals as goal

pub invariant_of-self : goal.invariant_of-self
invariant_of-self c =
    let same : OnlyLooked c.self.inside.seat c.find.new.seat = c.find.ensures ∙ c.find-found.ensures.view in
    aged_still c.self.inside.space c.find-found.new.self c.self.inside.seat c.find.new.seat c.self.inside.dead.items c.self.inside.young.items c.self.inside.next same
    (subst (λ (v : SeatView). IsSpaceOf c.find-found.new.self v) (sym c.find.ensures) c.find-found.ensures.space) c.self.invariant
