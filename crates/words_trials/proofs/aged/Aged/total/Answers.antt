use Rattle.std.proofs.Common.{ap, sym, subst}
use Rattle.page_words.specs.Seat.{SeatView, OnlyLooked, unlooked}
use Rattle.page_space.specs.Space.{IsSpaceOf}
use Rattle.words_trials.proofs.AgedHeaps.{aged_still}
use Rattle.words_trials.proofs.aged.Aged.total.Goals as goal

pub invariant_of-self : goal.invariant_of-self
invariant_of-self c =
    let same : OnlyLooked c.self.inside.seat c.page_bucket.new.seat = ap unlooked c.page_bucket.ensures.view in
    aged_still c.self.inside.space c.self.inside.space c.self.inside.seat c.page_bucket.new.seat c.self.inside.dead.items c.self.inside.young.items c.self.inside.next same
    (subst (λ (v : SeatView). IsSpaceOf c.self.inside.space v) (sym same) c.self.invariant.0) c.self.invariant

pub invariant_of-self-then-str_eq-2 : goal.invariant_of-self-then-str_eq-2
invariant_of-self-then-str_eq-2 c =
    let same : OnlyLooked c.self.inside.seat c.starts_in.new.seat = ap unlooked c.starts_in.ensures.view in
    aged_still c.self.inside.space c.self.inside.space c.self.inside.seat c.starts_in.new.seat c.self.inside.dead.items c.self.inside.young.items c.self.inside.next same
    (subst (λ (v : SeatView). IsSpaceOf c.self.inside.space v) (sym same) c.self.invariant.0) c.self.invariant
