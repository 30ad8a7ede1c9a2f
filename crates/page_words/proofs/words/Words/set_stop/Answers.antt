use Rattle.std.proofs.Common.{rules, ◌∙◌, sym, subst}
use Rattle.marker_core.specs.Laws.{IsLeastOver}
use Rattle.page_words.specs.Roles.{kind_lists}
use Rattle.page_words.specs.Seat.{SeatView, MaySetStop, stop_set}
use Rattle.page_words.proofs.Steps.{stops}
use Rattle.page_words.proofs.StopWord.{reach_may_be_kept, stop_word_tells}
use Rattle.page_words.proofs.words.Words.set_stop.Goals as goal

pub store_at-requires-clause-step : goal.store_at-requires-clause-step
store_at-requires-clause-step g c =
    let may : MaySetStop c.args.seat.now c.args.on = search rules in
    stops c.begins_are_steps.ensures c.stops_are_steps.ensures c.args.seat.now g.roots c.self.inside.count c.from.result c.args.on
    c.bodies_lie_apart.ensures may (search rules) (search rules)

pub returns-clause-may : goal.returns-clause-may
returns-clause-may g c off =
    let may : MaySetStop c.args.seat.now c.args.on = search rules in
    let here = c.seat.view_is in
    subst (λ (s : SeatView). IsLeastOver (kind_lists c.args.seat.now.types) c.args.seat.now.bodies g.roots s.may)
    (sym (c.store_at.ensures ∙ stop_word_tells c.args.seat.now g.roots c.from.result c.args.on (search rules)))
    (subst (λ (s : SeatView). IsLeastOver (kind_lists s.types) s.bodies g.roots (stop_set s g.roots c.args.on).may) here
    (reach_may_be_kept c.reach_over_is_least.ensures c.seat.inside.seat.table_id c.seat.inside.seat.me.0 c.seat.invariant.sure g.roots c.args.on
    (subst (λ (s : SeatView). MaySetStop s c.args.on) (sym here) may) off))
