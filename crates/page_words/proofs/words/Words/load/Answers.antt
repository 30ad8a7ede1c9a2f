use Rattle.std.proofs.Common.{◌≡◌, true, [], ◌∷◌, ◌++◌, sym, subst, ap, ◌∙◌}
use Rattle.marker_core.specs.Laws.{IsLeastOver}
use Rattle.page_words.specs.Roles.{kind_lists}
use Rattle.page_words.specs.Seat.{SeatView, loaded}
use Rattle.page_words.proofs.Steps.{loads}
use Rattle.page_words.proofs.StopWord.{read_may_be_kept}
use Rattle.page_words.proofs.ViewFacts.{read_beside}
use Rattle.page_words.proofs.words.Words.load.Goals as goal

pub load_at-requires-clause-step : goal.load_at-requires-clause-step
load_at-requires-clause-step g c = loads c.loads_are_steps.ensures c.args.seat.now c.args.a g.W.Reason.why c.requires.allowed

pub returns-clause-beside : goal.returns-clause-beside
returns-clause-beside g c read beside = c.load_at.ensures.view
    ∙ ap (λ why. loaded c.args.seat.now c.args.a why c.load_at.result) read
    ∙ read_beside c.args.seat.now c.args.a c.load_at.result beside

pub returns-clause-weak : goal.returns-clause-weak
returns-clause-weak g c weak on =
    let found = c.load_at.result in
    subst (λ (s : SeatView). IsLeastOver (kind_lists c.args.seat.now.types) c.args.seat.now.bodies (c.args.seat.now.may ++ c.args.a ∷ []) s.may)
    (sym c.load_at.ensures.view)
    (subst (λ (s : SeatView). IsLeastOver (kind_lists s.types) s.bodies (s.may ++ c.args.a ∷ []) (loaded s c.args.a g.W.Reason.why found).may) c.seat.view_is
    (read_may_be_kept c.reach_over_is_least.ensures c.seat.inside.seat.table_id c.seat.inside.seat.me.0 c.seat.invariant.sure c.args.a found
    g.W.Reason.why weak (subst (λ (s : SeatView). s.on ≡ true) (sym c.seat.view_is) on)))
