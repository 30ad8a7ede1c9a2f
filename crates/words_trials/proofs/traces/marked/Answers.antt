use Rattle.std.proofs.Common.{[], ◌∷◌, ap, ◌∙◌}
use Rattle.page_words.specs.Seat.{begun}
use Rattle.words_trials.proofs.TwoObjects.{place_there}
use Rattle.words_trials.proofs.traces.marked.Goals as goal

pub mark-requires-clause-place : goal.mark-requires-clause-place
mark-requires-clause-place c =
    place_there _ _ _ c.lay.ensures (c.set_stop.ensures.view ∙ ap (λ v. begun v (0 ∷ [])) c.store.ensures.view)
