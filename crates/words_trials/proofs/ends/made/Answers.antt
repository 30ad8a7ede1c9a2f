use Rattle.std.proofs.Common.{[], ◌∷◌, ◌++◌, ap, ◌∙◌, rules}
use Rattle.page_words.specs.Seat.{SeatView}
use Rattle.page_space.specs.Occupying.{new_body}
use Rattle.page_space.specs.Space.{SpaceView}
use Rattle.words_trials.proofs.EndSteps.{last_free}
use Rattle.words_trials.proofs.ends.made.Goals as goal

pub occupy-requires-2-clause-place : goal.occupy-requires-2-clause-place
occupy-requires-2-clause-place c =
    last_free c.occupy.new.self c.occupy.new.seat.bodies c.in_ok-place.place
    (c.occupy.ensures.shape ∙ ap (λ (s : SpaceView). s.shape) c.find_empty.ensures.same ∙ c.in-Ok-new.ensures.shape)
    (c.occupy.ensures.occupied.bodies
    ∙ ap (λ (v : SeatView). v.bodies ++ new_body c.in_ok-place.place 1 3 7 ∷ []) (c.find_empty.ensures.view ∙ c.in-Ok-new.ensures.view))
    (search rules)
