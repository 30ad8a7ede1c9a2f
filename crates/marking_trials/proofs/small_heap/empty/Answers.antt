use Rattle.std.proofs.Common.{◌∙◌, ap}
use Rattle.page_words.specs.Seat.{empty_view}
use Rattle.marking_trials.proofs.small_heap.empty.Goals as goal

pub returns-clause-view : goal.returns-clause-view
returns-clause-view c = c.in-Ok.ensures.view ∙ ap (empty_view _) (c.deref.ensures ∙ c.in_ok-types.ensures)
