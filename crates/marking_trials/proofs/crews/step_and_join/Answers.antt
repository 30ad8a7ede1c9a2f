use Rattle.std.proofs.Common.{◌≡◌, sym, ◌∙◌, subst}
use Rattle.std.specs.List.{All}
use Rattle.page_words.specs.Seat.{Heap}
use Rattle.marker_crew.specs.Crews.{Marker}
use Rattle.marking_trials.proofs.crews.step_and_join.Goals as goal

pub join-told-requires-clause-same : goal.join-told-requires-clause-same
join-told-requires-clause-same g c =
    subst (λ (here : Heap). All (λ (m : Marker). m.seat.heap ≡ here) c.args.held.now.crew.running) (sym (c.deref-5.ensures ∙ c.words-2.ensures)) c.requires.seats
