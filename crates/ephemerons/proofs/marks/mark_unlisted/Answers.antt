use Rattle.std.proofs.Common.{◌≡◌, Bool, false, not, sym, ap, ◌∙◌}
use Rattle.std.proofs.lemmas.Bool.{not-true}
use Rattle.marker_core.specs.Bodies.{holds}
use Rattle.page_words.specs.Seat.{marked_at}
use Rattle.ephemerons.proofs.MarkSteps.{mark_lists}
use Rattle.ephemerons.proofs.Holding.{held_back}
use Rattle.ephemerons.proofs.marks.mark_unlisted.Given as given
use Rattle.ephemerons.proofs.marks.mark_unlisted.Goals as goal

view : (g : given.Over) (c : goal.Then-mark g) → c.mark.new.seat ≡ marked_at c.args.seat.now c.args.place false
view g c = c.mark.ensures.view ∙ ap (λ (b : Bool). marked_at c.args.seat.now c.args.place (not b)) c.if-mark.true

fresh : (g : given.Over) (c : goal.Then-mark g) → holds c.args.seat.now.marked c.args.place ≡ false
fresh g c = not-true (holds c.args.seat.now.marked c.args.place) (sym (c.mark.ensures.fresh c.requires.alone) ∙ c.if-mark.true)

pub returns-then-mark-clause-marks : goal.returns-then-mark-clause-marks
returns-then-mark-clause-marks g c m =
    (mark_lists c.args.seat.now c.mark.new.seat m _ c.args.place c.bodies_lie_apart.ensures c.requires.place (view g c) (fresh g c)
    (held_back m c.args.place)).0

pub returns-then-mark-clause-found : goal.returns-then-mark-clause-found
returns-then-mark-clause-found g c m =
    (mark_lists c.args.seat.now c.mark.new.seat m _ c.args.place c.bodies_lie_apart.ensures c.requires.place (view g c) (fresh g c)
    (held_back m c.args.place)).1
