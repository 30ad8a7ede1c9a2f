use Rattle.std.proofs.Common.{ap, ◌∙◌}
use Rattle.page_words.specs.Seat.{unlooked}
use Rattle.weak_clearing.proofs.ObjectWalk.{unmarked_stays}
use Rattle.page_words.specs.Looking.{looks_on}
use Rattle.weak_clearing.proofs.walk.clear_object.Goals as goal

pub returns-in_default-clause-cleared : goal.returns-in_default-clause-cleared
returns-in_default-clause-cleared c = c.marked_type.ensures.view ∙ ap unlooked (unmarked_stays c.args.handles c.args.seat.now c.args.a c.in_default.ensures.unmarked)

pub returns-in-Some-clause-looked : goal.returns-in-Some-clause-looked
returns-in-Some-clause-looked c =
    looks_on c.args.seat.now c.marked_type.new.seat c.clear_holder.new.seat c.marked_type.ensures.looked c.clear_holder.ensures.looked
