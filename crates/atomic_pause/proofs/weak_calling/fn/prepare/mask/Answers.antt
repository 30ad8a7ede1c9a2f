use Rattle.atomic_pause.proofs.WeakMasks.{told_at}
use Rattle.atomic_pause.proofs.weak_calling.fn.prepare.mask.Goals as goal

pub returns : goal.returns
returns c = record {
  answer = told_at c.captures.seat.now c.captures.seat.now.bodies c.args.place c.dying.result c.dying.ensures.dying c.requires.place.there;
  view = c.dying.ensures.view;
  looked = c.dying.ensures.looked;
}
