use Rattle.std.proofs.Common.{◌≡◌, true, refl, sym, subst}
use Rattle.marker_core.specs.Bodies.{is_place}
use Rattle.words_trials.proofs.EndSteps.{begun_ends}
use Rattle.words_trials.proofs.ends.begin.Goals as goal

pub returns : goal.returns
returns c = record {
  ends = begun_ends c.args.space.now c.args.seat.now c.set_stop.new.seat c.requires.ends c.set_stop.ensures.view
      ((c.set_stop.ensures.may refl).roots_in 0 refl (subst (λ bs. is_place bs 0 ≡ true) (sym c.requires.ends.4) refl))
      ((c.set_stop.ensures.may refl).roots_in 253 refl (subst (λ bs. is_place bs 253 ≡ true) (sym c.requires.ends.4) refl));
}
