use Rattle.std.proofs.Common.{◌<◌, ◌^◌, refl, ◌∙◌, arith}
use Rattle.marker_core.specs.declared.states.Body.{Body}
use Rattle.sweeper.proofs.Sweeping.{nothing, sweeps_on, judged_on, unnamed_on, serials_stay}
use Rattle.sweeper.proofs.objects.sweep_objects.Goals as goal

pub loop-at-init : goal.loop-at-init
loop-at-init c = record {
  swept =
      nothing c.args.from c.args.from c.args.seat.now c.args.done.now.items c.bodies_lie_apart.ensures (omega arith)
      (λ a first last start. absurd (omega arith));
  low = omega arith;
  within = c.requires.order;
  space = c.requires.space;
  shape = refl;
  room = refl;
}

pub sweep_next-at-requires-clause-judged : goal.sweep_next-at-requires-clause-judged
sweep_next-at-requires-clause-judged c =
    judged_on c.args.from c.loop-at.at c.args.seat.now c.loop-at.seat c.loop-at.invariant.low c.loop-at.invariant.swept.view c.requires.judged

pub sweep_next-at-requires-clause-unnamed : goal.sweep_next-at-requires-clause-unnamed
sweep_next-at-requires-clause-unnamed c =
    unnamed_on c.args.from c.loop-at.at c.args.seat.now c.loop-at.seat c.loop-at.invariant.swept.view c.requires.unnamed

pub sweep_next-at-requires-clause-serials : goal.sweep_next-at-requires-clause-serials
sweep_next-at-requires-clause-serials c =
    serials_stay c.args.from c.loop-at.at c.args.seat.now c.loop-at.seat (λ (b : Body). b.serial < 2 ^ 32) c.loop-at.invariant.swept.view c.requires.serials

pub loop-at-preserved : goal.loop-at-preserved
loop-at-preserved c = record {
  swept =
      sweeps_on c.args.from c.loop-at.at c.sweep_next-at.result c.args.seat.now c.loop-at.seat c.sweep_next-at.new.seat c.args.done.now.items
      c.loop-at.done.items c.sweep_next-at.new.done.items c.loop-at.invariant.low (omega (arith, c.sweep_next-at.ensures.further))
      c.loop-at.invariant.swept c.sweep_next-at.ensures.swept;
  low = omega (arith, c.loop-at.invariant.low, c.sweep_next-at.ensures.further);
  within = c.sweep_next-at.ensures.within;
  space = c.sweep_next-at.ensures.space;
  shape = c.sweep_next-at.ensures.shape ∙ c.loop-at.invariant.shape;
  room = c.sweep_next-at.ensures.room ∙ c.loop-at.invariant.room;
}
