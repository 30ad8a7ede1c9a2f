use Rattle.std.proofs.Common.{refl, sym, subst}
use Rattle.heap_cycle.specs.Handles.{HandlesView}
use Rattle.heap_cycle.specs.Parts.{counted, AreTied}
use Rattle.heap_cycle.specs.Ties.{tied_pop}
use Rattle.heap_engine.proofs.stacking.pop_word.Goals as goal

pub returns-then-has_words-clause-frame : goal.returns-then-has_words-clause-frame
returns-then-has_words-clause-frame c = record {
  setup = refl;
  ordinal = refl;
  tied = subst (λ (k : HandlesView). AreTied (counted (record c.args.parts.now { handles = k }))) (sym c.pop.ensures) (tied_pop c.args.parts.now c.requires.ready.tied);
  manned = λ manned. manned;
  refused = record { since = refl; still = λ calm. refl };
}
