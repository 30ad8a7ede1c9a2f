use Rattle.std.proofs.Common.{refl}
use Rattle.gc_graph.specs.declared.command.Command.TheVariants as C
use Rattle.heap_cycle.specs.Handles.{weakened_in}
use Rattle.heap_cycle.specs.declared.parts.Parts.{Parts}
use Rattle.heap_cycle.specs.Ties.{tied_weak}
use Rattle.heap_engine.proofs.CommandsDone.{handles_done}
use Rattle.heap_engine.proofs.slots.weaken.Goals as goal

pub returns : goal.returns
returns c =
    let s : Parts = c.args.parts.now in
    record {
      done = handles_done (C.Weak c.args.w c.args.p) s c.args.outcome.now c.end.new.self c.weaken.new.self (weakened_in s.handles c.args.w c.args.p) c.end.ensures c.requires.nothing c.weaken.ensures
          (tied_weak s c.args.w c.args.p c.requires.ready.tied) (refl, (refl, refl)) refl (λ n is. cc);
    }
