use Rattle.std.proofs.Common.{refl}
use Rattle.gc_graph.specs.declared.command.Command.TheVariants as C
use Rattle.heap_cycle.specs.Handles.{copied_in}
use Rattle.heap_cycle.specs.declared.parts.Parts.{Parts}
use Rattle.heap_cycle.specs.Ties.{tied_copy}
use Rattle.heap_engine.proofs.CommandsDone.{handles_done}
use Rattle.heap_engine.proofs.slots.copy.Goals as goal

pub returns : goal.returns
returns c =
    let s : Parts = c.args.parts.now in
    record {
      done = handles_done (C.Copy c.args.p c.args.q) s c.args.outcome.now c.end.new.self c.copy.new.self (copied_in s.handles c.args.p c.args.q) c.end.ensures c.requires.nothing c.copy.ensures
          (tied_copy s c.args.p c.args.q c.requires.ready.tied) (refl, (refl, refl)) refl (λ n is. cc);
    }
