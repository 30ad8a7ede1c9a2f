use Rattle.std.proofs.Common.{None, refl}
use Rattle.gc_graph.specs.declared.command.Command.TheVariants as C
use Rattle.heap_cycle.specs.Handles.{put_in}
use Rattle.heap_cycle.specs.declared.parts.Parts.{Parts}
use Rattle.heap_cycle.specs.Ties.{tied_slot}
use Rattle.heap_engine.proofs.CommandsDone.{handles_done}
use Rattle.heap_engine.proofs.slots.drop_slot.Goals as goal

pub returns : goal.returns
returns c =
    let s : Parts = c.args.parts.now in
    record {
      done = handles_done (C.Drop c.args.p) s c.args.outcome.now c.end.new.self c.put.new.self (put_in s.handles c.args.p None) c.end.ensures c.requires.nothing c.put.ensures
          (tied_slot s c.args.p None refl c.requires.ready.tied) (refl, (refl, refl)) refl (λ n is. cc);
    }
