use Rattle.std.proofs.Common.{◌∙◌, None, true, ap, get_or, refl, subst}
use Rattle.heap_cycle.specs.declared.parts.Parts.{Parts}
use Rattle.heap_engine.specs.FieldSteps.{HasRead}
use Rattle.gc_graph.specs.declared.command.Command.TheVariants as C
use Rattle.heap_engine.proofs.CommandsDone.{line_done}
use Rattle.heap_engine.proofs.SlotReads.{weak_read, read_frame}
use Rattle.heap_engine.proofs.SlotSteps.{step_read}
use Rattle.heap_engine.proofs.slots.read.Goals as goal

-- what the weak slot names was read weakly
has_read : (c : goal.After-end) → HasRead true c.args.parts.now c.read_weakly.new.parts c.weak_target-target.result
has_read c =
    subst (λ (x : Parts). HasRead true x c.read_weakly.new.parts c.weak_target-target.result) c.weak_target-target.ensures.same
    (weak_read c.weak_target-target.new.parts c.read_weakly.new.parts c.weak_target-target.result c.read_weakly.ensures.state c.read_weakly.ensures.tied c.read_weakly.ensures.nodes
    c.read_weakly.ensures.setup c.read_weakly.ensures.grey c.read_weakly.ensures.others c.read_weakly.ensures.ordinal)

pub returns : goal.returns
returns c =
    let s : Parts = c.args.parts.now in
    record {
      done = line_done (C.Read c.args.w c.args.p) s (record c.read_weakly.new.parts { handles = c.put.new.self }) c.args.outcome.now c.end.new.self c.line_of.result c.end.ensures
          c.requires.nothing (
            refl,
            step_read s c.read_weakly.new.parts c.put.new.self c.args.w c.args.p c.weak_target-target.result c.line_of.result c.weak_target-target.ensures.target
                c.line_of.ensures (has_read c) c.put.ensures,
          )
          (read_frame true s c.read_weakly.new.parts c.put.new.self c.args.p c.weak_target-target.result (get_or s.handles.weak c.args.w None) c.line_of.result
          c.requires.ready.tied (has_read c) c.weak_target-target.ensures.target c.put.ensures c.line_of.ensures)
          (ap (λ (x : Parts). x.region) c.read_weakly.ensures.others ∙ ap (λ (x : Parts). x.region) c.weak_target-target.ensures.same) refl (λ n is. cc);
    }
