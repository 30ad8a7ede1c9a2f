use Rattle.std.proofs.Common.{◌≡◌, sym, ap, ◌∙◌, subst}
use Rattle.gc_graph.specs.declared.command.Command.TheVariants as C
use Rattle.heap_cycle.specs.Changes.{with_taken}
use Rattle.heap_cycle.specs.declared.parts.Parts.{Parts}
use Rattle.heap_cycle.specs.Views.{Moment}
use Rattle.heap_engine.specs.CarriedOut.{IsCarriedOut}
use Rattle.heap_engine.proofs.Taken.{taken_parts}
use Rattle.heap_engine.proofs.ThreadCommands.{threads_joined}
use Rattle.heap_engine.proofs.threads.join.Goals as goal

pub returns : goal.returns
returns g c =
    let s : Parts = c.args.parts.now in
    let whole : c.take_since.new.self ≡ taken_parts s c.join-m.new.objects c.join-m.new.self =
    c.take_since.ensures
    ∙ ap (λ (m : Moment). record s { objects = c.join-m.new.objects; region = c.join-m.new.self; cycle = record s.cycle { rest = with_taken m c.join-m.new.self.taken s.cycle.rest } })
    c.moment-before.ensures in
    record {
      done = subst (λ (p : Parts). IsCarriedOut C.ThreadsJoin s p c.args.outcome.now c.end.new.self) (sym whole)
          (threads_joined s c.args.outcome.now c.end.new.self c.join-m.new.objects c.join-m.new.self c.join-m.result c.requires.asked c.join-m.ensures.joined c.join-m.ensures.looked c.end.ensures);
    }
