use Rattle.std.proofs.Common.{◌≡◌, Some, sym, ap, ◌∙◌, subst}
use Rattle.region_lock.specs.Passes.{MayBeGiven}
use Rattle.region_lock.specs.declared.passes.Held.{Held}
use Rattle.cross_thread_region.specs.Calls.{PassView, named}
use Rattle.cross_thread_region.specs.Contents.{ChronicleView, MayAdd}
use Rattle.cross_thread_region.proofs.Turns.{none_given, one_given}
use Rattle.cross_thread_region.proofs.region.Region.enter.Given as given
use Rattle.cross_thread_region.proofs.region.Region.enter.Goals as goal
use Rattle.cross_thread_region.proofs.region.Region.enter.Goals.{After-add-reply, in-NoMemory, in_default}

number : (g : given.Over) (c : After-add-reply g) → c.pass.inside.number ≡ c.take-held.new.pass.number
number g c = c.pass.invariant.number_is ∙ sym (ap (λ (p : PassView). p.number) c.take-held.ensures.pass)

added : (g : given.Over) (c : After-add-reply g)
    → MayAdd c.take-held.result.value c.take-held.new.pass.number c.args.op c.args.place c.add-reply.result c.add-reply.new.self
added g c = subst (λ n. MayAdd c.take-held.result.value n c.args.op c.args.place c.add-reply.result c.add-reply.new.self) (number g c) c.add-reply.ensures.added

pub give-requires-clause-given : goal.give-requires-clause-given
give-requires-clause-given g c =
    let at : After-add-reply g = (goal.at.give-requires-clause-given g c).After-add-reply in
    let turn : c.take-held.new.pass.turn ≡ Some (c.take-held.result.ticket, c.take-held.result.value.history) = ap (λ (p : PassView). p.turn) c.take-held.ensures.pass in
    elim c.match-reply.branch [
      | in-NoMemory w ↦
          subst (λ (h : Held ChronicleView). MayBeGiven (λ (v : ChronicleView). v.history) named c.take-held.new.pass h) (sym w.held-is)
          (none_given c.take-held.new.pass c.args.op c.args.place c.add-reply.result c.take-held.result.ticket c.take-held.result.count c.take-held.result.value
          c.add-reply.new.self turn (added g at) w.in-NoMemory.is c.take-held.ensures.counted)
      | in_default w ↦
          subst (λ (h : Held ChronicleView). MayBeGiven (λ (v : ChronicleView). v.history) named c.take-held.new.pass h) (sym (w.held-is ∙ w.added.ensures))
          (one_given c.take-held.new.pass c.args.op c.args.place c.add-reply.result c.take-held.result.ticket c.take-held.result.count c.take-held.result.value
          c.add-reply.new.self turn (added g at) w.in_default.not-NoMemory c.take-held.ensures.counted)
    ]
