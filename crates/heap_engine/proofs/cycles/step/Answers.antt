use Rattle.std.proofs.Common.{refl, sym, ap, ◌∙◌, subst}
use Rattle.std.proofs.lemmas.Bool.{true≢false}
use Rattle.heap_cycle.specs.Parts.{counted, IsFrame}
use Rattle.heap_cycle.specs.Printed.{Printed}
use Rattle.heap_engine.proofs.CommandsDone.{last_is, line_ends}
use Rattle.heap_engine.proofs.OutcomeLines.{ended_alone}
use Rattle.heap_engine.proofs.cycles.step.Goals as goal

pub returns : goal.returns
returns c = record {
  done = record {
    alone = refl;
    ended = line_ends c.args.outcome.now c.end.new.self c.step.result c.end.ensures;
    step = rw (ended_alone c.args.outcome.now c.end.new.self c.step.new.parts.cycle.ran c.step.result c.end.ensures c.requires.nothing.numbers c.requires.nothing.calm) (refl, c.step.ensures.step);
    region = c.step.ensures.region;
    frame = subst (IsFrame c.args.parts.now (counted c.step.new.parts)) (sym (last_is c.args.outcome.now c.end.new.self c.step.result c.end.ensures)) c.step.ensures.frame;
    ran = λ runs. absurd (true≢false (sym runs ∙ (ap (λ (p : Printed). p.calls_back) c.end.ensures ∙ c.requires.nothing.calm)));
    done = λ n t is told. c.step.ensures.done t (sym (last_is c.args.outcome.now c.end.new.self c.step.result c.end.ensures) ∙ told);
    took = λ n is some. c.step.ensures.took some;
    room = ap (λ (p : Printed). p.room) c.end.ensures;
  };
}
