use Rattle.heap_cycle.proofs.CrewSteps.{has_manned}
use Rattle.heap_cycle.proofs.crew.start_crew.Goals as goal

pub returns-in-Some : goal.returns-in-Some
returns-in-Some g c = record {
  manned = has_manned c.args.parts.now c.start_crew.new.self (record {
    tied = c.requires.tied;
    marking = c.requires.marking;
    marks = c.start_crew.ensures.marks c.args.parts.now.cycle.rest.may;
    running = c.start_crew.ensures.running;
    marked = c.start_crew.ensures.marked;
    traced = c.start_crew.ensures.traced;
    since = c.start_crew.ensures.since;
    nodes = c.start_crew.ensures.nodes;
    setup = c.start_crew.ensures.setup;
  });
}
