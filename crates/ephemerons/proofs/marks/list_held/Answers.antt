use Rattle.ephemerons.proofs.Holding.{held_listed}
use Rattle.ephemerons.proofs.marks.list_held.Goals as goal

pub returns-in-Some : goal.returns-in-Some
returns-in-Some c = record {
  listed = held_listed c.args.marking.now c.push.new.self c.args.held c.in-Some.place c.in-Some.is c.push.ensures.listed c.push.ensures.told;
}
