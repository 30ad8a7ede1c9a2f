use Rattle.persistent_slots.proofs.InTurn.{cleared_one}
use Rattle.persistent_slots.specs.contracts.slots.unless_dead.F-FnMut as calls
use Rattle.persistent_slots.proofs.slots.unless_dead.Goals as goal

pub returns-in-Some : goal.returns-in-Some
returns-in-Some g c = cleared_one (calls.words g.row.F g.F.FnMut).step _ _ _ _ _ c.in-Some.is c.dead.ensures c.if-dead.true
