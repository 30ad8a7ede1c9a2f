use Rattle.std.proofs.Common.{arith}
use Rattle.command_text.proofs.PlacesRead.{on_nothing, on_next, on_all}
use Rattle.command_text.proofs.said.read_places.Goals as goal

pub loop-spot-init : goal.loop-spot-init
loop-spot-init c = (c.requires.low, on_nothing _ _ _ c.requires.within c.requires.low)

pub loop-spot-preserved : goal.loop-spot-preserved
loop-spot-preserved c = (
  omega (arith, c.loop-spot.invariant.0, c.read_next-said.ensures.rank),
  on_next _ c.args.spots.now c.loop-spot.spot-index _ _ _ _ _ c.loop-spot-test.true c.requires.low c.loop-spot.invariant.1 c.read_next-said.ensures,
)

pub returns : goal.returns
returns c = on_all _ c.args.spots.now _ _ _ _ c.loop-spot-test.false c.loop-spot.invariant.1
