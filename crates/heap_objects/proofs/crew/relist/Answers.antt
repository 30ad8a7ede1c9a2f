use Rattle.heap_objects.proofs.Relisting.{relists_then}
use Rattle.heap_objects.proofs.crew.relist.Goals as goal

pub loop-place-preserved : goal.loop-place-preserved
loop-place-preserved c = record {
  relists =
      relists_then _ c.loop-place.alone.items c.pop.new.self.items c.in-Some.place _
      c.loop-place.marking c.push.new.self c.loop-place.invariant.relists c.in-Some.ensures.items c.push.ensures.listed c.push.ensures.told;
  whole = c.pop.ensures.whole;
}
