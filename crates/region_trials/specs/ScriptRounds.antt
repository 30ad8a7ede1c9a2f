-- The threads of a script between their rounds, and in one.
use Rattle.std.specs.Prelude.{◌≡◌, [], true, false}
use Rattle.cross_thread_region.specs.Calls.{RegionView, PassView}
use Rattle.thread_queues.specs.Queues.{QueuesView}
use Rattle.thread_queues.specs.Going.{AreOut, IsFirst}

-- the threads are here, no join is awaited, and no pass but the first one is out
pub record AreHere (region : RegionView) (pass : PassView) (queues : QueuesView) : Type 0 where
  pub first : IsFirst region pass
  pub alone : pass.out ≡ []
  pub here : queues.away ≡ false
  pub joined : queues.awaiting ≡ false

-- the threads went, and their passes are out
pub record AreAway (region : RegionView) (pass : PassView) (queues : QueuesView) : Type 0 where
  pub first : IsFirst region pass
  pub outs : AreOut region pass queues
  pub away : queues.away ≡ true
  pub awaited : queues.awaiting ≡ true
