-- What stays of the parts that are lent while prefinalizers run.
use Rattle.std.specs.Prelude.{◌≡◌}
use Rattle.std.specs.Io.{StartsWith}
use Rattle.gc_graph.specs.ActionLaw.{HaveStayed}
use Rattle.nodes_in_words.specs.Space.{extents_of_bodies}
use Rattle.prefinalizer_effects.specs.declared.paused.PausedBodies.{PausedBodies}

-- the same parts are lent; the objects lie where they lay, live if they lived, and have the marks that they had; what was looked
-- at before stands first, and where marking ended is told as before
pub record KeepsObjects (old new : PausedBodies) : Type 0 where
  pub seat : new.seat.ghost_name ≡ old.seat.ghost_name
  pub nodes : new.nodes.ghost_name ≡ old.nodes.ghost_name
  pub space : new.space.now ≡ old.space.now
  pub types : new.types.now ≡ old.types.now
  pub stayed : HaveStayed old.nodes.now.value new.nodes.now.value
  pub extents : extents_of_bodies new.seat.now.bodies ≡ extents_of_bodies old.seat.now.bodies
  pub looked : StartsWith new.seat.now.looked old.seat.now.looked
  pub early : new.seat.now.early ≡ old.seat.now.early
  pub marked : new.seat.now.marked ≡ old.seat.now.marked
