-- What is true of a heap of three objects, before marking begins and while it goes on.
use Rattle.std.specs.Prelude.{◌≡◌, ℕ, ◌<◌, Bool, true, List, Contains}
use Rattle.gc_graph.specs.State.{ObjectType}
use Rattle.gc_graph.specs.declared.kind.Kind.TheVariants.{Strong, Pair}
use Rattle.marker_core.specs.Bodies.{IsPlace, holds}
use Rattle.marker_core.specs.declared.states.Body.{Body}
use Rattle.page_words.specs.Seat.{SeatView, IsQuiet}
use Rattle.page_space.specs.Occupying.{new_body}
use Rattle.page_space.specs.Space.{SpaceView, IsSpaceOf, IsSeatOf}
use Rattle.member_fields.specs.Barrier.{IsReadyToStore}
use Rattle.marking_trials.specs.SmallHeap.{two_fields}

-- one type: a strong field and a pair
abbrev pub strong_then_pair : List ObjectType
strong_then_pair = two_fields Strong Pair

-- no marking goes on, and each object is a new one with a lower number
pub record IsYoung (space : SpaceView) (v : SeatView) (number : ℕ) : Type 0 where
  pub laid : IsSpaceOf space v
  pub quiet : IsQuiet v
  pub types : v.types ≡ strong_then_pair
  pub fresh : (b : Body) → Contains v.bodies b → (b ≡ new_body b.place 0 5 b.serial) × (b.serial < number)

-- marking goes on, for the marking state too, and each object has five words and may be kept
pub record IsMarkingThreeObjects (space : SpaceView) (v : SeatView) (told : Bool) : Type 0 where
  pub heap : IsSeatOf space v
  pub on : v.on ≡ true
  pub same : told ≡ true
  pub ready : IsReadyToStore v
  pub types : v.types ≡ strong_then_pair
  pub bodies : (b : Body) → Contains v.bodies b → (b.ty ≡ 0) × (b.size ≡ 5) × (holds v.may b.place ≡ true)

-- three objects, numbered from 1, stand at these places, and no marking goes on
pub record AreYoung (space : SpaceView) (v : SeatView) (a b c : ℕ) : Type 0 where
  pub young : IsYoung space v 4
  pub first : IsPlace v.bodies a
  pub second : IsPlace v.bodies b
  pub third : IsPlace v.bodies c

-- objects stand at these places, and marking goes on
pub record AreThree (space : SpaceView) (v : SeatView) (told : Bool) (a b c : ℕ) : Type 0 where
  pub goes : IsMarkingThreeObjects space v told
  pub first : IsPlace v.bodies a
  pub second : IsPlace v.bodies b
  pub third : IsPlace v.bodies c
