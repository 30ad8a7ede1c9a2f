-- What is owed of a command, between the parts of a heap before it and after it, and the outcome that it ended.
use Rattle.std.specs.Prelude.{◌≡◌, ◌⊎◌, ℕ, ◌*◌, ◌≤◌, ◌<◌, ◌++◌, Bool, true, false, [], length, All, Some}
use Rattle.gc_graph.specs.declared.command.Command.{Command}
use Rattle.gc_graph.specs.declared.command.Command.TheVariants as C
use Rattle.gc_graph.specs.declared.line.Line.TheVariants as L
use Rattle.gc_graph.specs.Outcomes.{answered}
use Rattle.gc_graph.specs.Step.{Step}
use Rattle.gc_graph.specs.ThreadLaw.{IsCounted}
use Rattle.cross_thread_region.specs.Calls.{Begins}
use Rattle.gc_graph.specs.Lawful.{TotalsNeverFall}
use Rattle.thread_queues.specs.Going.{TellSomeOf}
use Rattle.thread_queues.specs.Queues.{posted}
use Rattle.heap_cycle.specs.Pages.{word_count}
use Rattle.heap_cycle.specs.Cycles.{AreSlotsMarked, HasFoundAll}
use Rattle.heap_cycle.specs.Crews.{KeepsTaken}
use Rattle.heap_cycle.specs.declared.parts.Parts.{Parts}
use Rattle.heap_cycle.specs.Owned.{OwnedView, IsToldLine, piece_of}
use Rattle.heap_cycle.specs.Parts.{setup_of, state_of, counted, IsFrame, IsReady}
use Rattle.heap_cycle.specs.Printed.{Printed, outcome_lines, TellsThoseThatRan}
use Rattle.heap_cycle.specs.Region.{HasRegion}
use Rattle.heap_engine.specs.Ended.{last_line, IsEnded}

-- an outcome that has begun tells nothing yet
pub record TellsNothing (o : Printed) : Type 0 where
  pub numbers : o.numbers ≡ []
  pub calm : o.calls_back ≡ false

-- a command may be done: the parts are ready, the region belongs to them, no join is told, no pass is out unless a join is awaited, and
-- the outcome tells nothing, with room for the nodes that a sweep can finalise
pub record IsAsked (s : Parts) (o : Printed) : Type 0 where
  pub ready : IsReady s
  pub region : HasRegion s
  pub quiet : s.region.told ≡ []
  pub none_out : s.region.awaiting ≡ false → s.region.out ≡ []
  pub counted : IsCounted (state_of s)
  pub nothing : TellsNothing o
  pub room : word_count s.objects.shape ≤ 2 * o.room

-- whether a command leaves the region, its history and the threads as they are: the owner's calls, starts, pauses and what is said
-- to threads don't
abbrev pub leaves_region : Command → Bool
leaves_region (C.Export p x) = false
leaves_region (C.Import x p) = false
leaves_region C.GcStart = false
leaves_region (C.GcFinish want) = false
leaves_region (C.GcNow want) = false
leaves_region (C.At j order) = false
leaves_region C.ThreadsGo = false
leaves_region C.ThreadsJoin = false
leaves_region _ = true

-- such a command was done: it is a step, whose lines the outcome tells, and ended it; the region is as it was; where it is a step of a
-- cycle that tells that it is done, it found all; and it kept what the owner took before
pub record IsDoneAlone (command : Command) (old new : Parts) (begun o : Printed) : Type 0 where
  pub alone : leaves_region command ≡ true
  pub ended : IsEnded o
  pub step : Step (setup_of old) (state_of old) command [] (outcome_lines o new.cycle.ran) (answered (state_of new))
  pub frame : IsFrame old (counted new) (last_line o)
  pub region : new.region ≡ old.region
  pub ran : TellsThoseThatRan o new.cycle.ran
  pub done : (n t : ℕ) → command ≡ C.GcStep n → last_line o ≡ L.Step t true → HasFoundAll old new
  pub took : (n : ℕ) → command ≡ C.GcStep n → 0 < length old.objects.grey.running → KeepsTaken old.objects.grey new.objects.grey
  pub room : o.room ≡ begun.room

-- the outcome of a join tells how many threads were joined, and nothing else
pub record IsOfJoin (o : Printed) : Type 0 where
  pub count : ℕ
  pub last : o.last ≡ Some (L.Joined count)
  pub numbers : o.numbers ≡ []
  pub calm : o.calls_back ≡ false

-- nothing was published yet, and where threads went none has been since
abbrev pub LeavesBoard : Command → OwnedView → OwnedView → Type 0
LeavesBoard C.ThreadsGo old new = (new.last ≡ old.last) × (new.since ≡ [])
LeavesBoard _ old new = (new.last ≡ old.last) × (new.since ≡ old.since)

-- what a command leaves of the region: it belongs to the parts, and what was taken of the history begins what is taken now; no pass is
-- out unless a join is awaited; where lines are told before the last one, they are replies and entries of a join, and their totals
-- are some of those published since the threads went, from the last ones before, and never get older; a join ends the outcome as one
pub record LeavesRegion (command : Command) (old new : Parts) (o : Printed) : Type 0 where
  pub region : HasRegion new
  pub begins : Begins old.region.taken new.region.taken
  pub none_out : new.region.awaiting ≡ false → new.region.out ≡ []
  pub board : LeavesBoard command old.region new.region
  pub replies : All IsToldLine new.region.told
  pub joined : (new.region.told ≡ []) ⊎ IsOfJoin o
  pub of_join : command ≡ C.ThreadsJoin → IsOfJoin o
  pub totals : TellSomeOf (posted old.region.since old.region.last) new.region.told
  pub fall : TotalsNeverFall new.region.told

-- a command was carried out: it is a step, whose lines the region and the outcome tell, and ended the outcome; where it started a cycle,
-- what the strong slots name is marked; where it is a step of one that tells that it is done, it found all; and it kept what the owner
-- took before
pub record IsCarriedOut (command : Command) (old new : Parts) (begun o : Printed) : Type 0 where
  pub ended : IsEnded o
  pub step :
      Step (setup_of old) (state_of old) command (piece_of old.region new.region) (new.region.told ++ outcome_lines o new.cycle.ran)
      (answered (state_of new))
  pub frame : IsFrame old (counted new) (last_line o)
  pub region : LeavesRegion command old new o
  pub ran : TellsThoseThatRan o new.cycle.ran
  pub marked : command ≡ C.GcStart → last_line o ≡ L.Started → AreSlotsMarked new new.region.taken
  pub done : (n t : ℕ) → command ≡ C.GcStep n → last_line o ≡ L.Step t true → HasFoundAll old new
  pub took : (n : ℕ) → command ≡ C.GcStep n → 0 < length old.objects.grey.running → KeepsTaken old.objects.grey new.objects.grey
  pub room : o.room ≡ begun.room

-- one of these
abbrev pub IsCommandDone : Command → Parts → Parts → Printed → Printed → Type 0
IsCommandDone command old new begun o = IsDoneAlone command old new begun o ⊎ IsCarriedOut command old new begun o
