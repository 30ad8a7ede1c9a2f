-- The laws of the machine.
use Rattle.std.specs.Prelude.{◌≡◌, ◌⊎◌, ℕ, ◌<◌, ◌^◌, ◌/◌, ◌*◌, ◌+◌, nat_lt, Bool, true, false, List, map, Some, None, Contains}
use Rattle.std.specs.List.{range_with_len}
use Rattle.gc_graph.specs.declared.kind.Kind.{Kind}
use Rattle.gc_graph.specs.Reach.{closing}
use Rattle.object_headers.specs.Offsets.{first_field}
use Rattle.marker_core.specs.declared.states.Body.{Body}
use Rattle.marker_core.specs.declared.states.CoreState.{CoreState}
use Rattle.marker_core.specs.declared.steps.CoreStep.{CoreStep}
use Rattle.marker_core.specs.declared.states.Role.TheVariants.{KeyWord}
use Rattle.marker_core.specs.declared.states.Why.TheVariants.{Weak}
use Rattle.marker_core.specs.declared.steps.CoreStep.TheVariants.{Load, Publish, Stop}
use Rattle.marker_core.specs.declared.states.Hand.{Hand}
use Rattle.marker_core.specs.Bodies.{refers, word_in, role_in, is_place, names_body, holds, place_named}
use Rattle.marker_core.specs.Closed.{IsClosedOver, address_graph, reach_over}
use Rattle.marker_core.specs.Looking.{is_pulled}
use Rattle.marker_core.specs.Matching.{AreTypes, AreWhole, LieApart}
use Rattle.marker_core.specs.Views.{marks_at, traces_at, IsHand, IsNoted}
use Rattle.marker_core.specs.Step.{core_step, core_run}
use Rattle.marker_core.specs.Core.{IsCoreOk}
use Rattle.marker_core.specs.Idle.{idle_state}

-- ---- what roots reach is the least closed set of places that holds them

-- the set is closed over the bodies, holds the roots that are places, and lies in each such set
pub record IsLeastOver (types : List (List Kind)) (bodies : List Body) (roots set : List ℕ) : Type 0 where
  pub closed : IsClosedOver types bodies (holds set)
  pub places : (a : ℕ) → holds set a ≡ true → is_place bodies a ≡ true
  pub roots_in : (a : ℕ) → holds roots a ≡ true → is_place bodies a ≡ true → holds set a ≡ true
  pub least :
      (test : ℕ → Bool) → IsClosedOver types bodies test
      → ((a : ℕ) → holds roots a ≡ true → is_place bodies a ≡ true → test a ≡ true) → (a : ℕ) → holds set a ≡ true → test a ≡ true

-- each reference of the bodies is null or names one of them
abbrev pub AllNameBodies : List (List Kind) → List Body → Type 0
AllNameBodies types bodies =
    (b : Body) (i : ℕ) → Contains bodies b → refers (role_in types b i) ≡ true → names_body bodies (word_in b i) ≡ true

-- what roots reach over bodies is the least closed set that holds them
abbrev pub ReachOverIsLeast : Type 0
ReachOverIsLeast =
    (count : ℕ) (types : List (List Kind)) (bodies : List Body) (roots : List ℕ) → AreWhole count types bodies → LieApart bodies
    → AllNameBodies types bodies → IsLeastOver types bodies roots (reach_over count types bodies roots)

-- over the graph that bodies stand for, a set of flags is closed once by looking at the words of the bodies that have one
abbrev pub ClosesByWords : Type 0
ClosesByWords =
    (count : ℕ) (types : List (List Kind)) (bodies : List Body) (set : List Bool) → AreWhole count types bodies → LieApart bodies
    → closing (address_graph count types bodies) set ≡ map (is_pulled types bodies set) (range_with_len 0 count)

-- ---- the state with which all begins

-- the state in which nothing was published is one of those of which all this is true
abbrev pub IdleIsOk : Type 0
IdleIsOk =
    (count : ℕ) (types : List (List Kind)) → count < 2 ^ 32 → count ≡ 64 * (count / 64) → AreTypes types → IsCoreOk (idle_state count types)

-- ---- each step, and each list of steps, keeps what is true of every state

-- each step keeps what is true of every state
abbrev pub StepsKeep : Type 0
StepsKeep = (s t : CoreState) (step : CoreStep) → IsCoreOk s → core_step s step ≡ Some t → IsCoreOk t

-- each list of steps keeps what is true of every state
abbrev pub RunsKeep : Type 0
RunsKeep = (s t : CoreState) (steps : List CoreStep) → IsCoreOk s → core_run s steps ≡ Some t → IsCoreOk t

-- ---- marking that has come to its end

-- marking goes on, with no hand, nothing that waits for its mark, no grey body, and each noted pair has a key that is null or
-- unmarked, or a value that is null or marked
pub record IsMarkingSettled (s : CoreState) : Type 0 where
  pub on : s.mutator.on ≡ true
  pub hands : (h : Hand) → IsHand s.mutator s.markers h → ⊥
  pub pending : s.mutator.pending ≡ None
  pub traced : (a : ℕ) → 0 < marks_at s.mutator s.markers a → 0 < traces_at s.mutator s.markers a
  pub noted :
      (b : Body) (i : ℕ) → Contains s.mutator.bodies b → role_in s.types b i ≡ KeyWord → 0 < word_in b i
      → IsNoted s.mutator s.markers b.place (i + first_field)
      → (marks_at s.mutator s.markers (place_named (word_in b i)) ≡ 0)
      ⊎ ((word_in b (i + 1) ≡ 0) ⊎ (0 < marks_at s.mutator s.markers (place_named (word_in b (i + 1)))))

-- some view has marked the place
abbrev pub is_marked_in : CoreState → ℕ → Bool
is_marked_in s a = nat_lt 0 (marks_at s.mutator s.markers a)

-- the marked set is closed, lies within what may be kept, and holds what the roots reach where it holds the roots
pub record HasEnded (s : CoreState) : Type 0 where
  pub closed : IsClosedOver s.types s.mutator.bodies (is_marked_in s)
  pub within_may : (a : ℕ) → is_marked_in s a ≡ true → holds s.mutator.may a ≡ true
  pub holds_reach :
      (roots : List ℕ) → ((a : ℕ) → holds roots a ≡ true → is_place s.mutator.bodies a ≡ true → is_marked_in s a ≡ true)
      → (a : ℕ) → holds (reach_over s.count s.types s.mutator.bodies roots) a ≡ true → is_marked_in s a ≡ true

-- where marking has settled it has come to its end
abbrev pub SettledHasEnded : Type 0
SettledHasEnded = (s : CoreState) → IsCoreOk s → IsMarkingSettled s → HasEnded s

-- ---- what steps of a marking cycle are for

-- while marking goes on, a new body may be kept, and so may what a weak read gave
abbrev pub NewAndReadMayBeKept : Type 0
NewAndReadMayBeKept =
    (s t : CoreState) (a : ℕ) → IsCoreOk s → s.mutator.on ≡ true
    → (core_step s (Publish a) ≡ Some t) ⊎ (core_step s (Load a Weak) ≡ Some t) → holds t.mutator.may a ≡ true

-- where marking ended the marked set is closed, every marked body is traced, and what isn't marked is dead
pub record HasEndedMarking (s : CoreState) : Type 0 where
  pub closed : IsClosedOver s.types s.mutator.bodies (is_marked_in s)
  pub traced : (a : ℕ) → 0 < marks_at s.mutator s.markers a → 0 < traces_at s.mutator s.markers a
  pub dead : (a : ℕ) → is_place s.mutator.bodies a ≡ true → marks_at s.mutator s.markers a ≡ 0 → holds s.mutator.dead a ≡ true

-- the step that ends marking leaves every body traced or dead
abbrev pub EndsMarkedOut : Type 0
EndsMarkedOut =
    (s t : CoreState) (roots : List ℕ) → IsCoreOk s → s.mutator.on ≡ true → core_step s (Stop true roots) ≡ Some t → t.mutator.on ≡ false
    → HasEndedMarking t
