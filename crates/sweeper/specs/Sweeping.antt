-- Sweeping page by page, over the bodies of a heap (lazy sweeping, `include/cppgc/heap.h`).
use Rattle.std.specs.Prelude.{◌≡◌, ℕ, ◌+◌, ◌*◌, ◌^◌, ◌<◌, ◌≤◌, ◌&&◌, not, Bool, true, false, List, [], ◌++◌, length, map, filter, count_by, slice_index_or, Contains, All}
use Rattle.gc_graph.specs.State.{Shape}
use Rattle.marker_core.specs.declared.states.Body.{Body}
use Rattle.marker_core.specs.Bodies.{holds, no_body}
use Rattle.page_space.specs.Seat.{SeatView, IsUnnamed, OnlyLooked}
use Rattle.page_space.specs.Pages.{is_between}
use Rattle.page_space.specs.Space.{SpaceView, IsSpaceOf}

-- how far a sweep has come: how many pages there are, and how many of these, from the first on, are swept
pub record SweepView : Type 0 where
  pub pages : ℕ
  pub cursor : ℕ

-- the address of the first word that is not swept
abbrev pub cursor_at : Shape → SweepView → ℕ
cursor_at shape sweep = sweep.cursor * shape.page_words

-- each body whose place is not below the address is dead exactly where it is not marked
abbrev pub IsJudgedFrom : ℕ → SeatView → Type 0
IsJudgedFrom from v = (b : Body) → Contains v.bodies b → from ≤ b.place → holds v.dead b.place ≡ not (holds v.marked b.place)

-- no body that isn't dead names a dead one
abbrev pub DeadAreUnnamed : SeatView → Type 0
DeadAreUnnamed v = (a : ℕ) → holds v.dead a ≡ true → IsUnnamed v.types v.bodies v.dead a

-- a sweep may go on over the objects in the pages of a space
pub record MaySweep (sweep : SweepView) (space : SpaceView) (v : SeatView) : Type 0 where
  pub laid : IsSpaceOf space v
  pub pages : sweep.pages ≡ space.shape.pages
  pub off : v.on ≡ false
  pub judged : IsJudgedFrom (cursor_at space.shape sweep) v
  pub unnamed : DeadAreUnnamed v
  pub serials : All (λ b. b.serial < 2 ^ 32) v.bodies

-- nothing below the address is marked, traced or dead
pub record IsClearBelow (until : ℕ) (v : SeatView) : Type 0 where
  pub marked : (a : ℕ) → a < until → holds v.marked a ≡ false
  pub traced : (a : ℕ) → a < until → holds v.traced a ≡ false
  pub dead : (a : ℕ) → a < until → holds v.dead a ≡ false

-- ---- what a sweep leaves

-- the places that don't lie from the one address up to, and without, the other
abbrev pub outside : ℕ → ℕ → List ℕ → List ℕ
outside from until places = filter (λ a. not (is_between from until a)) places

-- whether the body is dead and its place lies there
abbrev pub is_dead_in : ℕ → ℕ → SeatView → Body → Bool
is_dead_in from until v b = is_between from until b.place && holds v.dead b.place

-- what was dead there is gone, and nothing there is marked, traced or dead; all else is as it was
abbrev pub swept_in : ℕ → ℕ → SeatView → SeatView
swept_in from until v =
    record v {
      mutator = record v.mutator {
        bodies = filter (λ b. not (is_dead_in from until v b)) v.bodies;
        marked = outside from until v.marked;
        traced = outside from until v.traced;
        dead = outside from until v.dead;
      };
    }

-- what was dead is gone, and nothing is marked, traced or dead
abbrev pub all_swept : SeatView → SeatView
all_swept v =
    record v {
      mutator = record v.mutator {
        bodies = filter (λ b. not (holds v.dead b.place)) v.bodies;
        marked = [];
        traced = [];
        dead = [];
      };
    }

-- ---- what a sweep tells

-- one of the bodies, dead, with its place there
pub record IsDeadBetween (from until : ℕ) (v : SeatView) (b : Body) : Type 0 where
  pub there : Contains v.bodies b
  pub dead : holds v.dead b.place ≡ true
  pub first : from ≤ b.place
  pub last : b.place < until

-- the numbers are those of the dead bodies there, each once, from the lowest place to the highest
pub record AreDeadSerials (from until : ℕ) (v : SeatView) (numbers : List ℕ) : Type 0 where
  pub dead : List Body
  pub numbers_are : numbers ≡ map (λ b. b.serial) dead
  pub each : All (IsDeadBetween from until v) dead
  pub whole : (b : Body) → IsDeadBetween from until v b → Contains dead b
  pub ascending :
      (i j : ℕ) → i < j → j < length dead → (slice_index_or dead i no_body).place < (slice_index_or dead j no_body).place

-- these numbers follow those that were told before
pub record TellsDeadSerials (from until : ℕ) (v : SeatView) (before after : List ℕ) : Type 0 where
  pub numbers : List ℕ
  pub are : AreDeadSerials from until v numbers
  pub follow : after ≡ before ++ numbers

-- how many bodies there are dead
abbrev pub dead_between : ℕ → ℕ → SeatView → ℕ
dead_between from until v = count_by (is_dead_in from until v) v.bodies

-- the objects there were swept and their numbers told; up to each later address, with the dead that are left, these are no
-- more than before
pub record Sweeps (from until : ℕ) (old : SeatView) (before : List ℕ) (new : SeatView) (after : List ℕ) : Type 0 where
  pub view : OnlyLooked (swept_in from until old) new
  pub told : TellsDeadSerials from until old before after
  pub few : (end : ℕ) → until ≤ end → length after + dead_between until end new ≤ length before + dead_between from end old
