-- How the handles and the cycle change.
use Rattle.std.specs.Prelude.{◌≡◌, ◌*◌, ℕ, ◌+◌, ◌-◌, ◌++◌, List, length, map, take, drop}
use Rattle.gc_graph.specs.declared.phase.Phase.{Phase}
use Rattle.gc_graph.specs.May.{may_with_new}
use Rattle.gc_graph.specs.Reach.{Reach}
use Rattle.gc_graph.specs.Sweep.{phase_at}
use Rattle.cross_thread_region.specs.declared.chronicle.PlacedEntry.{PlacedEntry}
use Rattle.cross_thread_region.specs.Histories.{entries_of}
use Rattle.gc_graph.specs.Outcomes.{took}
use Rattle.gc_graph.specs.State.{State, graph_of, roots_of}
use Rattle.callback_table.specs.declared.registry.Registered.{Registered}
use Rattle.callback_table.specs.Registry.{placed_at}
use Rattle.heap_roots.specs.Finalising.{FinalisesBelow}
use Rattle.heap_roots.specs.Marks.{HasMarks}
use Rattle.heap_roots.specs.Objects.{ObjectsView, setup_of_objects}
use Rattle.heap_cycle.specs.Views.{CycleView, Moment}

-- the last registered prefinalizers, so many of them, got this place
abbrev pub placed_last : ℕ → ℕ → List Registered → List Registered
placed_last count place entries =
    take (length entries - count) entries ++ map (placed_at place) (drop (length entries - count) entries)

-- one outcome more was full
abbrev pub filled : State → State
filled s = record s { full = s.full + 1 }

-- an open sweep went on until so many pages were swept, in which so many nodes were finalised
abbrev pub swept_to : ℕ → ℕ → State → State
swept_to pages count s = record s { cursor = pages; finalised = s.finalised + count }

-- the objects and the cycle after an open sweep went on until so many pages were swept
pub record SweepsParts (o new : ObjectsView) (c after : CycleView) (pages : ℕ) (before told : List ℕ) : Type 0 where
  pub setup : setup_of_objects new ≡ setup_of_objects o
  pub nodes : FinalisesBelow (pages * o.shape.page_words) o.nodes before told new.nodes
  pub phase : after.phase ≡ phase_at o.shape pages
  pub sweep : after.sweep ≡ record c.sweep { cursor = pages }
  pub registered : after.registered ≡ c.registered
  pub weakly : after.weakly ≡ c.weakly
  pub ran : after.ran ≡ c.ran
  pub rest : after.rest ≡ swept_to pages (length nodes.numbers) c.rest
  pub marks : HasMarks after.phase (pages * o.shape.page_words) after.rest.may new
  pub grey : new.grey ≡ o.grey

-- marking began in this state
abbrev pub begun_from : State → State
begun_from s = record s { may = Reach (graph_of s.nodes) (roots_of s); traced = 0 }

-- since this moment the history was taken so far, and what the entries read weakly may be kept
abbrev pub with_taken : Moment → List PlacedEntry → State → State
with_taken before history s = record s { may = (took before.state (entries_of (drop (length before.taken) history))).may }

-- a new node may be kept, where marking goes on
abbrev pub with_new : Phase → State → State
with_new phase s = record s { may = may_with_new phase s.may }

-- its steps traced so many objects more
abbrev pub traced_more : ℕ → State → State
traced_more count s = record s { traced = s.traced + count }

-- and its pause is over
abbrev pub paused_from : State → State
paused_from s = record s { cursor = 0; pauses = s.pauses + 1 }
