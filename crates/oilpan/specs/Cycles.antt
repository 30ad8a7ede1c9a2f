-- What comes of the calls of a collection.
use Rattle.std.specs.Prelude.{◌≡◌, ◌≢◌, ℕ, ◌+◌, ◌≤◌, nat_lt, min}
use Rattle.gc_graph.specs.declared.phase.Phase.{Phase}
use Rattle.gc_graph.specs.declared.phase.Phase.TheVariants.{Marking}
use Rattle.gc_graph.specs.State.{Setup, State, objects_of, used_of}
use Rattle.gc_graph.specs.Outcomes.{answered}
use Rattle.gc_graph.specs.Placement.{extents_of, IsUsedPages}
use Rattle.oilpan.specs.declared.errors.StartError.{StartError}
use Rattle.oilpan.specs.declared.errors.StartError.TheVariants as S
use Rattle.oilpan.specs.declared.told.Stepped.{Stepped}
use Rattle.oilpan.specs.declared.told.Totals.{Totals}

-- no collection was started: one is marking, or memory was wanting; nothing but the count of commands has changed
abbrev pub IsStartFault : State → State → StartError → Type 0
IsStartFault old new S.Marking = (old.phase ≡ Marking) × (new ≡ answered old)
IsStartFault old new S.Memory = new ≡ answered old

-- the heap is in another phase than this one, and nothing but the count of commands has changed
pub record IsOutOf (phase : Phase) (old new : State) : Type 0 where
  pub other : old.phase ≢ phase
  pub left : new ≡ answered old

-- so many objects were traced, at most as many as were asked for; nothing is left where they were fewer
pub record IsStepped (old : State) (count : ℕ) (t : Stepped) (new : State) : Type 0 where
  pub most : t.traced ≤ count
  pub done : t.done ≡ nat_lt t.traced count
  pub after : new ≡ answered (record old { traced = old.traced + t.traced })

-- so many pages more are swept, or those that were left
abbrev pub pages_after : Setup → State → ℕ → ℕ
pages_after setup s count = min (s.cursor + count) setup.shape.pages

-- what the heap holds
pub record AreTotals (setup : Setup) (s : State) (t : Totals) : Type 0 where
  pub objects : t.objects ≡ objects_of s.nodes
  pub words : t.words ≡ used_of s.nodes
  pub pages : IsUsedPages setup.shape (extents_of s.nodes) t.pages
