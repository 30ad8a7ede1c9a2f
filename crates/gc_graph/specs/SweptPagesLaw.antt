-- The laws of what a sweep tells and leaves: how many pages are swept, which nodes were finalised, and whether it is over.
use Rattle.std.specs.Prelude.{◌≡◌, ◌≢◌, ◌⊎◌, ◌↔◌, ℕ, ◌+◌, ◌*◌, ◌<◌, ◌≤◌, List, [], ◌∷◌, ◌++◌, Contains}
use Rattle.gc_graph.specs.declared.command.Command.TheVariants as C
use Rattle.gc_graph.specs.declared.line.Line.{Line}
use Rattle.gc_graph.specs.declared.line.Line.TheVariants as L
use Rattle.gc_graph.specs.declared.line.Refusal.TheVariants as R
use Rattle.gc_graph.specs.declared.phase.Phase.TheVariants.{Idle, Sweeping}
use Rattle.gc_graph.specs.declared.region.Entry.{Entry}
use Rattle.gc_graph.specs.State.{Setup, State, node_at, IsDead}
use Rattle.gc_graph.specs.Outcomes.{IsRefused}
use Rattle.gc_graph.specs.Step.{Step}

-- the node is dead, and its first word lies in the first so many pages
abbrev pub IsDeadIn : Setup → State → ℕ → ℕ → Type 0
IsDeadIn setup s pages n = IsDead s.nodes n × ((node_at s.nodes n).place < pages * setup.shape.page_words)

-- the first so many pages are swept, which the last line tells; the lines tell as finalised just the nodes that were dead in
-- these pages, and none is left there; the sweep is over where these are all pages, and else stays open
pub record HasSweptPages (setup : Setup) (old : State) (pages : ℕ) (lines : List Line) (new : State) : Type 0 where
  pub told : (before : List Line) × (lines ≡ before ++ L.Swept pages ∷ [])
  pub cursor : new.cursor ≡ pages
  pub finalised : (n : ℕ) → Contains lines (L.Finalise n) ↔ IsDeadIn setup old pages n
  pub none_left : (n : ℕ) → IsDeadIn setup new pages n → ⊥
  pub stays_open : pages ≢ setup.shape.pages → new.phase ≡ Sweeping
  pub over : pages ≡ setup.shape.pages → new.phase ≡ Idle

-- where a sweep is open it goes on for n pages, or for those that are left
abbrev pub GoesOn : Setup → State → ℕ → List Line → State → Type 0
GoesOn setup old n lines new =
    (pages : ℕ) × HasSweptPages setup old pages lines new × (pages ≤ setup.shape.pages)
    × ((pages ≡ old.cursor + n) ⊎ ((pages ≡ setup.shape.pages) × (setup.shape.pages ≤ old.cursor + n)))

-- `sweep n` goes on so, and `sweep all` to the last page; where no sweep is open they are refused
pub record SweepsTell (setup : Setup) (old : State) (piece : List Entry) (lines : List Line) (new : State) : Type 0 where
  pub some : (n : ℕ) → old.phase ≡ Sweeping → Step setup old (C.Sweep n) piece lines new → GoesOn setup old n lines new
  pub all : old.phase ≡ Sweeping → Step setup old C.SweepAll piece lines new → HasSweptPages setup old setup.shape.pages lines new
  pub no_some : (n : ℕ) → old.phase ≢ Sweeping → Step setup old (C.Sweep n) piece lines new → IsRefused R.Phase old lines new
  pub no_all : old.phase ≢ Sweeping → Step setup old C.SweepAll piece lines new → IsRefused R.Phase old lines new

-- so does each step
abbrev pub SweepsTellTheirPages : Type 0
SweepsTellTheirPages = (setup : Setup) (old new : State) (piece : List Entry) (lines : List Line) → SweepsTell setup old piece lines new
