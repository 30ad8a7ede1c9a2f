-- What the views know together.
use Rattle.std.specs.Prelude.{◌≡◌, ◌⊎◌, ℕ, ◌+◌, ◌==◌, true, false, List, [], None, Some, slice_index_or, Contains}
use Rattle.std.specs.List.{count_by, sum_by}
use Rattle.marker_core.specs.declared.states.MutatorView.{MutatorView}
use Rattle.marker_core.specs.declared.states.MarkerView.{MarkerView}
use Rattle.marker_core.specs.declared.states.Hand.{Hand}
use Rattle.marker_core.specs.Bodies.{holds}

-- how often a place stands in a list
abbrev pub times : ℕ → List ℕ → ℕ
times a places = count_by (λ p. p == a) places

-- how often a place stands among those that some view marked, and traced
abbrev pub marks_at : MutatorView → List MarkerView → ℕ → ℕ
marks_at m views a = times a m.marked + sum_by (λ v. times a v.marked) views

-- how often a place stands among those that some view traced
abbrev pub traces_at : MutatorView → List MarkerView → ℕ → ℕ
traces_at m views a = times a m.traced + sum_by (λ v. times a v.traced) views

-- a view has this hand; has noted the pair at this offset of the object at p; has read the traced bit of the header at a
abbrev pub IsHand : MutatorView → List MarkerView → Hand → Type 0
IsHand m views h = (m.hand ≡ Some h) ⊎ ((v : MarkerView) × Contains views v × (v.hand ≡ Some h))

-- a view has noted the pair at this offset of the object at p
abbrev pub IsNoted : MutatorView → List MarkerView → ℕ → ℕ → Type 0
IsNoted m views p offset = Contains m.noted (p, offset) ⊎ ((v : MarkerView) × Contains views v × Contains v.noted (p, offset))

-- a view has read the traced bit of the header at a
abbrev pub IsHeaderRead : MutatorView → List MarkerView → ℕ → Type 0
IsHeaderRead m views a = (holds m.done a ≡ true) ⊎ ((v : MarkerView) × Contains views v × (holds v.done a ≡ true))

-- the view of a new marker, and one that was given back
abbrev pub fresh_view : MarkerView
fresh_view = record {
  spent = false;
  known = [];
  marked = [];
  traced = [];
  noted = [];
  hand = None;
  done = [];
  missed = [];
  halted = false;
  last = None;
}

-- a view that was given back
abbrev pub spent_view : MarkerView
spent_view = record fresh_view { spent = true }

-- the view with this number; a spent one where there is none
abbrev pub view_at : List MarkerView → ℕ → MarkerView
view_at views marker = slice_index_or views marker spent_view
