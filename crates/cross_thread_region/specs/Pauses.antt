-- What a pause makes of a region.
use Rattle.std.specs.Prelude.{ℕ, Bool, false, List, map, Option, Some, None}
use Rattle.gc_graph.specs.declared.region.Op.TheVariants as O
use Rattle.gc_graph.specs.Pause.{mask_of}
use Rattle.cross_thread_region.specs.declared.chronicle.PlacedEntry.{PlacedEntry}
use Rattle.cross_thread_region.specs.Histories.{weak_places}
use Rattle.cross_thread_region.specs.Calls.{history_with_own}

-- the history after a pause that cleared the slots for which this number stands
abbrev pub history_paused : List PlacedEntry → ℕ → List PlacedEntry
history_paused history cleared = history_with_own history (O.Pause cleared) 0

-- whether a slot's place is one that the rule calls dead
abbrev pub is_dying : (ℕ → Bool) → Option ℕ → Bool
is_dying rule None = false
is_dying rule (Some place) = rule place

-- the number that stands for the weak slots whose place the rule calls dead
abbrev pub dying_of : (ℕ → Bool) → List PlacedEntry → ℕ
dying_of rule history = mask_of (map (is_dying rule) (weak_places history))
