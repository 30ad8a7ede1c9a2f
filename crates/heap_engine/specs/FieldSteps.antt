-- The steps of writes and reads.
use Rattle.std.specs.Prelude.{◌≡◌, ℕ, ◌+◌, Bool, List, true, Option, option_map, Some, None, ⊤}
use Rattle.gc_graph.specs.declared.kind.Value.{Value}
use Rattle.gc_graph.specs.declared.line.Line.{Line}
use Rattle.gc_graph.specs.State.{State, node_at}
use Rattle.gc_graph.specs.Fields.{value_at, with_value, is_pair}
use Rattle.gc_graph.specs.May.{read_node}
use Rattle.gc_graph.specs.ObjectSteps.{AtField, IsChanged, IsRead, first_word}
use Rattle.heap_cycle.specs.Seat.{SeatView}
use Rattle.heap_cycle.specs.Barrier.{MayKeepNamed}
use Rattle.heap_cycle.specs.Part.{Part}
use Rattle.heap_cycle.specs.Wanted.{Wanted}
use Rattle.heap_cycle.specs.Wanted.TheVariants.{References, Numbers, Pairs}
use Rattle.heap_cycle.specs.Fields.{allows, part_word}
use Rattle.heap_cycle.specs.declared.parts.Parts.{Parts}
use Rattle.heap_cycle.specs.Parts.{setup_of, state_of, AreTied}

-- field f of the slot's object got the value, or was refused as one that isn't wanted
abbrev pub StepWrite : Wanted → State → ℕ → ℕ → Value → List Line → State → Type 0
StepWrite wanted old p f value lines new =
    AtField (allows wanted) old p f lines new (λ n. IsChanged old n (with_value (node_at old.nodes n) (first_word old n f) value) lines new)

-- the pair that is field f of the slot's object got the key and the value
abbrev pub StepWholePair : State → ℕ → ℕ → Value → Value → List Line → State → Type 0
StepWholePair old p f key value lines new =
    AtField is_pair old p f lines new
    (λ n. IsChanged old n (with_value (with_value (node_at old.nodes n) (first_word old n f) key) (first_word old n f + 1) value) lines new)

-- slot q got this part of the pair that is field f of the slot's object; the read is a weak one
abbrev pub StepPart : Part → State → ℕ → ℕ → ℕ → List Line → State → Type 0
StepPart part old p f q lines new =
    AtField is_pair old p f lines new (λ n. IsRead true old (value_at (node_at old.nodes n) (part_word part (first_word old n f))) q lines new)

-- a word that goes into one of the fields that are wanted: while marking goes on, what a strong or weak one names may be kept
abbrev pub IsKeptIn : Wanted → SeatView → ℕ → Type 0
IsKeptIn References v w = MayKeepNamed v w
IsKeptIn Numbers v w = ⊤
IsKeptIn Pairs v w = ⊤

-- the state after a read, weak or not, that gave the target
abbrev pub after_read : Bool → State → Option ℕ → State
after_read weak s None = s
after_read weak s (Some n) = read_node weak s n

-- a read, weak or not, gave the target: what it may keep is kept, the parts stay tied, and no node, no slot, nothing of marking and nothing
-- of the region changes
pub record HasRead (weak : Bool) (old new : Parts) (target : Option (ℕ × ℕ)) : Type 0 where
  pub state : state_of new ≡ after_read weak (state_of old) (option_map (λ t. t.1) target)
  pub tied : AreTied new
  pub nodes : new.objects.nodes ≡ old.objects.nodes
  pub setup : setup_of new ≡ setup_of old
  pub grey : new.objects.grey ≡ old.objects.grey
  pub handles : new.handles ≡ old.handles
  pub region : new.region ≡ old.region
  pub ordinal : new.cycle.rest.ordinal ≡ old.cycle.rest.ordinal
