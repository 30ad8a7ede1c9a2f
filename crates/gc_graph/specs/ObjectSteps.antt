-- The commands on objects: making one, and reading and writing its fields (`include/cppgc/allocation.h`, `member.h`,
-- `ephemeron-pair.h`).
use Rattle.std.specs.Prelude.{◌≡◌, ◌≢◌, ◌⊎◌, ℕ, ◌+◌, nat_lt, Bool, true, List, [], ◌∷◌, ◌++◌, length, map, Option, Some, None, MatchOption, slice_set}
use Rattle.gc_graph.specs.declared.kind.Kind.{Kind}
use Rattle.gc_graph.specs.declared.kind.Value.{Value}
use Rattle.gc_graph.specs.declared.kind.Value.TheVariants.{Null, Ref, Word}
use Rattle.gc_graph.specs.declared.line.Line.{Line}
use Rattle.gc_graph.specs.declared.line.Line.TheVariants as L
use Rattle.gc_graph.specs.declared.line.Refusal.TheVariants as R
use Rattle.gc_graph.specs.State.{Setup, State, Node, Registration, type_at, node_at}
use Rattle.gc_graph.specs.Fields.{new_node, size_of_type, field_count, kind_of_field, word_of_field, value_at, with_value, is_reference, is_weak, is_pair, is_plain}
use Rattle.gc_graph.specs.May.{may_with_new, read_node}
use Rattle.gc_graph.specs.Placement.{IsPlacement}
use Rattle.gc_graph.specs.Outcomes.{answered, IsRefused, RefusedUnless, IsMemory, finalise_lines, slot_at, with_slot}

-- ---- a new object

-- the prefinalizers of the type are registered for the node
abbrev pub registrations_for : Setup → ℕ → ℕ → List Registration
registrations_for setup t n = map (λ c. record { node = n; callback = c }) (type_at setup t).prefinalizers

-- the object gets the next number
abbrev pub with_new : Setup → State → ℕ → ℕ → ℕ → State
with_new setup s t extra place = record s {
  nodes = s.nodes ++ new_node setup t extra place ∷ [];
  registrations = s.registrations ++ registrations_for setup t (length s.nodes);
  may = may_with_new s.phase s.may;
}

-- the object was made at the place, after these were finalised on the way
pub record IsMade (setup : Setup) (mid : State) (p t extra : ℕ) (numbers : List ℕ) (lines : List Line) (new : State) (place : ℕ) : Type 0 where
  pub lines_are : lines ≡ finalise_lines numbers ++ L.Placed (length mid.nodes) place ∷ []
  pub after : new ≡ answered (with_slot (with_new setup mid t extra place) p (Some (length mid.nodes)))

-- no object was made, but these were finalised
pub record IsFull (mid : State) (numbers : List ℕ) (lines : List Line) (new : State) : Type 0 where
  pub lines_are : lines ≡ finalise_lines numbers ++ L.Full ∷ []
  pub after : new ≡ answered (record mid { full = mid.full + 1 })

-- the object is made at the place that placement gives, or the heap is full
pub record IsAllocation (setup : Setup) (old : State) (p t extra : ℕ) (lines : List Line) (new : State) : Type 0 where
  pub numbers : List ℕ
  pub mid : State
  pub place : Option ℕ
  pub placed : IsPlacement setup.shape old (size_of_type setup t extra) numbers mid place
  pub done : MatchOption place (IsFull mid numbers lines new) (λ a. IsMade setup mid p t extra numbers lines new a)

-- new: an allocation; only a type with prefinalizers or weak callbacks may want memory
abbrev pub StepNew : Setup → State → ℕ → ℕ → ℕ → List Line → State → Type 0
StepNew setup old p t extra lines new =
    ((((type_at setup t).prefinalizers ≢ []) ⊎ ((type_at setup t).weak_callbacks ≢ [])) × IsMemory old lines new)
    ⊎ IsAllocation setup old p t extra lines new

-- ---- fields

-- field f of the slot's object is asked for: refused where the slot is null, then where there is no such field, then
-- where it is of another kind
abbrev pub AtField : (Kind → Bool) → State → ℕ → ℕ → List Line → State → (ℕ → Type 0) → Type 0
AtField allowed old p f lines new Done =
    MatchOption (slot_at old p) (IsRefused R.Null old lines new)
    (λ n. RefusedUnless (nat_lt f (field_count (node_at old.nodes n))) (IsRefused R.Field old lines new)
    (RefusedUnless (allowed (kind_of_field (node_at old.nodes n).object f)) (IsRefused R.Kind old lines new) (Done n)))

-- the number of the first word of the node's field
abbrev pub first_word : State → ℕ → ℕ → ℕ
first_word s n f = word_of_field (node_at s.nodes n).object f

-- the state with this node written
abbrev pub with_node : State → ℕ → Node → State
with_node s n node = record s { nodes = slice_set s.nodes n node }

-- the node was written
abbrev pub IsChanged : State → ℕ → Node → List Line → State → Type 0
IsChanged old n node lines new = (lines ≡ L.Fine ∷ []) × (new ≡ answered (with_node old n node))

-- set: the field gets the value
abbrev pub StepSet : State → ℕ → ℕ → Value → List Line → State → Type 0
StepSet old p f value lines new =
    AtField is_reference old p f lines new (λ n. IsChanged old n (with_value (node_at old.nodes n) (first_word old n f) value) lines new)

-- a pair of which either part is null has two null words
abbrev pub part_of : Option ℕ → Option ℕ → Value
part_of None other = Null
part_of (Some n) None = Null
part_of (Some n) (Some m) = Ref n

-- pair: both words of the pair are written
abbrev pub StepPair : State → ℕ → ℕ → Option ℕ → Option ℕ → List Line → State → Type 0
StepPair old p f key value lines new =
    AtField is_pair old p f lines new
    (λ n. IsChanged old n
    (with_value (with_value (node_at old.nodes n) (first_word old n f) (part_of key value)) (first_word old n f + 1) (part_of value key))
    lines new)

-- put: the plain word becomes the number
abbrev pub StepPut : State → ℕ → ℕ → ℕ → List Line → State → Type 0
StepPut old p f w lines new =
    AtField is_plain old p f lines new (λ n. IsChanged old n (with_value (node_at old.nodes n) (first_word old n f) (Word w)) lines new)

-- the number that the plain word holds was told
abbrev pub IsNumber : State → Value → List Line → State → Type 0
IsNumber old (Word w) lines new = (lines ≡ L.Word w ∷ []) × (new ≡ answered old)
IsNumber old Null lines new = ⊥
IsNumber old (Ref n) lines new = ⊥

-- word: the plain word is told
abbrev pub StepWord : State → ℕ → ℕ → List Line → State → Type 0
StepWord old p f lines new =
    AtField is_plain old p f lines new (λ n. IsNumber old (value_at (node_at old.nodes n) (first_word old n f)) lines new)

-- slot q gets what was read; through a weak field the read is a weak one
abbrev pub IsRead : Bool → State → Value → ℕ → List Line → State → Type 0
IsRead weak old Null q lines new = (lines ≡ L.Null ∷ []) × (new ≡ answered (with_slot old q None))
IsRead weak old (Ref n) q lines new = (lines ≡ L.Node n ∷ []) × (new ≡ answered (with_slot (read_node weak old n) q (Some n)))
IsRead weak old (Word w) q lines new = ⊥

-- get: slot q gets what the field holds
abbrev pub StepGet : State → ℕ → ℕ → ℕ → List Line → State → Type 0
StepGet old p f q lines new =
    AtField is_reference old p f lines new
    (λ n. IsRead (is_weak (kind_of_field (node_at old.nodes n).object f)) old (value_at (node_at old.nodes n) (first_word old n f)) q lines new)

-- key: slot q gets the pair's key
abbrev pub StepKey : State → ℕ → ℕ → ℕ → List Line → State → Type 0
StepKey old p f q lines new =
    AtField is_pair old p f lines new (λ n. IsRead true old (value_at (node_at old.nodes n) (first_word old n f)) q lines new)

-- val: slot q gets the pair's value
abbrev pub StepVal : State → ℕ → ℕ → ℕ → List Line → State → Type 0
StepVal old p f q lines new =
    AtField is_pair old p f lines new (λ n. IsRead true old (value_at (node_at old.nodes n) (first_word old n f + 1)) q lines new)
