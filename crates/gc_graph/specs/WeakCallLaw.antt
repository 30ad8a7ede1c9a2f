-- The laws of weak callbacks: for which nodes a pause runs them, which lines tell it, what each is shown, and what it meets.
use Rattle.std.specs.Prelude.{◌≡◌, ◌⊎◌, ◌↔◌, ℕ, ◌<◌, Bool, true, false, List, [], ◌∷◌, ◌++◌, length, map, flat_map, filter, slice_index, Contains}
use Rattle.std.specs.List.Sorted.{IsStrictlyIncreasing}
use Rattle.gc_graph.specs.declared.action.ActionKind.{ActionKind}
use Rattle.gc_graph.specs.declared.command.Command.TheVariants as C
use Rattle.gc_graph.specs.declared.command.Want.{Want}
use Rattle.gc_graph.specs.declared.kind.Kind.TheVariants.{Weak}
use Rattle.gc_graph.specs.declared.kind.Value.TheVariants.{Ref}
use Rattle.gc_graph.specs.declared.line.Line.{Line}
use Rattle.gc_graph.specs.declared.line.Line.TheVariants as L
use Rattle.gc_graph.specs.declared.region.Entry.{Entry}
use Rattle.gc_graph.specs.State.{Setup, State, ObjectType, Node, node_at, type_at, IsLive, IsDead}
use Rattle.gc_graph.specs.Fields.{kind_of_field, word_of_field, value_at}
use Rattle.gc_graph.specs.Actions.{shown_words, action_of, acted}
use Rattle.gc_graph.specs.Pause.{kind_of_callback}
use Rattle.gc_graph.specs.WeakCalls.{WeakCall, weak_calls, shown_under, called}
use Rattle.gc_graph.specs.Step.{Step}
use Rattle.gc_graph.specs.Valid.{IsValid}
use Rattle.gc_graph.specs.PrefinalizerLaw.{tells_prefinalizer}

-- ---- for which nodes they run

-- word i of the node is that of a weak field, and names a node that is dead after
pub record LosesWord (nodes after : List Node) (n i : ℕ) : Type 0 where
  pub field : ℕ
  pub weak : kind_of_field (node_at nodes n).object field ≡ Weak
  pub word_is : word_of_field (node_at nodes n).object field ≡ i
  pub target : ℕ
  pub names : value_at (node_at nodes n) i ≡ Ref target
  pub dead : IsDead after target

-- the node lives on, and loses a word
pub record LosesSome (nodes after : List Node) (n : ℕ) : Type 0 where
  pub lives : IsLive after n
  pub word : ℕ
  pub loses : LosesWord nodes after n word

-- the line tells that a weak callback ran
abbrev pub tells_weak_callback : Line → Bool
tells_weak_callback (L.WeakCall n d) = true
tells_weak_callback other = false

-- for each of these nodes, a line for each weak callback of its type, in the order of the type's list
abbrev pub lines_for : Setup → List Node → List ℕ → List Line
lines_for setup nodes holders = flat_map (λ n. map (λ d. L.WeakCall n d) (type_at setup (node_at nodes n).object.ty).weak_callbacks) holders

-- the weak callbacks of those nodes ran that live on and lose a word, by ascending numbers, each callback once; just these are
-- told, in this order, before the prefinalizers, and both at the end
pub record RunsWeakCallbacks (setup : Setup) (old : State) (lines : List Line) (new : State) : Type 0 where
  pub holders : List ℕ
  pub just : (n : ℕ) → Contains holders n ↔ LosesSome old.nodes new.nodes n
  pub ascending : IsStrictlyIncreasing holders
  pub told : filter tells_weak_callback lines ≡ lines_for setup old.nodes holders
  pub before : List Line
  pub order : lines ≡ before ++ (filter tells_weak_callback lines ++ filter tells_prefinalizer lines)

-- so does each pause of a valid state
abbrev pub PausesRunWeakCallbacks : Type 0
PausesRunWeakCallbacks =
    (setup : Setup) (old new : State) (want : Want) (piece : List Entry) (lines : List Line) (kept dead crew traced : ℕ) (walked : Bool)
    → IsValid setup old → Step setup old (C.GcFinish want) piece lines new ⊎ Step setup old (C.GcNow want) piece lines new
    → Contains lines (L.Pause kept dead crew traced walked) → RunsWeakCallbacks setup old lines new

-- ---- what they are shown

-- the call shows 2 for the words that its node loses, and the other words as they are
pub record ShowsWhatIsLost (nodes : List Node) (c : WeakCall) : Type 0 where
  pub count : (words : List ℕ) → length (shown_under c.mask words) ≡ length words
  pub lost :
      (words : List ℕ) (i : ℕ) → i < length words → LosesWord nodes nodes c.node i → slice_index (shown_under c.mask words) i ≡ 2
  pub left :
      (words : List ℕ) (i : ℕ) → i < length words → (LosesWord nodes nodes c.node i → ⊥)
      → slice_index (shown_under c.mask words) i ≡ slice_index words i

-- so does each call of a pause, where these are the nodes after judgement
abbrev pub CallsShowWhatIsLost : Type 0
CallsShowWhatIsLost = (types : List ObjectType) (nodes : List Node) (c : WeakCall) → Contains (weak_calls types nodes) c → ShowsWhatIsLost nodes c

-- ---- what they meet

-- a weak callback acts on what those before it left, and is shown the words that they left
abbrev pub WeakCallbacksMeetWhatIsLeft : Type 0
WeakCallbacksMeetWhatIsLeft =
    (callbacks : List ActionKind) (earlier : List WeakCall) (c : WeakCall) (nodes : List Node)
    → called callbacks (earlier ++ c ∷ []) nodes
    ≡ acted (called callbacks earlier nodes) c.node
    (action_of (kind_of_callback callbacks c.callback)
    (shown_under c.mask (shown_words (node_at (called callbacks earlier nodes) c.node))))
