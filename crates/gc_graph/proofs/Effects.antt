-- The ways in which a plain command comes out: one on fields, on slots or on the stack.
use Rattle.std.proofs.Common.{◌≡◌, ℕ, ◌+◌, Bool, ◌||◌, true, false, List, [], ◌∷◌, length, set, All, Option, Some, None, refl, ◌∙◌}
use Rattle.std.specs.Prelude.{⊤}
use Rattle.std.proofs.lemmas.List.{length-set}
use Rattle.gc_graph.specs.declared.command.Command.{Command}
use Rattle.gc_graph.specs.declared.kind.Kind.{Kind}
use Rattle.gc_graph.specs.declared.kind.Value.{Value}
use Rattle.gc_graph.specs.declared.kind.Value.TheVariants.{Word}
use Rattle.gc_graph.specs.declared.line.Line.{Line}
use Rattle.gc_graph.specs.declared.line.Line.TheVariants as L
use Rattle.gc_graph.specs.declared.line.Refusal.{Refusal}
use Rattle.gc_graph.specs.declared.region.Entry.{Entry}
use Rattle.gc_graph.specs.State.{Setup, State, StackWord, Node, node_at, IsLive}
use Rattle.gc_graph.specs.Fields.{kind_of_field, value_at, with_value, content_of, is_reference, is_pair, is_plain}
use Rattle.gc_graph.specs.May.{read_node}
use Rattle.gc_graph.specs.Outcomes.{answered, with_slot}
use Rattle.gc_graph.specs.ObjectSteps.{first_word, with_node, part_of}
use Rattle.gc_graph.specs.Lawful.{IsAllowed}
use Rattle.gc_graph.specs.Commands.{WritesSlot, WritesWeakSlot, WritesStack, IsWordOf, WritesWord, is_of_kind, own_reads, told}
use Rattle.gc_graph.specs.LineKinds.{tells_that_nothing_was_done}
use Rattle.gc_graph.proofs.Sound.{SlotNames, WordNames, IsSound}
use Rattle.gc_graph.proofs.FieldWrites.{with_pair, with_values}
use Rattle.gc_graph.proofs.ValidHandles.{Root}
use Rattle.gc_graph.proofs.Few.{Small}

-- what a plain command does
pub data Effect : Type 0 where
  Refuses : Refusal → Effect
  -- the number that a plain word holds
  Tells : ℕ → Effect
  -- the slot, and what it gets
  Fills : ℕ → Option ℕ → Effect
  -- the slot, for which null was read
  Empties : ℕ → Effect
  -- whether the read is a weak one, the slot, and the node that was read
  Gets : Bool → ℕ → ℕ → Effect
  -- the weak slot, and what it gets
  Weakens : ℕ → Option ℕ → Effect
  -- the words that the stack has after it
  Stacks : List StackWord → Effect
  -- the node, its field, and what the field gets
  Sets : ℕ → ℕ → Option ℕ → Effect
  Puts : ℕ → ℕ → ℕ → Effect
  Pairs : ℕ → ℕ → Option ℕ → Option ℕ → Effect

abbrev pub line_of_effect : Effect → Line
line_of_effect (Refuses why) = L.Refused why
line_of_effect (Tells w) = L.Word w
line_of_effect (Fills q content) = L.Fine
line_of_effect (Empties q) = L.Null
line_of_effect (Gets weak q n) = L.Node n
line_of_effect (Weakens w content) = L.Fine
line_of_effect (Stacks stack) = L.Fine
line_of_effect (Sets n f content) = L.Fine
line_of_effect (Puts n f w) = L.Fine
line_of_effect (Pairs n f key value) = L.Fine

abbrev pub with_effect : State → Effect → State
with_effect s (Refuses why) = s
with_effect s (Tells w) = s
with_effect s (Fills q content) = with_slot s q content
with_effect s (Empties q) = with_slot s q None
with_effect s (Gets weak q n) = with_slot (read_node weak s n) q (Some n)
with_effect s (Weakens w content) = record s { weak = set s.weak w content }
with_effect s (Stacks stack) = record s { stack = stack }
with_effect s (Sets n f content) = with_node s n (with_value (node_at s.nodes n) (first_word s n f) (content_of content))
with_effect s (Puts n f w) = with_node s n (with_value (node_at s.nodes n) (first_word s n f) (Word w))
with_effect s (Pairs n f key value) =
    with_node s n (with_pair (node_at s.nodes n) (first_word s n f) (part_of key value) (part_of value key))

-- ---- what is known of it

-- a fact on the state that holds where it is sound
abbrev pub WhereSound : State → Type 0 → Type 0
WhereSound s Fact = (setup : Setup) → IsSound setup s → Fact

-- a weak read gives a live node, and another one a root
abbrev pub IsReadable : Bool → State → ℕ → Type 0
IsReadable true s n = IsLive s.nodes n
IsReadable false s n = Root s n

-- the command writes the field of a root, and the field is of the kind that it wants
pub record WritesField (allowed : Kind → Bool) (old : State) (command : Command) (n f : ℕ) : Type 0 where
  pub root : WhereSound old (Root old n)
  pub allows : allowed (kind_of_field (node_at old.nodes n).object f) ≡ true
  pub words : (word : ℕ) → IsWordOf (node_at old.nodes n).object f word → WritesWord old command n word

pub record ReadsNode (weak : Bool) (old : State) (command : Command) (lines : List Line) (q n : ℕ) : Type 0 where
  pub writes : WritesSlot command q
  pub node : WhereSound old (IsReadable weak old n)
  pub reads : weak ≡ true → own_reads old command lines ≡ told lines

abbrev pub Fits : State → Command → List Line → Effect → Type 0
Fits old command lines (Refuses why) = ⊤
Fits old command lines (Tells w) = (n : ℕ) × (word : ℕ) × (value_at (node_at old.nodes n) word ≡ Word w)
Fits old command lines (Fills q content) = WritesSlot command q × WhereSound old (SlotNames (Root old) content)
Fits old command lines (Empties q) = WritesSlot command q
Fits old command lines (Gets weak q n) = ReadsNode weak old command lines q n
Fits old command lines (Weakens w content) = WritesWeakSlot command w × WhereSound old (SlotNames (IsLive old.nodes) content)
Fits old command lines (Stacks stack) = WritesStack command × WhereSound old (All (WordNames (Root old)) stack)
Fits old command lines (Sets n f content) = WritesField is_reference old command n f × WhereSound old (SlotNames (Root old) content)
Fits old command lines (Puts n f w) = WritesField is_plain old command n f × ((types : ℕ) → IsAllowed types command → Small w)
Fits old command lines (Pairs n f key value) =
    WritesField is_pair old command n f × WhereSound old (SlotNames (Root old) key × SlotNames (Root old) value)

-- the line is one of the command's, or says that nothing was done
abbrev pub IsInKind : Command → Line → Type 0
IsInKind command line = (tells_that_nothing_was_done line || is_of_kind command line) ≡ true

-- the command came out in this way
pub record ComesOut (old : State) (command : Command) (piece : List Entry) (lines : List Line) (new : State) : Type 0 where
  pub effect : Effect
  pub none : piece ≡ []
  pub lines_are : lines ≡ line_of_effect effect ∷ []
  pub after : new ≡ answered (with_effect old effect)
  pub fits : Fits old command lines effect
  pub kind : IsInKind command (line_of_effect effect)

-- ---- what all ways have in common

-- the line is one of five
pub told_by : (P : Line → Type 0) → ((why : Refusal) → P (L.Refused why)) → P L.Fine → P L.Null → ((n : ℕ) → P (L.Node n)) → ((w : ℕ) → P (L.Word w))
    → (effect : Effect) → P (line_of_effect effect)
told_by P refused fine null node word (Refuses why) = refused why
told_by P refused fine null node word (Tells w) = word w
told_by P refused fine null node word (Fills q content) = fine
told_by P refused fine null node word (Empties q) = null
told_by P refused fine null node word (Gets weak q n) = node n
told_by P refused fine null node word (Weakens w content) = fine
told_by P refused fine null node word (Stacks stack) = fine
told_by P refused fine null node word (Sets n f content) = fine
told_by P refused fine null node word (Puts n f w) = fine
told_by P refused fine null node word (Pairs n f key value) = fine

-- but for these five parts the state is the same
abbrev pub IsSameElse : State → State → Type 0
IsSameElse old x = x ≡ record old { nodes = x.nodes; slots = x.slots; weak = x.weak; stack = x.stack; may = x.may }

pub same_else : (old : State) (effect : Effect) → IsSameElse old (with_effect old effect)
same_else old (Refuses why) = refl
same_else old (Tells w) = refl
same_else old (Fills q content) = refl
same_else old (Empties q) = refl
same_else old (Gets true q n) = refl
same_else old (Gets false q n) = refl
same_else old (Weakens w content) = refl
same_else old (Stacks stack) = refl
same_else old (Sets n f content) = refl
same_else old (Puts n f w) = refl
same_else old (Pairs n f key value) = refl

-- the nodes are the same, or one has other values, and as many
pub nodes_by : (old : State) (P : List Node → Type 0) → P old.nodes
    → ((n : ℕ) (values : List Value) → length values ≡ length (node_at old.nodes n).object.values → P (set old.nodes n (with_values (node_at old.nodes n) values)))
    → (effect : Effect) → P (with_effect old effect).nodes
nodes_by old P same written (Refuses why) = same
nodes_by old P same written (Tells w) = same
nodes_by old P same written (Fills q content) = same
nodes_by old P same written (Empties q) = same
nodes_by old P same written (Gets true q n) = same
nodes_by old P same written (Gets false q n) = same
nodes_by old P same written (Weakens w content) = same
nodes_by old P same written (Stacks stack) = same
nodes_by old P same written (Sets n f content) = written n _ (length-set (node_at old.nodes n).object.values (first_word old n f) (content_of content))
nodes_by old P same written (Puts n f w) = written n _ (length-set (node_at old.nodes n).object.values (first_word old n f) (Word w))
nodes_by old P same written (Pairs n f key value) =
    written n _
    (length-set (set (node_at old.nodes n).object.values (first_word old n f) (part_of key value)) (first_word old n f + 1) (part_of value key)
    ∙ length-set (node_at old.nodes n).object.values (first_word old n f) (part_of key value))
