-- What is said of each command: its family, what it may write, how it is answered, and why it is refused.
use Rattle.std.specs.Prelude.{◌≡◌, ◌≢◌, ◌⊎◌, ℕ, ◌+◌, ◌<◌, ◌≤◌, ◌||◌, Bool, true, false, List, [], ◌∷◌, length, Option, Some, None, if◌then◌else◌, slice_get, ⊤}
use Rattle.gc_graph.specs.declared.command.Command.{Command}
use Rattle.gc_graph.specs.declared.command.Command.TheVariants as C
use Rattle.gc_graph.specs.declared.command.Want.TheVariants.{Precise}
use Rattle.gc_graph.specs.declared.kind.Kind.TheVariants.{Strong, Weak, Pair, Plain}
use Rattle.gc_graph.specs.declared.line.Line.{Line}
use Rattle.gc_graph.specs.declared.line.Line.TheVariants as L
use Rattle.gc_graph.specs.declared.line.Refusal.{Refusal}
use Rattle.gc_graph.specs.declared.line.Refusal.TheVariants as R
use Rattle.gc_graph.specs.declared.phase.Phase.{Phase}
use Rattle.gc_graph.specs.declared.phase.Phase.TheVariants.{Marking, Sweeping}
use Rattle.gc_graph.specs.Graph.{Object}
use Rattle.gc_graph.specs.State.{Setup, State, StackWord, Node, node_at, size_of, type_at}
use Rattle.gc_graph.specs.State.StackWord.{Number}
use Rattle.gc_graph.specs.Fields.{words_of_kind, field_count, kind_of_field, word_of_field, is_weak}
use Rattle.gc_graph.specs.Outcomes.{slot_at}
use Rattle.gc_graph.specs.CountsLaw.{tells_finalisation}
use Rattle.gc_graph.specs.LineKinds.{tells_node, tells_ok, tells_place, tells_of_pause, tells_of_threads, tells_word, tells_start, tells_step, tells_sweep, tells_objects, tells_queued, tells_going}

-- what commands have to do with
pub data Family : Type 0 where
  Objects : Family
  Fields : Family
  Pairs : Family
  Slots : Family
  Stack : Family
  Cycle : Family
  Sweeps : Family
  Region : Family
  Threads : Family

-- the family of each command
abbrev pub family_of : Command → Family
family_of (C.New p t e) = Objects
family_of (C.Set p f q) = Fields
family_of (C.SetNull p f) = Fields
family_of (C.Get p f q) = Fields
family_of (C.Put p f n) = Fields
family_of (C.Word p f) = Fields
family_of (C.Pair p f k v) = Pairs
family_of (C.PairNull p f) = Pairs
family_of (C.Key p f q) = Pairs
family_of (C.Val p f q) = Pairs
family_of (C.Copy p q) = Slots
family_of (C.Drop p) = Slots
family_of (C.Weak w p) = Slots
family_of (C.Read w p) = Slots
family_of (C.Push p o) = Stack
family_of (C.PushPlain n) = Stack
family_of C.Pop = Stack
family_of (C.Peek i q) = Stack
family_of C.GcStart = Cycle
family_of (C.GcStep n) = Cycle
family_of (C.GcFinish want) = Cycle
family_of (C.GcNow want) = Cycle
family_of (C.Sweep n) = Sweeps
family_of C.SweepAll = Sweeps
family_of C.Stat = Sweeps
family_of (C.Export p x) = Region
family_of (C.Import x p) = Region
family_of (C.At j order) = Threads
family_of C.ThreadsGo = Threads
family_of C.ThreadsJoin = Threads

-- ---- what it may write

-- the slot into which the command puts what it made or read
abbrev pub WritesSlot : Command → ℕ → Type 0
WritesSlot (C.New p t e) z = z ≡ p
WritesSlot (C.Get p f q) z = z ≡ q
WritesSlot (C.Key p f q) z = z ≡ q
WritesSlot (C.Val p f q) z = z ≡ q
WritesSlot (C.Copy p q) z = z ≡ q
WritesSlot (C.Drop p) z = z ≡ p
WritesSlot (C.Read w p) z = z ≡ p
WritesSlot (C.Peek i q) z = z ≡ q
WritesSlot (C.Import x p) z = z ≡ p
WritesSlot command z = ⊥

-- the weak slot that the command names; a pause may clear any
abbrev pub WritesWeakSlot : Command → ℕ → Type 0
WritesWeakSlot (C.Weak w p) z = z ≡ w
WritesWeakSlot (C.GcFinish want) z = ⊤
WritesWeakSlot (C.GcNow want) z = ⊤
WritesWeakSlot command z = ⊥

-- the commands that push and pop
abbrev pub WritesStack : Command → Type 0
WritesStack (C.Push p o) = ⊤
WritesStack (C.PushPlain n) = ⊤
WritesStack C.Pop = ⊤
WritesStack command = ⊥

-- a new object is registered, and a pause runs those of the dead
abbrev pub WritesRegistrations : Command → Type 0
WritesRegistrations (C.New p t e) = ⊤
WritesRegistrations (C.GcFinish want) = ⊤
WritesRegistrations (C.GcNow want) = ⊤
WritesRegistrations command = ⊥

-- the word is one of the field's
abbrev pub IsWordOf : Object → ℕ → ℕ → Type 0
IsWordOf object f word = (word_of_field object f ≤ word) × (word < word_of_field object f + words_of_kind (kind_of_field object f))

-- the node is that of slot p, and the word one of field f
abbrev pub IsWordAt : State → ℕ → ℕ → ℕ → ℕ → Type 0
IsWordAt s p f n word = (slot_at s p ≡ Some n) × IsWordOf (node_at s.nodes n).object f word

-- the words of the field that the command names; a pause may clear any
abbrev pub WritesWord : State → Command → ℕ → ℕ → Type 0
WritesWord s (C.Set p f q) n word = IsWordAt s p f n word
WritesWord s (C.SetNull p f) n word = IsWordAt s p f n word
WritesWord s (C.Pair p f k v) n word = IsWordAt s p f n word
WritesWord s (C.PairNull p f) n word = IsWordAt s p f n word
WritesWord s (C.Put p f w) n word = IsWordAt s p f n word
WritesWord s (C.GcFinish want) n word = ⊤
WritesWord s (C.GcNow want) n word = ⊤
WritesWord s command n word = ⊥

-- the commands of the cycle, and a new object, for which pages may be swept
abbrev pub MovesCycle : Command → Type 0
MovesCycle (C.New p t e) = ⊤
MovesCycle C.GcStart = ⊤
MovesCycle (C.GcStep n) = ⊤
MovesCycle (C.GcFinish want) = ⊤
MovesCycle (C.GcNow want) = ⊤
MovesCycle (C.Sweep n) = ⊤
MovesCycle C.SweepAll = ⊤
MovesCycle command = ⊥

-- ---- what it may take, and which nodes it reads weakly

-- the command may take entries of the history
abbrev pub may_take : Command → Bool
may_take C.GcStart = true
may_take (C.GcFinish want) = true
may_take (C.GcNow want) = true
may_take (C.Export p x) = true
may_take (C.Import x p) = true
may_take C.ThreadsJoin = true
may_take other = false

-- the node that a read told
abbrev pub told : List Line → List ℕ
told (L.Node n ∷ []) = n ∷ []
told lines = []

-- whether field f of the slot's object is weak
abbrev pub is_weak_field : State → Option ℕ → ℕ → Bool
is_weak_field s None f = false
is_weak_field s (Some n) f = is_weak (kind_of_field (node_at s.nodes n).object f)

-- through a weak field, a pair or a weak slot
abbrev pub own_reads : State → Command → List Line → List ℕ
own_reads old (C.Get p f q) lines = if is_weak_field old (slot_at old p) f then told lines else []
own_reads old (C.Key p f q) lines = told lines
own_reads old (C.Val p f q) lines = told lines
own_reads old (C.Read w p) lines = told lines
own_reads old command lines = []

-- ---- how it is answered

-- the lines that a command has, where something was done
abbrev pub is_of_kind : Command → Line → Bool
is_of_kind (C.New p t e) told = tells_finalisation told || tells_place told
is_of_kind (C.Get p f q) told = tells_node told
is_of_kind (C.Key p f q) told = tells_node told
is_of_kind (C.Val p f q) told = tells_node told
is_of_kind (C.Read w p) told = tells_node told
is_of_kind (C.Peek i q) told = tells_node told
is_of_kind (C.Import x p) told = tells_node told
is_of_kind (C.Word p f) told = tells_word told
is_of_kind C.GcStart told = tells_finalisation told || tells_start told
is_of_kind (C.GcStep n) told = tells_step told
is_of_kind (C.GcFinish want) told = tells_of_pause told
is_of_kind (C.GcNow want) told = tells_finalisation told || tells_of_pause told
is_of_kind (C.Sweep n) told = tells_finalisation told || tells_sweep told
is_of_kind C.SweepAll told = tells_finalisation told || tells_sweep told
is_of_kind C.Stat told = tells_objects told
is_of_kind (C.At j order) told = tells_queued told
is_of_kind C.ThreadsGo told = tells_going told
is_of_kind C.ThreadsJoin told = tells_of_threads told
is_of_kind command told = tells_ok told

-- the command may sweep: it makes an object, begins a collection, or goes on with a sweep
abbrev pub may_sweep : Command → Bool
may_sweep (C.New p t e) = true
may_sweep C.GcStart = true
may_sweep (C.GcNow want) = true
may_sweep (C.Sweep n) = true
may_sweep C.SweepAll = true
may_sweep other = false

-- the command may answer with more than one line: a pause, with its callbacks, and a join
abbrev pub may_tell_more : Command → Bool
may_tell_more (C.GcFinish want) = true
may_tell_more (C.GcNow want) = true
may_tell_more C.ThreadsJoin = true
may_tell_more other = false

-- the commands that may want memory
abbrev pub MayWantMemory : Setup → Command → Type 0
MayWantMemory setup (C.New p t e) = ((type_at setup t).prefinalizers ≢ []) ⊎ ((type_at setup t).weak_callbacks ≢ [])
MayWantMemory setup C.GcStart = ⊤
MayWantMemory setup (C.GcNow want) = ⊤
MayWantMemory setup (C.Export p x) = ⊤
MayWantMemory setup (C.Import x p) = ⊤
MayWantMemory setup (C.At j order) = ⊤
MayWantMemory setup C.ThreadsGo = ⊤
MayWantMemory setup command = ⊥

-- ---- why it is refused

-- no collection begins while one marks, none is stepped or ended while none does, and no sweep goes on where none is open
abbrev pub IsOutOfPhase : Phase → Command → Type 0
IsOutOfPhase phase C.GcStart = phase ≡ Marking
IsOutOfPhase phase (C.GcNow want) = phase ≡ Marking
IsOutOfPhase phase (C.GcStep n) = phase ≢ Marking
IsOutOfPhase phase (C.GcFinish want) = phase ≢ Marking
IsOutOfPhase phase (C.Sweep n) = phase ≢ Sweeping
IsOutOfPhase phase C.SweepAll = phase ≢ Sweeping
IsOutOfPhase phase command = ⊥

-- the command speaks of the object of a slot, which holds this
abbrev pub SpeaksOf : State → Command → Option ℕ → Type 0
SpeaksOf s (C.Set p f q) content = slot_at s p ≡ content
SpeaksOf s (C.SetNull p f) content = slot_at s p ≡ content
SpeaksOf s (C.Pair p f k v) content = slot_at s p ≡ content
SpeaksOf s (C.PairNull p f) content = slot_at s p ≡ content
SpeaksOf s (C.Put p f n) content = slot_at s p ≡ content
SpeaksOf s (C.Word p f) content = slot_at s p ≡ content
SpeaksOf s (C.Get p f q) content = slot_at s p ≡ content
SpeaksOf s (C.Key p f q) content = slot_at s p ≡ content
SpeaksOf s (C.Val p f q) content = slot_at s p ≡ content
SpeaksOf s (C.Push p o) content = slot_at s p ≡ content
SpeaksOf s (C.Export p x) content = slot_at s p ≡ content
SpeaksOf s command content = ⊥

-- the object has no such field, or no such word
abbrev pub IsMissing : Node → Command → Type 0
IsMissing node (C.Set p f q) = field_count node ≤ f
IsMissing node (C.SetNull p f) = field_count node ≤ f
IsMissing node (C.Pair p f k v) = field_count node ≤ f
IsMissing node (C.PairNull p f) = field_count node ≤ f
IsMissing node (C.Put p f n) = field_count node ≤ f
IsMissing node (C.Word p f) = field_count node ≤ f
IsMissing node (C.Get p f q) = field_count node ≤ f
IsMissing node (C.Key p f q) = field_count node ≤ f
IsMissing node (C.Val p f q) = field_count node ≤ f
IsMissing node (C.Push p o) = size_of node ≤ o
IsMissing node command = ⊥

-- a field is set and got where it is strong or weak
abbrev pub IsNoReference : Object → ℕ → Type 0
IsNoReference object f = (kind_of_field object f ≢ Strong) × (kind_of_field object f ≢ Weak)

-- the field is of another kind than the command is for
abbrev pub IsOfOtherKind : Object → Command → Type 0
IsOfOtherKind object (C.Set p f q) = IsNoReference object f
IsOfOtherKind object (C.SetNull p f) = IsNoReference object f
IsOfOtherKind object (C.Get p f q) = IsNoReference object f
IsOfOtherKind object (C.Pair p f k v) = kind_of_field object f ≢ Pair
IsOfOtherKind object (C.PairNull p f) = kind_of_field object f ≢ Pair
IsOfOtherKind object (C.Key p f q) = kind_of_field object f ≢ Pair
IsOfOtherKind object (C.Val p f q) = kind_of_field object f ≢ Pair
IsOfOtherKind object (C.Put p f n) = kind_of_field object f ≢ Plain
IsOfOtherKind object (C.Word p f) = kind_of_field object f ≢ Plain
IsOfOtherKind object command = ⊥

-- the stack's word is a number
abbrev pub PeeksNumber : List StackWord → Command → Type 0
PeeksNumber stack (C.Peek i q) = (w : ℕ) × (slice_get stack i ≡ Some (Number w))
PeeksNumber stack command = ⊥

-- the stack is full, or a precise pause finds a word on it
abbrev pub IsStopped : List StackWord → Command → Type 0
IsStopped stack (C.Push p o) = 1024 ≤ length stack
IsStopped stack (C.PushPlain n) = 1024 ≤ length stack
IsStopped stack (C.GcFinish Precise) = stack ≢ []
IsStopped stack (C.GcNow Precise) = stack ≢ []
IsStopped stack command = ⊥

-- the stack has no such word
abbrev pub LacksWord : List StackWord → Command → Type 0
LacksWord stack C.Pop = stack ≡ []
LacksWord stack (C.Peek i q) = length stack ≤ i
LacksWord stack command = ⊥

-- the command has this reason to be refused
abbrev pub HasReason : State → Command → Refusal → Type 0
HasReason s command R.Phase = IsOutOfPhase s.phase command
HasReason s command R.Null = SpeaksOf s command None
HasReason s command R.Field = (n : ℕ) × SpeaksOf s command (Some n) × IsMissing (node_at s.nodes n) command
HasReason s command R.Kind =
    ((n : ℕ) × SpeaksOf s command (Some n) × IsOfOtherKind (node_at s.nodes n).object command) ⊎ PeeksNumber s.stack command
HasReason s command R.Stack = IsStopped s.stack command
HasReason s command R.Empty = LacksWord s.stack command
