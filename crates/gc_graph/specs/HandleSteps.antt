-- The commands on strong and weak slots and on the stack (`include/cppgc/persistent.h`).
use Rattle.std.specs.Prelude.{◌≡◌, ℕ, nat_lt, true, List, [], ◌∷◌, length, Some, None, MatchOption, slice_set, slice_get, drop}
use Rattle.gc_graph.specs.declared.line.Line.{Line}
use Rattle.gc_graph.specs.declared.line.Line.TheVariants as L
use Rattle.gc_graph.specs.declared.line.Refusal.TheVariants as R
use Rattle.gc_graph.specs.State.{State, StackWord, node_at, size_of}
use Rattle.gc_graph.specs.State.StackWord.{Pointer, Number}
use Rattle.gc_graph.specs.Fields.{content_of}
use Rattle.gc_graph.specs.Outcomes.{answered, IsRefused, RefusedUnless, slot_at, with_slot, weak_slot_at}
use Rattle.gc_graph.specs.ObjectSteps.{IsRead}

-- the command answers `ok`, and this came of it
abbrev pub IsDone : State → List Line → State → Type 0
IsDone after lines new = (lines ≡ L.Fine ∷ []) × (new ≡ answered after)

-- copy: slot q gets what slot p holds
abbrev pub StepCopy : State → ℕ → ℕ → List Line → State → Type 0
StepCopy old p q lines new = IsDone (with_slot old q (slot_at old p)) lines new

-- drop: the slot becomes null
abbrev pub StepDrop : State → ℕ → List Line → State → Type 0
StepDrop old p lines new = IsDone (with_slot old p None) lines new

-- weak: the weak slot gets what slot p holds
abbrev pub StepWeak : State → ℕ → ℕ → List Line → State → Type 0
StepWeak old w p lines new = IsDone (record old { weak = slice_set old.weak w (slot_at old p) }) lines new

-- read: slot p gets what the weak slot holds, by a weak read
abbrev pub StepRead : State → ℕ → ℕ → List Line → State → Type 0
StepRead old w p lines new = IsRead true old (content_of (weak_slot_at old w)) p lines new

-- ---- the stack, which holds 1,024 words at most

-- the word is the last of the stack
abbrev pub pushed : State → StackWord → State
pushed s word = record s { stack = word ∷ s.stack }

-- the stack is full, or the word is pushed
abbrev pub IsPushed : State → StackWord → List Line → State → Type 0
IsPushed old word lines new =
    RefusedUnless (nat_lt (length old.stack) 1024) (IsRefused R.Stack old lines new) (IsDone (pushed old word) lines new)

-- push: a pointer to a word of the slot's object; refused where the slot is null, then where the object has no such word
abbrev pub StepPush : State → ℕ → ℕ → List Line → State → Type 0
StepPush old p offset lines new =
    MatchOption (slot_at old p) (IsRefused R.Null old lines new)
    (λ n. RefusedUnless (nat_lt offset (size_of (node_at old.nodes n))) (IsRefused R.Field old lines new) (IsPushed old (Pointer n offset) lines new))

-- push#: a number
abbrev pub StepPushPlain : State → ℕ → List Line → State → Type 0
StepPushPlain old w lines new = IsPushed old (Number w) lines new

-- pop: the last word is taken away; refused where the stack is empty
abbrev pub StepPop : State → List Line → State → Type 0
StepPop old lines new =
    RefusedUnless (nat_lt 0 (length old.stack)) (IsRefused R.Empty old lines new) (IsDone (record old { stack = drop 1 old.stack }) lines new)

-- the pointer's node goes into the slot; a number is of another kind
abbrev pub IsPeeked : State → StackWord → ℕ → List Line → State → Type 0
IsPeeked old (Pointer n offset) q lines new = (lines ≡ L.Node n ∷ []) × (new ≡ answered (with_slot old q (Some n)))
IsPeeked old (Number w) q lines new = IsRefused R.Kind old lines new

-- peek: slot q gets the node of a word, counted from the last one as 0; refused where there is no such word
abbrev pub StepPeek : State → ℕ → ℕ → List Line → State → Type 0
StepPeek old i q lines new = MatchOption (slice_get old.stack i) (IsRefused R.Empty old lines new) (λ word. IsPeeked old word q lines new)
