-- What a stored callback is known to answer.
use Rattle.std.specs.Prelude.{◌≡◌, ℕ, ◌≤◌, List, length}
use Rattle.std.specs.Borrow.{Bor}
use Rattle.gc_graph.specs.declared.action.Action.{Action}
use Rattle.gc_graph.specs.declared.action.ActionKind.{ActionKind}
use Rattle.gc_graph.specs.Actions.{action_of}

-- a call may be made with any list of at most 64 words
abbrev pub IsCallable : (Bor (List ℕ) → Type 0) → Type 0
IsCallable may_call = (words : Bor (List ℕ)) → length words.now ≤ 64 → may_call words

-- whatever a call may answer to at most 64 words is the action of the kind
abbrev pub AnswersAs : (Bor (List ℕ) → Action → Type 0) → ActionKind → Type 0
AnswersAs answers kind =
    (words : Bor (List ℕ)) (action : Action) → length words.now ≤ 64 → answers words action → action ≡ action_of kind words.now
