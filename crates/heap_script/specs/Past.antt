-- What the lines before say, and what one more adds.
use Rattle.std.specs.Prelude.{◌≡◌, ◌⊎◌, ℕ, ◌+◌, ◌==◌, ◌&&◌, not, Bool, true, false, List, [], ◌∷◌, ◌++◌, Option, Some, None, if◌then◌else◌, codes, length}
use Rattle.gc_graph.specs.declared.command.Command.{Command}
use Rattle.gc_graph.specs.declared.command.Command.TheVariants as C
use Rattle.gc_graph.specs.State.{ObjectType}
use Rattle.gc_graph.specs.Reasons.{Reason, number_of, Bounds, first_is, reason_of_words, command_of_words, type_of_words}
use Rattle.gc_graph.specs.Reasons.Reason.{Order, Section}
use Rattle.gc_graph.specs.Script.{Threads, breaks_section}
use Rattle.gc_graph.specs.Script.Threads.{AtRest, Waiting, Going}
use Rattle.heap_script.specs.declared.past.Past.{Past}
use Rattle.heap_script.specs.declared.script_lines.Kept.{Kept}
use Rattle.heap_script.specs.declared.past.Stage.{Stage}
use Rattle.heap_script.specs.declared.past.Stage.TheVariants as S

-- ---- the threads

-- the state of the threads, as the grammar says it
abbrev pub threads_of_stage : Stage → Threads
threads_of_stage S.AtRest = AtRest
threads_of_stage S.Waiting = Waiting
threads_of_stage S.Going = Going

-- orders wait
abbrev pub is_waiting : Stage → Bool
is_waiting S.AtRest = false
is_waiting S.Waiting = true
is_waiting S.Going = false

-- the threads run
abbrev pub is_going : Stage → Bool
is_going S.AtRest = false
is_going S.Waiting = false
is_going S.Going = true

-- the threads after a command
abbrev pub stage_after : Stage → Command → Stage
stage_after stage (C.At j order) = S.Waiting
stage_after stage C.ThreadsGo = S.Going
stage_after stage C.ThreadsJoin = S.AtRest
stage_after stage command = stage

-- an order while they run, `threads go` where no order waits, `threads join` where none run
abbrev pub breaks : Stage → Command → Bool
breaks stage (C.At j order) = is_going stage
breaks stage C.ThreadsGo = not (is_waiting stage)
breaks stage C.ThreadsJoin = not (is_going stage)
breaks stage command = false

-- ---- one more line

-- only the header stands there, which names this version
abbrev pub past_header : ℕ → Past
past_header version = record { version = version; lines = 1; last = 1; types = 0; bare = true; stage = S.AtRest }

-- a line without words more
abbrev pub with_blank : Past → Past
with_blank past = record past { lines = past.lines + 1 }

-- a line with words more
abbrev pub with_words : Past → Past
with_words past = record past { lines = past.lines + 1; last = past.lines + 1 }

-- a type line more
abbrev pub with_type : Past → Past
with_type past = record (with_words past) { types = past.types + 1 }

-- a command more
abbrev pub with_command : Past → Command → Past
with_command past command = record (with_words past) {
  bare = false;
  stage = stage_after past.stage command;
}

-- a command that no thread's order is, so that the stage lets it be and stays
pub record IsPlain (command : Command) : Type 0 where
  pub timely : (stage : Stage) → breaks stage command ≡ false
  pub stays : (stage : Stage) → stage_after stage command ≡ stage

-- ---- the reason of a line with words

-- how many types and callbacks the next line may name
abbrev pub bounds_in : ℕ → Past → Bounds
bounds_in callbacks past = record { types = past.types; callbacks = callbacks }

-- the lowest reason of a line, from that of its words, where others with words follow
abbrev pub reason_with : Past → List (List ℕ) → Option Reason → Option Reason
reason_with past words (Some reason) = Some reason
reason_with past words None =
    if first_is (codes "type") words && not past.bare then Some Order
    else if breaks_section (threads_of_stage past.stage) words false then Some Section
    else None

-- the lowest reason of a line with these words, where others with words follow
abbrev pub reason_after : ℕ → Past → List (List ℕ) → Option Reason
reason_after callbacks past words = reason_with past words (reason_of_words past.version (bounds_in callbacks past) words)

-- memory was wanting, or this is the number of the reason
abbrev pub IsReasonOf : Option Reason → ℕ → Type 0
IsReasonOf reason number = (number ≡ 0) ⊎ ((why : Reason) × (number ≡ number_of why) × (reason ≡ Some why))

-- a line with these words was kept: it declares a type
pub record IsTypeKept (words : List (List ℕ)) (old new : Kept) : Type 0 where
  pub type : ObjectType
  pub says : type_of_words words ≡ Some type
  pub plain : first_is (codes "type") words ≡ true
  pub past : new.past ≡ with_type old.past
  pub types : new.types.items ≡ old.types.items ++ type ∷ []
  pub commands : new.commands.items ≡ old.commands.items

-- the line says a command
pub record IsCommandKept (words : List (List ℕ)) (old new : Kept) : Type 0 where
  pub command : Command
  pub says : command_of_words words ≡ Some command
  pub plain : first_is (codes "type") words ≡ false
  pub past : new.past ≡ with_command old.past command
  pub types : new.types.items ≡ old.types.items
  pub commands : new.commands.items ≡ old.commands.items ++ command ∷ []

-- a line with these words was kept, as a type or as a command
abbrev pub IsLineKept : List (List ℕ) → Kept → Kept → Type 0
IsLineKept words old new = IsTypeKept words old new ⊎ IsCommandKept words old new

-- a command was kept
pub record IsCommandAdded (command : Command) (old new : Kept) : Type 0 where
  pub past : new.past ≡ with_command old.past command
  pub types : new.types.items ≡ old.types.items
  pub commands : new.commands.items ≡ old.commands.items ++ command ∷ []

-- ---- a line with words or without

-- a line without words was counted
pub record IsBlankKept (words : List (List ℕ)) (old new : Kept) : Type 0 where
  pub none : words ≡ []
  pub past : new.past ≡ with_blank old.past
  pub types : new.types.items ≡ old.types.items
  pub commands : new.commands.items ≡ old.commands.items

-- a line with words was kept, which have no fault
pub record AreWordsKept (callbacks : ℕ) (words : List (List ℕ)) (old new : Kept) : Type 0 where
  pub some : (length words == 0) ≡ false
  pub fine : reason_after callbacks old.past words ≡ None
  pub kept : IsLineKept words old new

-- a line with these words was read
abbrev pub IsLineRead : ℕ → List (List ℕ) → Kept → Kept → Type 0
IsLineRead callbacks words old new = IsBlankKept words old new ⊎ AreWordsKept callbacks words old new

-- there are words, and they have this reason
abbrev pub AreFaultyWords : ℕ → Past → List (List ℕ) → ℕ → Type 0
AreFaultyWords callbacks past words number = ((length words == 0) ≡ false) × IsReasonOf (reason_after callbacks past words) number
