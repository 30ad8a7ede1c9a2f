-- What came of a command that a call gave.
use Rattle.std.specs.Prelude.{◌≡◌, ◌≢◌, ℕ, ◌+◌, Bool, true, false, List, [], Option, Some, None, Result, Ok, Err}
use Rattle.gc_graph.specs.declared.command.Command.{Command}
use Rattle.gc_graph.specs.declared.command.Command.TheVariants as C
use Rattle.gc_graph.specs.declared.line.Line.{Line}
use Rattle.gc_graph.specs.declared.line.Line.TheVariants as L
use Rattle.gc_graph.specs.declared.line.Refusal.{Refusal}
use Rattle.gc_graph.specs.declared.line.Refusal.TheVariants as R
use Rattle.gc_graph.specs.declared.region.Entry.{Entry}
use Rattle.gc_graph.specs.State.{Setup, State}
use Rattle.gc_graph.specs.Step.{Step}
use Rattle.gc_graph.specs.Valid.{IsValid}
use Rattle.gc_graph.specs.FrameLaw.{LeavesRest}
use Rattle.gc_graph.specs.HandleLaw.{IsLast, TellsLife, Means}
use Rattle.oilpan.specs.declared.errors.FieldError.{FieldError}
use Rattle.oilpan.specs.declared.errors.FieldError.TheVariants as F
use Rattle.oilpan.specs.declared.handles.Root.{Root}
use Rattle.oilpan.specs.Region.{KeepsRegion}

-- the commands that calls give: none on the stack, and none on threads
abbrev pub is_of_face : Command → Bool
is_of_face (C.Push p o) = false
is_of_face (C.PushPlain n) = false
is_of_face C.Pop = false
is_of_face (C.Peek i q) = false
is_of_face (C.At j order) = false
is_of_face C.ThreadsGo = false
is_of_face C.ThreadsJoin = false
is_of_face command = true

-- the commands that write a field
abbrev pub is_write : Command → Bool
is_write (C.Set p f q) = true
is_write (C.SetNull p f) = true
is_write (C.Pair p f k v) = true
is_write (C.PairNull p f) = true
is_write (C.Put p f n) = true
is_write command = false

-- the slot into which the command reads a node from a field
abbrev pub ReadsInto : ℕ → Command → Type 0
ReadsInto slot (C.Get p f q) = q ≡ slot
ReadsInto slot (C.Key p f q) = q ≡ slot
ReadsInto slot (C.Val p f q) = q ≡ slot
ReadsInto slot command = ⊥

-- the refusal that the error stands for
abbrev pub why_of : FieldError → Refusal
why_of F.Field = R.Field
why_of F.Kind = R.Kind

-- the line of a write's answer
abbrev pub line_of_write : {T : Type 0} → Result T FieldError → Line
line_of_write (Ok done) = L.Fine
line_of_write (Err why) = L.Refused (why_of why)

-- the line of a read's answer, where what was read has a root
abbrev pub line_of_roots : Result (Option Root) FieldError → Line
line_of_roots (Ok (Some r)) = L.Node r.node
line_of_roots (Ok None) = L.Null
line_of_roots (Err why) = L.Refused (why_of why)

-- the line of a word's answer
abbrev pub line_of_word : Result ℕ FieldError → Line
line_of_word (Ok n) = L.Word n
line_of_word (Err why) = L.Refused (why_of why)

-- the command was a step whose last line this is; with that stands what the laws of steps say of it
pub record IsAsked (setup : Setup) (old new : State) (command : Command) (piece : List Entry) (lines : List Line) (line : Line) : Type 0 where
  pub step : Step setup old command piece lines new
  pub last : IsLast lines line
  pub means : Means setup old command piece lines new line
  pub left : LeavesRest old command new
  pub ordinal : new.ordinal ≡ old.ordinal + 1
  pub stack : new.stack ≡ old.stack
  pub running : new.running ≡ old.running
  pub valid : IsValid setup old → IsValid setup new
  pub tells : IsValid setup old → (w n : ℕ) → ((p : ℕ) → command ≢ C.Weak w p) → TellsLife old w n → TellsLife new w n
  pub region : old.running ≡ [] → KeepsRegion old command new
