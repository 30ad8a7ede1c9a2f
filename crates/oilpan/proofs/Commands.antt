-- A command that a call gave is a step of which the laws of steps hold.
use Rattle.std.proofs.Common.{◌≡◌, ◌<◌, ◌+◌, ℕ, true, false, List, length, None, refl, sym, ap, ◌∙◌, subst, true≢false}
use Rattle.gc_graph.specs.declared.command.Command.{Command}
use Rattle.gc_graph.specs.declared.command.Command.TheVariants as C
use Rattle.gc_graph.specs.declared.line.Line.{Line}
use Rattle.gc_graph.specs.declared.line.Line.TheVariants as L
use Rattle.gc_graph.specs.declared.line.Refusal.{Refusal}
use Rattle.gc_graph.specs.declared.line.Refusal.TheVariants as R
use Rattle.gc_graph.specs.declared.region.Entry.{Entry}
use Rattle.gc_graph.specs.State.{Setup, State}
use Rattle.gc_graph.specs.Step.{Step}
use Rattle.gc_graph.specs.Lawful.{IsAllowed}
use Rattle.gc_graph.specs.Commands.{family_of, WritesStack, SpeaksOf, IsOutOfPhase, IsStopped, LacksWord}
use Rattle.gc_graph.specs.Families.{StaysElse, StepsStayInTheirFamily}
use Rattle.gc_graph.specs.FrameLaw.{StepsLeaveRest, LeavesRest}
use Rattle.gc_graph.specs.ValidLaw.{StepKeepsValid}
use Rattle.gc_graph.specs.HandleLaw.{IsLast, LastLinesMean, WeakSlotsTellLives, Means, MeansDone, MeansWord, IsTurnedDown}
use Rattle.gc_graph.specs.HistoryLaw.{StepsFollow}
use Rattle.gc_graph.specs.RegionLaw.{CallsChangeTheirSlot}
use Rattle.gc_graph.specs.ThreadLaw.{StepsLeaveThreads, is_of_threads}
use Rattle.oilpan.proofs.Pieces.{keeps}
use Rattle.oilpan.specs.Asked.{is_of_face, is_write, ReadsInto, IsAsked}

no_stack : (command : Command) → is_of_face command ≡ true → WritesStack command → ⊥
no_stack (C.Push p o) is writes = true≢false (sym is)
no_stack (C.PushPlain n) is writes = true≢false (sym is)
no_stack C.Pop is writes = true≢false (sym is)
no_stack command is writes = writes

no_thread : (command : Command) → is_of_face command ≡ true → is_of_threads command ≡ false
no_thread (C.At j order) is = absurd (true≢false (sym is))
no_thread C.ThreadsGo is = absurd (true≢false (sym is))
no_thread C.ThreadsJoin is = absurd (true≢false (sym is))
no_thread command is = refl

same_running : (command : Command) (old new : State) (piece : List Entry) → is_of_face command ≡ true → StaysElse (family_of command) old piece new
    → new.running ≡ old.running
same_running (C.New p t e) old new piece is h = ap (λ (s : State). s.running) h.1
same_running (C.Sweep n) old new piece is h = ap (λ (s : State). s.running) h.1
same_running C.SweepAll old new piece is h = ap (λ (s : State). s.running) h.1
same_running C.Stat old new piece is h = ap (λ (s : State). s.running) h.1
same_running (C.At j order) old new piece is h = absurd (true≢false (sym is))
same_running C.ThreadsGo old new piece is h = absurd (true≢false (sym is))
same_running C.ThreadsJoin old new piece is h = absurd (true≢false (sym is))
same_running command old new piece is h = ap (λ (s : State). s.running) h

-- what the laws of steps say of the command
pub asked : StepsLeaveRest → LastLinesMean → StepKeepsValid → WeakSlotsTellLives → StepsStayInTheirFamily → CallsChangeTheirSlot → StepsFollow
    → StepsLeaveThreads → (setup : Setup) (old new : State) (command : Command)
    (piece : List Entry) (lines : List Line) (line : Line) → 0 < setup.shape.pages → IsAllowed (length setup.types) command → is_of_face command ≡ true
    → Step setup old command piece lines new → new.ordinal ≡ old.ordinal + 1 → IsLast lines line → IsAsked setup old new command piece lines line
asked leave mean keep tell stay change follow threads setup old new command piece lines line some allowed face step ordinal last =
    let left : LeavesRest old command new = leave setup old command piece lines new step in
    record {
      step = step;
      last = last;
      means = (mean setup old new command piece lines step).1 line last;
      left = left;
      ordinal = ordinal;
      stack = left.stack (no_stack command face);
      running = same_running command old new piece face (stay setup old command piece lines new step).rest;
      valid = λ valid. keep setup old new command piece lines some allowed valid step;
      tells = λ valid. tell setup old command piece lines new some allowed valid step;
      region = keeps change follow threads setup old new piece lines command (no_thread command face) step;
    }

-- ---- which lines there are

-- the command is refused for its field alone
record OnlyForFields (s : State) (command : Command) : Type 0 where
  phase : IsOutOfPhase s.phase command → ⊥
  stopped : IsStopped s.stack command → ⊥
  lacks : LacksWord s.stack command → ⊥

write_only : (s : State) (command : Command) → is_write command ≡ true → OnlyForFields s command
write_only s (C.Set p f q) is = record { phase = λ h. h; stopped = λ h. h; lacks = λ h. h }
write_only s (C.SetNull p f) is = record { phase = λ h. h; stopped = λ h. h; lacks = λ h. h }
write_only s (C.Pair p f k v) is = record { phase = λ h. h; stopped = λ h. h; lacks = λ h. h }
write_only s (C.PairNull p f) is = record { phase = λ h. h; stopped = λ h. h; lacks = λ h. h }
write_only s (C.Put p f n) is = record { phase = λ h. h; stopped = λ h. h; lacks = λ h. h }
write_only s command is = absurd (true≢false (sym is))

module _ (old new : State) (command : Command) (only : OnlyForFields old command) (held : SpeaksOf old command None → ⊥) where
  no_other : (why : Refusal) → IsTurnedDown old command why new → (why ≡ R.Field → ⊥) → (why ≡ R.Kind → ⊥) → ⊥
  no_other R.Phase h field kind = only.phase h.reason.0
  no_other R.Null h field kind = held h.reason.0
  no_other R.Field h field kind = field refl
  no_other R.Kind h field kind = kind refl
  no_other R.Stack h field kind = only.stopped h.reason.0
  no_other R.Empty h field kind = only.lacks h.reason.0

  done_or : (Done : Type 0) (line : Line) → MeansDone old command new Done line → (line ≡ L.Fine → ⊥) → (line ≡ L.Refused R.Field → ⊥)
      → (line ≡ L.Refused R.Kind → ⊥) → ⊥
  done_or Done L.Fine h fine field kind = fine refl
  done_or Done (L.Refused why) h fine field kind = no_other why h (λ e. field (ap (λ w. L.Refused w) e)) (λ e. kind (ap (λ w. L.Refused w) e))
  done_or Done _ h fine field kind = h

  word_or : (Tells : ℕ → Type 0) (line : Line) → MeansWord old command new Tells line → ((n : ℕ) → line ≡ L.Word n → ⊥)
      → (line ≡ L.Refused R.Field → ⊥) → (line ≡ L.Refused R.Kind → ⊥) → ⊥
  word_or Tells (L.Word n) h word field kind = word n refl
  word_or Tells (L.Refused why) h word field kind =
      no_other why h (λ e. field (ap (λ w. L.Refused w) e)) (λ e. kind (ap (λ w. L.Refused w) e))
  word_or Tells _ h word field kind = h

module _ (setup : Setup) (old new : State) (piece : List Entry) (lines : List Line) (line : Line) where
  -- no line but these answers a write
  pub write_lines : (command : Command) → is_write command ≡ true → (SpeaksOf old command None → ⊥) → Means setup old command piece lines new line
      → (line ≡ L.Fine → ⊥) → (line ≡ L.Refused R.Field → ⊥) → (line ≡ L.Refused R.Kind → ⊥) → ⊥
  write_lines (C.Set p f q) is held h = done_or old new (C.Set p f q) (write_only old (C.Set p f q) is) held _ line h
  write_lines (C.SetNull p f) is held h = done_or old new (C.SetNull p f) (write_only old (C.SetNull p f) is) held _ line h
  write_lines (C.Pair p f k v) is held h = done_or old new (C.Pair p f k v) (write_only old (C.Pair p f k v) is) held _ line h
  write_lines (C.PairNull p f) is held h = done_or old new (C.PairNull p f) (write_only old (C.PairNull p f) is) held _ line h
  write_lines (C.Put p f n) is held h = done_or old new (C.Put p f n) (write_only old (C.Put p f n) is) held _ line h
  write_lines command is held h = absurd (true≢false (sym is))

  -- no line but these answers a plain word
  pub word_lines : (p f : ℕ) → (SpeaksOf old (C.Word p f) None → ⊥) → Means setup old (C.Word p f) piece lines new line
      → ((n : ℕ) → line ≡ L.Word n → ⊥) → (line ≡ L.Refused R.Field → ⊥) → (line ≡ L.Refused R.Kind → ⊥) → ⊥
  word_lines p f held h =
      word_or old new (C.Word p f) (record { phase = λ h. h; stopped = λ h. h; lacks = λ h. h }) held _ line h

-- ---- no object is made

pub write_makes_none : (command : Command) → is_write command ≡ true → (p t e : ℕ) → command ≡ C.New p t e → ⊥
write_makes_none command is p t e same = true≢false (sym is ∙ ap is_write same)

pub read_makes_none : (slot : ℕ) (command : Command) → ReadsInto slot command → (p t e : ℕ) → command ≡ C.New p t e → ⊥
read_makes_none slot command into p t e same = subst (ReadsInto slot) same into

pub read_is_of_face : (slot : ℕ) (command : Command) → ReadsInto slot command → is_of_face command ≡ true
read_is_of_face slot (C.Get p f q) into = refl
read_is_of_face slot (C.Key p f q) into = refl
read_is_of_face slot (C.Val p f q) into = refl
read_is_of_face slot command into = absurd into
