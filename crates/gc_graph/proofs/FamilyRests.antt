-- What follows of a command's frame, family by family: what it leaves alone, and which lines it doesn't tell.
use Rattle.std.proofs.Common.{◌≡◌, ℕ, ◌+◌, ◌||◌, Bool, true, false, true≢false, List, [], ◌∷◌, ◌++◌, All, refl, sym, ap, ◌∙◌, subst}
use Rattle.std.proofs.lemmas.List.{append-nil}
use Rattle.std.proofs.lemmas.List.Elements.{All-nil, All-map}
use Rattle.gc_graph.specs.declared.line.Line.{Line}
use Rattle.gc_graph.specs.declared.line.Line.TheVariants as L
use Rattle.gc_graph.specs.declared.region.Entry.{Entry}
use Rattle.gc_graph.specs.State.{State, Registration}
use Rattle.gc_graph.specs.Outcomes.{finalise_lines}
use Rattle.gc_graph.specs.WeakCalls.{WeakCall}
use Rattle.gc_graph.specs.Paused.{callback_lines}
use Rattle.gc_graph.specs.Commands.{Family}
use Rattle.gc_graph.specs.LineKinds.{tells_that_nothing_was_done, tells_of_orders}
use Rattle.gc_graph.specs.JoinLaw.{entries_in}
use Rattle.gc_graph.specs.Families.{answers, TellsBefore, TellsAfter, IsAnsweredOnce, StaysInFamily}
use Rattle.gc_graph.specs.Commands.Family.{Objects, Fields, Pairs, Slots, Stack, Cycle, Sweeps, Region, Threads}
use Rattle.gc_graph.proofs.Called.{each_callback_line}

-- ---- the state

pub counted_one : (family : Family) (old : State) (piece : List Entry) (lines : List Line) (new : State) → StaysInFamily family old piece lines new
    → new.ordinal ≡ old.ordinal + 1
counted_one Objects old piece lines new h = ap (λ (s : State). s.ordinal) h.rest.1
counted_one Sweeps old piece lines new h = ap (λ (s : State). s.ordinal) h.rest.1
counted_one family old piece lines new h = ap (λ (s : State). s.ordinal) h.rest

-- the threads are as before, and the piece is to be printed
pub record LeavesQueues (old : State) (piece : List Entry) (new : State) : Type 0 where
  pub awaiting : new.awaiting ≡ old.awaiting
  pub queues : new.queues ≡ old.queues
  pub running : new.running ≡ old.running
  pub unprinted : new.unprinted ≡ old.unprinted ++ piece

pub nothing_more : (old new : State) (piece : List Entry) → piece ≡ [] → new.unprinted ≡ old.unprinted → new.unprinted ≡ old.unprinted ++ piece
nothing_more old new piece none e = e ∙ sym (append-nil old.unprinted) ∙ ap (λ es. old.unprinted ++ es) (sym none)

queues_from : (old x new : State) (piece : List Entry) → new ≡ x → x.awaiting ≡ old.awaiting → x.queues ≡ old.queues → x.running ≡ old.running
    → x.unprinted ≡ old.unprinted ++ piece → LeavesQueues old piece new
queues_from old x new piece e a q r u = record {
  awaiting = ap (λ (s : State). s.awaiting) e ∙ a;
  queues = ap (λ (s : State). s.queues) e ∙ q;
  running = ap (λ (s : State). s.running) e ∙ r;
  unprinted = ap (λ (s : State). s.unprinted) e ∙ u;
}

quiet_queues : (old x new : State) (piece : List Entry) → piece ≡ [] → new ≡ x → x.awaiting ≡ old.awaiting → x.queues ≡ old.queues → x.running ≡ old.running
    → x.unprinted ≡ old.unprinted → LeavesQueues old piece new
quiet_queues old x new piece none e a q r u = queues_from old x new piece e a q r (nothing_more old x piece none u)

-- only commands on threads change what is of threads
pub leaves_queues : (family : Family) (old : State) (piece : List Entry) (lines : List Line) (new : State) → (family ≡ Threads → ⊥)
    → StaysInFamily family old piece lines new → LeavesQueues old piece new
leaves_queues Objects old piece lines new other h = quiet_queues old _ new piece h.takes h.rest.1 refl refl refl refl
leaves_queues Fields old piece lines new other h = quiet_queues old _ new piece h.takes h.rest refl refl refl refl
leaves_queues Pairs old piece lines new other h = quiet_queues old _ new piece h.takes h.rest refl refl refl refl
leaves_queues Slots old piece lines new other h = quiet_queues old _ new piece h.takes h.rest refl refl refl refl
leaves_queues Stack old piece lines new other h = quiet_queues old _ new piece h.takes h.rest refl refl refl refl
leaves_queues Cycle old piece lines new other h = queues_from old _ new piece h.rest refl refl refl refl
leaves_queues Sweeps old piece lines new other h = quiet_queues old _ new piece h.takes h.rest.1 refl refl refl refl
leaves_queues Region old piece lines new other h = queues_from old _ new piece h.rest refl refl refl refl
leaves_queues Threads old piece lines new other h = absurd (other refl)

-- ---- the lines

-- a line that the test doesn't pass
abbrev pub Fails : (Line → Bool) → Line → Type 0
Fails test line = test line ≡ false

no_lines : (test : Line → Bool) (told : List Line) → told ≡ [] → All (Fails test) told
no_lines test told none = subst (All (Fails test)) (sym none) (All-nil (Fails test))

pub none_before : (test : Line → Bool) → ((n : ℕ) → test (L.Finalise n) ≡ false) → ((line : Line) → tells_of_orders line ≡ true → test line ≡ false)
    → (family : Family) (told : List Line) → TellsBefore family told → All (Fails test) told
none_before test gone orders Objects told h = subst (All (Fails test)) (sym h.1) (All-map (Fails test) (λ n. L.Finalise n) h.0 (λ i d low. gone _))
none_before test gone orders Cycle told h = subst (All (Fails test)) (sym h.1) (All-map (Fails test) (λ n. L.Finalise n) h.0 (λ i d low. gone _))
none_before test gone orders Sweeps told h = subst (All (Fails test)) (sym h.1) (All-map (Fails test) (λ n. L.Finalise n) h.0 (λ i d low. gone _))
none_before test gone orders Threads told h = λ i d low. orders _ (h i d low)
none_before test gone orders family told h = no_lines test told h

pub none_after : (test : Line → Bool) → ((n d : ℕ) → test (L.WeakCall n d) ≡ false) → ((n c : ℕ) → test (L.Prefinalise n c) ≡ false) → (family : Family)
    (told : List Line) → TellsAfter family told → All (Fails test) told
none_after test weak runs Cycle told h = subst (All (Fails test)) (sym h.2) (each_callback_line (Fails test) weak runs h.0 h.1)
none_after test weak runs family told h = no_lines test told h

-- ---- entries

finalises_told : (numbers : List ℕ) (rest : List Line) → entries_in (finalise_lines numbers ++ rest) ≡ entries_in rest
finalises_told [] rest = refl
finalises_told (n ∷ numbers) rest = finalises_told numbers rest

callbacks_told : (calls : List WeakCall) (registrations : List Registration) → entries_in (callback_lines calls registrations) ≡ []
callbacks_told [] [] = refl
callbacks_told [] (r ∷ registrations) = callbacks_told [] registrations
callbacks_told (c ∷ calls) registrations = callbacks_told calls registrations

entry_answers_none : (family : Family) (entry : Entry) → answers family (L.Entry entry) ≡ false
entry_answers_none Objects entry = refl
entry_answers_none family entry = refl

-- no answer is an entry
answer_told : (family : Family) (answer : Line) (rest : List Line) → (tells_that_nothing_was_done answer || answers family answer) ≡ true
    → entries_in (answer ∷ rest) ≡ entries_in rest
answer_told family (L.Entry entry) rest fits = absurd (true≢false (sym fits ∙ entry_answers_none family entry))
answer_told family answer rest fits = refl

before_told : (family : Family) (told rest : List Line) → (family ≡ Threads → ⊥) → TellsBefore family told → entries_in (told ++ rest) ≡ entries_in rest
before_told Objects told rest other h = ap (λ ls. entries_in (ls ++ rest)) h.1 ∙ finalises_told h.0 rest
before_told Cycle told rest other h = ap (λ ls. entries_in (ls ++ rest)) h.1 ∙ finalises_told h.0 rest
before_told Sweeps told rest other h = ap (λ ls. entries_in (ls ++ rest)) h.1 ∙ finalises_told h.0 rest
before_told Threads told rest other h = absurd (other refl)
before_told family told rest other h = ap (λ ls. entries_in (ls ++ rest)) h

after_told : (family : Family) (told : List Line) → TellsAfter family told → entries_in told ≡ []
after_told Cycle told h = ap entries_in h.2 ∙ callbacks_told h.0 h.1
after_told family told h = ap entries_in h

-- only commands on threads tell entries
pub tells_no_entry : (family : Family) (lines : List Line) → (family ≡ Threads → ⊥) → IsAnsweredOnce family lines → entries_in lines ≡ []
tells_no_entry family lines other h =
    ap entries_in h.lines_are ∙ before_told family h.before (h.answer ∷ h.after) other h.first ∙ answer_told family h.answer h.after h.fits
    ∙ after_told family h.after h.then
