-- What a command takes of the region's history where no thread runs: the owner's entries alone.
use Rattle.std.proofs.Common.{◌≡◌, ℕ, Bool, true, false, true≢false, List, [], ◌∷◌, ◌++◌, length, Option, Some, None, refl, sym, ap, ◌∙◌, subst, inl, inr, arith, Contains, All}
use Rattle.std.specs.Prelude.{⊤}
use Rattle.std.specs.Int.{bit_at}
use Rattle.std.proofs.lemmas.Bool.{cases_eq}
use Rattle.std.proofs.lemmas.List.Elements.{All-nil, All-cons, All-head, All-tail, All-append}
use Rattle.gc_graph.specs.declared.command.Command.{Command}
use Rattle.gc_graph.specs.declared.command.Command.TheVariants as C
use Rattle.gc_graph.specs.declared.command.Want.{Want}
use Rattle.gc_graph.specs.declared.line.Line.{Line}
use Rattle.gc_graph.specs.declared.phase.Phase.{Phase}
use Rattle.gc_graph.specs.declared.phase.Phase.TheVariants.{Idle, Marking, Sweeping}
use Rattle.gc_graph.specs.declared.region.Entry.{Entry}
use Rattle.gc_graph.specs.declared.region.Op.{Op}
use Rattle.gc_graph.specs.declared.region.Op.TheVariants as O
use Rattle.gc_graph.specs.State.{Setup, Shape, State, RegionSlot}
use Rattle.gc_graph.specs.State.RegionSlot.{Vacant, StrongTo}
use Rattle.gc_graph.specs.History.{region_slot, region_after, replayed, IsLegalFrom, started_after, MayPause}
use Rattle.gc_graph.specs.HistoryLaw.{StepsFollow, Follows}
use Rattle.gc_graph.specs.RegionLaw.{CallsChangeTheirSlot}
use Rattle.gc_graph.specs.Sweep.{SweepsInPhase}
use Rattle.gc_graph.specs.Outcomes.{slot_at, with_entry, took, IsThreadOp, AreOthers, owner_entry}
use Rattle.gc_graph.specs.CycleSteps.{is_marking, is_stack_refused, StepGcStart, StepGcFinish, StepGcNow, IsStart, IsPause, IsBegun, IsCollection}
use Rattle.gc_graph.specs.RegionSteps.{IsExported, StepImport}
use Rattle.gc_graph.specs.Sections.{awaiting_after}
use Rattle.gc_graph.specs.Step.{Step}
use Rattle.gc_graph.specs.ThreadLaw.{StepsLeaveThreads, LeavesThreads, is_of_threads}
use Rattle.oilpan.specs.Rest.{IsOwners}
use Rattle.oilpan.specs.Region.{KeepsRegion}

-- ---- entries of the owner that change no slot but weak ones

abbrev IsQuietOp : Op → Type 0
IsQuietOp (O.Import x) = ⊤
IsQuietOp O.Start = ⊤
IsQuietOp (O.Pause cleared) = ⊤
IsQuietOp op = ⊥

-- the owner's, and one that changes weak slots alone
abbrev IsQuiet : Entry → Type 0
IsQuiet entry = (entry.thread ≡ 0) × IsQuietOp entry.op

abbrev pub AreQuiet : List Entry → Type 0
AreQuiet piece = All IsQuiet piece

abbrev IsOther : State → Entry → Type 0
IsOther s entry = Contains s.running entry.thread × IsThreadOp entry.op

pub none_running : (thread : ℕ) → Contains [] thread → ⊥
none_running thread c = (let low = c.1 in omega (arith, low))

pub no_others : (running : List ℕ) (s : State) (entries : List Entry) → s.running ≡ running → running ≡ [] → AreOthers s entries → entries ≡ []
no_others running s [] same none h = refl
no_others running s (entry ∷ entries) same none h =
    absurd (none_running entry.thread (subst (λ js. Contains js entry.thread) (same ∙ none) (All-head (IsOther s) entry entries h).0))

quiet_one : (s : State) (op : Op) (before piece : List Entry) → s.running ≡ [] → IsQuietOp op → AreOthers s before
    → piece ≡ before ++ owner_entry (took s before) op ∷ [] → AreQuiet piece
quiet_one s op before piece none quiet others is =
    let empty : before ≡ [] = no_others s.running s before refl none others in
    subst AreQuiet (sym is) (subst (λ (es : List Entry). AreQuiet (es ++ owner_entry (took s es) op ∷ [])) (sym empty)
    (All-cons IsQuiet (owner_entry s op) [] (refl, quiet) (All-nil IsQuiet)))

-- ---- which commands make no other entries

swept_running : (phase : Phase) (shape : Shape) (old new : State) (pages : ℕ) (numbers : List ℕ) → SweepsInPhase phase shape old pages numbers new
    → new.running ≡ old.running
swept_running Idle shape old new pages numbers h = ap (λ (s : State). s.running) h.1
swept_running Marking shape old new pages numbers h = ap (λ (s : State). s.running) h.1
swept_running Sweeping shape old new pages numbers h = ap (λ (s : State). s.running) h.after

took_running : (s : State) (entries : List Entry) → (took s entries).running ≡ s.running
took_running s [] = refl
took_running s (entry ∷ entries) = took_running (with_entry s entry) entries

none_quiet : (piece : List Entry) → piece ≡ [] → AreQuiet piece
none_quiet piece is = subst AreQuiet (sym is) (All-nil IsQuiet)

module _ (setup : Setup) where
  start_quiet : (swept new : State) (piece : List Entry) → swept.running ≡ [] → IsStart setup swept piece new → AreQuiet piece
  start_quiet swept new piece none h = quiet_one swept O.Start h.before piece none tt h.others h.piece_is

  pause_quiet : (markers : ℕ) (want : Want) (old new : State) (piece : List Entry) (lines : List Line) → old.running ≡ []
      → IsPause setup markers want old piece lines new → AreQuiet piece
  pause_quiet markers want old new piece lines none h = quiet_one old _ h.before piece none tt h.others h.piece_is

  begun_quiet : (old new : State) (piece : List Entry) (lines : List Line) → old.running ≡ [] → IsBegun setup old piece lines new → AreQuiet piece
  begun_quiet old new piece lines none h =
      start_quiet h.swept h.started piece (swept_running old.phase setup.shape old h.swept setup.shape.pages h.numbers h.ended ∙ none) h.start

  collected_quiet : (want : Want) (old new : State) (piece : List Entry) (lines : List Line) → old.running ≡ []
      → IsCollection setup want old piece lines new → AreQuiet piece
  collected_quiet want old new piece lines none h =
      let swept : h.swept.running ≡ [] = swept_running old.phase setup.shape old h.swept setup.shape.pages h.numbers h.ended ∙ none in
      let started : h.started.running ≡ [] = ap (λ (s : State). s.running) h.start.after ∙ took_running h.swept h.first ∙ swept in
      subst AreQuiet (sym h.piece_is)
      (All-append IsQuiet h.first h.second (start_quiet h.swept h.started h.first swept h.start)
      (pause_quiet 0 want h.started h.paused h.second h.pause_lines started h.pause))

  gc_start_quiet : (marks : Bool) (old new : State) (piece : List Entry) (lines : List Line) → is_marking old.phase ≡ marks → old.running ≡ []
      → StepGcStart setup old piece lines new → AreQuiet piece
  gc_start_quiet true old new piece lines is none h = none_quiet piece (rw is at h).0
  gc_start_quiet false old new piece lines is none h =
      elim (rw is at h) [ inl memory ↦ none_quiet piece memory.0 | inr b ↦ begun_quiet old new piece lines none b ]

  gc_finish_quiet : (marks stopped : Bool) (want : Want) (old new : State) (piece : List Entry) (lines : List Line) → is_marking old.phase ≡ marks
      → is_stack_refused want old.stack ≡ stopped → old.running ≡ [] → StepGcFinish setup want old piece lines new → AreQuiet piece
  gc_finish_quiet false stopped want old new piece lines is full none h = none_quiet piece (rw is at h).0
  gc_finish_quiet true true want old new piece lines is full none h = none_quiet piece (rw (is, full) at h).0
  gc_finish_quiet true false want old new piece lines is full none h = (let b = rw (is, full) at h in pause_quiet setup.markers want old b.0 piece lines none b.1)

  gc_now_quiet : (marks stopped : Bool) (want : Want) (old new : State) (piece : List Entry) (lines : List Line) → is_marking old.phase ≡ marks
      → is_stack_refused want old.stack ≡ stopped → old.running ≡ [] → StepGcNow setup want old piece lines new → AreQuiet piece
  gc_now_quiet true stopped want old new piece lines is full none h = none_quiet piece (rw is at h).0
  gc_now_quiet false true want old new piece lines is full none h = none_quiet piece (rw (is, full) at h).0
  gc_now_quiet false false want old new piece lines is full none h =
      elim (rw (is, full) at h) [ inl memory ↦ none_quiet piece memory.0 | inr b ↦ collected_quiet want old new piece lines none b ]

  import_quiet : (x p : ℕ) (old new : State) (piece : List Entry) (lines : List Line) → old.running ≡ [] → StepImport old x p piece lines new → AreQuiet piece
  import_quiet x p old new piece lines none h = elim h [
    | inl memory ↦ none_quiet piece memory.0
    | inr b ↦ quiet_one old (O.Import x) b.before piece none tt b.takes.others b.takes.piece_is
  ]

  -- no command but an export, and those of threads, makes another entry
  pub quiet : (command : Command) → is_of_threads command ≡ false → ((p x : ℕ) → command ≡ C.Export p x → ⊥) → (old new : State) (piece : List Entry)
      (lines : List Line) → old.running ≡ [] → Step setup old command piece lines new → AreQuiet piece
  quiet (C.Export p x) is other old new piece lines none h = absurd (other p x refl)
  quiet C.GcStart is other old new piece lines none h = gc_start_quiet (is_marking old.phase) old new piece lines refl none h
  quiet (C.GcFinish want) is other old new piece lines none h =
      gc_finish_quiet (is_marking old.phase) (is_stack_refused want old.stack) want old new piece lines refl refl none h
  quiet (C.GcNow want) is other old new piece lines none h =
      gc_now_quiet (is_marking old.phase) (is_stack_refused want old.stack) want old new piece lines refl refl none h
  quiet (C.Import x p) is other old new piece lines none h = import_quiet x p old new piece lines none h
  quiet C.ThreadsJoin is other old new piece lines none h = absurd (true≢false is)
  quiet command is other old new piece lines none h = none_quiet piece h.0

-- ---- what such entries leave of the slots

-- strong slots and null ones stay
pub record Spares (old new : List RegionSlot) : Type 0 where
  pub count : length new ≡ length old
  pub strong : (z n : ℕ) → region_slot old z ≡ StrongTo n → region_slot new z ≡ StrongTo n
  pub vacant : (z : ℕ) → region_slot old z ≡ Vacant → region_slot new z ≡ Vacant

module _ (law : CallsChangeTheirSlot) where
  pause_vacant : (region : List RegionSlot) (mask z : ℕ) → region_slot region z ≡ Vacant → region_slot (region_after region (O.Pause mask)) z ≡ Vacant
  pause_vacant region mask z null = elim (cases_eq (bit_at mask z) 1) [
    | inl set ↦ (law region).paused mask z set
    | inr not ↦ (law region).others (O.Pause mask) z not ∙ null
  ]

  quiet_spares : (region : List RegionSlot) (started : Bool) (op : Op) → IsQuietOp op → MayPause region started op → Spares region (region_after region op)
  quiet_spares region started (O.Import x) calm may = record { count = refl; strong = λ z n e. e; vacant = λ z e. e }
  quiet_spares region started O.Start calm may = record { count = refl; strong = λ z n e. e; vacant = λ z e. e }
  quiet_spares region started (O.Pause mask) calm may = record {
    count = (law region).whole (O.Pause mask);
    strong = λ z n e. (law region).strong mask z n may.1 e;
    vacant = λ z e. pause_vacant region mask z e;
  }
  quiet_spares region started op calm may = absurd calm

  pub piece_spares : (region : List RegionSlot) (started : Bool) (piece : List Entry) → AreQuiet piece → IsLegalFrom region started piece
      → Spares region (replayed region piece)
  piece_spares region started [] owners legal = record { count = refl; strong = λ z n e. e; vacant = λ z e. e }
  piece_spares region started (entry ∷ piece) owners legal =
      let one : Spares region (region_after region entry.op) = quiet_spares region started entry.op (All-head IsQuiet entry piece owners).1 legal.1 in
      let more : Spares (region_after region entry.op) (replayed (region_after region entry.op) piece) =
      piece_spares (region_after region entry.op) (started_after started entry.op) piece (All-tail IsQuiet entry piece owners) legal.2 in
      record {
        count = more.count ∙ one.count;
        strong = λ z n e. more.strong z n (one.strong z n e);
        vacant = λ z e. more.vacant z (one.vacant z e);
      }

-- ---- such a command, and the region

-- an export makes its entry alone
pub own_piece : (old : State) (n x : ℕ) {lines : List Line} {new : State} (piece : List Entry) → old.running ≡ [] → IsExported old n x piece lines new
    → piece ≡ owner_entry old (O.Export x n) ∷ []
own_piece old n x piece none h =
    h.takes.piece_is
    ∙ ap (λ (es : List Entry). es ++ owner_entry (took old es) (O.Export x n) ∷ []) (no_others old.running old h.before refl none h.takes.others)

owners_told : (old piece : List Entry) → AreQuiet piece → All IsOwners old → All IsOwners (old ++ piece)
owners_told old piece calm own = All-append IsOwners old piece own (λ k d low. (calm k d low).0)

no_join : (command : Command) → is_of_threads command ≡ false → command ≡ C.ThreadsJoin → ⊥
no_join command none is = true≢false (sym (ap is_of_threads is) ∙ none)

not_awaited : (command : Command) (awaiting : Bool) → is_of_threads command ≡ false → awaiting_after awaiting command ≡ awaiting
not_awaited (C.At j order) awaiting none = absurd (true≢false none)
not_awaited C.ThreadsGo awaiting none = absurd (true≢false none)
not_awaited C.ThreadsJoin awaiting none = absurd (true≢false none)
not_awaited command awaiting none = refl

module _ (change : CallsChangeTheirSlot) (follow : StepsFollow) (leave : StepsLeaveThreads) (setup : Setup) (old new : State) (piece : List Entry) (lines : List Line) where
  kept_by : (command : Command) → is_of_threads command ≡ false → Step setup old command piece lines new → AreQuiet piece → KeepsRegion old command new
  kept_by command none step calm =
      let follows : Follows old piece new = follow setup old command piece lines new step in
      let leaves : LeavesThreads old command piece new = leave setup old command piece lines new step in
      let spares : Spares old.region (replayed old.region piece) = piece_spares change old.region (is_marking old.phase) piece calm follows.legal in
      record {
        count = ap length follows.slots ∙ spares.count;
        strong = λ z n other e. ap (λ region. region_slot region z) follows.slots ∙ spares.strong z n e;
        vacant = λ z other e. ap (λ region. region_slot region z) follows.slots ∙ spares.vacant z e;
        queues = leaves.queues none;
        awaiting = leaves.awaiting ∙ not_awaited command old.awaiting none;
        told = λ own. subst (All IsOwners) (sym (leaves.unprinted (no_join command none))) (owners_told old.unprinted piece calm own);
      }

  exported : (n x : ℕ) → (p : ℕ) → Step setup old (C.Export p x) piece lines new → old.running ≡ [] → IsExported old n x piece lines new
      → KeepsRegion old (C.Export p x) new
  exported n x p step none h =
      let follows : Follows old piece new = follow setup old (C.Export p x) piece lines new step in
      let leaves : LeavesThreads old (C.Export p x) piece new = leave setup old (C.Export p x) piece lines new step in
      let region : new.region ≡ region_after old.region (O.Export x n) = follows.slots ∙ ap (replayed old.region) (own_piece old n x piece none h) in
      record {
        count = ap length region ∙ (change old.region).whole (O.Export x n);
        strong = λ z m other e. ap (λ r. region_slot r z) region ∙ (change old.region).others (O.Export x n) z other ∙ e;
        vacant = λ z other e. ap (λ r. region_slot r z) region ∙ (change old.region).others (O.Export x n) z other ∙ e;
        queues = leaves.queues refl;
        awaiting = leaves.awaiting;
        told = λ own.
            subst (All IsOwners) (sym (leaves.unprinted (no_join (C.Export p x) refl)))
            (All-append IsOwners old.unprinted piece own
            (subst (All IsOwners) (sym (own_piece old n x piece none h)) (All-cons IsOwners (owner_entry old (O.Export x n)) [] refl (All-nil IsOwners))));
      }

  export_keeps : (content : Option ℕ) (p x : ℕ) → slot_at old p ≡ content → Step setup old (C.Export p x) piece lines new → old.running ≡ []
      → KeepsRegion old (C.Export p x) new
  export_keeps None p x is step none = kept_by (C.Export p x) refl step (none_quiet piece (rw is at step).0)
  export_keeps (Some n) p x is step none = elim (rw is at step) [
    | inl memory ↦ kept_by (C.Export p x) refl step (none_quiet piece memory.0)
    | inr h ↦ exported n x p step none h
  ]

  pub keeps : (command : Command) → is_of_threads command ≡ false → Step setup old command piece lines new → old.running ≡ [] → KeepsRegion old command new
  keeps (C.Export p x) is step none = export_keeps (slot_at old p) p x refl step none
  keeps command is step none = kept_by command is step (quiet setup command is (λ p x e. cc) old new piece lines none step)
