-- What the last line of each command means.
use Rattle.std.proofs.Common.{◌≡◌, ◌≢◌, ◌-◌, ◌+◌, ◌<◌, ℕ, Bool, true, List, [], ◌∷◌, ◌++◌, length, Option, Some, None, refl, sym, ap, ◌∙◌, subst, inl, inr, arith, All, Contains, nat_lt, min, set as slice_set}
use Rattle.std.proofs.lemmas.List.Elements.{All-head, All-tail}
use Rattle.std.specs.Prelude.{slice_get, MatchOption}
use Rattle.std.proofs.lemmas.List.{length-append}
use Rattle.gc_graph.specs.declared.command.Command.{Command}
use Rattle.gc_graph.specs.declared.command.Command.TheVariants as C
use Rattle.gc_graph.specs.declared.command.Want.{Want}
use Rattle.gc_graph.specs.declared.kind.Kind.{Kind}
use Rattle.gc_graph.specs.declared.kind.Value.{Value}
use Rattle.gc_graph.specs.declared.kind.Value.TheVariants.{Null, Ref, Word}
use Rattle.gc_graph.specs.declared.line.Line.{Line}
use Rattle.gc_graph.specs.declared.line.Line.TheVariants as L
use Rattle.gc_graph.specs.declared.line.Refusal.{Refusal}
use Rattle.gc_graph.specs.declared.line.Refusal.TheVariants as R
use Rattle.gc_graph.specs.declared.region.Entry.{Entry}
use Rattle.gc_graph.specs.State.{Setup, State, Node, Registration}
use Rattle.gc_graph.specs.Fields.{content_of, is_reference, is_pair, is_plain}
use Rattle.gc_graph.specs.May.{read_node}
use Rattle.gc_graph.specs.Outcomes.{answered, IsRefused, finalise_lines, slot_at, weak_slot_at, with_slot, took}
use Rattle.gc_graph.specs.WeakCalls.{WeakCall}
use Rattle.gc_graph.specs.Paused.{callback_lines}
use Rattle.gc_graph.specs.ObjectSteps.{AtField, IsRead, IsNumber, IsFull, IsMade, part_of}
use Rattle.gc_graph.specs.CycleSteps.{is_marking, is_sweeping, is_stack_refused, WantsMemory, IsBegun, IsTraced, IsFinished, IsCollection, StepGcStart, StepGcStep, StepGcFinish, StepGcNow, StepSweepTo, HasSwept}
use Rattle.gc_graph.specs.History.{node_of, region_slot}
use Rattle.gc_graph.specs.RegionSteps.{StepExport, StepImport, line_of_content}
use Rattle.gc_graph.specs.Step.{Step}
use Rattle.gc_graph.specs.ClearingLaw.{first_held, second_held}
use Rattle.gc_graph.specs.RefusalLaw.{IsLeftAlone, IsLeftFull}
use Rattle.gc_graph.specs.HandleLaw.{IsLast, IsTurnedDown, IsFieldOf, IsWritten, IsHeld, with_field, with_parts, reads_weakly, LeavesSlots, MeansDone, MeansRead, MeansWord, MeansNew, MeansCycle, Means, LastLinesMean, IsShared, IsTakenBack}
use Rattle.gc_graph.proofs.Called.{each_callback_line}
use Rattle.gc_graph.proofs.StepCases.{match_bool}
use Rattle.gc_graph.proofs.ValidCases.{IsFound, field_is, option_is}
use Rattle.gc_graph.proofs.StepFrames.{keeps_sweep}
use Rattle.gc_graph.proofs.Refusals.{memory_leaves_all}
use Rattle.gc_graph.proofs.FirstReasons.{refused_for_the_first_reason}
use Rattle.gc_graph.proofs.FullHeaps.{full_leaves_rest}
use Rattle.gc_graph.proofs.Lives.{line_first, line_later}
use Rattle.gc_graph.proofs.NewLaws.{new_objects_are_empty}
use Rattle.gc_graph.proofs.AnswersLaws.{commands_are_answered_in_kind}

-- ---- the last of some lines

one_last : (told line : Line) (lines : List Line) → lines ≡ told ∷ [] → IsLast lines line → line ≡ told
one_last told line lines is last =
    let got : IsLast (told ∷ []) line = subst (λ ls. IsLast ls line) is last in
    cc

last_of_more : (before : List Line) (told : Line) → slice_get (before ++ told ∷ []) (length before) ≡ Some told
last_of_more [] told = refl
last_of_more (x ∷ before) told = last_of_more before told

end_last : (before : List Line) (told line : Line) (lines : List Line) → lines ≡ before ++ told ∷ [] → IsLast lines line → line ≡ told
end_last before told line lines is last =
    let got : IsLast (before ++ told ∷ []) line = subst (λ ls. IsLast ls line) is last in
    let place : length (before ++ told ∷ []) - 1 ≡ length before = omega (arith, length-append before (told ∷ [])) in
    let here : slice_get (before ++ told ∷ []) (length before) ≡ Some line = subst (λ i. slice_get (before ++ told ∷ []) i ≡ Some line) place got in
    let seam : slice_get (before ++ told ∷ []) (length before) ≡ Some told = last_of_more before told in
    cc

contains_end : (before : List Line) (told : Line) → Contains (before ++ told ∷ []) told
contains_end [] told = line_first told []
contains_end (x ∷ before) told = line_later x told (before ++ told ∷ []) (contains_end before told)

end_contained : (before : List Line) (told : Line) (lines : List Line) → lines ≡ before ++ told ∷ [] → Contains lines told
end_contained before told lines is =
    subst (λ ls. Contains ls told) (sym is) (contains_end before told)

append_one : (before : List Line) (told : Line) (rest : List Line) → before ++ told ∷ rest ≡ (before ++ told ∷ []) ++ rest
append_one [] told rest = refl
append_one (x ∷ before) told rest = ap (λ ls. x ∷ ls) (append_one before told rest)

-- ---- one command

module _ (setup : Setup) (old new : State) (command : Command) (piece : List Entry) (lines : List Line) (step : Step setup old command piece lines new)
    (line : Line) (last : IsLast lines line) where
  -- the line is the one that was told
  at : (P : Line → Type 0) (told : Line) → lines ≡ told ∷ [] → P told → P line
  at P told is h = subst P (sym (one_last told line lines is last)) h

  refused : (P : Line → Type 0) → ((why : Refusal) → IsTurnedDown old command why new → P (L.Refused why)) → (why : Refusal) → IsRefused why old lines new → P line
  refused P turn why r =
      at P (L.Refused why) r.0
      (turn why (record { reason = (refused_for_the_first_reason setup old new command piece lines why step).0 r.0; after = r.1 }))

  memory : (P : Line → Type 0) → (IsLeftAlone setup command old piece new → P L.Memory) → lines ≡ L.Memory ∷ [] → P line
  memory P leave is = at P L.Memory is (leave (memory_leaves_all setup old new command piece lines step is))

  done : (Done : Type 0) → lines ≡ L.Fine ∷ [] → Done → MeansDone old command new Done line
  done Done is h = at (MeansDone old command new Done) L.Fine is h

  found : (allowed : Kind → Bool) (p f n : ℕ) → IsFound allowed old p f n → IsFieldOf allowed old p f n
  found allowed p f n h = record { slot = h.slot; there = h.there; allows = h.allows }

  written : (allowed : Kind → Bool) (p f : ℕ) (after : ℕ → State)
      → AtField allowed old p f lines new (λ n. (lines ≡ L.Fine ∷ []) × (new ≡ answered (after n)))
      → MeansDone old command new (IsWritten allowed old p f after new) line
  written allowed p f after h =
      let P : Line → Type 0 = MeansDone old command new (IsWritten allowed old p f after new) in
      field_is allowed old new p f lines (λ n. (lines ≡ L.Fine ∷ []) × (new ≡ answered (after n))) (P line)
      (λ n is d. at P L.Fine d.0 (record { node = n; field = found allowed p f n is; written = d.1 }))
      (refused P (λ why t. t)) h

  read : (weak : Bool) (value : Value) (q : ℕ) (Gives : ℕ → Type 0) (Nothing : Type 0)
      → ((m : ℕ) → value ≡ Ref m → new ≡ answered (with_slot (read_node weak old m) q (Some m)) → Gives m)
      → (value ≡ Null → new ≡ answered (with_slot old q None) → Nothing) → IsRead weak old value q lines new
      → MeansRead old command new Gives Nothing line
  read weak Null q Gives Nothing gives none h = at (MeansRead old command new Gives Nothing) L.Null h.0 (none refl h.1)
  read weak (Ref m) q Gives Nothing gives none h = at (MeansRead old command new Gives Nothing) (L.Node m) h.0 (gives m refl h.1)
  read weak (Word w) q Gives Nothing gives none h = absurd h

  read_at : (allowed : Kind → Bool) (p f q : ℕ) (weak : ℕ → Bool) (held : List Node → ℕ → ℕ → Value)
      → AtField allowed old p f lines new (λ n. IsRead (weak n) old (held old.nodes n f) q lines new)
      → MeansRead old command new (λ m. IsHeld allowed old p f held (Ref m) (λ n. with_slot (read_node (weak n) old m) q (Some m)) new)
      (IsHeld allowed old p f held Null (λ n. with_slot old q None) new) line
  read_at allowed p f q weak held h =
      let Gives : ℕ → Type 0 = (λ m. IsHeld allowed old p f held (Ref m) (λ n. with_slot (read_node (weak n) old m) q (Some m)) new) in
      let Nothing : Type 0 = IsHeld allowed old p f held Null (λ n. with_slot old q None) new in
      field_is allowed old new p f lines (λ n. IsRead (weak n) old (held old.nodes n f) q lines new) (MeansRead old command new Gives Nothing line)
      (λ n is d. read (weak n) (held old.nodes n f) q Gives Nothing
      (λ m holds after. record { node = n; field = found allowed p f n is; held = holds; read = after })
      (λ holds after. record { node = n; field = found allowed p f n is; held = holds; read = after }) d)
      (refused (MeansRead old command new Gives Nothing) (λ why t. t)) h

  word_told : (Tells : ℕ → Type 0) (value : Value) → ((w : ℕ) → value ≡ Word w → new ≡ answered old → Tells w) → IsNumber old value lines new
      → MeansWord old command new Tells line
  word_told Tells Null tells h = absurd h
  word_told Tells (Ref m) tells h = absurd h
  word_told Tells (Word w) tells h = at (MeansWord old command new Tells) (L.Word w) h.0 (tells w refl h.1)

  word_at : (p f : ℕ) → AtField is_plain old p f lines new (λ n. IsNumber old (first_held old.nodes n f) lines new)
      → MeansWord old command new (λ w. IsHeld is_plain old p f first_held (Word w) (λ n. old) new) line
  word_at p f h =
      let Tells : ℕ → Type 0 = (λ w. IsHeld is_plain old p f first_held (Word w) (λ n. old) new) in
      field_is is_plain old new p f lines (λ n. IsNumber old (first_held old.nodes n f) lines new) (MeansWord old command new Tells line)
      (λ n is d. word_told Tells (first_held old.nodes n f)
      (λ w holds after. record { node = n; field = found is_plain p f n is; held = holds; read = after }) d)
      (refused (MeansWord old command new Tells) (λ why t. t)) h

  -- ---- the cycle

  turned : (Done : Type 0) → (why : Refusal) → IsRefused why old lines new → MeansCycle setup old command piece new Done line
  turned Done = refused (MeansCycle setup old command piece new Done) (λ why t. t)

  wanted : (Done : Type 0) → WantsMemory old piece lines new → MeansCycle setup old command piece new Done line
  wanted Done w = memory (MeansCycle setup old command piece new Done) (λ left. left) w.1.0

  begins : StepGcStart setup old piece lines new → MeansCycle setup old command piece new (IsBegun setup old piece lines new) line
  begins h =
      let Done : Type 0 = IsBegun setup old piece lines new in
      match_bool (is_marking old.phase) _ _ (MeansCycle setup old command piece new Done line) (λ r. turned Done R.Phase r.1)
      (λ d. elim d [
        | inl w ↦ wanted Done w
        | inr b ↦
            subst (MeansCycle setup old command piece new Done) (sym (end_last (finalise_lines b.numbers) L.Started line lines b.lines_are last)) b
      ]) h

  traced : (n : ℕ) → StepGcStep old n lines new → MeansCycle setup old command piece new (IsTraced old n lines new) line
  traced n h =
      let Done : Type 0 = IsTraced old n lines new in
      match_bool (is_marking old.phase) _ _ (MeansCycle setup old command piece new Done line)
      (λ d. at (MeansCycle setup old command piece new Done) (L.Step d.count (nat_lt d.count n)) d.lines_are d) (turned Done R.Phase) h

  swept_to : (pages : ℕ) → StepSweepTo setup old pages lines new → MeansCycle setup old command piece new (HasSwept setup old pages lines new) line
  swept_to pages h =
      let Done : Type 0 = HasSwept setup old pages lines new in
      match_bool (is_sweeping old.phase) _ _ (MeansCycle setup old command piece new Done line)
      (λ d. subst (MeansCycle setup old command piece new Done) (sym (end_last (finalise_lines d.numbers) (L.Swept pages) line lines d.lines_are last)) d)
      (turned Done R.Phase) h

  -- ---- the pause

  -- a line of a pause means that it was done
  paused_line : (Done : Type 0) (before : List Line) (told : Line) (rest : List Line)
      → lines ≡ before ++ told ∷ rest → MeansCycle setup old command piece new Done told → All (MeansCycle setup old command piece new Done) rest
      → MeansCycle setup old command piece new Done line
  paused_line Done before told [] is means all = subst (MeansCycle setup old command piece new Done) (sym (end_last before told line lines is last)) means
  paused_line Done before told (next ∷ rest) is means all =
      paused_line Done (before ++ told ∷ []) next rest (is ∙ append_one before told (next ∷ rest))
      (All-head (MeansCycle setup old command piece new Done) next rest all) (All-tail (MeansCycle setup old command piece new Done) next rest all)

  ran_lines : (Done : Type 0) (calls : List WeakCall) (registrations : List Registration) → Done
      → All (MeansCycle setup old command piece new Done) (callback_lines calls registrations)
  ran_lines Done calls registrations d = each_callback_line (MeansCycle setup old command piece new Done) (λ n c. d) (λ n c. d) calls registrations

  finishes : (want : Want) → StepGcFinish setup want old piece lines new
      → MeansCycle setup old command piece new (IsFinished setup want old piece lines new) line
  finishes want h =
      let Done : Type 0 = IsFinished setup want old piece lines new in
      let Q : Type 0 = MeansCycle setup old command piece new Done line in
      match_bool (is_marking old.phase) _ _ Q
      (λ d. match_bool (is_stack_refused want old.stack) _ _ Q (λ r. turned Done R.Stack r.1)
      (λ f. paused_line Done [] _ _ f.1.done.lines_are f (ran_lines Done _ _ f)) d)
      (λ r. turned Done R.Phase r.1) h

  collects : (want : Want) → StepGcNow setup want old piece lines new
      → MeansCycle setup old command piece new (IsCollection setup want old piece lines new) line
  collects want h =
      let Done : Type 0 = IsCollection setup want old piece lines new in
      let Q : Type 0 = MeansCycle setup old command piece new Done line in
      match_bool (is_marking old.phase) _ _ Q (λ r. turned Done R.Phase r.1)
      (λ d. match_bool (is_stack_refused want old.stack) _ _ Q (λ r. turned Done R.Stack r.1)
      (λ e. elim e [
        | inl w ↦ wanted Done w
        | inr c ↦
            paused_line Done (finalise_lines c.numbers) _ _
            (c.lines_are ∙ ap (λ ls. finalise_lines c.numbers ++ ls) c.pause.done.lines_are) c (ran_lines Done _ _ c)
      ]) d) h

  -- ---- the region

  exports : (p x : ℕ) → StepExport old p x piece lines new → MeansCycle setup old command piece new (IsShared old p x piece lines new) line
  exports p x h =
      let Done : Type 0 = IsShared old p x piece lines new in
      option_is (slot_at old p) _ _ (MeansCycle setup old command piece new Done line) (λ r. turned Done R.Null r.1)
      (λ n is d. elim d [
        | inl w ↦ wanted Done w
        | inr e ↦ at (MeansCycle setup old command piece new Done) L.Fine e.lines_are (record { node = n; slot = is; exported = e })
      ]) h

  content_told : (content : Option ℕ) (Done : Type 0) → line ≡ line_of_content content → Done → MeansCycle setup old command piece new Done line
  content_told None Done is d = subst (MeansCycle setup old command piece new Done) (sym is) d
  content_told (Some n) Done is d = subst (MeansCycle setup old command piece new Done) (sym is) d

  imports : (x p : ℕ) → StepImport old x p piece lines new → MeansCycle setup old command piece new (IsTakenBack old x p piece lines new line) line
  imports x p h =
      elim h [
        | inl w ↦ wanted (IsTakenBack old x p piece lines new line) w
        | inr i ↦
            (let told = one_last (line_of_content (node_of (region_slot (took old i.before).region x))) line lines i.lines_are last in
            content_told (node_of (region_slot (took old i.before).region x)) (IsTakenBack old x p piece lines new line) told
            (record { imported = i; told = told }))
      ]

-- ---- a weak slot

module _ (setup : Setup) (old new : State) (w p : ℕ) (piece : List Entry) (lines : List Line) (step : Step setup old (C.Read w p) piece lines new)
    (line : Line) (last : IsLast lines line) where
  weak_read : (content : Option ℕ) → weak_slot_at old w ≡ content → IsRead true old (content_of content) p lines new
      → Means setup old (C.Read w p) piece lines new line
  weak_read None is h = at setup old new (C.Read w p) piece lines step line last (Means setup old (C.Read w p) piece lines new) L.Null h.0 (is, h.1)
  weak_read (Some m) is h =
      at setup old new (C.Read w p) piece lines step line last (Means setup old (C.Read w p) piece lines new) (L.Node m) h.0 (is, h.1)

-- ---- a new object

module _ (setup : Setup) (old new : State) (p t e : ℕ) (piece : List Entry) (lines : List Line) (step : Step setup old (C.New p t e) piece lines new)
    (line : Line) (last : IsLast lines line) where
  abbrev P : Line → Type 0
  P = MeansNew setup old p t e piece lines new

  left_full : (mid : State) (numbers : List ℕ) → Contains lines L.Full → LeavesSlots setup old piece lines new
  left_full mid numbers told =
      let full : IsLeftFull setup old piece lines new = full_leaves_rest setup old new p t e piece lines step told in
      record {
        full = full;
        slots = ap (λ (s : State). s.slots) full.after ∙ (keeps_sweep setup.shape old full.swept setup.shape.pages full.numbers full.ended).slots;
      }

  allocated : (mid : State) (numbers : List ℕ) (place : Option ℕ)
      → MatchOption place (IsFull mid numbers lines new) (λ a. IsMade setup mid p t e numbers lines new a) → P line
  allocated mid numbers None h =
      subst P (sym (end_last (finalise_lines numbers) L.Full line lines h.lines_are last))
      (left_full mid numbers (end_contained (finalise_lines numbers) L.Full lines h.lines_are))
  allocated mid numbers (Some a) h =
      let told : Line = L.Placed (length mid.nodes) a in
      subst P (sym (end_last (finalise_lines numbers) told line lines h.lines_are last))
      (λ low. new_objects_are_empty setup old new p t e (length mid.nodes) a piece lines low step
      (end_contained (finalise_lines numbers) told lines h.lines_are))

  made : P line
  made = elim step.1 [
    | inl m ↦ memory setup old new (C.New p t e) piece lines step line last P (λ left. left) m.1.0
    | inr h ↦ allocated h.mid h.numbers h.place h.done
  ]

-- ---- every command

means : (setup : Setup) (old new : State) (command : Command) (piece : List Entry) (lines : List Line) → Step setup old command piece lines new → (line : Line)
    → IsLast lines line → Means setup old command piece lines new line
means setup old new (C.New p t e) piece lines h line last = made setup old new p t e piece lines h line last
means setup old new (C.Set p f q) piece lines h line last =
    written setup old new (C.Set p f q) piece lines h line last is_reference p f (λ n. with_field old n f (content_of (slot_at old q))) h.1
means setup old new (C.SetNull p f) piece lines h line last =
    written setup old new (C.SetNull p f) piece lines h line last is_reference p f (λ n. with_field old n f Null) h.1
means setup old new (C.Pair p f k v) piece lines h line last =
    written setup old new (C.Pair p f k v) piece lines h line last is_pair p f
    (λ n. with_parts old n f (part_of (slot_at old k) (slot_at old v)) (part_of (slot_at old v) (slot_at old k))) h.1
means setup old new (C.PairNull p f) piece lines h line last =
    written setup old new (C.PairNull p f) piece lines h line last is_pair p f (λ n. with_parts old n f Null Null) h.1
means setup old new (C.Put p f w) piece lines h line last =
    written setup old new (C.Put p f w) piece lines h line last is_plain p f (λ n. with_field old n f (Word w)) h.1
means setup old new (C.Word p f) piece lines h line last = word_at setup old new (C.Word p f) piece lines h line last p f h.1
means setup old new (C.Get p f q) piece lines h line last =
    read_at setup old new (C.Get p f q) piece lines h line last is_reference p f q (λ n. reads_weakly old f n) first_held h.1
means setup old new (C.Key p f q) piece lines h line last =
    read_at setup old new (C.Key p f q) piece lines h line last is_pair p f q (λ n. true) first_held h.1
means setup old new (C.Val p f q) piece lines h line last =
    read_at setup old new (C.Val p f q) piece lines h line last is_pair p f q (λ n. true) second_held h.1
means setup old new (C.Copy p q) piece lines h line last =
    done setup old new (C.Copy p q) piece lines h line last (new ≡ answered (with_slot old q (slot_at old p))) h.1.0 h.1.1
means setup old new (C.Drop p) piece lines h line last = done setup old new (C.Drop p) piece lines h line last (new ≡ answered (with_slot old p None)) h.1.0 h.1.1
means setup old new (C.Weak w p) piece lines h line last =
    done setup old new (C.Weak w p) piece lines h line last (new ≡ answered (record old { weak = slice_set old.weak w (slot_at old p) })) h.1.0 h.1.1
means setup old new (C.Read w p) piece lines h line last =
    weak_read setup old new w p piece lines h line last (weak_slot_at old w) refl h.1
means setup old new C.GcStart piece lines h line last = begins setup old new C.GcStart piece lines h line last h
means setup old new (C.GcStep n) piece lines h line last = traced setup old new (C.GcStep n) piece lines h line last n h.1
means setup old new (C.GcFinish want) piece lines h line last = finishes setup old new (C.GcFinish want) piece lines h line last want h
means setup old new (C.GcNow want) piece lines h line last = collects setup old new (C.GcNow want) piece lines h line last want h
means setup old new (C.Sweep n) piece lines h line last =
    swept_to setup old new (C.Sweep n) piece lines h line last (min (old.cursor + n) setup.shape.pages) h.1
means setup old new C.SweepAll piece lines h line last = swept_to setup old new C.SweepAll piece lines h line last setup.shape.pages h.1
means setup old new (C.Export p x) piece lines h line last = exports setup old new (C.Export p x) piece lines h line last p x h
means setup old new (C.Import x p) piece lines h line last = imports setup old new (C.Import x p) piece lines h line last x p h
means setup old new command piece lines h _ last = tt

some_line : (lines : List Line) → lines ≢ [] → 0 < length lines
some_line [] none = absurd (none refl)
some_line (x ∷ lines) none = omega arith

pub last_lines_mean : LastLinesMean
last_lines_mean setup old new command piece lines h = (
  some_line lines (commands_are_answered_in_kind setup old new command piece lines h).some,
  means setup old new command piece lines h,
)
