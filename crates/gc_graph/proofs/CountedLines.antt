-- Each count goes up by the lines that tell of it.
use Rattle.std.proofs.Common.{◌≡◌, ℕ, ◌+◌, Bool, true, false, List, [], ◌∷◌, ◌++◌, length, refl, sym, ap, ◌∙◌, subst, inl, inr, arith, All, if◌then◌else◌, ◌||◌, true≢false}
use Rattle.std.specs.List.{count_by}
use Rattle.std.proofs.lemmas.List.Sums.{sum_by-cons, sum_by-append}
use Rattle.std.proofs.lemmas.List.Elements.{All-nil, All-cons, All-head, All-tail, All-append}
use Rattle.gc_graph.specs.declared.command.Command.{Command}
use Rattle.gc_graph.specs.declared.command.Command.TheVariants as C
use Rattle.gc_graph.specs.declared.command.Want.{Want}
use Rattle.gc_graph.specs.declared.line.Line.{Line}
use Rattle.gc_graph.specs.declared.line.Line.TheVariants as L
use Rattle.gc_graph.specs.declared.line.Refusal.{Refusal}
use Rattle.gc_graph.specs.declared.line.Refusal.TheVariants as R
use Rattle.gc_graph.specs.declared.phase.Phase.{Phase}
use Rattle.gc_graph.specs.declared.phase.Phase.TheVariants.{Idle, Marking, Sweeping}
use Rattle.gc_graph.specs.declared.region.Entry.{Entry}
use Rattle.gc_graph.specs.State.{Setup, Shape, State, Node}
use Rattle.gc_graph.specs.Sweep.{SweepsInPhase, SweepsTo}
use Rattle.gc_graph.specs.Outcomes.{answered, IsRefused, finalise_lines, with_entry, took}
use Rattle.gc_graph.specs.Pause.{live_count, dead_count, run_order, condemn}
use Rattle.gc_graph.specs.WeakCalls.{weak_calls}
use Rattle.gc_graph.specs.Paused.{paused, callback_lines}
use Rattle.gc_graph.specs.ObjectSteps.{StepNew}
use Rattle.gc_graph.specs.CycleSteps.{IsStart, IsPause, is_marking, is_sweeping, is_stack_refused, StepGcStart, StepGcFinish, StepGcNow, StepSweepTo}
use Rattle.gc_graph.specs.Step.{Step}
use Rattle.gc_graph.specs.CountsLaw.{tells_pause, tells_finalisation, tells_full, AreCountedByLines, StepsCountLines}
use Rattle.gc_graph.proofs.StepCases.{match_option, match_bool}
use Rattle.gc_graph.specs.Commands.{Family, family_of}
use Rattle.gc_graph.specs.Commands.Family.{Objects, Cycle, Sweeps, Threads}
use Rattle.gc_graph.specs.LineKinds.{tells_that_nothing_was_done, tells_of_orders}
use Rattle.gc_graph.specs.Families.{answers, TellsBefore, TellsAfter, StaysInFamily}
use Rattle.gc_graph.proofs.Called.{each_callback_line}
use Rattle.gc_graph.proofs.FamilyFrames.{steps_stay_in_their_family}
use Rattle.gc_graph.proofs.FamilyRests.{counted_one}

-- ---- lines that tell of no count

abbrev pub IsUncounted : Line → Type 0
IsUncounted told = (tells_pause told ≡ false) × (tells_finalisation told ≡ false) × (tells_full told ≡ false)

pub one_more : (test : Line → Bool) (told : Line) (lines : List Line) (b : Bool) → test told ≡ b
    → count_by test (told ∷ lines) ≡ (if b then 1 else 0) + count_by test lines
one_more test told lines b e =
    sum_by-cons (λ x. if test x then 1 else 0) told lines ∙ ap (λ flag. (if flag then 1 else 0) + count_by test lines) e

pub none_counted : (test : Line → Bool) (lines : List Line) → All (λ told. test told ≡ false) lines → count_by test lines ≡ 0
none_counted test [] h = refl
none_counted test (told ∷ lines) h =
    let first = one_more test told lines false (All-head (λ x. test x ≡ false) told lines h) in
    omega (arith, first, none_counted test lines (All-tail (λ x. test x ≡ false) told lines h))

-- ---- how the counts go up

pub record SameCounts (old new : State) : Type 0 where
  pub ordinal : new.ordinal ≡ old.ordinal
  pub pauses : new.pauses ≡ old.pauses
  pub finalised : new.finalised ≡ old.finalised
  pub full : new.full ≡ old.full

same : (s : State) → SameCounts s s
same s = record { ordinal = refl; pauses = refl; finalised = refl; full = refl }

-- by these lines
record Raises (old : State) (lines : List Line) (new : State) : Type 0 where
  ordinal : new.ordinal ≡ old.ordinal
  pauses : new.pauses ≡ old.pauses + count_by tells_pause lines
  finalised : new.finalised ≡ old.finalised + count_by tells_finalisation lines
  full : new.full ≡ old.full + count_by tells_full lines

raises-append : (old mid new : State) (xs ys : List Line) → Raises old xs mid → Raises mid ys new → Raises old (xs ++ ys) new
raises-append old mid new xs ys h k = record {
  ordinal = k.ordinal ∙ h.ordinal;
  pauses = omega (arith, h.pauses, k.pauses, sum_by-append (λ x. if tells_pause x then 1 else 0) xs ys);
  finalised = omega (arith, h.finalised, k.finalised, sum_by-append (λ x. if tells_finalisation x then 1 else 0) xs ys);
  full = omega (arith, h.full, k.full, sum_by-append (λ x. if tells_full x then 1 else 0) xs ys);
}

raises_to : (old x new : State) (lines : List Line) → new ≡ x → Raises old lines x → Raises old lines new
raises_to old x new lines e h = subst (Raises old lines) (sym e) h

uncounted : (old new : State) (lines : List Line) → All IsUncounted lines → SameCounts old new → Raises old lines new
uncounted old new lines all h =
    let no_pause = none_counted tells_pause lines (λ k d l. (all k d l).0) in
    let no_finalisation = none_counted tells_finalisation lines (λ k d l. (all k d l).1) in
    let no_full = none_counted tells_full lines (λ k d l. (all k d l).2) in
    record {
      ordinal = h.ordinal;
      pauses = omega (arith, h.pauses, no_pause);
      finalised = omega (arith, h.finalised, no_finalisation);
      full = omega (arith, h.full, no_full);
    }

alone : (told : Line) → IsUncounted told → All IsUncounted (told ∷ [])
alone told u = All-cons IsUncounted told [] u (All-nil IsUncounted)

-- ---- what leaves the counts alone

same_more : (old mid new : State) → SameCounts old mid → SameCounts mid new → SameCounts old new
same_more old mid new h k = record {
  ordinal = k.ordinal ∙ h.ordinal;
  pauses = k.pauses ∙ h.pauses;
  finalised = k.finalised ∙ h.finalised;
  full = k.full ∙ h.full;
}

took_same : (s : State) (entries : List Entry) → SameCounts s (took s entries)
took_same s [] = same s
took_same s (entry ∷ entries) =
    same_more s (with_entry s entry) (took (with_entry s entry) entries) (record { ordinal = refl; pauses = refl; finalised = refl; full = refl })
    (took_same (with_entry s entry) entries)

start_same : (setup : Setup) (swept new : State) (piece : List Entry) → IsStart setup swept piece new → SameCounts swept new
start_same setup swept new piece h =
    let k = took_same swept piece in
    subst (SameCounts swept) (sym h.after) (record { ordinal = k.ordinal; pauses = k.pauses; finalised = k.finalised; full = k.full })

-- ---- sweeps and pauses

sweep_count : (numbers : List ℕ) → count_by tells_finalisation (finalise_lines numbers) ≡ length numbers
sweep_count [] = refl
sweep_count (n ∷ numbers) =
    let first = one_more tells_finalisation (L.Finalise n) (finalise_lines numbers) true refl in omega (arith, first, sweep_count numbers)

sweep_tells : (test : Line → Bool) (numbers : List ℕ) → ((n : ℕ) → test (L.Finalise n) ≡ false) → count_by test (finalise_lines numbers) ≡ 0
sweep_tells test [] none = refl
sweep_tells test (n ∷ numbers) none =
    let first = one_more test (L.Finalise n) (finalise_lines numbers) false (none n) in omega (arith, first, sweep_tells test numbers none)

idle_raises : (old new : State) (numbers : List ℕ) → numbers ≡ [] → new ≡ old → Raises old (finalise_lines numbers) new
idle_raises old new numbers none e =
    subst (λ ns. Raises old (finalise_lines ns) new) (sym none)
    (raises_to old old new [] e (uncounted old old [] (All-nil IsUncounted) (same old)))

raises_in : (phase : Phase) (shape : Shape) (old new : State) (pages : ℕ) (numbers : List ℕ) → SweepsInPhase phase shape old pages numbers new
    → Raises old (finalise_lines numbers) new
raises_in Idle shape old new pages numbers h = idle_raises old new numbers h.0 h.1
raises_in Marking shape old new pages numbers h = idle_raises old new numbers h.0 h.1
raises_in Sweeping shape old new pages numbers h =
    let gone = sweep_count numbers in
    let no_pause = sweep_tells tells_pause numbers (λ n. refl) in
    let no_full = sweep_tells tells_full numbers (λ n. refl) in
    raises_to old _ new (finalise_lines numbers) h.after
    (record { ordinal = refl; pauses = omega (arith, no_pause); finalised = omega (arith, gone); full = omega (arith, no_full) })

sweep_raises : (shape : Shape) (old new : State) (pages : ℕ) (numbers : List ℕ) → SweepsTo shape old pages numbers new → Raises old (finalise_lines numbers) new
sweep_raises shape old new pages numbers h = raises_in old.phase shape old new pages numbers h

pause_raises : (setup : Setup) (markers : ℕ) (want : Want) (old new : State) (piece : List Entry) (lines : List Line)
    → IsPause setup markers want old piece lines new → Raises old lines new
pause_raises setup markers want old new piece lines p =
    let taken = took_same old p.before in
    let judged_nodes : List Node = condemn p.kept (took old p.before).nodes in
    let told : Line = L.Pause (live_count judged_nodes) (dead_count judged_nodes) p.done.crew p.done.traced p.done.walked in
    let rest : List Line = callback_lines (weak_calls setup.types judged_nodes) (run_order judged_nodes (took old p.before).registrations) in
    let run : All IsUncounted rest = each_callback_line IsUncounted (λ n d. (refl, refl, refl)) (λ n c. (refl, refl, refl)) _ _ in
    let one = one_more tells_pause told rest true refl in
    let none = none_counted tells_pause rest (λ k d l. (run k d l).0) in
    let no_gone = one_more tells_finalisation told rest false refl in
    let none_gone = none_counted tells_finalisation rest (λ k d l. (run k d l).1) in
    let no_full = one_more tells_full told rest false refl in
    let none_full = none_counted tells_full rest (λ k d l. (run k d l).2) in
    subst (λ ls. Raises old ls new) (sym p.done.lines_are) (raises_to old (paused setup (took old p.before) judged_nodes) new (told ∷ rest) p.done.after (record {
      ordinal = taken.ordinal;
      pauses = omega (arith, taken.pauses, one, none);
      finalised = omega (arith, taken.finalised, no_gone, none_gone);
      full = omega (arith, taken.full, no_full, none_full);
    }))

-- ---- the commands

module _ (old new : State) (lines : List Line) where
  counted : (x : State) → new ≡ answered x → Raises old lines x → AreCountedByLines old lines new
  counted x e h = subst (AreCountedByLines old lines) (sym e)
      (record { commands = omega (arith, h.ordinal); pauses = h.pauses; finalised = h.finalised; full = h.full })

  plain : (x : State) (told : Line) → IsUncounted told → SameCounts old x → lines ≡ told ∷ [] → new ≡ answered x → AreCountedByLines old lines new
  plain x told u k ls e = counted x e (subst (λ l. Raises old l x) (sym ls) (uncounted old x (told ∷ []) (alone told u) k))

  like : (x : State) (told : Line) → IsUncounted told → x.ordinal ≡ old.ordinal → x.pauses ≡ old.pauses → x.finalised ≡ old.finalised → x.full ≡ old.full
      → lines ≡ told ∷ [] → new ≡ answered x → AreCountedByLines old lines new
  like x told u a b c d ls e = plain x told u (record { ordinal = a; pauses = b; finalised = c; full = d }) ls e

  refused : (why : Refusal) → IsRefused why old lines new → AreCountedByLines old lines new
  refused why r = plain old (L.Refused why) (refl, refl, refl) (same old) r.0 r.1

  memory : (lines ≡ L.Memory ∷ []) × (new ≡ answered old) → AreCountedByLines old lines new
  memory m = plain old L.Memory (refl, refl, refl) (same old) m.0 m.1

  -- finalisations, and then one line
  after_sweep : (shape : Shape) (mid x : State) (pages : ℕ) (numbers : List ℕ) (last : List Line) → SweepsTo shape old pages numbers mid
      → Raises mid last x → lines ≡ finalise_lines numbers ++ last → new ≡ answered x → AreCountedByLines old lines new
  after_sweep shape mid x pages numbers last swept rest ls e =
      counted x e (subst (λ l. Raises old l x) (sym ls)
      (raises-append old mid x (finalise_lines numbers) last (sweep_raises shape old mid pages numbers swept) rest))

  sweep_to : (setup : Setup) (pages : ℕ) → StepSweepTo setup old pages lines new → AreCountedByLines old lines new
  sweep_to setup pages h =
      match_bool (is_sweeping old.phase) _ _ _
      (λ s. after_sweep setup.shape s.swept s.swept pages s.numbers (L.Swept pages ∷ []) s.goes
      (uncounted s.swept s.swept (L.Swept pages ∷ []) (alone (L.Swept pages) (refl, refl, refl)) (same s.swept)) s.lines_are s.after)
      (λ r. refused R.Phase r) h

  full_raises : (mid : State) → Raises mid (L.Full ∷ []) (record mid { full = mid.full + 1 })
  full_raises mid =
      let no_pause = one_more tells_pause L.Full [] false refl in
      let no_gone = one_more tells_finalisation L.Full [] false refl in
      let one = one_more tells_full L.Full [] true refl in
      record { ordinal = refl; pauses = omega (arith, no_pause); finalised = omega (arith, no_gone); full = omega (arith, one) }

  new_counts : (setup : Setup) (p t e : ℕ) → StepNew setup old p t e lines new → AreCountedByLines old lines new
  new_counts setup p t e h = elim h [
    | inl m ↦ memory m.1
    | inr made ↦
        match_option made.place _ _ _
        (λ full. after_sweep setup.shape made.mid _ made.placed.pages made.numbers (L.Full ∷ []) made.placed.swept (full_raises made.mid) full.lines_are full.after)
        (λ a d. after_sweep setup.shape made.mid _ made.placed.pages made.numbers (L.Placed (length made.mid.nodes) a ∷ []) made.placed.swept
        (uncounted made.mid _ (L.Placed (length made.mid.nodes) a ∷ []) (alone (L.Placed (length made.mid.nodes) a) (refl, refl, refl))
        (record { ordinal = refl; pauses = refl; finalised = refl; full = refl })) d.lines_are d.after) made.done
  ]

  gc_start : (setup : Setup) (piece : List Entry) → StepGcStart setup old piece lines new → AreCountedByLines old lines new
  gc_start setup piece h =
      match_bool (is_marking old.phase) _ _ _ (λ r. refused R.Phase r.1)
      (λ rest. elim rest [
        | inl m ↦ memory m.1
        | inr b ↦
            after_sweep setup.shape b.swept b.started setup.shape.pages b.numbers (L.Started ∷ []) b.ended
            (uncounted b.swept b.started (L.Started ∷ []) (alone L.Started (refl, refl, refl)) (start_same setup b.swept b.started piece b.start))
            b.lines_are b.after
      ]) h

  gc_finish : (setup : Setup) (want : Want) (piece : List Entry) → StepGcFinish setup want old piece lines new → AreCountedByLines old lines new
  gc_finish setup want piece h =
      match_bool (is_marking old.phase) _ _ _
      (λ rest. match_bool (is_stack_refused want old.stack) _ _ _ (λ r. refused R.Stack r.1)
      (λ f. counted f.0 f.2 (pause_raises setup setup.markers want old f.0 piece lines f.1)) rest) (λ r. refused R.Phase r.1) h

  gc_now : (setup : Setup) (want : Want) (piece : List Entry) → StepGcNow setup want old piece lines new → AreCountedByLines old lines new
  gc_now setup want piece h =
      match_bool (is_marking old.phase) _ _ _ (λ r. refused R.Phase r.1)
      (λ rest. match_bool (is_stack_refused want old.stack) _ _ _ (λ r. refused R.Stack r.1)
      (λ more. elim more [
        | inl m ↦ memory m.1
        | inr c ↦
            after_sweep setup.shape c.swept c.paused setup.shape.pages c.numbers c.pause_lines c.ended
            (raises-append c.swept c.started c.paused [] c.pause_lines
            (uncounted c.swept c.started [] (All-nil IsUncounted) (start_same setup c.swept c.started c.first c.start))
            (pause_raises setup 0 want c.started c.paused c.second c.pause_lines c.pause)) c.lines_are c.after
      ]) rest) h

-- ---- the families that count nothing but commands

abbrev counts_none : Family → Bool
counts_none Objects = false
counts_none Cycle = false
counts_none Sweeps = false
counts_none family = true

-- the line is none that is counted
abbrev is_counted : Line → Bool
is_counted (L.Pause kept dead crew traced walked) = true
is_counted (L.Finalise n) = true
is_counted L.Full = true
is_counted other = false

uncounted_line : (line : Line) → is_counted line ≡ false → IsUncounted line
uncounted_line (L.Pause kept dead crew traced walked) e = absurd (true≢false e)
uncounted_line (L.Finalise n) e = absurd (true≢false e)
uncounted_line L.Full e = absurd (true≢false e)
uncounted_line other e = (refl, refl, refl)

answer_uncounted : (family : Family) (line : Line) → counts_none family ≡ true → (tells_that_nothing_was_done line || answers family line) ≡ true
    → is_counted line ≡ false
answer_uncounted Objects said none fits = absurd (true≢false (sym none))
answer_uncounted Cycle said none fits = absurd (true≢false (sym none))
answer_uncounted Sweeps said none fits = absurd (true≢false (sym none))
answer_uncounted family (L.Pause kept dead crew traced walked) none fits = absurd (true≢false (sym fits))
answer_uncounted family (L.Finalise n) none fits = absurd (true≢false (sym fits))
answer_uncounted family L.Full none fits = absurd (true≢false (sym fits))
answer_uncounted family other none fits = refl

order_uncounted : (line : Line) → tells_of_orders line ≡ true → is_counted line ≡ false
order_uncounted (L.Reply j reply) is = refl
order_uncounted (L.ReplyTotals j o n u f) is = refl
order_uncounted (L.Entry entry) is = refl
order_uncounted other is = absurd (true≢false (sym is))

before_uncounted : (family : Family) (told : List Line) → counts_none family ≡ true → TellsBefore family told → All IsUncounted told
before_uncounted Objects told none h = absurd (true≢false (sym none))
before_uncounted Cycle told none h = absurd (true≢false (sym none))
before_uncounted Sweeps told none h = absurd (true≢false (sym none))
before_uncounted Threads told none h = λ i d low. uncounted_line _ (order_uncounted _ (h i d low))
before_uncounted family told none h = subst (All IsUncounted) (sym h) (All-nil IsUncounted)

after_none : (family : Family) (told : List Line) → counts_none family ≡ true → TellsAfter family told → told ≡ []
after_none Cycle told none h = absurd (true≢false (sym none))
after_none family told none h = h

family_same : (family : Family) (old : State) (piece : List Entry) (lines : List Line) (new : State) → counts_none family ≡ true
    → StaysInFamily family old piece lines new → (new.pauses ≡ old.pauses) × (new.finalised ≡ old.finalised) × (new.full ≡ old.full)
family_same Objects old piece lines new none h = absurd (true≢false (sym none))
family_same Cycle old piece lines new none h = absurd (true≢false (sym none))
family_same Sweeps old piece lines new none h = absurd (true≢false (sym none))
family_same family old piece lines new none h =
    (ap (λ (s : State). s.pauses) h.rest, ap (λ (s : State). s.finalised) h.rest, ap (λ (s : State). s.full) h.rest)

family_counts : (family : Family) (old : State) (piece : List Entry) (lines : List Line) (new : State) → counts_none family ≡ true
    → StaysInFamily family old piece lines new → AreCountedByLines old lines new
family_counts family old piece lines new none h =
    let told = h.told in
    let all : All IsUncounted lines =
    subst (All IsUncounted) (sym told.lines_are)
    (All-append IsUncounted told.before (told.answer ∷ told.after) (before_uncounted family told.before none told.first)
    (subst (λ after. All IsUncounted (told.answer ∷ after)) (sym (after_none family told.after none told.then))
    (alone told.answer (uncounted_line told.answer (answer_uncounted family told.answer none told.fits))))) in
    let same = family_same family old piece lines new none h in
    let no_pause = none_counted tells_pause lines (λ k d l. (all k d l).0) in
    let no_finalisation = none_counted tells_finalisation lines (λ k d l. (all k d l).1) in
    let no_full = none_counted tells_full lines (λ k d l. (all k d l).2) in
    record {
      commands = counted_one family old piece lines new h;
      pauses = omega (arith, same.0, no_pause);
      finalised = omega (arith, same.1, no_finalisation);
      full = omega (arith, same.2, no_full);
    }

-- ---- every command

counts : (setup : Setup) (old new : State) (command : Command) (piece : List Entry) (lines : List Line) → Step setup old command piece lines new
    → AreCountedByLines old lines new
counts setup old new (C.New p t e) piece lines h = new_counts old new lines setup p t e h.1
counts setup old new C.GcStart piece lines h = gc_start old new lines setup piece h
counts setup old new (C.GcStep n) piece lines h =
    match_bool (is_marking old.phase) _ _ _ (λ t. like old new lines _ _ (refl, refl, refl) refl refl refl refl t.lines_are t.after) (λ r. refused old new lines R.Phase r) h.1
counts setup old new (C.GcFinish want) piece lines h = gc_finish old new lines setup want piece h
counts setup old new (C.GcNow want) piece lines h = gc_now old new lines setup want piece h
counts setup old new (C.Sweep n) piece lines h = sweep_to old new lines setup _ h.1
counts setup old new C.SweepAll piece lines h = sweep_to old new lines setup _ h.1
counts setup old new C.Stat piece lines h = like old new lines old _ (refl, refl, refl) refl refl refl refl h.1.2 h.1.3
counts setup old new command piece lines h =
    family_counts (family_of command) old piece lines new refl (steps_stay_in_their_family setup old command piece lines new h)

pub steps_count_lines : StepsCountLines
steps_count_lines setup old command piece lines new h = counts setup old new command piece lines h
