-- What the answers of a start, a step, a pause and a sweep tell.
use Rattle.std.proofs.Common.{◌≡◌, ◌≢◌, ℕ, ◌+◌, ◌-◌, ◌<◌, ◌≤◌, ◌++◌, nat_lt, min, List, [], ◌∷◌, Bool, length, Option, Some, None, refl, sym, ap, ◌∙◌, subst, inl, inr, arith}
use Rattle.std.specs.Prelude.{slice_get}
use Rattle.std.proofs.lemmas.List.{length-append}
use Rattle.gc_graph.specs.declared.command.Command.{Command}
use Rattle.gc_graph.specs.declared.command.Command.TheVariants as C
use Rattle.gc_graph.specs.declared.command.Want.TheVariants.{Precise}
use Rattle.gc_graph.specs.declared.line.Line.{Line}
use Rattle.gc_graph.specs.declared.line.Line.TheVariants as L
use Rattle.gc_graph.specs.declared.line.Refusal.{Refusal}
use Rattle.gc_graph.specs.declared.line.Refusal.TheVariants as R
use Rattle.gc_graph.specs.declared.phase.Phase.TheVariants.{Marking, Sweeping}
use Rattle.gc_graph.specs.declared.region.Entry.{Entry}
use Rattle.gc_graph.specs.State.{Setup, State, objects_of, used_of}
use Rattle.gc_graph.specs.Outcomes.{answered, finalise_lines}
use Rattle.gc_graph.specs.CycleSteps.{IsBegun, IsTraced, IsFinished, HasSwept, StepStat}
use Rattle.gc_graph.specs.Placement.{extents_of, IsUsedPages}
use Rattle.gc_graph.specs.Commands.{HasReason}
use Rattle.gc_graph.specs.HandleLaw.{IsLast, MeansCycle, IsTurnedDown}
use Rattle.gc_graph.specs.RefusalLaw.{IsLeftAlone}
use Rattle.oilpan.specs.Asked.{IsAsked}
use Rattle.oilpan.specs.Cycles.{IsOutOf, IsStepped, AreTotals, pages_after}
use Rattle.oilpan.specs.declared.told.Stepped.{Stepped}
use Rattle.oilpan.specs.declared.told.Totals.{Totals}

-- ---- the last of some lines

one_last : (told line : Line) (lines : List Line) → lines ≡ told ∷ [] → IsLast lines line → line ≡ told
one_last told line lines is last =
    let got : IsLast (told ∷ []) line = subst (λ ls. IsLast ls line) is last in
    cc

last_of_more : (before : List Line) (told : Line) → slice_get (before ++ told ∷ []) (length before) ≡ Some told
last_of_more [] told = refl
last_of_more (x ∷ before) told = last_of_more before told

end_last : (before : List Line) (told line : Line) (lines : List Line) → lines ≡ before ++ told ∷ [] → IsLast lines line → line ≡ told
end_last before told line lines is last =
    let got : IsLast (before ++ told ∷ []) line = subst (λ ls. IsLast ls line) is last in
    let place : length (before ++ told ∷ []) - 1 ≡ length before = omega (arith, length-append before (told ∷ [])) in
    let here : slice_get (before ++ told ∷ []) (length before) ≡ Some line = subst (λ i. slice_get (before ++ told ∷ []) i ≡ Some line) place got in
    let seam : slice_get (before ++ told ∷ []) (length before) ≡ Some told = last_of_more before told in
    cc

-- ---- a start

start_reason : (s : State) (why : Refusal) → HasReason s C.GcStart why → s.phase ≡ Marking
start_reason s R.Phase h = h
start_reason s R.Null h = absurd h
start_reason s R.Field h = absurd h.1
start_reason s R.Kind h = absurd (elim h [ inl k ↦ k.1 | inr k ↦ k ])
start_reason s R.Stack h = absurd h
start_reason s R.Empty h = absurd h

module _ (setup : Setup) (old new : State) (piece : List Entry) (lines : List Line) (line : Line)
    (asked : IsAsked setup old new C.GcStart piece lines line) where
  start_if : (told : Line) → line ≡ told → MeansCycle setup old C.GcStart piece new (IsBegun setup old piece lines new) told
  start_if told is = subst (MeansCycle setup old C.GcStart piece new (IsBegun setup old piece lines new)) is asked.means

  pub start_refused : (why : Refusal) → line ≡ L.Refused why → (old.phase ≡ Marking) × (new ≡ answered old)
  start_refused why is =
      let down : IsTurnedDown old C.GcStart why new = start_if (L.Refused why) is in
      (start_reason old why down.reason.0, down.after)

  pub start_wanting : line ≡ L.Memory → new ≡ answered old
  start_wanting is = (let left : IsLeftAlone setup C.GcStart old piece new = start_if L.Memory is in left.after)

  begun_by : (told : Line) → MeansCycle setup old C.GcStart piece new (IsBegun setup old piece lines new) told → (told ≡ L.Memory → ⊥)
      → ((why : Refusal) → told ≡ L.Refused why → ⊥) → IsBegun setup old piece lines new
  begun_by L.Memory h memory refused = absurd (memory refl)
  begun_by (L.Refused why) h memory refused = absurd (refused why refl)
  begun_by _ h memory refused = h

  pub begun : (line ≡ L.Memory → ⊥) → ((why : Refusal) → line ≡ L.Refused why → ⊥) → IsBegun setup old piece lines new
  begun = begun_by line asked.means

  pub begun_marks : IsBegun setup old piece lines new → new.phase ≡ Marking
  begun_marks b = ap (λ (s : State). s.phase) b.after ∙ ap (λ (s : State). s.phase) b.start.after

-- ---- a step

step_reason : (s : State) (n : ℕ) (why : Refusal) → HasReason s (C.GcStep n) why → s.phase ≢ Marking
step_reason s n R.Phase h = h
step_reason s n R.Null h = absurd h
step_reason s n R.Field h = absurd h.1
step_reason s n R.Kind h = absurd (elim h [ inl k ↦ k.1 | inr k ↦ k ])
step_reason s n R.Stack h = absurd h
step_reason s n R.Empty h = absurd h

module _ (setup : Setup) (old new : State) (n : ℕ) (piece : List Entry) (lines : List Line) (line : Line)
    (asked : IsAsked setup old new (C.GcStep n) piece lines line) where
  step_if : (told : Line) → line ≡ told → MeansCycle setup old (C.GcStep n) piece new (IsTraced old n lines new) told
  step_if told is = subst (MeansCycle setup old (C.GcStep n) piece new (IsTraced old n lines new)) is asked.means

  pub step_refused : (why : Refusal) → line ≡ L.Refused why → IsOutOf Marking old new
  step_refused why is =
      let down : IsTurnedDown old (C.GcStep n) why new = step_if (L.Refused why) is in
      record { other = step_reason old n why down.reason.0; left = down.after }

  pub stepped : (t : ℕ) (done : Bool) → line ≡ L.Step t done → IsStepped old n (record { traced = t; done = done }) new
  stepped t done is =
      let h : IsTraced old n lines new = step_if (L.Step t done) is in
      let same : L.Step t done ≡ L.Step h.count (nat_lt h.count n) = sym is ∙ one_last (L.Step h.count (nat_lt h.count n)) line lines h.lines_are asked.last in
      let count : t ≡ h.count = cc in
      let ended : done ≡ nat_lt h.count n = cc in
      record {
        most = subst (λ k. k ≤ n) (sym count) h.most;
        done = ended ∙ ap (λ k. nat_lt k n) (sym count);
        after = h.after ∙ ap (λ k. answered (record old { traced = old.traced + k })) (sym count);
      }

  one_of : (told : Line) → MeansCycle setup old (C.GcStep n) piece new (IsTraced old n lines new) told → line ≡ told
      → ((t : ℕ) (done : Bool) → line ≡ L.Step t done → ⊥) → ((why : Refusal) → line ≡ L.Refused why → ⊥) → ⊥
  one_of L.Memory h is step refused = h.wanted
  one_of (L.Refused why) h is step refused = refused why is
  one_of _ h is step refused = step h.count (nat_lt h.count n) (one_last (L.Step h.count (nat_lt h.count n)) line lines h.lines_are asked.last)

  -- no other line answers
  pub step_lines : ((t : ℕ) (done : Bool) → line ≡ L.Step t done → ⊥) → ((why : Refusal) → line ≡ L.Refused why → ⊥) → ⊥
  step_lines = one_of line asked.means refl

-- ---- a pause

finish_reason : (s : State) → s.stack ≡ [] → (why : Refusal) → HasReason s (C.GcFinish Precise) why → s.phase ≢ Marking
finish_reason s none R.Phase h = h
finish_reason s none R.Null h = absurd h
finish_reason s none R.Field h = absurd h.1
finish_reason s none R.Kind h = absurd (elim h [ inl k ↦ k.1 | inr k ↦ k ])
finish_reason s none R.Stack h = absurd (h none)
finish_reason s none R.Empty h = absurd h

module _ (setup : Setup) (old new : State) (piece : List Entry) (lines : List Line) (line : Line)
    (asked : IsAsked setup old new (C.GcFinish Precise) piece lines line) where
  abbrev pub Finished : Type 0
  Finished = IsFinished setup Precise old piece lines new

  pub finish_refused : old.stack ≡ [] → (why : Refusal) → line ≡ L.Refused why → IsOutOf Marking old new
  finish_refused none why is =
      let down : IsTurnedDown old (C.GcFinish Precise) why new = subst (MeansCycle setup old (C.GcFinish Precise) piece new Finished) is asked.means in
      record { other = finish_reason old none why down.reason.0; left = down.after }

  by_line : (told : Line) → MeansCycle setup old (C.GcFinish Precise) piece new Finished told → ((why : Refusal) → told ≡ L.Refused why → ⊥) → Finished
  by_line (L.Refused why) h refused = absurd (refused why refl)
  by_line L.Memory h refused = absurd h.wanted
  by_line _ h refused = h

  pub finished : ((why : Refusal) → line ≡ L.Refused why → ⊥) → Finished
  finished = by_line line asked.means

  pub finished_sweeps : Finished → new.phase ≡ Sweeping
  finished_sweeps h = ap (λ (s : State). s.phase) h.2 ∙ ap (λ (s : State). s.phase) h.1.done.after

-- ---- a sweep

sweep_reason : (s : State) (n : ℕ) (why : Refusal) → HasReason s (C.Sweep n) why → s.phase ≢ Sweeping
sweep_reason s n R.Phase h = h
sweep_reason s n R.Null h = absurd h
sweep_reason s n R.Field h = absurd h.1
sweep_reason s n R.Kind h = absurd (elim h [ inl k ↦ k.1 | inr k ↦ k ])
sweep_reason s n R.Stack h = absurd h
sweep_reason s n R.Empty h = absurd h

module _ (setup : Setup) (old new : State) (n : ℕ) (piece : List Entry) (lines : List Line) (line : Line)
    (asked : IsAsked setup old new (C.Sweep n) piece lines line) where
  abbrev pub Swept : Type 0
  Swept = HasSwept setup old (pages_after setup old n) lines new

  sweep_if : (told : Line) → line ≡ told → MeansCycle setup old (C.Sweep n) piece new Swept told
  sweep_if told is = subst (MeansCycle setup old (C.Sweep n) piece new Swept) is asked.means

  pub sweep_refused : (why : Refusal) → line ≡ L.Refused why → IsOutOf Sweeping old new
  sweep_refused why is =
      let down : IsTurnedDown old (C.Sweep n) why new = sweep_if (L.Refused why) is in
      record { other = sweep_reason old n why down.reason.0; left = down.after }

  told_pages : Swept → line ≡ L.Swept (pages_after setup old n)
  told_pages h = end_last (finalise_lines h.numbers) (L.Swept (pages_after setup old n)) line lines h.lines_are asked.last

  pub swept_pages : (c : ℕ) → line ≡ L.Swept c → c ≡ pages_after setup old n
  swept_pages c is =
      let same : L.Swept c ≡ L.Swept (pages_after setup old n) = sym is ∙ told_pages (sweep_if (L.Swept c) is) in
      let count : c ≡ pages_after setup old n = cc in
      count

  pub swept : (c : ℕ) → line ≡ L.Swept c → HasSwept setup old c lines new
  swept c is = subst (λ k. HasSwept setup old k lines new) (sym (swept_pages c is)) (sweep_if (L.Swept c) is)

  one_swept : (told : Line) → MeansCycle setup old (C.Sweep n) piece new Swept told → line ≡ told
      → ((c : ℕ) → line ≡ L.Swept c → ⊥) → ((why : Refusal) → line ≡ L.Refused why → ⊥) → ⊥
  one_swept L.Memory h is pages refused = h.wanted
  one_swept (L.Refused why) h is pages refused = refused why is
  one_swept _ h is pages refused = pages (pages_after setup old n) (told_pages h)

  -- no other line answers
  pub sweep_lines : ((c : ℕ) → line ≡ L.Swept c → ⊥) → ((why : Refusal) → line ≡ L.Refused why → ⊥) → ⊥
  sweep_lines = one_swept line asked.means refl

-- ---- counts

module _ (setup : Setup) (old new : State) (piece : List Entry) (lines : List Line) (line : Line)
    (asked : IsAsked setup old new C.Stat piece lines line) where
  stat : StepStat setup old lines new
  stat = asked.step.1

  pub counted : new ≡ answered old
  counted = stat.3

  told_totals : line ≡ L.Objects (objects_of old.nodes) (used_of old.nodes) stat.0
  told_totals = one_last (L.Objects (objects_of old.nodes) (used_of old.nodes) stat.0) line lines stat.2 asked.last

  pub totals : (n u g : ℕ) → line ≡ L.Objects n u g → AreTotals setup old (record { objects = n; words = u; pages = g })
  totals n u g is =
      let same : L.Objects n u g ≡ L.Objects (objects_of old.nodes) (used_of old.nodes) stat.0 = sym is ∙ told_totals in
      let pages : g ≡ stat.0 = cc in
      record { objects = cc; words = cc; pages = subst (IsUsedPages setup.shape (extents_of old.nodes)) (sym pages) stat.1 }

  -- no other line answers
  pub total_lines : ((n u g : ℕ) → line ≡ L.Objects n u g → ⊥) → ⊥
  total_lines other = other (objects_of old.nodes) (used_of old.nodes) stat.0 told_totals
