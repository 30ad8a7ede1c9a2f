-- The bound of what may be kept, command by command and over runs.
use Rattle.std.proofs.Common.{◌≡◌, ◌⊎◌, ℕ, ◌<◌, false, List, [], ◌∷◌, ◌++◌, length, All, refl, sym, ap, ◌∙◌, subst, inl, inr, arith, append_assoc}
use Rattle.std.proofs.lemmas.List.{append-nil}
use Rattle.std.proofs.lemmas.List.Elements.{All-head, All-tail}
use Rattle.gc_graph.specs.declared.command.Command.{Command}
use Rattle.gc_graph.specs.declared.command.Command.TheVariants as C
use Rattle.gc_graph.specs.declared.command.Want.{Want}
use Rattle.gc_graph.specs.declared.line.Line.{Line}
use Rattle.gc_graph.specs.declared.line.Refusal.TheVariants as R
use Rattle.gc_graph.specs.declared.phase.Phase.TheVariants.{Idle, Marking}
use Rattle.gc_graph.specs.declared.region.Entry.{Entry}
use Rattle.gc_graph.specs.State.{Setup, State, node_at, graph_of, roots_of}
use Rattle.gc_graph.specs.Graph.{IsIn}
use Rattle.gc_graph.specs.Reach.{Reach}
use Rattle.gc_graph.specs.Outcomes.{IsRefused, IsMemory, answered, took}
use Rattle.gc_graph.specs.CycleSteps.{is_marking, is_stack_refused, IsStart, IsCollection}
use Rattle.gc_graph.specs.Step.{Step}
use Rattle.gc_graph.specs.Valid.{IsValid}
use Rattle.gc_graph.specs.ValidLaw.{StepKeepsValid}
use Rattle.gc_graph.specs.Lawful.{Outcome, Run, last_state, IsAllowed}
use Rattle.gc_graph.specs.MayLaw.{HasStarted, StartsHaveStarted, CollectionsHaveStarted, entry_reads, run_reads, MayIsBounded, PauseBoundsMeet}
use Rattle.gc_graph.specs.Commands.{own_reads}
use Rattle.gc_graph.proofs.StepCases.{match_bool}
use Rattle.gc_graph.proofs.Sound.{IsSound, sound_from, valid_from, kinds_at}
use Rattle.gc_graph.proofs.Since.{own_since}
use Rattle.gc_graph.proofs.MayBounds.{bounds_meet}
use Rattle.gc_graph.proofs.ValidRegion.{others_sound, took_phase}
use Rattle.gc_graph.proofs.ValidCases.{bool_is}
use Rattle.gc_graph.proofs.ValidSweeps.{ended_phase}
use Rattle.gc_graph.proofs.ValidCycles.{start_sound, ended_sound}
use Rattle.gc_graph.proofs.MayEntries.{More, more_first, more_second, more_none, Kept, same_kept, took_kept}
use Rattle.gc_graph.proofs.PlainSteps.{plain_step}
use Rattle.gc_graph.proofs.MayRuns.{Goes, still, refused, memory, effect_goes, sweep_goes, start_goes, now_goes, finish_goes, new_goes, export_goes, import_goes, join_goes}

module _ (setup : Setup) (start : State) (begun : HasStarted setup start) where
  step_goes : (old new : State) (command : Command) (piece : List Entry) (lines : List Line) → old.phase ≡ Marking → new.phase ≡ Marking
      → IsSound setup old → Step setup old command piece lines new → Goes setup start begun old command piece lines new
  step_goes old new (C.New p t e) piece lines on over g h =
      new_goes setup start begun old new (C.New p t e) piece lines p t e on g h.1
  step_goes old new C.GcStart piece lines on over g h =
      start_goes setup start begun old new C.GcStart piece lines on h
  step_goes old new (C.GcStep n) piece lines on over g h =
      match_bool (is_marking old.phase) _ _ (Goes setup start begun old (C.GcStep n) piece lines new)
      (λ t. still setup start begun old new (C.GcStep n) piece lines _ t.after refl refl) (λ r. refused setup start begun old new (C.GcStep n) piece lines R.Phase r) h.1
  step_goes old new (C.GcFinish want) piece lines on over g h =
      finish_goes setup start begun old new (C.GcFinish want) piece lines want over h
  step_goes old new (C.GcNow want) piece lines on over g h =
      now_goes setup start begun old new (C.GcNow want) piece lines want on h
  step_goes old new (C.Sweep n) piece lines on over g h =
      sweep_goes setup start begun old new (C.Sweep n) piece lines _ on h.1
  step_goes old new C.SweepAll piece lines on over g h =
      sweep_goes setup start begun old new C.SweepAll piece lines _ on h.1
  step_goes old new C.Stat piece lines on over g h =
      still setup start begun old new C.Stat piece lines _ h.1.3 refl refl
  step_goes old new (C.Export p x) piece lines on over g h =
      export_goes setup start begun old new (C.Export p x) piece lines p x on g h
  step_goes old new (C.Import x p) piece lines on over g h =
      import_goes setup start begun old new (C.Import x p) piece lines x p on g h
  step_goes old new (C.At j order) piece lines on over g h =
      elim h.1 [ inl m ↦ memory setup start begun old new (C.At j order) piece lines m | inr d ↦ still setup start begun old new (C.At j order) piece lines _ d.1 refl refl ]
  step_goes old new C.ThreadsGo piece lines on over g h =
      elim h.1 [
        | inl d ↦ still setup start begun old new C.ThreadsGo piece lines _ d.1 refl refl
        | inr d ↦ still setup start begun old new C.ThreadsGo piece lines _ d.1 refl refl
      ]
  step_goes old new C.ThreadsJoin piece lines on over g h =
      join_goes setup start begun old new C.ThreadsJoin piece lines on g h
  step_goes old new command piece lines on over g h =
      let c = plain_step setup old new command piece lines refl h in
      effect_goes setup start begun old new command piece lines c.effect on g c.fits c.lines_are c.after

  -- ---- runs

  abbrev GoesOn : State → List Command → List Outcome → Type 0
  GoesOn old commands outcomes =
      (reads after : List ℕ) → More reads after → More (run_reads old commands outcomes) after → Kept setup start begun reads old
      → Kept setup start begun after (last_state old outcomes)

  run_goes : (law : StepKeepsValid) → 0 < setup.shape.pages → (old : State) (commands : List Command) (outcomes : List Outcome) → old.phase ≡ Marking
      → IsValid setup old → All (IsAllowed (length setup.types)) commands → Run setup old commands outcomes
      → All (λ (o : Outcome). o.state.phase ≡ Marking) outcomes → GoesOn old commands outcomes
  run_goes law some old [] [] on valid allowed run going reads after more from kept = same_kept setup start begun reads after old old more refl refl kept
  run_goes law some old [] (o ∷ os) on valid allowed run going reads after more from kept = absurd run
  run_goes law some old (c ∷ cs) [] on valid allowed run going reads after more from kept = absurd run
  run_goes law some old (c ∷ cs) (o ∷ os) on valid allowed run going reads after more from kept =
      let over : o.state.phase ≡ Marking = All-head (λ (x : Outcome). x.state.phase ≡ Marking) o os going in
      let step = step_goes old o.state c o.piece o.lines on over (sound_from setup old valid) run.0 in
      let own : List ℕ = own_reads old c o.lines in
      let entries : List ℕ = entry_reads old.region o.piece in
      let rest : List ℕ = run_reads o.state cs os in
      let split : More (own ++ (entries ++ rest)) after = subst (λ xs. More xs after) (append_assoc own entries rest) from in
      run_goes law some o.state cs os over
      (law setup old o.state c o.piece o.lines some (All-head (IsAllowed (length setup.types)) c cs allowed) valid run.0)
      (All-tail (IsAllowed (length setup.types)) c cs allowed) run.1 (All-tail (λ (x : Outcome). x.state.phase ≡ Marking) o os going)
      after after (λ k e. e) (more_second entries rest after (more_second own (entries ++ rest) after split))
      (step.goes reads after more (more_first own (entries ++ rest) after split) (more_first entries rest after (more_second own (entries ++ rest) after split)) kept)

  -- where it begins
  begun_kept : Kept setup start begun [] start
  begun_kept = record {
    longer = omega arith;
    edges = λ m. own_since start.may (node_at start.nodes m).object (length start.nodes) (kinds_at setup start.nodes begun.valid.typed m);
    bounded = λ n i. inr (subst (λ roots. IsIn (Reach (graph_of start.nodes) roots) n) (sym (append-nil (roots_of start)))
        (subst (λ set. IsIn set n) begun.may i));
  }

-- marking goes on after a run, and its last state is valid
pub run_marking : (old : State) (outcomes : List Outcome) → old.phase ≡ Marking → All (λ (o : Outcome). o.state.phase ≡ Marking) outcomes
    → (last_state old outcomes).phase ≡ Marking
run_marking old [] on going = on
run_marking old (o ∷ os) on going =
    run_marking o.state os (All-head (λ (x : Outcome). x.state.phase ≡ Marking) o os going) (All-tail (λ (x : Outcome). x.state.phase ≡ Marking) o os going)

pub run_valid : StepKeepsValid → (setup : Setup) → 0 < setup.shape.pages → (old : State) (commands : List Command) (outcomes : List Outcome)
    → IsValid setup old → All (IsAllowed (length setup.types)) commands → Run setup old commands outcomes → IsValid setup (last_state old outcomes)
run_valid law setup some old [] [] valid allowed run = valid
run_valid law setup some old [] (o ∷ os) valid allowed run = absurd run
run_valid law setup some old (c ∷ cs) [] valid allowed run = absurd run
run_valid law setup some old (c ∷ cs) (o ∷ os) valid allowed run =
    run_valid law setup some o.state cs os
    (law setup old o.state c o.piece o.lines some (All-head (IsAllowed (length setup.types)) c cs allowed) valid run.0)
    (All-tail (IsAllowed (length setup.types)) c cs allowed) run.1

pub may_is_bounded : StepKeepsValid → MayIsBounded
may_is_bounded law setup start commands outcomes before some begun allowed run going others =
    let last : State = last_state start outcomes in
    let reads : List ℕ = run_reads start commands outcomes in
    let more : List ℕ = entry_reads last.region before in
    let kept : Kept setup start begun (reads ++ more) last =
    run_goes setup start begun law some start commands outcomes begun.marking begun.valid allowed run going [] (reads ++ more)
    (more_none (reads ++ more)) (more_first reads more (reads ++ more) (λ k e. e)) (begun_kept setup start begun) in
    let sound : IsSound setup last = sound_from setup last (run_valid law setup some start commands outcomes begun.valid allowed run) in
    let after : Kept setup start begun (reads ++ more) (took last before) =
    took_kept setup start begun (reads ++ more) (reads ++ more) last before (run_marking start outcomes begun.marking going) (λ k d l. (others k d l).1)
    sound (λ k e. e) (more_second reads more (reads ++ more) (λ k e. e)) kept in
    after.bounded

pub pause_bounds_meet : PauseBoundsMeet
pause_bounds_meet setup s before want valid on others =
    bounds_meet setup (took s before) want (valid_from setup (took s before) (others_sound setup s before others (sound_from setup s valid)))
    (took_phase s before ∙ on)

-- ---- starts

has_started : (setup : Setup) (swept new : State) (piece : List Entry) → IsSound setup swept → swept.phase ≡ Idle → IsStart setup swept piece new
    → HasStarted setup new
has_started setup swept new piece sound idle h = record {
  valid = valid_from setup new (start_sound setup swept new piece sound idle h);
  marking = ap (λ (s : State). s.phase) h.after;
  may = subst (λ (s : State). s.may ≡ Reach (graph_of s.nodes) (roots_of s)) (sym h.after) refl;
}

-- the count of commands is no part of it
answered_started : (setup : Setup) (s : State) → HasStarted setup s → HasStarted setup (answered s)
answered_started setup s h = record { valid = valid_from setup (answered s) (sound_from setup s h.valid); marking = h.marking; may = h.may }

pub starts_have_started : StartsHaveStarted
starts_have_started setup old new piece lines valid h =
    let Q : Type 0 = IsRefused R.Phase old lines new ⊎ (IsMemory old lines new ⊎ HasStarted setup new) in
    bool_is (is_marking old.phase) _ _ Q (λ e r. inl r.1)
    (λ e done. elim done [
      | inl memory ↦ inr (inl memory.1)
      | inr begun ↦
          inr (inr (subst (HasStarted setup) (sym begun.after)
          (answered_started setup begun.started
          (has_started setup begun.swept begun.started piece (ended_sound setup old begun.swept begun.numbers (sound_from setup old valid) begun.ended)
          (ended_phase setup.shape old begun.swept old.phase begun.numbers refl e begun.ended) begun.start))))
    ]) h

pub collection_started : (setup : Setup) (want : Want) (old new : State) (piece : List Entry) (lines : List Line) → IsSound setup old
    → is_marking old.phase ≡ false → (done : IsCollection setup want old piece lines new) → HasStarted setup done.started
collection_started setup want old new piece lines sound e done =
    has_started setup done.swept done.started done.first (ended_sound setup old done.swept done.numbers sound done.ended)
    (ended_phase setup.shape old done.swept old.phase done.numbers refl e done.ended) done.start

pub collections_have_started : CollectionsHaveStarted
collections_have_started setup want old new piece lines valid h =
    let Q : Type 0 = IsRefused R.Phase old lines new ⊎ (IsRefused R.Stack old lines new
    ⊎ (IsMemory old lines new ⊎ ((done : IsCollection setup want old piece lines new) × HasStarted setup done.started))) in
    bool_is (is_marking old.phase) _ _ Q (λ e r. inl r.1)
    (λ e d. bool_is (is_stack_refused want old.stack) _ _ Q (λ f r. inr (inl r.1))
    (λ f c. elim c [
      | inl memory ↦ inr (inr (inl memory.1))
      | inr done ↦
          inr (inr (inr (
            done,
            collection_started setup want old new piece lines (sound_from setup old valid) e done,
          )))
    ]) d) h
