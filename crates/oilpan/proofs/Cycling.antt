-- What the answers of the commands of the cycle tell.
use Rattle.std.proofs.Common.{◌≡◌, ◌≢◌, ◌↔◌, ℕ, List, [], Option, Some, None, refl, sym, ap, ◌∙◌, subst, inl, inr}
use Rattle.std.proofs.Math.Logic.{∥∥₁_elim}
use Rattle.std.proofs.Props.{props}
use mathlib.Core.Bool.{Bool-set}
use Rattle.gc_graph.specs.declared.command.Command.{Command}
use Rattle.gc_graph.specs.declared.command.Command.TheVariants as C
use Rattle.gc_graph.specs.declared.command.Want.TheVariants.{Precise}
use Rattle.gc_graph.specs.declared.line.Line.{Line}
use Rattle.gc_graph.specs.declared.line.Line.TheVariants as L
use Rattle.gc_graph.specs.declared.line.Refusal.{Refusal}
use Rattle.gc_graph.specs.declared.line.Refusal.TheVariants as R
use Rattle.gc_graph.specs.declared.phase.Phase.TheVariants.{Marking, Sweeping}
use Rattle.gc_graph.specs.declared.region.Entry.{Entry}
use Rattle.gc_graph.specs.State.{Setup, State}
use Rattle.gc_graph.specs.Outcomes.{answered}
use Rattle.gc_graph.specs.CycleSteps.{IsFinished, IsCollection}
use Rattle.gc_graph.specs.Commands.{HasReason}
use Rattle.gc_graph.specs.CollectionLaw.{CollectsUnreached, CondemnsUnreached}
use Rattle.gc_graph.specs.RefusalLaw.{IsLeftAlone}
use Rattle.gc_graph.specs.Valid.{IsValid}
use Rattle.gc_graph.specs.HandleLaw.{MeansCycle, IsTurnedDown}
use Rattle.oilpan.specs.Asked.{IsAsked}
use Rattle.oilpan.proofs.Lives.{Life_set}

module _ (setup : Setup) (old new : State) (command : Command) (piece : List Entry) (Done : Type 0) where
  -- the command was done where its line tells neither that it was refused nor that memory was wanting
  cycle_done : (line : Line) → MeansCycle setup old command piece new Done line → (line ≡ L.Memory → ⊥) → ((why : Refusal) → line ≡ L.Refused why → ⊥) → Done
  cycle_done L.Memory h memory refused = absurd (memory refl)
  cycle_done (L.Refused why) h memory refused = absurd (refused why refl)
  cycle_done _ h memory refused = h

now_reason : (s : State) → s.stack ≡ [] → (why : Refusal) → HasReason s (C.GcNow Precise) why → why ≡ R.Phase
now_reason s none R.Phase h = refl
now_reason s none R.Null h = absurd h
now_reason s none R.Field h = absurd h.1
now_reason s none R.Kind h = absurd (elim h [ inl k ↦ k.1 | inr k ↦ k ])
now_reason s none R.Stack h = absurd (h none)
now_reason s none R.Empty h = absurd h

module _ (setup : Setup) (old new : State) (piece : List Entry) (lines : List Line) (line : Line)
    (asked : IsAsked setup old new (C.GcNow Precise) piece lines line) (none : old.stack ≡ []) where
  -- the phase was marking
  pub was_marking : (why : Refusal) → line ≡ L.Refused why → old.phase ≡ Marking
  was_marking why is =
      let down : IsTurnedDown old (C.GcNow Precise) why new =
      subst (MeansCycle setup old (C.GcNow Precise) piece new (IsCollection setup Precise old piece lines new)) is asked.means in
      subst (λ w. HasReason old (C.GcNow Precise) w) (now_reason old none why down.reason.0) down.reason.0

  -- and nothing but the count of commands has changed
  pub left : (why : Refusal) → line ≡ L.Refused why → new ≡ answered old
  left why is =
      let down : IsTurnedDown old (C.GcNow Precise) why new =
      subst (MeansCycle setup old (C.GcNow Precise) piece new (IsCollection setup Precise old piece lines new)) is asked.means in
      down.after

  pub collected : (line ≡ L.Memory → ⊥) → ((why : Refusal) → line ≡ L.Refused why → ⊥) → IsCollection setup Precise old piece lines new
  collected = cycle_done setup old new (C.GcNow Precise) piece (IsCollection setup Precise old piece lines new) line asked.means

  pub sweeps : IsCollection setup Precise old piece lines new → new.phase ≡ Sweeping
  sweeps h = ap (λ (s : State). s.phase) h.after ∙ ap (λ (s : State). s.phase) h.pause.done.after

  exact_of : CollectsUnreached → old.running ≡ [] → IsCollection setup Precise old piece lines new → old.phase ≢ Marking → IsValid setup old → CondemnsUnreached old new
  exact_of law running h phase valid = law setup old new piece lines valid phase running h

  pub exact : CollectsUnreached → ∥ IsValid setup old ∥₁ → old.running ≡ [] → IsCollection setup Precise old piece lines new → old.phase ≢ Marking
      → CondemnsUnreached old new
  exact law valid running h phase = record {
    condemned = λ n. (
      λ d. (
        ∥∥₁_elim valid (Life_set _ _) (λ v. (((exact_of law running h phase v).condemned n).0 d).0),
        λ r. ∥∥₁_elim valid (λ x y. absurd x) (λ v. (((exact_of law running h phase v).condemned n).0 d).1 r),
      ),
      λ d. ∥∥₁_elim valid (Life_set _ _) (λ v. ((exact_of law running h phase v).condemned n).1 d),
    );
    spared = λ n. (
      λ d. (
        ∥∥₁_elim valid (Life_set _ _) (λ v. (((exact_of law running h phase v).spared n).0 d).0),
        ∥∥₁_elim valid (Bool-set _ _) (λ v. (((exact_of law running h phase v).spared n).0 d).1),
      ),
      λ d. ∥∥₁_elim valid (Life_set _ _) (λ v. ((exact_of law running h phase v).spared n).1 d),
    );
  }

-- ---- the rest of a collection that was started

finish_reason : (s : State) → s.stack ≡ [] → s.phase ≡ Marking → (why : Refusal) → HasReason s (C.GcFinish Precise) why → ⊥
finish_reason s none marking R.Phase h = h marking
finish_reason s none marking R.Null h = h
finish_reason s none marking R.Field h = h.1
finish_reason s none marking R.Kind h = elim h [ inl k ↦ k.1 | inr k ↦ k ]
finish_reason s none marking R.Stack h = h none
finish_reason s none marking R.Empty h = h

module _ (setup : Setup) (old new : State) (piece : List Entry) (lines : List Line) (line : Line)
    (asked : IsAsked setup old new (C.GcFinish Precise) piece lines line) (none : old.stack ≡ []) (marking : old.phase ≡ Marking) where
  abbrev pub Finished : Type 0
  Finished = IsFinished setup Precise old piece lines new

  by_line : (told : Line) → MeansCycle setup old (C.GcFinish Precise) piece new Finished told → Finished
  by_line (L.Refused why) h = absurd (finish_reason old none marking why h.reason.0)
  by_line L.Memory h = absurd h.wanted
  by_line _ h = h

  pub finished : Finished
  finished = by_line line asked.means

  pub finish_sweeps : new.phase ≡ Sweeping
  finish_sweeps = ap (λ (s : State). s.phase) finished.2 ∙ ap (λ (s : State). s.phase) finished.1.done.after
