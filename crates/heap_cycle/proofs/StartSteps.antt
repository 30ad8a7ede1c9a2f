-- The start of a cycle is a step of the graph, and leaves the parts ready.
use Rattle.std.proofs.Common.{◌≡◌, ℕ, true, false, List, [], ◌∷◌, ◌++◌, Bool, length, refl, sym, ap, ◌∙◌, subst, inr, arith}
use mathlib.Core.Logic.{◌⊎◌}
use Rattle.std.specs.Prelude.{MatchBool}
use Rattle.gc_graph.specs.declared.command.Command.TheVariants as C
use Rattle.gc_graph.specs.declared.line.Line.{Line}
use Rattle.gc_graph.specs.declared.line.Line.TheVariants as L
use Rattle.gc_graph.specs.declared.line.Refusal.TheVariants as R
use Rattle.gc_graph.specs.declared.phase.Phase.{Phase}
use Rattle.gc_graph.specs.declared.phase.Phase.TheVariants.{Idle, Marking, Sweeping}
use Rattle.gc_graph.specs.declared.region.Entry.{Entry}
use Rattle.gc_graph.specs.declared.region.Op.TheVariants as O
use Rattle.gc_graph.specs.Reach.{Reach}
use Rattle.gc_graph.specs.Shapes.{IsShape}
use Rattle.gc_graph.specs.State.{Setup, State, Node, graph_of, roots_of}
use Rattle.gc_graph.specs.CycleSteps.{IsStart, IsBegun, StepGcStart, WantsMemory, is_marking}
use Rattle.gc_graph.specs.History.{IsLegalFrom}
use Rattle.gc_graph.specs.May.{marking}
use Rattle.gc_graph.specs.Outcomes.{answered, finalise_lines, owner_entry, took, AreOthers, IsRefused}
use Rattle.gc_graph.specs.Replays.{legal-append}
use Rattle.gc_graph.specs.Sweep.{SweepsInPhase, SweepsToEnd}
use Rattle.gc_graph.specs.Valid.{HasMay, IsValid}
use Rattle.gc_graph.specs.ValidLaw.{StepKeepsValid}
use Rattle.heap_roots.specs.FieldNodes.{holders_same}
use Rattle.heap_roots.specs.WeakHolders.{StayHolders}
use Rattle.heap_roots.specs.Sweeping.{cursor_at}
use Rattle.heap_roots.specs.Marks.{HasMarking, HasMarks}
use Rattle.heap_roots.specs.Objects.{ObjectsView, HaveCallbacks, setup_of_objects, StaysAt}
use Rattle.heap_cycle.specs.declared.parts.Parts.{Parts}
use Rattle.heap_cycle.specs.Changes.{begun_from}
use Rattle.heap_cycle.specs.Parts.{setup_of, state_of, IsReady}
use Rattle.heap_cycle.specs.Ties.{tied_nodes}
use Rattle.heap_cycle.specs.Views.{CycleView, IsSweepOf}
use Rattle.heap_cycle.proofs.SweepSteps.{uncounted}

pub on_false : (b : Bool) (P Q : Type 0) → b ≡ false → Q → MatchBool b P Q
on_false b P Q is q = subst (λ x. MatchBool x P Q) (sym is) q

pub on_true : (b : Bool) (P Q : Type 0) → b ≡ true → P → MatchBool b P Q
on_true b P Q is p = subst (λ x. MatchBool x P Q) (sym is) p

pub starts : (setup : Setup) (s : State) → IsStart setup s (owner_entry s O.Start ∷ []) (marking (took s (owner_entry s O.Start ∷ [])))
starts setup s = record { before = []; others = λ k d low. absurd (omega arith); piece_is = refl; legal = (refl, tt, tt); after = refl }

-- where marking doesn't go on, gc start ends the open sweep and starts
pub step_started : (setup : Setup) (s t started new : State) (numbers : List ℕ) (piece : List Entry) (lines : List Line) → is_marking s.phase ≡ false
    → SweepsToEnd setup.shape s numbers t → IsStart setup t piece started → lines ≡ finalise_lines numbers ++ L.Started ∷ [] → new ≡ answered started
    → StepGcStart setup s piece lines new
step_started setup s t started new numbers piece lines calm ended start printed after =
    on_false (is_marking s.phase) ((piece ≡ []) × IsRefused R.Phase s lines new) (WantsMemory s piece lines new ⊎ IsBegun setup s piece lines new) calm
    (inr (record {
      numbers = numbers;
      swept = t;
      ended = ended;
      started = started;
      start = start;
      lines_are = printed;
      after = after;
    }))

-- an idle heap has no sweep to end
ends_at_once : (setup : Setup) (s : State) → s.phase ≡ Idle → SweepsToEnd setup.shape s [] s
ends_at_once setup s idle = subst (λ ph. SweepsInPhase ph setup.shape s setup.shape.pages [] s) (sym idle) (refl, refl)

-- what is to be printed has no part in validity
pub unprinted_apart : (setup : Setup) (s : State) (es : List Entry) → IsValid setup (record s { unprinted = es }) → IsValid setup s
unprinted_apart setup s es valid = record {
  typed = valid.typed;
  named = valid.named;
  apart = valid.apart;
  within = valid.within;
  pure = valid.pure;
  slots = valid.slots;
  weak = valid.weak;
  stack = valid.stack;
  region = valid.region;
  registered = valid.registered;
  settled = valid.settled;
  may_kept = same_may s.phase valid.may_kept;
} where
  same_may : (phase : Phase) → HasMay phase (record s { unprinted = es }) → HasMay phase s
  same_may Idle may = tt
  same_may Marking may = record { closed = may.closed; roots = may.roots; live = may.live; whole = may.whole }
  same_may Sweeping may = tt

valid_started : (setup : Setup) (s : State) → StepKeepsValid → IsShape setup.shape → IsValid setup s → s.phase ≡ Idle → IsValid setup (marking s)
valid_started setup s law shape valid idle =
    let piece : List Entry = owner_entry s O.Start ∷ [] in
    let begun : State = marking (took s piece) in
    unprinted_apart setup (marking s) (s.unprinted ++ piece)
    (uncounted setup begun
    (law setup s (answered begun) C.GcStart piece (L.Started ∷ []) (omega (arith, shape.some)) tt valid
    (step_started setup s s begun (answered begun) [] piece (L.Started ∷ []) (ap is_marking idle) (ends_at_once setup s idle) (starts setup s) refl refl)))

-- from idle parts to those after marking has begun
pub record Begins (s : Parts) (new : ObjectsView) (after : CycleView) : Type 0 where
  pub ready : IsReady s
  pub idle : s.cycle.phase ≡ Idle
  pub nodes : new.nodes ≡ s.objects.nodes
  pub setup : setup_of_objects new ≡ setup_of s
  pub marks : HasMarking (Reach (graph_of s.objects.nodes) (roots_of (state_of s))) new
  pub traced : new.grey.traced ≡ 0
  pub cycle : after ≡ record s.cycle { phase = Marking; rest = begun_from (state_of s) }

module _ (s : Parts) (new : ObjectsView) (after : CycleView) (is : Begins s new after) where
  abbrev begun : Parts
  begun = record s { objects = new; cycle = after }

  pub begun_state : state_of begun ≡ marking (state_of s)
  begun_state =
      ap (λ (c : CycleView). state_of (record s { objects = new; cycle = c })) is.cycle
      ∙ ap (λ (ns : List Node). record (marking (state_of s)) { nodes = ns }) is.nodes

  begun_marks : HasMarks after.phase (cursor_at new.shape after.sweep) after.rest.may new
  begun_marks =
      subst (λ (c : CycleView). HasMarks c.phase (cursor_at new.shape c.sweep) c.rest.may new) (sym is.cycle) is.marks

  begun_sweep : IsSweepOf new.shape after.phase after.rest.cursor after.sweep
  begun_sweep =
      let tied : IsSweepOf s.objects.shape Idle s.cycle.rest.cursor s.cycle.sweep =
      subst (λ ph. IsSweepOf s.objects.shape ph s.cycle.rest.cursor s.cycle.sweep) is.idle is.ready.tied.sweep in
      let marking : IsSweepOf s.objects.shape Marking s.cycle.rest.cursor s.cycle.sweep = record { pages = tied.pages; cursor_is = tied.cursor_is } in
      subst (λ (c : CycleView). IsSweepOf new.shape c.phase c.rest.cursor c.sweep) (sym is.cycle)
      (subst (λ (st : Setup). IsSweepOf st.shape Marking s.cycle.rest.cursor s.cycle.sweep) (sym is.setup) marking)

  pub begun_ready : StepKeepsValid → IsShape s.objects.shape → IsReady begun
  begun_ready law shape =
      let ordinal : after.rest.ordinal ≡ s.cycle.rest.ordinal = ap (λ (c : CycleView). c.rest.ordinal) is.cycle in
      record {
        valid = subst (λ (st : Setup). IsValid st (state_of begun)) (sym is.setup)
            (subst (IsValid (setup_of s)) (sym begun_state) (valid_started (setup_of s) (state_of s) law shape is.ready.valid is.idle));
        called = subst (λ (st : Setup). HaveCallbacks (length st.callbacks) st.types) (sym is.setup) is.ready.called;
        tied = tied_nodes s new after is.ready.tied
            (λ n. subst (λ (ns : List Node). StaysAt s.objects.nodes ns n) (sym is.nodes) (refl, refl)) is.setup
            (ap (λ (c : CycleView). c.registered) is.cycle)
            (subst (StayHolders s.objects.nodes) (sym is.nodes) (holders_same s.objects.nodes)) (ap (λ (c : CycleView). c.weakly) is.cycle)
            begun_sweep begun_marks (is.traced ∙ sym (ap (λ (c : CycleView). c.rest.traced) is.cycle))
            (omega (arith, is.ready.tied.made, ordinal, ap length is.nodes));
      }

-- ---- the start after what threads have done

-- they have made their entries before the start entry
pub starts_after : (setup : Setup) (swept new : State) (es piece : List Entry) → AreOthers swept es → IsLegalFrom swept.region false es
    → piece ≡ es ++ owner_entry (took swept es) O.Start ∷ [] → new ≡ marking (took swept piece) → IsStart setup swept piece new
starts_after setup swept new es piece others legal whole after = record {
  before = es;
  others = others;
  piece_is = whole;
  legal = subst (IsLegalFrom swept.region false) (sym whole)
      (legal-append swept.region false es (owner_entry (took swept es) O.Start ∷ []) legal (refl, tt, tt));
  after = after;
}
