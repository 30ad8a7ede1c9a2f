-- Each step's piece of the history is legal, and the region's slots follow it.
use Rattle.std.proofs.Common.{◌≡◌, ℕ, Bool, true, false, true≢false, List, [], refl, sym, ap, ◌∙◌, subst, inl, inr}
use Rattle.gc_graph.specs.declared.command.Command.{Command}
use Rattle.gc_graph.specs.declared.command.Command.TheVariants as C
use Rattle.gc_graph.specs.declared.command.Want.{Want}
use Rattle.gc_graph.specs.declared.line.Line.{Line}
use Rattle.gc_graph.specs.declared.line.Refusal.{Refusal}
use Rattle.gc_graph.specs.declared.line.Refusal.TheVariants as R
use Rattle.gc_graph.specs.declared.region.Entry.{Entry}
use Rattle.gc_graph.specs.declared.region.Op.{Op}
use Rattle.gc_graph.specs.declared.region.Op.TheVariants as O
use Rattle.std.specs.Bool.{MatchBool}
use Rattle.gc_graph.specs.State.{Setup, State}
use Rattle.gc_graph.specs.Sweep.{SweepsTo}
use Rattle.gc_graph.specs.History.{IsLegalFrom, replayed, started_after, started_through}
use Rattle.gc_graph.specs.Outcomes.{answered, IsRefused, IsMemory, took, slot_at}
use Rattle.gc_graph.specs.CycleSteps.{is_marking, is_stack_refused, IsStart, IsBegun, StepGcStart, IsPause, StepGcFinish, IsCollection, StepGcNow}
use Rattle.gc_graph.specs.RegionSteps.{TakesOwn, StepExport, StepImport, StepThreadsJoin}
use Rattle.gc_graph.specs.Step.{Step}
use Rattle.gc_graph.proofs.ValidRegion.{took_own}
use Rattle.gc_graph.proofs.StepCases.{match_option, match_bool}
use Rattle.gc_graph.specs.Families.{StaysInFamily}
use Rattle.gc_graph.specs.Commands.{Family, family_of}
use Rattle.gc_graph.specs.Commands.Family.{Objects, Fields, Pairs, Slots, Stack, Sweeps}
use Rattle.gc_graph.specs.FamilyLines.{takes_none}
use Rattle.gc_graph.proofs.FamilyFrames.{steps_stay_in_their_family}
use Rattle.gc_graph.specs.HistoryLaw.{Follows, StepsFollow}
use Rattle.gc_graph.proofs.HistoryLaws.{quiet, follows-append, owned, took-region, took-phase, others_start_nothing, sweep_follows}

-- the new state is one with the same slots and phase
from_state : (old new x : State) (piece : List Entry) → piece ≡ [] → new ≡ x → x.region ≡ old.region → x.phase ≡ old.phase → Follows old piece new
from_state old new x piece p e r f =
    quiet old new piece p (ap (λ (s : State). s.region) e ∙ r) (ap (λ (s : State). is_marking s.phase) e ∙ ap is_marking f)

refused_follows : (old new : State) (piece : List Entry) (lines : List Line) (why : Refusal) → piece ≡ [] → IsRefused why old lines new → Follows old piece new
refused_follows old new piece lines why p h = from_state old new (answered old) piece p h.1 refl refl

memory_follows : (old new : State) (piece : List Entry) (lines : List Line) → piece ≡ [] → IsMemory old lines new → Follows old piece new
memory_follows old new piece lines p h = from_state old new (answered old) piece p h.1 refl refl

sweeps : (setup : Setup) (old mid : State) (pages : ℕ) (numbers : List ℕ) → SweepsTo setup.shape old pages numbers mid
    → (mid.region ≡ old.region) × (is_marking mid.phase ≡ is_marking old.phase)
sweeps setup old mid pages numbers h =
    let both = sweep_follows old.phase setup.shape old pages numbers mid h in
    (both.0, both.1 refl)

-- a command of a family that takes nothing of the history
family_follows : (family : Family) (old : State) (piece : List Entry) (lines : List Line) (new : State) → takes_none family ≡ true
    → StaysInFamily family old piece lines new → Follows old piece new
family_follows Objects old piece lines new none h = quiet old new piece h.takes (ap (λ (s : State). s.region) h.rest.1) h.rest.0
family_follows Fields old piece lines new none h = from_state old new _ piece h.takes h.rest refl refl
family_follows Pairs old piece lines new none h = from_state old new _ piece h.takes h.rest refl refl
family_follows Slots old piece lines new none h = from_state old new _ piece h.takes h.rest refl refl
family_follows Stack old piece lines new none h = from_state old new _ piece h.takes h.rest refl refl
family_follows Sweeps old piece lines new none h = quiet old new piece h.takes (ap (λ (s : State). s.region) h.rest.1) h.rest.0
family_follows family old piece lines new none h = absurd (true≢false (sym none))

-- ---- the cycle

start_follows : (setup : Setup) (old swept new : State) (numbers : List ℕ) (piece : List Entry) → is_marking old.phase ≡ false
    → SweepsTo setup.shape old setup.shape.pages numbers swept → IsStart setup swept piece new → Follows old piece new
start_follows setup old swept new numbers piece off ended start =
    let s = sweeps setup old swept setup.shape.pages numbers ended in record {
      legal = subst (λ r. IsLegalFrom r (is_marking old.phase) piece) s.0 (subst (λ b. IsLegalFrom swept.region b piece) (sym off) start.legal);
      slots = ap (λ (s : State). s.region) start.after ∙ took-region swept piece ∙ ap (λ r. replayed r piece) s.0;
      started =
          ap (λ (s : State). is_marking s.phase) start.after
          ∙ sym (ap (started_through (is_marking old.phase)) start.piece_is ∙ owned swept (is_marking old.phase) start.before _ start.others);
    }

pause_follows : (setup : Setup) (markers : ℕ) (want : Want) (old new : State) (piece : List Entry) (lines : List Line) → is_marking old.phase ≡ true
    → IsPause setup markers want old piece lines new → Follows old piece new
pause_follows setup markers want old new piece lines on pause = record {
  legal = subst (λ b. IsLegalFrom old.region b piece) (sym on) pause.legal;
  slots =
      ap (λ (s : State). s.region) pause.done.after
      ∙ sym (ap (λ (s : State). s.region) (took_own old pause.before piece _ pause.piece_is)) ∙ took-region old piece;
  started =
      ap (λ (s : State). is_marking s.phase) pause.done.after
      ∙ sym (ap (started_through (is_marking old.phase)) pause.piece_is ∙ owned old (is_marking old.phase) pause.before _ pause.others);
}

answered_follows : (old mid new : State) (piece : List Entry) → new ≡ answered mid → Follows old piece mid → Follows old piece new
answered_follows old mid new piece e f = record {
  legal = f.legal;
  slots = ap (λ (s : State). s.region) e ∙ f.slots;
  started = ap (λ (s : State). is_marking s.phase) e ∙ f.started;
}

begun_follows : (setup : Setup) (old new : State) (piece : List Entry) (lines : List Line) → is_marking old.phase ≡ false → IsBegun setup old piece lines new
    → Follows old piece new
begun_follows setup old new piece lines off b =
    answered_follows old b.started new piece b.after (start_follows setup old b.swept b.started b.numbers piece off b.ended b.start)

collection_follows : (setup : Setup) (want : Want) (old new : State) (piece : List Entry) (lines : List Line) → is_marking old.phase ≡ false
    → IsCollection setup want old piece lines new → Follows old piece new
collection_follows setup want old new piece lines off c =
    let first : Follows old c.first c.started = start_follows setup old c.swept c.started c.numbers c.first off c.ended c.start in
    let on : is_marking c.started.phase ≡ true = ap (λ (s : State). is_marking s.phase) c.start.after in
    let second : Follows c.started c.second c.paused = pause_follows setup 0 want c.started c.paused c.second c.pause_lines on c.pause in
    answered_follows old c.paused new piece c.after
    (subst (λ es. Follows old es c.paused) (sym c.piece_is) (follows-append old c.started c.paused c.first c.second first second))

-- a test and what follows from either answer
by_test : (b : Bool) (A B Q : Type 0) → ((b ≡ true) → A → Q) → ((b ≡ false) → B → Q) → MatchBool b A B → Q
by_test true A B Q holds fails m = holds refl m
by_test false A B Q holds fails m = fails refl m

gc_start_follows : (setup : Setup) (old new : State) (piece : List Entry) (lines : List Line) → StepGcStart setup old piece lines new → Follows old piece new
gc_start_follows setup old new piece lines h =
    by_test (is_marking old.phase) _ _ _ (λ on r. refused_follows old new piece lines R.Phase r.0 r.1)
    (λ off rest. elim rest [
      | inl memory ↦ memory_follows old new piece lines memory.0 memory.1
      | inr begun ↦ begun_follows setup old new piece lines off begun
    ]) h

gc_finish_follows : (setup : Setup) (want : Want) (old new : State) (piece : List Entry) (lines : List Line) → StepGcFinish setup want old piece lines new
    → Follows old piece new
gc_finish_follows setup want old new piece lines h =
    by_test (is_marking old.phase) _ _ _
    (λ on rest. match_bool (is_stack_refused want old.stack) _ _ _ (λ r. refused_follows old new piece lines R.Stack r.0 r.1)
    (λ f. answered_follows old f.0 new piece f.2 (pause_follows setup setup.markers want old f.0 piece lines on f.1)) rest)
    (λ off r. refused_follows old new piece lines R.Phase r.0 r.1) h

gc_now_follows : (setup : Setup) (want : Want) (old new : State) (piece : List Entry) (lines : List Line) → StepGcNow setup want old piece lines new
    → Follows old piece new
gc_now_follows setup want old new piece lines h =
    by_test (is_marking old.phase) _ _ _ (λ on r. refused_follows old new piece lines R.Phase r.0 r.1)
    (λ off rest. match_bool (is_stack_refused want old.stack) _ _ _ (λ r. refused_follows old new piece lines R.Stack r.0 r.1)
    (λ more. elim more [
      | inl memory ↦ memory_follows old new piece lines memory.0 memory.1
      | inr c ↦ collection_follows setup want old new piece lines off c
    ]) rest) h

-- ---- the region

own_follows : (old new : State) (op : Op) (piece before : List Entry) → TakesOwn old op piece before → started_after (is_marking old.phase) op ≡ is_marking old.phase
    → new.region ≡ (took old piece).region → new.phase ≡ (took old piece).phase → Follows old piece new
own_follows old new op piece before takes still r p = record {
  legal = takes.legal;
  slots = r ∙ took-region old piece;
  started =
      ap is_marking (p ∙ took-phase old piece)
      ∙ sym (ap (started_through (is_marking old.phase)) takes.piece_is ∙ owned old (is_marking old.phase) before _ takes.others ∙ still);
}

export_follows : (old new : State) (p x : ℕ) (piece : List Entry) (lines : List Line) → StepExport old p x piece lines new → Follows old piece new
export_follows old new p x piece lines h =
    match_option (slot_at old p) _ _ _ (λ r. refused_follows old new piece lines R.Null r.0 r.1)
    (λ n done. elim done [
      | inl memory ↦ memory_follows old new piece lines memory.0 memory.1
      | inr e ↦ own_follows old new (O.Export x n) piece e.before e.takes refl (ap (λ (s : State). s.region) e.after) (ap (λ (s : State). s.phase) e.after)
    ]) h

import_follows : (old new : State) (x p : ℕ) (piece : List Entry) (lines : List Line) → StepImport old x p piece lines new → Follows old piece new
import_follows old new x p piece lines h = elim h [
  | inl memory ↦ memory_follows old new piece lines memory.0 memory.1
  | inr i ↦ own_follows old new (O.Import x) piece i.before i.takes refl (ap (λ (s : State). s.region) i.after) (ap (λ (s : State). s.phase) i.after)
]

join_follows : (old new : State) (piece : List Entry) (lines : List Line) → StepThreadsJoin old piece lines new → Follows old piece new
join_follows old new piece lines h = record {
  legal = h.legal;
  slots = ap (λ (s : State). s.region) h.after ∙ took-region old piece;
  started =
      ap (λ (s : State). is_marking s.phase) h.after ∙ ap is_marking (took-phase old piece)
      ∙ sym (others_start_nothing old (is_marking old.phase) piece h.others);
}

-- ---- every command

pub step_follows : (setup : Setup) (old new : State) (command : Command) (piece : List Entry) (lines : List Line) → Step setup old command piece lines new
    → Follows old piece new
step_follows setup old new C.GcStart piece lines h = gc_start_follows setup old new piece lines h
step_follows setup old new (C.GcStep n) piece lines h =
    match_bool (is_marking old.phase) _ _ _ (λ t. from_state old new _ piece h.0 t.after refl refl) (refused_follows old new piece lines R.Phase h.0) h.1
step_follows setup old new (C.GcFinish want) piece lines h = gc_finish_follows setup want old new piece lines h
step_follows setup old new (C.GcNow want) piece lines h = gc_now_follows setup want old new piece lines h
step_follows setup old new (C.Export p x) piece lines h = export_follows old new p x piece lines h
step_follows setup old new (C.Import x p) piece lines h = import_follows old new x p piece lines h
step_follows setup old new (C.At j order) piece lines h =
    elim h.1 [ inl memory ↦ memory_follows old new piece lines h.0 memory | inr d ↦ from_state old new _ piece h.0 d.1 refl refl ]
step_follows setup old new C.ThreadsGo piece lines h =
    elim h.1 [ inl d ↦ from_state old new _ piece h.0 d.1 refl refl | inr d ↦ from_state old new _ piece h.0 d.1 refl refl ]
step_follows setup old new C.ThreadsJoin piece lines h = join_follows old new piece lines h
step_follows setup old new command piece lines h =
    family_follows (family_of command) old piece lines new refl (steps_stay_in_their_family setup old command piece lines new h)

pub steps_follow : StepsFollow
steps_follow setup old command piece lines new h = step_follows setup old new command piece lines h
