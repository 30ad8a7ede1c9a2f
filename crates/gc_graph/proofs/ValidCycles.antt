-- The commands of the collection cycle keep a state sound.
use Rattle.std.proofs.Common.{◌≡◌, ℕ, ◌+◌, ◌<◌, Bool, false, List, ◌++◌, length, All, refl, ap, ◌∙◌, subst, inl, inr, arith}
use Rattle.std.proofs.lemmas.List.{length-map}
use Rattle.gc_graph.specs.declared.command.Want.{Want}
use Rattle.gc_graph.specs.declared.line.Line.{Line}
use Rattle.gc_graph.specs.declared.line.Refusal.TheVariants as R
use Rattle.gc_graph.specs.declared.phase.Phase.TheVariants.{Idle, Marking}
use Rattle.gc_graph.specs.declared.region.Entry.{Entry}
use Rattle.gc_graph.specs.declared.region.Op.TheVariants as O
use Rattle.gc_graph.specs.Graph.{IsIn}
use Rattle.gc_graph.specs.Reach.{Reach, AreNodes, IsLeastClosed}
use Rattle.gc_graph.specs.State.{Setup, State, Node, RegionSlot, IsLive, graph_of, roots_of, slot_targets, stack_targets, strong_region_targets}
use Rattle.gc_graph.specs.State.RegionSlot.{Vacant, StrongTo, WeakTo}
use Rattle.gc_graph.specs.May.{marking}
use Rattle.gc_graph.specs.Pause.{condemn}
use Rattle.gc_graph.specs.Paused.{paused}
use Rattle.gc_graph.specs.Sweep.{SweepsTo}
use Rattle.gc_graph.specs.Valid.{IsSettled}
use Rattle.gc_graph.specs.Outcomes.{answered, took, with_entry, owner_entry}
use Rattle.gc_graph.specs.CycleSteps.{IsStart, IsBegun, is_marking, is_stack_refused, WantsMemory, StepGcStart, StepGcStep, IsPause, StepGcFinish, IsCollection, StepGcNow, StepStat}
use Rattle.gc_graph.specs.ReachLength.{reach_length}
use Rattle.gc_graph.proofs.Reaching.{reach_law}
use Rattle.gc_graph.proofs.Follows.{follow_from}
use Rattle.gc_graph.proofs.Sound.{RegionNames, slots_from, words_from, found, held_to, all_left, all_right, kinds_at, IsRoot, IsSound}
use Rattle.gc_graph.proofs.WeakReads.{refers_within, reached_live}
use Rattle.gc_graph.specs.NodeNumbers.{live_below}
use Rattle.gc_graph.proofs.ValidCases.{bool_is, landed, refused_sound}
use Rattle.gc_graph.proofs.ValidHandles.{Root}
use Rattle.gc_graph.proofs.ValidRegion.{entry_sound, others_sound, took_own, took_phase}
use Rattle.gc_graph.proofs.ValidPause.{roots_live, slot_both, word_both, strong_from, Anyone, pause_sound}
use Rattle.gc_graph.proofs.ValidSweeps.{sweeps_sound, ended_phase}

-- ---- the start

region_both : (P Q R S : ℕ → Type 0) → ((n : ℕ) → P n → R n → S n) → (slot : RegionSlot) → RegionNames P Q slot → RegionNames R Anyone slot → RegionNames S Q slot
region_both P Q R S f Vacant h k = tt
region_both P Q R S f (StrongTo n) h k = f n h k
region_both P Q R S f (WeakTo n) h k = h

module _ (setup : Setup) (s : State) (g : IsSound setup s) where
  abbrev Reached : List Bool
  Reached = Reach (graph_of s.nodes) (roots_of s)

  reached_law : IsLeastClosed (graph_of s.nodes) (roots_of s) Reached
  reached_law =
      let long : length (graph_of s.nodes) ≡ length s.nodes = length-map s.nodes (λ (x : Node). x.object) in
      let are : AreNodes (graph_of s.nodes) (roots_of s) =
      found (λ k. k < length (graph_of s.nodes)) (roots_of s)
      (λ k d l. let b = live_below s.nodes _ (roots_live setup s g k d l) in omega arith) in
      reach_law (graph_of s.nodes) (roots_of s) (refers_within setup s.nodes g.heap.typed) are

  abbrev After : ℕ → Type 0
  After n = IsRoot s.nodes Marking Reached n

  root_reached : (n : ℕ) → Root s n → IsIn Reached n → After n
  root_reached n r i = record { live = r.live; in_may = i }

  roots_reached : All (IsIn Reached) (roots_of s)
  roots_reached = held_to Reached (roots_of s) reached_law.roots_in

  front_reached : All (IsIn Reached) (slot_targets s.slots ++ stack_targets s.stack)
  front_reached = all_left (IsIn Reached) (slot_targets s.slots ++ stack_targets s.stack) (strong_region_targets s.region) roots_reached

  pub marking_sound : s.phase ≡ Idle → IsSound setup (marking s)
  marking_sound idle = record {
    heap = g.heap;
    slots = λ k d l.
        slot_both (Root s) (IsIn Reached) After root_reached _ (g.slots k d l)
        (slots_from (IsIn Reached) s.slots (all_left (IsIn Reached) (slot_targets s.slots) (stack_targets s.stack) front_reached) k d l);
    weak = g.weak;
    stack = λ k d l.
        word_both (Root s) (IsIn Reached) After root_reached _ (g.stack k d l)
        (words_from (IsIn Reached) s.stack (all_right (IsIn Reached) (slot_targets s.slots) (stack_targets s.stack) front_reached) k d l);
    region = λ k d l.
        region_both (Root s) (IsLive s.nodes) (IsIn Reached) After root_reached _ (g.region k d l)
        (strong_from (IsIn Reached) s.region
        (all_right (IsIn Reached) (slot_targets s.slots ++ stack_targets s.stack) (strong_region_targets s.region) roots_reached) k d l);
    registered = g.registered;
    settled = subst (λ phase. IsSettled setup.shape phase s.cursor s.nodes) idle g.settled;
    may = record {
      follows = follow_from s.nodes Reached (λ m. (length s.nodes, kinds_at setup s.nodes g.heap.typed m)) reached_law.closed;
      live = reached_live setup s.nodes (roots_of s) g.heap reached_law (roots_live setup s g);
      whole = reach_length (graph_of s.nodes) (roots_of s) ∙ length-map s.nodes (λ (x : Node). x.object);
    };
  }

pub start_sound : (setup : Setup) (swept new : State) (piece : List Entry) → IsSound setup swept → swept.phase ≡ Idle → IsStart setup swept piece new → IsSound setup new
start_sound setup swept new piece g idle h =
    let mid : State = took swept h.before in
    let sound : IsSound setup mid = others_sound setup swept h.before h.others g in
    landed setup new (marking (with_entry mid (owner_entry mid O.Start)))
    (h.after ∙ ap marking (took_own swept h.before piece O.Start h.piece_is))
    (marking_sound setup (with_entry mid (owner_entry mid O.Start)) (entry_sound setup mid (owner_entry mid O.Start) sound tt) (took_phase swept h.before ∙ idle))

memory_keeps : (setup : Setup) (old new : State) (piece : List Entry) (lines : List Line) → IsSound setup old → WantsMemory old piece lines new → IsSound setup new
memory_keeps setup old new piece lines g h = landed setup new (answered old) h.1.1 g

pub ended_sound : (setup : Setup) (old swept : State) (numbers : List ℕ) → IsSound setup old → SweepsTo setup.shape old setup.shape.pages numbers swept → IsSound setup swept
ended_sound setup old swept numbers g h = sweeps_sound setup old swept old.phase setup.shape.pages numbers g (omega arith) h

begun_sound : (setup : Setup) (old new : State) (piece : List Entry) (lines : List Line) → is_marking old.phase ≡ false → IsSound setup old
    → IsBegun setup old piece lines new → IsSound setup new
begun_sound setup old new piece lines e g h =
    landed setup new (answered h.started) h.after
    (start_sound setup h.swept h.started piece (ended_sound setup old h.swept h.numbers g h.ended)
    (ended_phase setup.shape old h.swept old.phase h.numbers refl e h.ended) h.start)

pub gc_start_keeps : (setup : Setup) (old new : State) (piece : List Entry) (lines : List Line) → IsSound setup old → StepGcStart setup old piece lines new → IsSound setup new
gc_start_keeps setup old new piece lines g h =
    bool_is (is_marking old.phase) _ _ (IsSound setup new) (λ e r. refused_sound setup old new lines R.Phase g r.1)
    (λ e d. elim d [ inl memory ↦ memory_keeps setup old new piece lines g memory | inr begun ↦ begun_sound setup old new piece lines e g begun ]) h

-- ---- a step, and a count

pub gc_step_keeps : (setup : Setup) (old new : State) (n : ℕ) (lines : List Line) → IsSound setup old → StepGcStep old n lines new → IsSound setup new
gc_step_keeps setup old new n lines g h =
    bool_is (is_marking old.phase) _ _ (IsSound setup new)
    (λ e d. landed setup new (answered (record old { traced = old.traced + d.count })) d.after g)
    (λ e r. refused_sound setup old new lines R.Phase g r) h

pub stat_keeps : (setup : Setup) (old new : State) (lines : List Line) → IsSound setup old → StepStat setup old lines new → IsSound setup new
stat_keeps setup old new lines g h = landed setup new (answered old) h.3 g

-- ---- the pause

pause_keeps : (setup : Setup) (markers : ℕ) (want : Want) (old new : State) (piece : List Entry) (lines : List Line) → 0 < setup.shape.pages → IsSound setup old
    → IsPause setup markers want old piece lines new → IsSound setup new
pause_keeps setup markers want old new piece lines pages g h =
    let mid : State = took old h.before in
    let sound : IsSound setup mid = others_sound setup old h.before h.others g in
    landed setup new (paused setup mid (condemn h.kept mid.nodes)) h.done.after (pause_sound setup mid want h.kept sound h.done.keeps pages)

pub gc_finish_keeps : (setup : Setup) (want : Want) (old new : State) (piece : List Entry) (lines : List Line) → 0 < setup.shape.pages → IsSound setup old
    → StepGcFinish setup want old piece lines new → IsSound setup new
gc_finish_keeps setup want old new piece lines pages g h =
    bool_is (is_marking old.phase) _ _ (IsSound setup new)
    (λ e d. bool_is (is_stack_refused want old.stack) _ _ (IsSound setup new) (λ e r. refused_sound setup old new lines R.Stack g r.1)
    (λ e f. landed setup new (answered f.0) f.2 (pause_keeps setup setup.markers want old f.0 piece lines pages g f.1)) d)
    (λ e r. refused_sound setup old new lines R.Phase g r.1) h

-- what a collection starts with is sound
pub collection_begins : (setup : Setup) (want : Want) (old new : State) (piece : List Entry) (lines : List Line) → is_marking old.phase ≡ false → IsSound setup old
    → (h : IsCollection setup want old piece lines new) → IsSound setup h.started
collection_begins setup want old new piece lines e g h =
    start_sound setup h.swept h.started h.first (ended_sound setup old h.swept h.numbers g h.ended)
    (ended_phase setup.shape old h.swept old.phase h.numbers refl e h.ended) h.start

collected_sound : (setup : Setup) (want : Want) (old new : State) (piece : List Entry) (lines : List Line) → 0 < setup.shape.pages → is_marking old.phase ≡ false
    → IsSound setup old → IsCollection setup want old piece lines new → IsSound setup new
collected_sound setup want old new piece lines pages e g h =
    landed setup new (answered h.paused) h.after
    (pause_keeps setup 0 want h.started h.paused h.second h.pause_lines pages (collection_begins setup want old new piece lines e g h) h.pause)

pub gc_now_keeps : (setup : Setup) (want : Want) (old new : State) (piece : List Entry) (lines : List Line) → 0 < setup.shape.pages → IsSound setup old
    → StepGcNow setup want old piece lines new → IsSound setup new
gc_now_keeps setup want old new piece lines pages g h =
    bool_is (is_marking old.phase) _ _ (IsSound setup new) (λ e r. refused_sound setup old new lines R.Phase g r.1)
    (λ e d. bool_is (is_stack_refused want old.stack) _ _ (IsSound setup new) (λ _ r. refused_sound setup old new lines R.Stack g r.1)
    (λ _ c. elim c [
      | inl memory ↦ memory_keeps setup old new piece lines g memory
      | inr done ↦ collected_sound setup want old new piece lines pages e g done
    ]) d) h
