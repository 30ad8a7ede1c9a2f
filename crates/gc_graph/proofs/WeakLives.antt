-- What slots name is live, and a weak slot goes on to tell whether its node lives.
use Rattle.std.proofs.Common.{◌≡◌, ℕ, zero, suc, ◌*◌, ◌<◌, ◌≤◌, nat_lt, Bool, true, false, List, [], ◌∷◌, ◌++◌, length, map, get_or, Option, Some, None, refl, sym, ap, ◌∙◌, subst, inl, inr, arith, if◌then◌else◌}
use Rattle.std.proofs.lemmas.Bool.{cond_both}
use Rattle.std.proofs.lemmas.List.{get_or_append_left, length_push}
use Rattle.gc_graph.specs.declared.command.Command.TheVariants as C
use Rattle.gc_graph.specs.declared.command.Want.{Want}
use Rattle.gc_graph.specs.declared.line.Line.{Line}
use Rattle.gc_graph.specs.declared.phase.Phase.{Phase}
use Rattle.gc_graph.specs.declared.phase.Phase.TheVariants.{Idle, Marking, Sweeping}
use Rattle.gc_graph.specs.declared.region.Entry.{Entry}
use Rattle.gc_graph.specs.State.{Setup, Shape, State, Node, Life, no_node, node_at, is_live, is_dead, IsLive}
use Rattle.gc_graph.specs.State.Life.{Live, Dead, Gone}
use Rattle.gc_graph.specs.Fields.{new_node}
use Rattle.gc_graph.specs.Graph.{has}
use Rattle.gc_graph.specs.Sweep.{buried, finalise, SweepsInPhase, SweepsTo}
use Rattle.gc_graph.specs.Pause.{judged, condemn, clear_slot, is_dead_at}
use Rattle.gc_graph.specs.Condemning.{length-condemn}
use Rattle.gc_graph.specs.FinalisedNodes.{finalised_at}
use Rattle.gc_graph.specs.Outcomes.{answered, slot_at, weak_slot_at, took}
use Rattle.gc_graph.specs.ObjectSteps.{StepNew}
use Rattle.gc_graph.specs.CycleSteps.{is_marking, is_sweeping, is_stack_refused, IsPause, StepGcStart, StepGcStep, StepGcFinish, StepGcNow, StepSweepTo, IsCollection}
use Rattle.gc_graph.specs.FrameLaw.{IsSameCycle, LeavesRest}
use Rattle.gc_graph.specs.HandleLaw.{SlotsNameTheLive, TellsLife, WeakSlotsTellLives}
use Rattle.gc_graph.proofs.StepCases.{match_bool, match_option}
use Rattle.gc_graph.proofs.ValidCases.{bool_is}
use Rattle.gc_graph.proofs.Sound.{IsSound, SlotNames, sound_from}
use Rattle.gc_graph.proofs.StepFrames.{Keeps, keeps_sweep, keeps_took, keeps_start}
use Rattle.gc_graph.proofs.FrameLaws.{steps_leave_rest}
use Rattle.gc_graph.proofs.NodeWrites.{LookSame}
use Rattle.gc_graph.proofs.Condemned.{condemned_at}
use Rattle.gc_graph.proofs.Collections.{paused_look}
use Rattle.gc_graph.proofs.ValidHandles.{slot_names}
use Rattle.gc_graph.proofs.ValidRegion.{took_nodes}
use Rattle.gc_graph.proofs.ValidSweeps.{sweeps_sound, ended_phase}
use Rattle.gc_graph.proofs.ValidCycles.{start_sound}

-- ---- what slots name

some_named : (P : ℕ → Type 0) (content : Option ℕ) (n : ℕ) → content ≡ Some n → SlotNames P content → P n
some_named P content n is h = let here : SlotNames P (Some n) = subst (SlotNames P) is h in here

pub slots_name_the_live : SlotsNameTheLive
slots_name_the_live setup s z n valid =
    let sound : IsSound setup s = sound_from setup s valid in (
      λ is. (some_named _ (slot_at s z) n is (slot_names _ s.slots z sound.slots)).live,
      λ is. some_named (IsLive s.nodes) (weak_slot_at s z) n is (slot_names (IsLive s.nodes) s.weak z sound.weak),
    )

-- ---- a step without a pause

-- each node is live that was, and no other that was there
record LiveAsBefore (old new : List Node) : Type 0 where
  count : length old ≤ length new
  lives : (n : ℕ) → n < length old → is_live (node_at new n).life ≡ is_live (node_at old n).life

live_to : (old mid new : List Node) → new ≡ mid → LiveAsBefore old mid → LiveAsBefore old new
live_to old mid new e h = subst (LiveAsBefore old) (sym e) h

still_told : (old new : State) (w n : ℕ) → weak_slot_at new w ≡ weak_slot_at old w → LiveAsBefore old.nodes new.nodes → TellsLife old w n → TellsLife new w n
still_told old new w n same lives h = record {
  made = (let count = lives.count in let made = h.made in omega arith);
  names = same ∙ h.names ∙ ap (λ b. if b then Some n else None) (sym (lives.lives n h.made));
}

buried_live : (x : Life) → is_live (buried x) ≡ is_live x
buried_live Live = refl
buried_live Dead = refl
buried_live Gone = refl

finalised_live : (limit : ℕ) (x : Node) → is_live (finalise limit x).life ≡ is_live x.life
finalised_live limit x =
    cond_both (nat_lt x.place limit) (record x { life = buried x.life }) x (λ (y : Node). is_live y.life ≡ is_live x.life) (λ e. buried_live x.life) (λ e. refl)

unmoved_lives : (old new : State) → IsSameCycle old new → LiveAsBefore old.nodes new.nodes
unmoved_lives old new h = record { count = (let same = h.count in omega (arith, same)); lives = λ n l. ap is_live (h.lives n) }

live_same : (nodes : List Node) → LiveAsBefore nodes nodes
live_same nodes = record { count = omega arith; lives = λ n l. refl }

lives_in : (phase : Phase) (shape : Shape) (old new : State) (pages : ℕ) (numbers : List ℕ) → SweepsInPhase phase shape old pages numbers new
    → (n : ℕ) → is_live (node_at new.nodes n).life ≡ is_live (node_at old.nodes n).life
lives_in Idle shape old new pages numbers h n = ap (λ (s : State). is_live (node_at s.nodes n).life) h.1
lives_in Marking shape old new pages numbers h n = ap (λ (s : State). is_live (node_at s.nodes n).life) h.1
lives_in Sweeping shape old new pages numbers h n =
    ap (λ (s : State). is_live (node_at s.nodes n).life) h.after
    ∙ ap (λ (x : Node). is_live x.life) (finalised_at (pages * shape.page_words) old.nodes n)
    ∙ finalised_live (pages * shape.page_words) (node_at old.nodes n)

swept_lives : (shape : Shape) (old new : State) (pages : ℕ) (numbers : List ℕ) → SweepsTo shape old pages numbers new → LiveAsBefore old.nodes new.nodes
swept_lives shape old new pages numbers h = record {
  count = (let same = (keeps_sweep shape old new pages numbers h).count in omega (arith, same));
  lives = λ n l. lives_in old.phase shape old new pages numbers h n;
}

made_lives : (setup : Setup) (old mid : List Node) (t e a : ℕ) → LiveAsBefore old mid → length mid ≡ length old
    → LiveAsBefore old (mid ++ new_node setup t e a ∷ [])
made_lives setup old mid t e a h same = record {
  count = (let more = length_push mid (new_node setup t e a) in omega (arith, more, same));
  lives = λ n l. ap (λ (x : Node). is_live x.life) (get_or_append_left mid (new_node setup t e a ∷ []) no_node n (omega (arith, same))) ∙ h.lives n l;
}

new_lives : (setup : Setup) (old new : State) (p t e : ℕ) (lines : List Line) → StepNew setup old p t e lines new → LiveAsBefore old.nodes new.nodes
new_lives setup old new p t e lines h = elim h [
  | inl memory ↦ live_to old.nodes old.nodes new.nodes (ap (λ (s : State). s.nodes) memory.1.1) (live_same old.nodes)
  | inr made ↦
      (let swept : LiveAsBefore old.nodes made.mid.nodes = swept_lives setup.shape old made.mid made.placed.pages made.numbers made.placed.swept in
      let same : length made.mid.nodes ≡ length old.nodes = (keeps_sweep setup.shape old made.mid made.placed.pages made.numbers made.placed.swept).count in
      match_option made.place _ _ (LiveAsBefore old.nodes new.nodes)
      (λ full. live_to old.nodes made.mid.nodes new.nodes (ap (λ (s : State). s.nodes) full.after) swept)
      (λ a done. live_to old.nodes (made.mid.nodes ++ new_node setup t e a ∷ []) new.nodes (ap (λ (s : State). s.nodes) done.after)
      (made_lives setup old.nodes made.mid.nodes t e a swept same)) made.done)
]

start_lives : (setup : Setup) (old new : State) (piece : List Entry) (lines : List Line) → StepGcStart setup old piece lines new → LiveAsBefore old.nodes new.nodes
start_lives setup old new piece lines h =
    let Q : Type 0 = LiveAsBefore old.nodes new.nodes in
    let same : new ≡ answered old → Q = (λ e. live_to old.nodes old.nodes new.nodes (ap (λ (s : State). s.nodes) e) (live_same old.nodes)) in
    match_bool (is_marking old.phase) _ _ Q (λ r. same r.1.1)
    (λ d. elim d [
      | inl memory ↦ same memory.1.1
      | inr b ↦
          live_to old.nodes b.swept.nodes new.nodes
          (ap (λ (s : State). s.nodes) b.after ∙ ap (λ (s : State). s.nodes) b.start.after ∙ took_nodes b.swept piece)
          (swept_lives setup.shape old b.swept setup.shape.pages b.numbers b.ended)
    ]) h

traced_lives : (old new : State) (n : ℕ) (lines : List Line) → StepGcStep old n lines new → LiveAsBefore old.nodes new.nodes
traced_lives old new n lines h =
    match_bool (is_marking old.phase) _ _ (LiveAsBefore old.nodes new.nodes)
    (λ d. live_to old.nodes old.nodes new.nodes (ap (λ (s : State). s.nodes) d.after) (live_same old.nodes))
    (λ r. live_to old.nodes old.nodes new.nodes (ap (λ (s : State). s.nodes) r.1) (live_same old.nodes)) h

sweep_lives : (setup : Setup) (old new : State) (pages : ℕ) (lines : List Line) → StepSweepTo setup old pages lines new → LiveAsBefore old.nodes new.nodes
sweep_lives setup old new pages lines h =
    match_bool (is_sweeping old.phase) _ _ (LiveAsBefore old.nodes new.nodes)
    (λ d. live_to old.nodes d.swept.nodes new.nodes (ap (λ (s : State). s.nodes) d.after) (swept_lives setup.shape old d.swept pages d.numbers d.goes))
    (λ r. live_to old.nodes old.nodes new.nodes (ap (λ (s : State). s.nodes) r.1) (live_same old.nodes)) h

-- ---- a pause

-- the number as long as the life is that of a live node
abbrev alive : ℕ → Life → Option ℕ
alive n life = if is_live life then Some n else None

cleared_alive : (dead : ℕ → Bool) (n : ℕ) (flag : Bool) (life : Life) → dead n ≡ is_dead (judged flag life)
    → clear_slot dead (alive n life) ≡ alive n (judged flag life)
cleared_alive dead n true Live e = ap (λ b. if b then None else Some n) e
cleared_alive dead n false Live e = ap (λ b. if b then None else Some n) e
cleared_alive dead n true Dead e = refl
cleared_alive dead n false Dead e = refl
cleared_alive dead n true Gone e = refl
cleared_alive dead n false Gone e = refl

cleared_at : (dead : ℕ → Bool) (weak : List (Option ℕ)) (w : ℕ) → get_or (map (clear_slot dead) weak) w None ≡ clear_slot dead (get_or weak w None)
cleared_at dead [] w = refl
cleared_at dead (o ∷ weak) zero = refl
cleared_at dead (o ∷ weak) (suc w) = cleared_at dead weak w

pause_told : (setup : Setup) (markers : ℕ) (want : Want) (old new : State) (piece : List Entry) (lines : List Line) (w n : ℕ) → IsSound setup old
    → IsPause setup markers want old piece lines new → TellsLife old w n → TellsLife new w n
pause_told setup markers want old new piece lines w n sound p h =
    let mid : State = took old p.before in
    let look : LookSame (condemn p.kept old.nodes) new.nodes = paused_look setup markers want old new piece lines sound p in
    let life : Life = (node_at old.nodes n).life in
    let flag : Bool = has p.kept n in
    let judged_life : (node_at (condemn p.kept old.nodes) n).life ≡ judged flag life = ap (λ (x : Node). x.life) (condemned_at p.kept old.nodes n) in
    let after : (node_at new.nodes n).life ≡ judged flag life = (look.like n).life ∙ judged_life in
    let dead : ℕ → Bool = is_dead_at (condemn p.kept mid.nodes) in
    let dies : dead n ≡ is_dead (judged flag life) =
    ap (λ nodes. is_dead_at (condemn p.kept nodes) n) (took_nodes old p.before) ∙ ap is_dead judged_life in
    let weak : weak_slot_at new w ≡ clear_slot dead (weak_slot_at old w) =
    ap (λ (s : State). weak_slot_at s w) p.done.after ∙ cleared_at dead mid.weak w
    ∙ ap (λ ws. clear_slot dead (get_or ws w None)) (keeps_took old p.before).weak in
    record {
      made = (let whole = look.whole in let made = h.made in omega (arith, whole, length-condemn p.kept old.nodes));
      names = weak ∙ ap (clear_slot dead) h.names ∙ cleared_alive dead n flag life dies ∙ ap (alive n) (sym after);
    }

finish_told : (setup : Setup) (want : Want) (old new : State) (piece : List Entry) (lines : List Line) (w n : ℕ) → IsSound setup old
    → StepGcFinish setup want old piece lines new → TellsLife old w n → TellsLife new w n
finish_told setup want old new piece lines w n sound h told =
    let Q : Type 0 = TellsLife new w n in
    let same : new ≡ answered old → Q = (λ e. subst (λ (s : State). TellsLife s w n) (sym e) (record { made = told.made; names = told.names })) in
    match_bool (is_marking old.phase) _ _ Q
    (λ d. match_bool (is_stack_refused want old.stack) _ _ Q (λ r. same r.1.1)
    (λ f. subst (λ (s : State). TellsLife s w n) (sym f.2)
    (let after : TellsLife f.0 w n = pause_told setup setup.markers want old f.0 piece lines w n sound f.1 told in
    record { made = after.made; names = after.names })) d)
    (λ r. same r.1.1) h

collection_told : (setup : Setup) (want : Want) (old new : State) (piece : List Entry) (lines : List Line) (w n : ℕ) → is_marking old.phase ≡ false
    → IsSound setup old → IsCollection setup want old piece lines new → TellsLife old w n → TellsLife new w n
collection_told setup want old new piece lines w n e sound h told =
    let swept : IsSound setup h.swept = sweeps_sound setup old h.swept old.phase setup.shape.pages h.numbers sound (omega arith) h.ended in
    let started : IsSound setup h.started =
    start_sound setup h.swept h.started h.first swept (ended_phase setup.shape old h.swept old.phase h.numbers refl e h.ended) h.start in
    let begun : Keeps h.swept h.started = keeps_start setup h.swept h.started h.first h.start in
    let kept : Keeps old h.swept = keeps_sweep setup.shape old h.swept setup.shape.pages h.numbers h.ended in
    let nodes : h.started.nodes ≡ h.swept.nodes = ap (λ (s : State). s.nodes) h.start.after ∙ took_nodes h.swept h.first in
    let lives : LiveAsBefore old.nodes h.started.nodes =
    live_to old.nodes h.swept.nodes h.started.nodes nodes (swept_lives setup.shape old h.swept setup.shape.pages h.numbers h.ended) in
    let before : TellsLife h.started w n = still_told old h.started w n (ap (λ ws. get_or ws w None) (begun.weak ∙ kept.weak)) lives told in
    let after : TellsLife h.paused w n = pause_told setup 0 want h.started h.paused h.second h.pause_lines w n started h.pause before in
    subst (λ (s : State). TellsLife s w n) (sym h.after) (record { made = after.made; names = after.names })

now_told : (setup : Setup) (want : Want) (old new : State) (piece : List Entry) (lines : List Line) (w n : ℕ) → IsSound setup old
    → StepGcNow setup want old piece lines new → TellsLife old w n → TellsLife new w n
now_told setup want old new piece lines w n sound h told =
    let Q : Type 0 = TellsLife new w n in
    let same : new ≡ answered old → Q = (λ e. subst (λ (s : State). TellsLife s w n) (sym e) (record { made = told.made; names = told.names })) in
    bool_is (is_marking old.phase) _ _ Q (λ e r. same r.1.1)
    (λ e d. match_bool (is_stack_refused want old.stack) _ _ Q (λ r. same r.1.1)
    (λ c. elim c [
      | inl memory ↦ same memory.1.1
      | inr done ↦ collection_told setup want old new piece lines w n e sound done told
    ]) d) h

-- ---- every step

pub weak_slots_tell_lives : WeakSlotsTellLives
weak_slots_tell_lives setup old (C.GcFinish want) piece lines new some allowed valid h w n other told =
    finish_told setup want old new piece lines w n (sound_from setup old valid) h told
weak_slots_tell_lives setup old (C.GcNow want) piece lines new some allowed valid h w n other told =
    now_told setup want old new piece lines w n (sound_from setup old valid) h told
weak_slots_tell_lives setup old (C.Weak v p) piece lines new some allowed valid h w n other told =
    let left : LeavesRest old (C.Weak v p) new = steps_leave_rest setup old (C.Weak v p) piece lines new h in
    still_told old new w n (left.weak w (λ same. other p (ap (λ x. C.Weak x p) (sym same)))) (unmoved_lives old new (left.cycle (λ m. m))) told
weak_slots_tell_lives setup old (C.New p t e) piece lines new some allowed valid h w n other told =
    still_told old new w n ((steps_leave_rest setup old (C.New p t e) piece lines new h).weak w (λ m. m)) (new_lives setup old new p t e lines h.1) told
weak_slots_tell_lives setup old C.GcStart piece lines new some allowed valid h w n other told =
    still_told old new w n ((steps_leave_rest setup old C.GcStart piece lines new h).weak w (λ m. m)) (start_lives setup old new piece lines h) told
weak_slots_tell_lives setup old (C.GcStep m) piece lines new some allowed valid h w n other told =
    still_told old new w n ((steps_leave_rest setup old (C.GcStep m) piece lines new h).weak w (λ m. m)) (traced_lives old new m lines h.1) told
weak_slots_tell_lives setup old (C.Sweep m) piece lines new some allowed valid h w n other told =
    still_told old new w n ((steps_leave_rest setup old (C.Sweep m) piece lines new h).weak w (λ m. m)) (sweep_lives setup old new _ lines h.1) told
weak_slots_tell_lives setup old C.SweepAll piece lines new some allowed valid h w n other told =
    still_told old new w n ((steps_leave_rest setup old C.SweepAll piece lines new h).weak w (λ m. m)) (sweep_lives setup old new _ lines h.1) told
weak_slots_tell_lives setup old command piece lines new some allowed valid h w n other told =
    let left : LeavesRest old command new = steps_leave_rest setup old command piece lines new h in
    still_told old new w n (left.weak w (λ m. m)) (unmoved_lives old new (left.cycle (λ m. m))) told
