-- What the lines of each command tell of nodes' lives, command by command.
use Rattle.std.proofs.Common.{◌≡◌, ℕ, ◌+◌, ◌<◌, ◌≤◌, nat_lt, Bool, ◌||◌, true, false, true≢false, List, [], ◌∷◌, ◌++◌, length, All, refl, sym, ap, ◌∙◌, subst, inl, inr, arith}
use mathlib.Core.Logic.{◌⊎◌}
use Rattle.std.proofs.lemmas.List.{get_or_append_left, get_or_push, length_push}
use Rattle.std.proofs.lemmas.List.Elements.{All-append}
use Rattle.gc_graph.specs.declared.command.Command.{Command}
use Rattle.gc_graph.specs.declared.command.Command.TheVariants as C
use Rattle.gc_graph.specs.declared.command.Want.{Want}
use Rattle.gc_graph.specs.declared.line.Line.{Line}
use Rattle.gc_graph.specs.declared.line.Line.TheVariants as L
use Rattle.gc_graph.specs.declared.line.Refusal.{Refusal}
use Rattle.gc_graph.specs.declared.line.Refusal.TheVariants as R
use Rattle.gc_graph.specs.declared.region.Entry.{Entry}
use Rattle.gc_graph.specs.State.{Setup, State, Node, no_node, node_at, Life, is_there, IsLive, IsDead, RegionSlot}
use Rattle.gc_graph.specs.State.Life.{Live, Dead, Gone}
use Rattle.gc_graph.specs.State.RegionSlot.{Vacant, StrongTo, WeakTo}
use Rattle.gc_graph.specs.Graph.{has}
use Rattle.gc_graph.specs.Fields.{new_node}
use Rattle.gc_graph.specs.May.{read_node}
use Rattle.gc_graph.specs.Pause.{judged, condemn}
use Rattle.gc_graph.specs.Paused.{paused}
use Rattle.gc_graph.specs.History.{node_of, region_slot}
use Rattle.gc_graph.specs.Outcomes.{answered, IsRefused, IsMemory, finalise_lines, slot_at, took}
use Rattle.gc_graph.specs.ObjectSteps.{StepNew, IsMade}
use Rattle.gc_graph.specs.CycleSteps.{is_marking, is_sweeping, is_stack_refused, IsStart, StepGcStart, StepGcStep, IsPause, StepGcFinish, IsCollection, StepGcNow, StepSweepTo}
use Rattle.gc_graph.specs.RegionSteps.{line_of_content, IsImported, StepExport, StepImport}
use Rattle.gc_graph.specs.Step.{Step}
use Rattle.gc_graph.proofs.Called.{each_callback_line}
use Rattle.gc_graph.proofs.StepCases.{match_option, match_bool}
use Rattle.gc_graph.proofs.Sound.{IsSound}
use Rattle.gc_graph.proofs.NodeWrites.{IsLikeNode, like_same, LookSame, look_same, look_written}
use Rattle.gc_graph.proofs.FieldWrites.{with_values, like_with}
use Rattle.gc_graph.proofs.Effects.{Effect, line_of_effect, with_effect, IsReadable, Fits, nodes_by}
use Rattle.gc_graph.proofs.Effects.Effect.{Gets}
use Rattle.gc_graph.specs.Commands.Family.{Threads}
use Rattle.gc_graph.specs.Families.{answers, StaysInFamily}
use Rattle.gc_graph.specs.LineKinds.{tells_that_nothing_was_done, tells_of_orders}
use Rattle.gc_graph.proofs.PlainSteps.{plain_step}
use Rattle.gc_graph.proofs.FamilyFrames.{steps_stay_in_their_family}
use Rattle.gc_graph.specs.Condemning.{length-condemn}
use Rattle.gc_graph.proofs.Condemned.{condemned_at}
use Rattle.gc_graph.proofs.ValidCases.{bool_is}
use Rattle.gc_graph.proofs.ValidRegion.{Shares, shared_at, others_sound, took_nodes}
use Rattle.gc_graph.proofs.ValidPause.{order, look}
use Rattle.gc_graph.proofs.ValidSweeps.{sweeps_sound, ended_phase}
use Rattle.gc_graph.proofs.ValidCycles.{start_sound}
use Rattle.gc_graph.specs.NodeNumbers.{there_below, dead_below, live_not_dead}
use Rattle.gc_graph.proofs.Lives.{put_same, IsMadeBy, IsJudged, AreJudged, AreTold, line_cases}
use Rattle.gc_graph.proofs.StepLives.{StepTells, IsQuiet, quiet_told, quiet_one, FinalisesNone, quiet_finalises_none, none_made, tells_quiet, tells_more, IsSweepTold, sweep_told}

abbrev Tells : State → List Line → State → Type 0
Tells old lines new = StepTells old.nodes lines new.nodes

-- ---- one line that tells nothing of nodes

quiet_step : (old new x : State) (lines : List Line) (said : Line) → IsQuiet said → lines ≡ said ∷ [] → new ≡ x → LookSame old.nodes x.nodes → Tells old lines new
quiet_step old new x lines said e is same look =
    subst (λ ls. Tells old ls new) (sym is) (subst (λ (s : State). Tells old (said ∷ []) s) (sym same) (tells_quiet old.nodes x.nodes said e look))

quiet_still : (old new x : State) (lines : List Line) (said : Line) → IsQuiet said → lines ≡ said ∷ [] → new ≡ x → x.nodes ≡ old.nodes → Tells old lines new
quiet_still old new x lines said e is same nodes =
    quiet_step old new x lines said e is same (subst (LookSame old.nodes) (sym nodes) (look_same old.nodes))

quiet_nodes : (old new : State) (lines : List Line) (said : Line) → IsQuiet said → lines ≡ said ∷ [] → new.nodes ≡ old.nodes → Tells old lines new
quiet_nodes old new lines said e is nodes = quiet_still old new new lines said e is refl nodes

refused_tells : (old new : State) (lines : List Line) (why : Refusal) → IsRefused why old lines new → Tells old lines new
refused_tells old new lines why h = quiet_still old new (answered old) lines (L.Refused why) refl h.0 h.1 refl

memory_tells : (old new : State) (lines : List Line) → IsMemory old lines new → Tells old lines new
memory_tells old new lines h = quiet_still old new (answered old) lines L.Memory refl h.0 h.1 refl

-- ---- reads

no_finalisation : (n m : ℕ) → L.Node n ≡ L.Finalise m → ⊥
no_finalisation n m e = cc

node_finalises_none : (n : ℕ) → FinalisesNone (L.Node n ∷ [])
node_finalises_none n m c =
    elim (line_cases (L.Node n) (L.Finalise m) [] c) [ inl same ↦ no_finalisation n m same | inr later ↦ absurd (omega (arith, later.1)) ]

node_tells : (old new : State) (lines : List Line) (n : ℕ) → IsLive old.nodes n → lines ≡ L.Node n ∷ [] → new.nodes ≡ old.nodes → Tells old lines new
node_tells old new lines n live is nodes =
    subst (λ ls. Tells old ls new) (sym is) (subst (λ ns. StepTells old.nodes (L.Node n ∷ []) ns) (sym nodes) (record {
      told = record { mid = old.nodes; tells = record { live = live; look = look_same old.nodes }; after = look_same old.nodes };
      dead = λ m c. absurd (node_finalises_none n m c);
      made = none_made old.nodes old.nodes (omega arith);
    }))

read_nodes : (weak : Bool) (s : State) (n : ℕ) → (read_node weak s n).nodes ≡ s.nodes
read_nodes true s n = refl
read_nodes false s n = refl

live_of : (weak : Bool) (s : State) (n : ℕ) → IsReadable weak s n → IsLive s.nodes n
live_of true s n h = h
live_of false s n h = h.live

effect_tells : (setup : Setup) (old new : State) (command : Command) (lines : List Line) (effect : Effect) → IsSound setup old
    → Fits old command lines effect → lines ≡ line_of_effect effect ∷ [] → new ≡ answered (with_effect old effect) → Tells old lines new
effect_tells setup old new command lines (Gets weak q n) g fits is after =
    node_tells old new lines n (live_of weak old n (fits.node setup g)) is (ap (λ (s : State). s.nodes) after ∙ read_nodes weak old n)
effect_tells setup old new command lines effect g fits is after =
    quiet_step old new (answered (with_effect old effect)) lines (line_of_effect effect) refl is after
    (nodes_by old (LookSame old.nodes) (look_same old.nodes)
    (λ n values size. look_written old.nodes n (with_values (node_at old.nodes n) values) (like_with (node_at old.nodes n) values size)) effect)

-- ---- a sweep, and one line

swept_tells : (old mid new : State) (numbers : List ℕ) (lines : List Line) (said : Line) → IsQuiet said
    → IsSweepTold old.nodes numbers mid.nodes → lines ≡ finalise_lines numbers ++ said ∷ [] → new.nodes ≡ mid.nodes → Tells old lines new
swept_tells old mid new numbers lines said e told is nodes =
    subst (λ ls. Tells old ls new) (sym is) (subst (λ ns. StepTells old.nodes (finalise_lines numbers ++ said ∷ []) ns) (sym nodes)
    (tells_more old.nodes mid.nodes mid.nodes (finalise_lines numbers) (said ∷ []) told.tells told.whole
    (quiet_told (said ∷ []) mid.nodes mid.nodes (quiet_one said e) (look_same mid.nodes)) (quiet_finalises_none (said ∷ []) (quiet_one said e))
    (none_made mid.nodes mid.nodes (omega arith))))

-- ---- a new object

placed_one : (setup : Setup) (mid new : State) (t extra a : ℕ) → IsSound setup new → new.nodes ≡ mid.nodes ++ new_node setup t extra a ∷ []
    → IsMadeBy mid.nodes (length mid.nodes) a new.nodes
placed_one setup mid new t extra a g is =
    let node : Node = new_node setup t extra a in
    let here : node_at new.nodes (length mid.nodes) ≡ new_node setup t extra a =
    ap (λ ns. node_at ns (length mid.nodes)) is ∙ get_or_push mid.nodes (new_node setup t extra a) no_node (length mid.nodes) refl in
    let same : (m : ℕ) → m < length mid.nodes → node_at new.nodes m ≡ node_at mid.nodes m =
    (λ m l. ap (λ ns. node_at ns m) is ∙ get_or_append_left mid.nodes (new_node setup t extra a ∷ []) no_node m l) in
    let live : IsLive new.nodes (length mid.nodes) = ap (λ (x : Node). x.life) here in
    record {
      number = refl;
      whole = ap length is ∙ length_push mid.nodes (new_node setup t extra a);
      others = λ m l. subst (IsLikeNode (node_at mid.nodes m)) (sym (same m l)) (like_same (node_at mid.nodes m));
      live = live;
      at = ap (λ (x : Node). x.place) here;
      apart = λ m there.
          let below : m < length mid.nodes = there_below mid.nodes m there in
          g.heap.apart (length mid.nodes) m (λ e. omega arith) (ap is_there live) (ap (λ (x : Node). is_there x.life) (same m below) ∙ there);
    }

not_placed_line : (n a m : ℕ) → L.Placed n a ≡ L.Finalise m → ⊥
not_placed_line n a m e = cc

placed_finalises_none : (n a : ℕ) → FinalisesNone (L.Placed n a ∷ [])
placed_finalises_none n a m c =
    elim (line_cases (L.Placed n a) (L.Finalise m) [] c) [ inl same ↦ not_placed_line n a m same | inr later ↦ absurd (omega (arith, later.1)) ]

made_alive : (setup : Setup) (mid new : State) (t extra a : ℕ) → new.nodes ≡ mid.nodes ++ new_node setup t extra a ∷ [] → (n : ℕ) → length mid.nodes ≤ n
    → IsDead new.nodes n → ⊥
made_alive setup mid new t extra a is n past dead =
    let whole : length new.nodes ≡ length mid.nodes + 1 = ap length is ∙ length_push mid.nodes (new_node setup t extra a) in
    let below : n < length new.nodes = dead_below new.nodes n dead in
    let same : n ≡ length mid.nodes = omega arith in
    let here : node_at new.nodes n ≡ new_node setup t extra a =
    ap (λ ns. node_at ns n) is ∙ get_or_push mid.nodes (new_node setup t extra a) no_node n (sym same) in
    live_not_dead (node_at new.nodes n).life (ap (λ (x : Node). x.life) here) dead

made_tells : (setup : Setup) (old mid new : State) (p t extra a : ℕ) (numbers : List ℕ) (lines : List Line) → IsSound setup new
    → IsSweepTold old.nodes numbers mid.nodes → IsMade setup mid p t extra numbers lines new a → Tells old lines new
made_tells setup old mid new p t extra a numbers lines g told h =
    let is : new.nodes ≡ mid.nodes ++ new_node setup t extra a ∷ [] = ap (λ (s : State). s.nodes) h.after in
    subst (λ ls. Tells old ls new) (sym h.lines_are)
    (tells_more old.nodes mid.nodes new.nodes (finalise_lines numbers) (L.Placed (length mid.nodes) a ∷ []) told.tells told.whole
    (record { mid = new.nodes; tells = placed_one setup mid new t extra a g is; after = look_same new.nodes })
    (placed_finalises_none (length mid.nodes) a) (made_alive setup mid new t extra a is))

new_tells : (setup : Setup) (old new : State) (p t extra : ℕ) (lines : List Line) → IsSound setup new → StepNew setup old p t extra lines new → Tells old lines new
new_tells setup old new p t extra lines g h =
    elim h [
      | inl memory ↦ memory_tells old new lines memory.1
      | inr made ↦
          match_option made.place _ _ (Tells old lines new)
          (λ full. swept_tells old made.mid new made.numbers lines L.Full refl (sweep_told setup.shape old made.mid made.placed.pages made.numbers made.placed.swept)
          full.lines_are (ap (λ (s : State). s.nodes) full.after))
          (λ a done. made_tells setup old made.mid new p t extra a made.numbers lines g
          (sweep_told setup.shape old made.mid made.placed.pages made.numbers made.placed.swept) done)
          made.done
    ]

-- ---- the pause

died : (x : Life) → (judged false x ≡ x) ⊎ ((x ≡ Live) × (judged false x ≡ Dead))
died Live = inr (refl, refl)
died Dead = inl refl
died Gone = inl refl

judged_life : (flag : Bool) (x : Node) → IsJudged x (record x { life = judged flag x.life })
judged_life true x = record { put = put_same x; life = inl refl }
judged_life false x = record { put = record { place = refl; size = refl; ty = refl }; life = died x.life }

judged_like : (x y z : Node) → IsJudged x y → IsLikeNode y z → IsJudged x z
judged_like x y z h k = record {
  put = record { place = k.place ∙ h.put.place; size = k.size ∙ h.put.size; ty = k.ty ∙ h.put.ty };
  life = elim h.life [ inl same ↦ inl (k.life ∙ same) | inr died ↦ inr (died.0, k.life ∙ died.1) ];
}

judged_all : (kept : List Bool) (nodes after : List Node) → LookSame (condemn kept nodes) after → AreJudged nodes after
judged_all kept nodes after look = record {
  whole = look.whole ∙ length-condemn kept nodes;
  each = λ m.
      judged_like (node_at nodes m) (node_at (condemn kept nodes) m) (node_at after m)
      (subst (IsJudged (node_at nodes m)) (sym (condemned_at kept nodes m)) (judged_life (has kept m) (node_at nodes m))) (look.like m);
}

not_pause_line : (kept dead crew traced : ℕ) (walked : Bool) (n : ℕ) → L.Pause kept dead crew traced walked ≡ L.Finalise n → ⊥
not_pause_line kept dead crew traced walked n e = cc

-- what a pause tells
record IsPauseTold (old : List Node) (lines : List Line) (new : List Node) : Type 0 where
  told : AreTold old lines new
  none : FinalisesNone lines
  whole : length new ≡ length old

pause_line_tells : (old new : List Node) (kept dead crew traced : ℕ) (walked : Bool) (rest : List Line) → AreJudged old new → All IsQuiet rest
    → IsPauseTold old (L.Pause kept dead crew traced walked ∷ rest) new
pause_line_tells old new kept dead crew traced walked rest judged quiet = record {
  told = record { mid = new; tells = judged; after = quiet_told rest new new quiet (look_same new) };
  none = λ n c. elim (line_cases (L.Pause kept dead crew traced walked) (L.Finalise n) rest c) [
    | inl same ↦ not_pause_line kept dead crew traced walked n same
    | inr later ↦ quiet_finalises_none rest quiet n later
  ];
  whole = judged.whole;
}

pause_told : (setup : Setup) (markers : ℕ) (want : Want) (old new : State) (piece : List Entry) (lines : List Line) → IsSound setup old
    → IsPause setup markers want old piece lines new → IsPauseTold old.nodes lines new.nodes
pause_told setup markers want old new piece lines g h =
    let mid : State = took old h.before in
    let judged_nodes : List Node = condemn h.kept mid.nodes in
    let sound : IsSound setup mid = others_sound setup old h.before h.others g in
    let is : new.nodes ≡ (paused setup mid judged_nodes).nodes = ap (λ (s : State). s.nodes) h.done.after in
    let judged : AreJudged mid.nodes (paused setup mid judged_nodes).nodes =
    judged_all h.kept mid.nodes (paused setup mid judged_nodes).nodes (look setup mid want h.kept sound h.done.keeps) in
    let both : AreJudged old.nodes new.nodes =
    subst (AreJudged old.nodes) (sym is) (subst (λ ns. AreJudged ns (paused setup mid judged_nodes).nodes) (took_nodes old h.before) judged) in
    subst (λ ls. IsPauseTold old.nodes ls new.nodes) (sym h.done.lines_are)
    (pause_line_tells old.nodes new.nodes _ _ h.done.crew h.done.traced h.done.walked _ both (each_callback_line IsQuiet (λ n d. refl) (λ n c. refl) _ _))

finished_tells : (setup : Setup) (want : Want) (old after new : State) (piece : List Entry) (lines : List Line) → IsSound setup old
    → IsPause setup setup.markers want old piece lines after → new ≡ answered after → Tells old lines new
finished_tells setup want old after new piece lines g h e =
    let told : IsPauseTold old.nodes lines after.nodes = pause_told setup setup.markers want old after piece lines g h in
    subst (λ (s : State). Tells old lines s) (sym e) (record {
      told = told.told;
      dead = λ n c. absurd (told.none n c);
      made = none_made old.nodes after.nodes (omega (arith, told.whole));
    })

start_nodes : (setup : Setup) (swept new : State) (piece : List Entry) → IsStart setup swept piece new → new.nodes ≡ swept.nodes
start_nodes setup swept new piece h = ap (λ (s : State). s.nodes) h.after ∙ took_nodes swept piece

-- ---- the cycle

gc_start_tells : (setup : Setup) (old new : State) (piece : List Entry) (lines : List Line) → StepGcStart setup old piece lines new → Tells old lines new
gc_start_tells setup old new piece lines h =
    match_bool (is_marking old.phase) _ _ (Tells old lines new) (λ r. refused_tells old new lines R.Phase r.1)
    (λ d. elim d [
      | inl memory ↦ memory_tells old new lines memory.1
      | inr b ↦
          swept_tells old b.swept new b.numbers lines L.Started refl (sweep_told setup.shape old b.swept setup.shape.pages b.numbers b.ended) b.lines_are
          (ap (λ (s : State). s.nodes) b.after ∙ start_nodes setup b.swept b.started piece b.start)
    ]) h

gc_finish_tells : (setup : Setup) (want : Want) (old new : State) (piece : List Entry) (lines : List Line) → IsSound setup old
    → StepGcFinish setup want old piece lines new → Tells old lines new
gc_finish_tells setup want old new piece lines g h =
    match_bool (is_marking old.phase) _ _ (Tells old lines new)
    (λ d. match_bool (is_stack_refused want old.stack) _ _ (Tells old lines new) (λ r. refused_tells old new lines R.Stack r.1)
    (λ f. finished_tells setup want old f.0 new piece lines g f.1 f.2) d)
    (λ r. refused_tells old new lines R.Phase r.1) h

collected_tells : (setup : Setup) (want : Want) (old new : State) (piece : List Entry) (lines : List Line) → is_marking old.phase ≡ false → IsSound setup old
    → IsCollection setup want old piece lines new → Tells old lines new
collected_tells setup want old new piece lines e g h =
    let swept : IsSound setup h.swept = sweeps_sound setup old h.swept old.phase setup.shape.pages h.numbers g (omega arith) h.ended in
    let started : IsSound setup h.started =
    start_sound setup h.swept h.started h.first swept (ended_phase setup.shape old h.swept old.phase h.numbers refl e h.ended) h.start in
    let nodes : h.started.nodes ≡ h.swept.nodes = start_nodes setup h.swept h.started h.first h.start in
    let sweep : IsSweepTold old.nodes h.numbers h.swept.nodes = sweep_told setup.shape old h.swept setup.shape.pages h.numbers h.ended in
    let pause : IsPauseTold h.swept.nodes h.pause_lines h.paused.nodes =
    subst (λ ns. IsPauseTold ns h.pause_lines h.paused.nodes) nodes (pause_told setup 0 want h.started h.paused h.second h.pause_lines started h.pause) in
    subst (λ (s : State). Tells old lines s) (sym h.after) (subst (λ ls. Tells old ls h.paused) (sym h.lines_are)
    (tells_more old.nodes h.swept.nodes h.paused.nodes (finalise_lines h.numbers) h.pause_lines sweep.tells sweep.whole pause.told pause.none
    (none_made h.swept.nodes h.paused.nodes (omega (arith, pause.whole)))))

gc_now_tells : (setup : Setup) (want : Want) (old new : State) (piece : List Entry) (lines : List Line) → IsSound setup old
    → StepGcNow setup want old piece lines new → Tells old lines new
gc_now_tells setup want old new piece lines g h =
    bool_is (is_marking old.phase) _ _ (Tells old lines new) (λ e r. refused_tells old new lines R.Phase r.1)
    (λ e d. match_bool (is_stack_refused want old.stack) _ _ (Tells old lines new) (λ r. refused_tells old new lines R.Stack r.1)
    (λ c. elim c [ inl memory ↦ memory_tells old new lines memory.1 | inr done ↦ collected_tells setup want old new piece lines e g done ]) d) h

sweep_to_tells : (setup : Setup) (old new : State) (pages : ℕ) (lines : List Line) → StepSweepTo setup old pages lines new → Tells old lines new
sweep_to_tells setup old new pages lines h =
    match_bool (is_sweeping old.phase) _ _ (Tells old lines new)
    (λ s. swept_tells old s.swept new s.numbers lines (L.Swept pages) refl (sweep_told setup.shape old s.swept pages s.numbers s.goes) s.lines_are
    (ap (λ (x : State). x.nodes) s.after))
    (refused_tells old new lines R.Phase) h

-- ---- the region

export_tells : (old new : State) (p x : ℕ) (piece : List Entry) (lines : List Line) → StepExport old p x piece lines new → Tells old lines new
export_tells old new p x piece lines h =
    match_option (slot_at old p) _ _ (Tells old lines new) (λ r. refused_tells old new lines R.Null r.1)
    (λ n d. elim d [
      | inl memory ↦ memory_tells old new lines memory.1
      | inr done ↦ quiet_still old new (answered (took old piece)) lines L.Fine refl done.lines_are done.after (took_nodes old piece)
    ]) h

content_tells : (old new : State) (lines : List Line) (slot : RegionSlot) → Shares old slot → lines ≡ line_of_content (node_of slot) ∷ [] → new.nodes ≡ old.nodes
    → Tells old lines new
content_tells old new lines Vacant shares is nodes = quiet_nodes old new lines L.Null refl is nodes
content_tells old new lines (StrongTo n) shares is nodes = node_tells old new lines n shares.live is nodes
content_tells old new lines (WeakTo n) shares is nodes = node_tells old new lines n shares is nodes

imported_tells : (setup : Setup) (old new : State) (x p : ℕ) (piece : List Entry) (lines : List Line) → IsSound setup old
    → IsImported old x p piece lines new → Tells old lines new
imported_tells setup old new x p piece lines g h =
    let mid : State = took old h.before in
    let sound : IsSound setup mid = others_sound setup old h.before h.takes.others g in
    let nodes : mid.nodes ≡ old.nodes = took_nodes old h.before in
    subst (λ ns. StepTells ns lines new.nodes) nodes
    (content_tells mid new lines (region_slot mid.region x) (shared_at mid mid.region x sound.region) h.lines_are
    (ap (λ (s : State). s.nodes) h.after ∙ took_nodes old piece ∙ sym nodes))

import_tells : (setup : Setup) (old new : State) (x p : ℕ) (piece : List Entry) (lines : List Line) → IsSound setup old → StepImport old x p piece lines new
    → Tells old lines new
import_tells setup old new x p piece lines g h =
    elim h [ inl memory ↦ memory_tells old new lines memory.1 | inr done ↦ imported_tells setup old new x p piece lines g done ]

-- commands on threads tell nothing of nodes, and leave them alone
order_quiet : (said : Line) → tells_of_orders said ≡ true → IsQuiet said
order_quiet (L.Placed n a) is = absurd (true≢false (sym is))
order_quiet (L.Finalise n) is = absurd (true≢false (sym is))
order_quiet (L.Pause kept dead crew traced walked) is = absurd (true≢false (sym is))
order_quiet (L.Node n) is = absurd (true≢false (sym is))
order_quiet said is = refl

answer_quiet : (said : Line) → (tells_that_nothing_was_done said || answers Threads said) ≡ true → IsQuiet said
answer_quiet (L.Placed n a) is = absurd (true≢false (sym is))
answer_quiet (L.Finalise n) is = absurd (true≢false (sym is))
answer_quiet (L.Pause kept dead crew traced walked) is = absurd (true≢false (sym is))
answer_quiet (L.Node n) is = absurd (true≢false (sym is))
answer_quiet said is = refl

threads_tell : (old new : State) (piece : List Entry) (lines : List Line) → StaysInFamily Threads old piece lines new → Tells old lines new
threads_tell old new piece lines h =
    let quiet : All IsQuiet lines =
    subst (All IsQuiet) (sym h.told.lines_are)
    (All-append IsQuiet h.told.before (h.told.answer ∷ h.told.after) (λ i d low. order_quiet _ (h.told.first i d low))
    (subst (λ after. All IsQuiet (h.told.answer ∷ after)) (sym h.told.then) (quiet_one h.told.answer (answer_quiet h.told.answer h.told.fits)))) in
    subst (λ ns. StepTells old.nodes lines ns) (sym (ap (λ (s : State). s.nodes) h.rest)) (record {
      told = quiet_told lines old.nodes old.nodes quiet (look_same old.nodes);
      dead = λ n c. absurd (quiet_finalises_none lines quiet n c);
      made = none_made old.nodes old.nodes (omega arith);
    })

-- ---- every command

gc_step_tells : (old new : State) (n : ℕ) (lines : List Line) → StepGcStep old n lines new → Tells old lines new
gc_step_tells old new n lines h =
    match_bool (is_marking old.phase) _ _ (Tells old lines new)
    (λ d. quiet_still old new _ lines (L.Step d.count (nat_lt d.count n)) refl d.lines_are d.after refl) (refused_tells old new lines R.Phase) h

pub step_tells : (setup : Setup) (old new : State) (command : Command) (piece : List Entry) (lines : List Line) → IsSound setup old → IsSound setup new
    → Step setup old command piece lines new → StepTells old.nodes lines new.nodes
step_tells setup old new (C.New p t e) piece lines g k h = new_tells setup old new p t e lines k h.1
step_tells setup old new C.GcStart piece lines g k h = gc_start_tells setup old new piece lines h
step_tells setup old new (C.GcStep n) piece lines g k h = gc_step_tells old new n lines h.1
step_tells setup old new (C.GcFinish want) piece lines g k h = gc_finish_tells setup want old new piece lines g h
step_tells setup old new (C.GcNow want) piece lines g k h = gc_now_tells setup want old new piece lines g h
step_tells setup old new (C.Sweep n) piece lines g k h = sweep_to_tells setup old new _ lines h.1
step_tells setup old new C.SweepAll piece lines g k h = sweep_to_tells setup old new _ lines h.1
step_tells setup old new C.Stat piece lines g k h = quiet_still old new (answered old) lines _ refl h.1.2 h.1.3 refl
step_tells setup old new (C.Export p x) piece lines g k h = export_tells old new p x piece lines h
step_tells setup old new (C.Import x p) piece lines g k h = import_tells setup old new x p piece lines g h
step_tells setup old new (C.At j order) piece lines g k h = threads_tell old new piece lines (steps_stay_in_their_family setup old (C.At j order) piece lines new h)
step_tells setup old new C.ThreadsGo piece lines g k h = threads_tell old new piece lines (steps_stay_in_their_family setup old C.ThreadsGo piece lines new h)
step_tells setup old new C.ThreadsJoin piece lines g k h = threads_tell old new piece lines (steps_stay_in_their_family setup old C.ThreadsJoin piece lines new h)
step_tells setup old new command piece lines g k h =
    let c = plain_step setup old new command piece lines refl h in effect_tells setup old new command lines c.effect g c.fits c.lines_are c.after
