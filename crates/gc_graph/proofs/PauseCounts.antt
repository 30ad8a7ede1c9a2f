-- What the line of a pause counts.
use Rattle.std.proofs.Common.{◌≡◌, ℕ, suc, ◌+◌, ◌*◌, nat_lt, Bool, true, List, [], ◌∷◌, ◌++◌, map, refl, sym, ap, ◌∙◌, subst, inl, inr, arith, Contains, if◌then◌else◌}
use Rattle.std.specs.List.{count_by}
use Rattle.std.proofs.lemmas.Bool.{cond_both}
use Rattle.std.proofs.lemmas.List.Sums.{sum_by-cons}
use Rattle.gc_graph.specs.declared.command.Want.{Want}
use Rattle.gc_graph.specs.declared.line.Line.{Line}
use Rattle.gc_graph.specs.declared.line.Line.TheVariants as L
use Rattle.gc_graph.specs.declared.phase.Phase.{Phase}
use Rattle.gc_graph.specs.declared.phase.Phase.TheVariants.{Idle, Marking, Sweeping}
use Rattle.gc_graph.specs.declared.region.Entry.{Entry}
use Rattle.gc_graph.specs.State.{Setup, Shape, State, Node, Life, is_live, is_dead, is_there, IsDead, objects_of}
use Rattle.gc_graph.specs.State.Life.{Live, Dead, Gone}
use Rattle.gc_graph.specs.Sweep.{buried, finalise, SweepsInPhase}
use Rattle.gc_graph.specs.Outcomes.{finalise_lines, took}
use Rattle.gc_graph.specs.Pause.{condemn, live_count, dead_count, run_order}
use Rattle.gc_graph.specs.WeakCalls.{weak_calls}
use Rattle.gc_graph.specs.CycleSteps.{is_marking, IsPause}
use Rattle.gc_graph.specs.Valid.{IsSettled}
use Rattle.gc_graph.specs.CountsLaw.{AreJudged, PausesCountNodes}
use Rattle.gc_graph.proofs.Called.{each_callback_line}
use Rattle.gc_graph.proofs.Sound.{IsSound, sound_from}
use Rattle.gc_graph.proofs.NodeWrites.{LookSame}
use Rattle.gc_graph.proofs.NodeCounts.{same_count, paused_weights}
use Rattle.gc_graph.proofs.ValidRegion.{took_nodes}
use Rattle.gc_graph.proofs.ValidCycles.{collection_begins}
use Rattle.gc_graph.proofs.Collections.{paused_look}
use Rattle.gc_graph.proofs.CycleLaws.{IsOther, others_finalised, the_one, finish_told, now_told}

-- ---- counts of lives

abbrev one_if : Bool → ℕ
one_if flag = if flag then 1 else 0

abbrev count_of : (Life → Bool) → List Node → ℕ
count_of test nodes = count_by (λ n. test n.life) nodes

count_next : (test : Life → Bool) (x : Node) (nodes : List Node) → count_of test (x ∷ nodes) ≡ one_if (test x.life) + count_of test nodes
count_next test x nodes = sum_by-cons (λ n. one_if (test n.life)) x nodes

one_life : (x : Life) → one_if (is_live x) + one_if (is_dead x) ≡ one_if (is_there x)
one_life Live = refl
one_life Dead = refl
one_life Gone = refl

live_and_dead : (nodes : List Node) → live_count nodes + dead_count nodes ≡ objects_of nodes
live_and_dead [] = refl
live_and_dead (x ∷ nodes) =
    omega (arith, count_next is_live x nodes, count_next is_dead x nodes, count_next is_there x nodes, one_life x.life, live_and_dead nodes)

look_count : (test : Life → Bool) (nodes after : List Node) → LookSame nodes after → count_of test after ≡ count_of test nodes
look_count test [] [] h = refl
look_count test [] (y ∷ after) h = absurd (omega (arith, h.whole))
look_count test (x ∷ nodes) [] h = absurd (omega (arith, h.whole))
look_count test (x ∷ nodes) (y ∷ after) h =
    let first : one_if (test y.life) ≡ one_if (test x.life) = ap (λ life. one_if (test life)) (h.like 0).life in
    let rest : count_of test after ≡ count_of test nodes =
    look_count test nodes after (record { whole = omega (arith, h.whole); like = λ m. h.like (suc m) }) in
    omega (arith, count_next test x nodes, count_next test y after, first, rest)

not_dead : (x : Life) → (x ≡ Dead → ⊥) → one_if (is_dead x) ≡ 0
not_dead Live out = refl
not_dead Dead out = absurd (out refl)
not_dead Gone out = refl

none_dead : (nodes : List Node) → ((n : ℕ) → IsDead nodes n → ⊥) → dead_count nodes ≡ 0
none_dead [] out = refl
none_dead (x ∷ nodes) out = omega (arith, count_next is_dead x nodes, not_dead x.life (out 0), none_dead nodes (λ n. out (suc n)))

buried_live : (x : Life) → one_if (is_live (buried x)) ≡ one_if (is_live x)
buried_live Live = refl
buried_live Dead = refl
buried_live Gone = refl

finalised_live : (limit : ℕ) (x : Node) → one_if (is_live (finalise limit x).life) ≡ one_if (is_live x.life)
finalised_live limit x =
    cond_both (nat_lt x.place limit) (record x { life = buried x.life }) x
    (λ (y : Node). one_if (is_live y.life) ≡ one_if (is_live x.life)) (λ e. buried_live x.life) (λ e. refl)

swept_live : (limit : ℕ) (nodes : List Node) → live_count (map (finalise limit) nodes) ≡ live_count nodes
swept_live limit [] = refl
swept_live limit (x ∷ nodes) =
    omega (arith, count_next is_live (finalise limit x) (map (finalise limit) nodes), count_next is_live x nodes, finalised_live limit x, swept_live limit nodes)

live_in : (phase : Phase) (shape : Shape) (old new : State) (pages : ℕ) (numbers : List ℕ) → SweepsInPhase phase shape old pages numbers new
    → live_count new.nodes ≡ live_count old.nodes
live_in Idle shape old new pages numbers h = ap (λ (s : State). live_count s.nodes) h.1
live_in Marking shape old new pages numbers h = ap (λ (s : State). live_count s.nodes) h.1
live_in Sweeping shape old new pages numbers h = ap (λ (s : State). live_count s.nodes) h.after ∙ swept_live (pages * shape.page_words) old.nodes

-- ---- a pause

settled_marking : (setup : Setup) (s : State) → IsSound setup s → s.phase ≡ Marking → (n : ℕ) → IsDead s.nodes n → ⊥
settled_marking setup s g on = subst (λ phase. IsSettled setup.shape phase s.cursor s.nodes) on g.settled

-- what the line counts, in lines that end with those of the pause
judges : (setup : Setup) (markers : ℕ) (want : Want) (old new : State) (piece : List Entry) (numbers : List ℕ) (lines whole : List Line)
    (kept dead crew traced : ℕ) (walked : Bool) → IsSound setup old → old.phase ≡ Marking → IsPause setup markers want old piece lines new
    → whole ≡ finalise_lines numbers ++ lines → Contains whole (L.Pause kept dead crew traced walked) → AreJudged old kept dead new
judges setup markers want old new piece numbers lines whole kept dead crew traced walked g on p is there =
    let told : Line = L.Pause kept dead crew traced walked in
    let mid : State = took old p.before in
    let nodes : List Node = condemn p.kept mid.nodes in
    let line : L.Pause (live_count nodes) (dead_count nodes) p.done.crew p.done.traced p.done.walked ≡ told =
    the_one (finalise_lines numbers) _ _ told (others_finalised numbers) (each_callback_line IsOther (λ n d. refl) (λ n c. refl) _ _) refl
    (subst (λ ls. Contains ls told) (is ∙ ap (λ ls. finalise_lines numbers ++ ls) p.done.lines_are) there) in
    let lives : live_count nodes ≡ kept = cc in
    let deaths : dead_count nodes ≡ dead = cc in
    let look : LookSame nodes new.nodes =
    subst (λ ns. LookSame (condemn p.kept ns) new.nodes) (sym (took_nodes old p.before)) (paused_look setup markers want old new piece lines g p) in
    let live_after : live_count new.nodes ≡ live_count nodes = look_count is_live nodes new.nodes look in
    let dead_after : dead_count new.nodes ≡ dead_count nodes = look_count is_dead nodes new.nodes look in
    let there_after : objects_of new.nodes ≡ objects_of mid.nodes =
    ap (λ (s : State). objects_of s.nodes) p.done.after
    ∙ (same_count mid.nodes _ (paused_weights setup.callbacks (weak_calls setup.types nodes) (run_order nodes mid.registrations) p.kept mid.nodes)).there in
    let before : objects_of mid.nodes ≡ objects_of old.nodes = ap objects_of (took_nodes old p.before) in
    let none : dead_count old.nodes ≡ 0 = none_dead old.nodes (settled_marking setup old g on) in
    record {
      live = live_after ∙ lives;
      condemned = dead_after ∙ deaths;
      lived = omega (arith, live_and_dead old.nodes, live_and_dead new.nodes, live_after, dead_after, there_after, before, none, lives, deaths);
    }

on_mark : (phase : Phase) → is_marking phase ≡ true → phase ≡ Marking
on_mark Idle e = cc
on_mark Marking e = refl
on_mark Sweeping e = cc

judged_same : (old other after new : State) (kept dead : ℕ) → live_count other.nodes ≡ live_count old.nodes → new.nodes ≡ after.nodes
    → AreJudged other kept dead after → AreJudged old kept dead new
judged_same old other after new kept dead same e h = record {
  live = ap live_count e ∙ h.live;
  condemned = ap dead_count e ∙ h.condemned;
  lived = sym same ∙ h.lived;
}

-- ---- the commands

pub pauses_count_nodes : PausesCountNodes
pauses_count_nodes setup old new want piece lines kept dead crew traced walked valid step there =
    let told : Line = L.Pause kept dead crew traced walked in
    let g : IsSound setup old = sound_from setup old valid in
    elim step [
      | inl h ↦
          finish_told setup want old new piece lines told (AreJudged old kept dead new) refl there
          (λ on f. judged_same old old f.0 new kept dead refl (ap (λ (s : State). s.nodes) f.2)
          (judges setup setup.markers want old f.0 piece [] lines lines kept dead crew traced walked g (on_mark old.phase on) f.1 refl there)) h
      | inr h ↦
          now_told setup want old new piece lines told (AreJudged old kept dead new) refl there
          (λ off c. (let nodes : c.started.nodes ≡ c.swept.nodes = ap (λ (s : State). s.nodes) c.start.after ∙ took_nodes c.swept c.first in
          judged_same old c.started c.paused new kept dead
          (ap live_count nodes ∙ live_in old.phase setup.shape old c.swept setup.shape.pages c.numbers c.ended) (ap (λ (s : State). s.nodes) c.after)
          (judges setup 0 want c.started c.paused c.second c.numbers c.pause_lines lines kept dead crew traced walked
          (collection_begins setup want old new piece lines off g c) (ap (λ (s : State). s.phase) c.start.after) c.pause c.lines_are there))) h
    ]
