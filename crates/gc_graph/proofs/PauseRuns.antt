-- What a pause of a valid state ran and told, whichever command it was of.
use Rattle.std.proofs.Common.{◌≡◌, ◌⊎◌, ℕ, Bool, false, List, [], ◌∷◌, ◌++◌, filter, not, Contains, refl, sym, ap, ◌∙◌, subst, inl, inr, if◌then◌else◌}
use Rattle.std.proofs.lemmas.List.Elements.{filter-append}
use Rattle.gc_graph.specs.declared.command.Command.TheVariants as C
use Rattle.gc_graph.specs.declared.command.Want.{Want}
use Rattle.gc_graph.specs.declared.line.Line.{Line}
use Rattle.gc_graph.specs.declared.line.Line.TheVariants as L
use Rattle.gc_graph.specs.declared.region.Entry.{Entry}
use Rattle.gc_graph.specs.State.{Setup, State, Node, node_at}
use Rattle.gc_graph.specs.Outcomes.{finalise_lines, took}
use Rattle.gc_graph.specs.Pause.{condemn, live_count, dead_count, clear_fields, dies, run_order, prefinalised}
use Rattle.gc_graph.specs.WeakCalls.{weak_calls, called}
use Rattle.gc_graph.specs.Paused.{callback_lines}
use Rattle.gc_graph.specs.CycleSteps.{IsPause}
use Rattle.gc_graph.specs.Step.{Step}
use Rattle.gc_graph.specs.Valid.{IsValid}
use Rattle.gc_graph.specs.PrefinalizerLaw.{tells_prefinalizer}
use Rattle.gc_graph.specs.WeakCallLaw.{tells_weak_callback}
use Rattle.gc_graph.proofs.Sound.{IsSound, sound_from}
use Rattle.gc_graph.proofs.NodeWrites.{LookSame}
use Rattle.gc_graph.proofs.ValidRegion.{took_nodes}
use Rattle.gc_graph.proofs.ValidCycles.{collection_begins}
use Rattle.gc_graph.proofs.Condemned.{condemned_at}
use Rattle.gc_graph.proofs.Collections.{paused_look}
use Rattle.gc_graph.proofs.CycleLaws.{finish_told, now_told}
use Rattle.gc_graph.proofs.StepFrames.{Keeps, keeps_more, keeps_same, keeps_took, keeps_start, keeps_sweep}

-- the callbacks that ran, what they left, and their lines, after those of a sweep and one that is of no callback
pub record IsRun (setup : Setup) (old : State) (lines : List Line) (new : State) : Type 0 where
  pub judged_nodes : List Node
  pub objects : (n : ℕ) → (node_at judged_nodes n).object ≡ (node_at old.nodes n).object
  pub lives : (n : ℕ) → (node_at new.nodes n).life ≡ (node_at judged_nodes n).life
  pub numbers : List ℕ
  pub line : Line
  pub no_weak : tells_weak_callback line ≡ false
  pub no_last : tells_prefinalizer line ≡ false
  pub lines_are :
      lines ≡ finalise_lines numbers ++ line ∷ callback_lines (weak_calls setup.types judged_nodes) (run_order judged_nodes old.registrations)
  pub ran :
      new.nodes
      ≡ prefinalised setup.callbacks (run_order judged_nodes old.registrations)
      (called setup.callbacks (weak_calls setup.types judged_nodes) (clear_fields judged_nodes))
  pub left : new.registrations ≡ filter (λ r. not (dies judged_nodes r)) old.registrations

none_of_sweep : (test : Line → Bool) → ((n : ℕ) → test (L.Finalise n) ≡ false) → (numbers : List ℕ) → filter test (finalise_lines numbers) ≡ []
none_of_sweep test gone [] = refl
none_of_sweep test gone (n ∷ numbers) =
    ap (λ b. if b then L.Finalise n ∷ filter test (finalise_lines numbers) else filter test (finalise_lines numbers)) (gone n)
    ∙ none_of_sweep test gone numbers

-- the lines that pass a test are among those of the callbacks
pub passing : (test : Line → Bool) → ((n : ℕ) → test (L.Finalise n) ≡ false) → (numbers : List ℕ) (line : Line) (lines rest : List Line)
    → test line ≡ false → lines ≡ finalise_lines numbers ++ line ∷ rest → filter test lines ≡ filter test rest
passing test gone numbers line lines rest fails is =
    ap (filter test) is ∙ filter-append test (finalise_lines numbers) (line ∷ rest)
    ∙ ap (λ ls. ls ++ filter test (line ∷ rest)) (none_of_sweep test gone numbers)
    ∙ ap (λ b. if b then line ∷ filter test rest else filter test rest) fails

-- ---- a pause

runs : (setup : Setup) (markers : ℕ) (want : Want) (old start new : State) (piece : List Entry) (numbers : List ℕ) (lines whole : List Line)
    → IsSound setup start → Keeps old start → (p : IsPause setup markers want start piece lines new) → whole ≡ finalise_lines numbers ++ lines
    → IsRun setup old whole new
runs setup markers want old start new piece numbers lines whole g kept p is =
    let mid : State = took start p.before in
    let nodes : List Node = condemn p.kept mid.nodes in
    let look : LookSame nodes new.nodes =
    subst (λ ns. LookSame (condemn p.kept ns) new.nodes) (sym (took_nodes start p.before)) (paused_look setup markers want start new piece lines g p) in
    let line : Line = L.Pause (live_count nodes) (dead_count nodes) p.done.crew p.done.traced p.done.walked in
    let same : mid.registrations ≡ old.registrations = (keeps_took start p.before).registrations ∙ kept.registrations in
    record {
      judged_nodes = nodes;
      objects = λ n.
          ap (λ (x : Node). x.object) (condemned_at p.kept mid.nodes n) ∙ (keeps_took start p.before).objects n ∙ kept.objects n;
      lives = λ n. (look.like n).life;
      numbers = numbers;
      line = line;
      no_weak = refl;
      no_last = refl;
      lines_are =
          is ∙ ap (λ ls. finalise_lines numbers ++ ls) p.done.lines_are
          ∙ ap (λ rs. finalise_lines numbers ++ line ∷ callback_lines (weak_calls setup.types nodes) (run_order nodes rs)) same;
      ran =
          ap (λ (s : State). s.nodes) p.done.after
          ∙ ap (λ rs. prefinalised setup.callbacks (run_order nodes rs) (called setup.callbacks (weak_calls setup.types nodes) (clear_fields nodes))) same;
      left = ap (λ (s : State). s.registrations) p.done.after ∙ ap (filter (λ r. not (dies nodes r))) same;
    }

runs_after : (setup : Setup) (old after new : State) (lines : List Line) → new.nodes ≡ after.nodes → new.registrations ≡ after.registrations
    → IsRun setup old lines after → IsRun setup old lines new
runs_after setup old after new lines same also h = record {
  judged_nodes = h.judged_nodes;
  objects = h.objects;
  lives = λ n. ap (λ ns. (node_at ns n).life) same ∙ h.lives n;
  numbers = h.numbers;
  line = h.line;
  no_weak = h.no_weak;
  no_last = h.no_last;
  lines_are = h.lines_are;
  ran = same ∙ h.ran;
  left = also ∙ h.left;
}

-- ---- the commands

pub pause_runs : (setup : Setup) (old new : State) (want : Want) (piece : List Entry) (lines : List Line) (kept dead crew traced : ℕ) (walked : Bool)
    → IsValid setup old → Step setup old (C.GcFinish want) piece lines new ⊎ Step setup old (C.GcNow want) piece lines new
    → Contains lines (L.Pause kept dead crew traced walked) → IsRun setup old lines new
pause_runs setup old new want piece lines kept dead crew traced walked valid step there =
    let told : Line = L.Pause kept dead crew traced walked in
    let g : IsSound setup old = sound_from setup old valid in
    elim step [
      | inl h ↦
          finish_told setup want old new piece lines told (IsRun setup old lines new) refl there
          (λ on f. runs_after setup old f.0 new lines (ap (λ (s : State). s.nodes) f.2) (ap (λ (s : State). s.registrations) f.2)
          (runs setup setup.markers want old old f.0 piece [] lines lines g (keeps_same old) f.1 refl)) h
      | inr h ↦
          now_told setup want old new piece lines told (IsRun setup old lines new) refl there
          (λ off c. (let k : Keeps old c.started =
          keeps_more old c.swept c.started (keeps_sweep setup.shape old c.swept setup.shape.pages c.numbers c.ended)
          (keeps_start setup c.swept c.started c.first c.start) in
          runs_after setup old c.paused new lines (ap (λ (s : State). s.nodes) c.after) (ap (λ (s : State). s.registrations) c.after)
          (runs setup 0 want old c.started c.paused c.second c.numbers c.pause_lines lines (collection_begins setup want old new piece lines off g c) k c.pause
          c.lines_are))) h
    ]
