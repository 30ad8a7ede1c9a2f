-- A whole precise collection where no thread runs: what it condemns.
use Rattle.std.proofs.Common.{◌≡◌, ◌≢◌, ◌↔◌, ℕ, Bool, true, false, true≢false, List, [], ◌∷◌, map, refl, sym, ap, ◌∙◌, subst, arith, cond, ltb}
use Rattle.std.specs.List.{Contains}
use Rattle.std.proofs.lemmas.List.{append-nil}
use Rattle.gc_graph.specs.declared.command.Want.{Want}
use Rattle.gc_graph.specs.declared.command.Want.TheVariants.{Precise}
use Rattle.gc_graph.specs.declared.line.Line.{Line}
use Rattle.gc_graph.specs.declared.phase.Phase.{Phase}
use Rattle.gc_graph.specs.declared.phase.Phase.TheVariants.{Idle, Marking, Sweeping}
use Rattle.gc_graph.specs.declared.region.Entry.{Entry}
use Rattle.gc_graph.specs.declared.region.Op.TheVariants as O
use Rattle.gc_graph.specs.Graph.{has, IsIn}
use Rattle.gc_graph.specs.Reach.{Reach}
use Rattle.gc_graph.specs.State.{Setup, State, Node, Life, node_at, IsLive, IsDead, graph_of, roots_of}
use Rattle.gc_graph.specs.State.Life.{Live, Dead, Gone}
use Rattle.gc_graph.specs.May.{marking}
use Rattle.gc_graph.specs.Sweep.{SweepsInPhase, finalise, buried}
use Rattle.gc_graph.specs.Pause.{IsKept, most_kept, judged, condemn}
use Rattle.gc_graph.specs.Outcomes.{took, with_entry, owner_entry, AreOthers}
use Rattle.gc_graph.specs.CycleSteps.{is_marking, IsStart, IsPause}
use Rattle.gc_graph.specs.Valid.{IsSettled, IsValid}
use Rattle.gc_graph.specs.PlacementLaw.{FinalisesDead}
use Rattle.gc_graph.specs.MayLaw.{HasStarted}
use Rattle.gc_graph.specs.CollectionLaw.{IsReached, CollectsUnreached}
use Rattle.gc_graph.proofs.Sweeps.{finalises}
use Rattle.gc_graph.proofs.NodeWrites.{LookSame}
use Rattle.gc_graph.proofs.Condemned.{condemned_at, was_live, was_kept}
use Rattle.gc_graph.proofs.Sound.{IsSound, sound_from}
use Rattle.gc_graph.proofs.ValidRegion.{others_sound, took_nodes, took_own}
use Rattle.gc_graph.proofs.ValidPause.{look}
use Rattle.gc_graph.proofs.MayBounds.{bounds_meet}
use Rattle.gc_graph.proofs.MayLaws.{collection_started}

-- ---- where no thread runs, no thread has an entry

nobody : (s : State) (entries : List Entry) → s.running ≡ [] → AreOthers s entries → entries ≡ []
nobody s [] none h = refl
nobody s (entry ∷ entries) none h =
    let one : Contains s.running entry.thread = (h 0 entry (omega arith)).0 in
    absurd (let l = (subst (λ threads. Contains threads entry.thread) none one).1 in omega arith)

pub took_running : (s : State) (entries : List Entry) → (took s entries).running ≡ s.running
took_running s [] = refl
took_running s (entry ∷ entries) = took_running (with_entry s entry) entries

-- ---- the sweep that is ended first

same_object : (b : Bool) (node : Node) → (cond b (record node { life = buried node.life }) node).object ≡ node.object
same_object true node = refl
same_object false node = refl

graph_finalised : (limit : ℕ) (nodes : List Node) → graph_of (map (finalise limit) nodes) ≡ graph_of nodes
graph_finalised limit [] = refl
graph_finalised limit (node ∷ nodes) =
    ap (λ o. o ∷ graph_of (map (finalise limit) nodes)) (same_object (ltb node.place limit) node) ∙ ap (λ os. node.object ∷ os) (graph_finalised limit nodes)

-- what an ended sweep leaves
record IsLeft (old swept : State) : Type 0 where
  graph : graph_of swept.nodes ≡ graph_of old.nodes
  roots : roots_of swept ≡ roots_of old
  running : swept.running ≡ old.running
  live_on : (n : ℕ) → IsLive old.nodes n → IsLive swept.nodes n
  lived : (n : ℕ) → IsLive swept.nodes n → IsLive old.nodes n
  none : (n : ℕ) → IsDead swept.nodes n → ⊥

left_same : (old swept : State) → swept ≡ old → ((n : ℕ) → IsDead old.nodes n → ⊥) → IsLeft old swept
left_same old swept e none =
    subst (IsLeft old) (sym e)
    (record { graph = refl; roots = refl; running = refl; live_on = λ n l. l; lived = λ n l. l; none = none })

lived_before : (old new : State) (numbers : List ℕ) (n : ℕ) (life : Life) → FinalisesDead old numbers new → (node_at old.nodes n).life ≡ life
    → IsLive new.nodes n → IsLive old.nodes n
lived_before old new numbers n Live f e live = e
lived_before old new numbers n Dead f e live = (let gone = f.gone n e in cc)
lived_before old new numbers n Gone f e live = (let same = ap (λ (x : Node). x.life) (f.others n (λ d. cc)) in sym same ∙ live)

left_in : (phase : Phase) (setup : Setup) (old swept : State) (numbers : List ℕ) → old.phase ≡ phase → IsValid setup old
    → SweepsInPhase phase setup.shape old setup.shape.pages numbers swept → IsLeft old swept
left_in Idle setup old swept numbers e valid h =
    left_same old swept h.1 (subst (λ phase. IsSettled setup.shape phase old.cursor old.nodes) e valid.settled)
left_in Marking setup old swept numbers e valid h =
    left_same old swept h.1 (subst (λ phase. IsSettled setup.shape phase old.cursor old.nodes) e valid.settled)
left_in Sweeping setup old swept numbers e valid h =
    let f : FinalisesDead old numbers swept = finalises setup old swept numbers valid h in
    record {
      graph = ap (λ (s : State). graph_of s.nodes) h.after ∙ graph_finalised _ old.nodes;
      roots = ap roots_of h.after;
      running = ap (λ (s : State). s.running) h.after;
      live_on = λ n l. ap (λ (x : Node). x.life) (f.others n (λ d. cc)) ∙ l;
      lived = λ n l. lived_before old swept numbers n (node_at old.nodes n).life f refl l;
      none = f.none;
    }

-- ---- the start, where no thread has an entry

started_is : (setup : Setup) (swept new : State) (piece : List Entry) → swept.running ≡ [] → IsStart setup swept piece new
    → new ≡ marking (with_entry swept (owner_entry swept O.Start))
started_is setup swept new piece none h =
    h.after
    ∙ ap marking (took_own swept h.before piece O.Start h.piece_is)
    ∙ ap (λ entries. marking (with_entry (took swept entries) (owner_entry (took swept entries) O.Start))) (nobody swept h.before none h.others)

-- ---- the pause

-- the nodes after a pause
pub paused_look : (setup : Setup) (markers : ℕ) (want : Want) (old new : State) (piece : List Entry) (lines : List Line) → IsSound setup old
    → (p : IsPause setup markers want old piece lines new) → LookSame (condemn p.kept old.nodes) new.nodes
paused_look setup markers want old new piece lines sound p =
    let mid : State = took old p.before in
    let same : LookSame (condemn p.kept mid.nodes) new.nodes =
    subst (λ (s : State). LookSame (condemn p.kept mid.nodes) s.nodes) (sym p.done.after)
    (look setup mid want p.kept (others_sound setup old p.before p.others sound) p.done.keeps) in
    subst (λ nodes. LookSame (condemn p.kept nodes) new.nodes) (took_nodes old p.before) same

-- a node's life after a pause
paused_life : (setup : Setup) (markers : ℕ) (want : Want) (old new : State) (piece : List Entry) (lines : List Line) → IsSound setup old
    → (p : IsPause setup markers want old piece lines new) → (n : ℕ) → (node_at new.nodes n).life ≡ judged (has p.kept n) (node_at old.nodes n).life
paused_life setup markers want old new piece lines sound p n =
    ((paused_look setup markers want old new piece lines sound p).like n).life ∙ ap (λ (x : Node). x.life) (condemned_at p.kept old.nodes n)

-- a precise pause of a collection that has just started, where no thread runs, keeps just what the roots reach
precise_kept : (setup : Setup) (markers : ℕ) (old new : State) (piece : List Entry) (lines : List Line) → HasStarted setup old → old.running ≡ []
    → (p : IsPause setup markers Precise old piece lines new) → (n : ℕ) → IsIn p.kept n ↔ IsReached old n
precise_kept setup markers old new piece lines begun none p n =
    let keeps : IsKept old [] p.kept = subst (λ entries. IsKept (took old entries) [] p.kept) (nobody old p.before none p.others) p.done.keeps in
    let most : most_kept old [] ≡ Reach (graph_of old.nodes) (roots_of old) =
    (bounds_meet setup old Precise begun.valid begun.marking).exact refl ∙ begun.may in (
      (λ i. subst (λ set. IsIn set n) most (keeps.bounded n i)),
      (λ i. keeps.reached n (subst (λ roots. IsIn (Reach (graph_of old.nodes) roots) n) (sym (append-nil (roots_of old))) i)),
    )

-- ---- lives

died : (flag : Bool) (stage : Life) → (stage ≡ Dead → ⊥) → judged flag stage ≡ Dead → (flag ≡ false) × (stage ≡ Live)
died true stage alive e = absurd (alive e)
died false Live alive e = (refl, refl)
died false Dead alive e = absurd (alive refl)
died false Gone alive e = absurd (cc)

dies_unkept : (flag : Bool) (stage : Life) → stage ≡ Live → (flag ≡ true → ⊥) → judged flag stage ≡ Dead
dies_unkept true stage live out = absurd (out refl)
dies_unkept false stage live out = ap (judged false) live

lives_kept : (flag : Bool) (stage : Life) → stage ≡ Live → flag ≡ true → judged flag stage ≡ Live
lives_kept flag stage live in_ = ap (λ b. judged b stage) in_ ∙ live

not_marking : (phase : Phase) → phase ≢ Marking → is_marking phase ≡ false
not_marking Idle out = refl
not_marking Marking out = absurd (out refl)
not_marking Sweeping out = refl

-- ---- the whole collection

pub collects_unreached : CollectsUnreached
collects_unreached setup old new piece lines valid out none done =
    let sound : IsSound setup old = sound_from setup old valid in
    let begun : HasStarted setup done.started = collection_started setup Precise old new piece lines sound (not_marking old.phase out) done in
    let left : IsLeft old done.swept = left_in old.phase setup old done.swept done.numbers refl valid done.ended in
    let started : done.started ≡ marking (with_entry done.swept (owner_entry done.swept O.Start)) =
    started_is setup done.swept done.started done.first (left.running ∙ none) done.start in
    let nodes : done.started.nodes ≡ done.swept.nodes = ap (λ (s : State). s.nodes) started in
    let reached : (n : ℕ) → IsReached done.started n ≡ IsReached old n =
    (λ n. ap (λ (s : State). IsReached s n) started
    ∙ ap (λ graph. IsIn (Reach graph (roots_of done.swept)) n) left.graph ∙ ap (λ roots. IsIn (Reach (graph_of old.nodes) roots) n) left.roots) in
    let kept : (n : ℕ) → IsIn done.pause.kept n ↔ IsReached done.started n =
    precise_kept setup 0 done.started done.paused done.second done.pause_lines begun
    (ap (λ (s : State). s.running) started ∙ left.running ∙ none) done.pause in
    let life : (n : ℕ) → (node_at new.nodes n).life ≡ judged (has done.pause.kept n) (node_at done.swept.nodes n).life =
    (λ n. ap (λ (s : State). (node_at s.nodes n).life) done.after
    ∙ paused_life setup 0 Precise done.started done.paused done.second done.pause_lines (sound_from setup done.started begun.valid) done.pause n
    ∙ ap (λ ns. judged (has done.pause.kept n) (node_at ns n).life) nodes) in
    record {
      condemned = λ n. (
        (λ dead.
            let both = died (has done.pause.kept n) (node_at done.swept.nodes n).life (left.none n) (sym (life n) ∙ dead) in (
              left.lived n both.1,
              λ r. true≢false (sym ((kept n).1 (subst (λ (A : Type 0). A) (sym (reached n)) r)) ∙ both.0),
            )),
        (λ h. life n ∙ dies_unkept (has done.pause.kept n) (node_at done.swept.nodes n).life (left.live_on n h.0)
            (λ i. h.1 (subst (λ (A : Type 0). A) (reached n) ((kept n).0 i)))),
      );
      spared = λ n. (
        (λ live. (
          left.lived n (was_live (has done.pause.kept n) (node_at done.swept.nodes n).life (sym (life n) ∙ live)),
          subst (λ (A : Type 0). A) (reached n)
              ((kept n).0 (was_kept (has done.pause.kept n) (node_at done.swept.nodes n).life (sym (life n) ∙ live))),
        )),
        (λ h. life n ∙ lives_kept (has done.pause.kept n) (node_at done.swept.nodes n).life (left.live_on n h.0)
            ((kept n).1 (subst (λ (A : Type 0). A) (sym (reached n)) h.1))),
      );
    }
