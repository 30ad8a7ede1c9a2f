-- A sweep keeps a state sound.
use Rattle.std.proofs.Common.{◌≡◌, ◌≢◌, ℕ, ◌+◌, ◌*◌, ◌<◌, ◌≤◌, ◌==◌, min, nat_lt, false, true≢false, List, length, get_or, map, All, refl, sym, ap, ◌∙◌, subst, arith, ltb-false, eq-eqb, if◌then◌else◌}
use Rattle.std.proofs.lemmas.Bool.{cond_both, eqb-true, eqb-false}
use Rattle.std.proofs.lemmas.List.{length-map}
use Rattle.std.proofs.lemmas.List.Elements.{All-map}
use Rattle.gc_graph.specs.declared.kind.Value.{Value}
use Rattle.gc_graph.specs.declared.kind.Value.TheVariants.{Null, Ref, Word}
use Rattle.gc_graph.specs.declared.line.Line.{Line}
use Rattle.gc_graph.specs.declared.line.Refusal.TheVariants as R
use Rattle.gc_graph.specs.declared.phase.Phase.{Phase}
use Rattle.gc_graph.specs.declared.phase.Phase.TheVariants.{Idle, Marking, Sweeping}
use Rattle.gc_graph.specs.State.{Setup, Shape, State, Node, no_node, Life, node_at, is_there, IsLive, IsDead, size_of}
use Rattle.gc_graph.specs.State.Life.{Live, Dead, Gone}
use Rattle.gc_graph.specs.Sweep.{buried, finalise, phase_at, swept_state, SweepsInPhase}
use Rattle.gc_graph.specs.Valid.{IsTyped, NamesLive, word_count, IsSettled}
use Rattle.gc_graph.specs.Outcomes.{answered}
use Rattle.gc_graph.specs.CycleSteps.{is_marking, is_sweeping, StepSweepTo, StepSweep, StepSweepAll}
use Rattle.gc_graph.specs.FinalisedNodes.{there_before}
use Rattle.gc_graph.proofs.Sound.{slot_weaker, word_weaker, region_weaker, MayHas, IsRoot, IsHeap, MayFollows, IsSound}
use Rattle.gc_graph.proofs.NodeWrites.{IsPlaced, apart_after, within_after, pure_after}
use Rattle.gc_graph.proofs.Condemned.{map_at}
use Rattle.gc_graph.proofs.ValidCases.{bool_is, landed, refused_sound}
use Rattle.gc_graph.proofs.ValidHandles.{Root}

-- ---- one node

live_before : (x : Life) → buried x ≡ Live → x ≡ Live
live_before Live e = e
live_before Dead e = cc
live_before Gone e = e

pub never_dead : (x : Life) → buried x ≡ Dead → ⊥
never_dead Live e = cc
never_dead Dead e = cc
never_dead Gone e = cc

-- the node was finalised, or is as it was
record IsSweptNode (limit : ℕ) (x y : Node) : Type 0 where
  placed : IsPlaced x y
  live : x.life ≡ Live → y.life ≡ Live
  was_live : y.life ≡ Live → x.life ≡ Live
  dead : y.life ≡ Dead → (x.life ≡ Dead) × (limit ≤ y.place)
  same : y.object ≡ x.object

swept_node : (limit : ℕ) (x : Node) → IsSweptNode limit x (finalise limit x)
swept_node limit x =
    cond_both (nat_lt x.place limit) (record x { life = buried x.life }) x (IsSweptNode limit x)
    (λ e. record {
      placed = record { place = refl; size = refl; there = there_before x.life };
      live = λ live. ap buried live;
      was_live = live_before x.life;
      dead = λ d. absurd (never_dead x.life d);
      same = refl;
    })
    (λ e. record {
      placed = record { place = refl; size = refl; there = λ t. t };
      live = λ live. live;
      was_live = λ live. live;
      dead = λ d. (d, ltb-false x.place limit e);
      same = refl;
    })

nowhere_same : (limit : ℕ) → finalise limit no_node ≡ no_node
nowhere_same limit = cond_both (nat_lt 0 limit) (record no_node { life = Gone }) no_node (λ x. x ≡ no_node) (λ e. refl) (λ e. refl)

-- ---- all nodes

module _ (setup : Setup) (s : State) (pages : ℕ) (g : IsSound setup s) (most : pages ≤ setup.shape.pages) where
  abbrev Limit : ℕ
  Limit = pages * setup.shape.page_words

  abbrev Swept : List Node
  Swept = map (finalise Limit) s.nodes

  abbrev Then : Phase
  Then = phase_at setup.shape pages

  at : (m : ℕ) → IsSweptNode Limit (node_at s.nodes m) (node_at Swept m)
  at m = subst (IsSweptNode Limit (node_at s.nodes m)) (sym (map_at (finalise Limit) s.nodes m (nowhere_same Limit))) (swept_node Limit (node_at s.nodes m))

  whole : length Swept ≡ length s.nodes
  whole = length-map s.nodes (finalise Limit)

  names : (value : Value) → NamesLive s.nodes value → NamesLive Swept value
  names Null h = tt
  names (Ref n) h = (at n).live h
  names (Word w) h = tt

  typed_one : (x : Node) → IsTyped setup (length Swept) x → IsTyped setup (length Swept) (finalise Limit x)
  typed_one x t =
      cond_both (nat_lt x.place Limit) (record x { life = buried x.life }) x (IsTyped setup (length Swept))
      (λ e. record { ty = t.ty; kinds_are = t.kinds_are; values_are = t.values_are; count = t.count }) (λ e. t)

  swept_typed : All (IsTyped setup (length Swept)) Swept
  swept_typed =
      All-map (IsTyped setup (length Swept)) (finalise Limit) s.nodes
      (λ k d l. typed_one _ (subst (λ bound. IsTyped setup bound (get_or s.nodes k d)) (sym whole) (g.heap.typed k d l)))

  swept_heap : IsHeap setup Swept
  swept_heap = record {
    typed = swept_typed;
    named = λ m live.
        subst (λ o. All (NamesLive Swept) o.values) (sym (at m).same) (λ k d l. names _ (g.heap.named m ((at m).was_live live) k d l));
    apart = apart_after setup s.nodes Swept (λ m. (at m).placed) g.heap.apart;
    within = within_after setup s.nodes Swept (λ m. (at m).placed) g.heap.within;
    pure = pure_after setup s.nodes Swept (λ m. (at m).placed) g.heap.pure;
  }

  dead_there : (m : ℕ) → IsDead Swept m → (Limit ≤ (node_at Swept m).place) × ((node_at Swept m).place < word_count setup.shape)
  dead_there m dead =
      let d = (at m).dead dead in
      let within : (node_at Swept m).place + size_of (node_at Swept m) ≤ word_count setup.shape = swept_heap.within m (ap is_there dead) in
      (d.1, omega arith)

  swept_settled : IsSettled setup.shape Then pages Swept
  swept_settled =
      cond_both (pages == setup.shape.pages) Idle Sweeping (λ phase. IsSettled setup.shape phase pages Swept)
      (λ e m dead.
      let d = dead_there m dead in
      let low : Limit ≤ (node_at Swept m).place = d.0 in
      let high : (node_at Swept m).place < word_count setup.shape = d.1 in
      let same : Limit ≡ word_count setup.shape = ap (λ p. p * setup.shape.page_words) (eqb-true pages setup.shape.pages e) in
      omega arith)
      (λ e. (let ne : pages ≢ setup.shape.pages = eqb-false pages setup.shape.pages e in omega arith, λ m dead. (dead_there m dead).0))

  root_swept : (n : ℕ) → Root s n → IsRoot Swept Then s.may n
  root_swept n r = record {
    live = (at n).live r.live;
    in_may = cond_both (pages == setup.shape.pages) Idle Sweeping (λ phase. MayHas phase s.may n) (λ e. tt) (λ e. tt);
  }

  pub sweep_sound : (numbers : List ℕ) → IsSound setup (swept_state setup.shape s pages numbers)
  sweep_sound numbers = record {
    heap = swept_heap;
    slots = λ k d l. slot_weaker (Root s) (IsRoot Swept Then s.may) root_swept _ (g.slots k d l);
    weak = λ k d l. slot_weaker (IsLive s.nodes) (IsLive Swept) (λ n h. (at n).live h) _ (g.weak k d l);
    stack = λ k d l. word_weaker (Root s) (IsRoot Swept Then s.may) root_swept _ (g.stack k d l);
    region = λ k d l.
        region_weaker (Root s) (IsLive s.nodes) (IsRoot Swept Then s.may) (IsLive Swept) root_swept (λ n h. (at n).live h) _ (g.region k d l);
    registered = λ k d l. (at _).live (g.registered k d l);
    settled = swept_settled;
    may = cond_both (pages == setup.shape.pages) Idle Sweeping (λ phase. MayFollows phase Swept s.may) (λ e. tt) (λ e. tt);
  }

pub sweeps_sound : (setup : Setup) (old new : State) (phase : Phase) (pages : ℕ) (numbers : List ℕ) → IsSound setup old → pages ≤ setup.shape.pages
    → SweepsInPhase phase setup.shape old pages numbers new → IsSound setup new
sweeps_sound setup old new Idle pages numbers g most h = landed setup new old h.1 g
sweeps_sound setup old new Marking pages numbers g most h = landed setup new old h.1 g
sweeps_sound setup old new Sweeping pages numbers g most h = landed setup new (swept_state setup.shape old pages numbers) h.after (sweep_sound setup old pages g most numbers)

-- after the end of a sweep none is open
pub ended_phase : (shape : Shape) (old new : State) (phase : Phase) (numbers : List ℕ) → old.phase ≡ phase → is_marking phase ≡ false
    → SweepsInPhase phase shape old shape.pages numbers new → new.phase ≡ Idle
ended_phase shape old new Idle numbers e m h = ap (λ (s : State). s.phase) h.1 ∙ e
ended_phase shape old new Marking numbers e m h = absurd (true≢false m)
ended_phase shape old new Sweeping numbers e m h =
    ap (λ (s : State). s.phase) h.after ∙ ap (λ b. if b then Idle else Sweeping) (eq-eqb shape.pages shape.pages refl)

-- ---- the commands

sweep_to_keeps : (setup : Setup) (old new : State) (pages : ℕ) (lines : List Line) → IsSound setup old → pages ≤ setup.shape.pages
    → StepSweepTo setup old pages lines new → IsSound setup new
sweep_to_keeps setup old new pages lines g most h =
    bool_is (is_sweeping old.phase) _ _ (IsSound setup new)
    (λ e d. landed setup new (answered d.swept) d.after (sweeps_sound setup old d.swept old.phase pages d.numbers g most d.goes))
    (λ e r. refused_sound setup old new lines R.Phase g r) h

pub sweep_keeps : (setup : Setup) (old new : State) (n : ℕ) (lines : List Line) → IsSound setup old → StepSweep setup old n lines new → IsSound setup new
sweep_keeps setup old new n lines g h = sweep_to_keeps setup old new (min (old.cursor + n) setup.shape.pages) lines g (omega arith) h

pub sweep_all_keeps : (setup : Setup) (old new : State) (lines : List Line) → IsSound setup old → StepSweepAll setup old lines new → IsSound setup new
sweep_all_keeps setup old new lines g h = sweep_to_keeps setup old new setup.shape.pages lines g (omega arith) h
