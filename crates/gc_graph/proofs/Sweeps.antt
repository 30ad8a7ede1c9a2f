-- The sweep of all pages.
use Rattle.std.proofs.Common.{◌≡◌, ℕ, ◌*◌, true, List, refl, sym, ap, ◌∙◌, arith, ltb, eqb}
use Rattle.std.proofs.lemmas.Bool.{cond-true, lt-ltb, eq-eqb}
use Rattle.gc_graph.specs.declared.phase.Phase.{Phase}
use Rattle.gc_graph.specs.declared.phase.Phase.TheVariants.{Idle, Marking, Sweeping}
use Rattle.gc_graph.specs.State.{Setup, Shape, State, Node, Life, node_at, IsDead, is_there}
use Rattle.gc_graph.specs.State.Life.{Live, Dead, Gone}
use Rattle.gc_graph.specs.Sweep.{SweepsInPhase, ContinuesSweep, IsDeadBelow, finalise, buried, phase_at}
use Rattle.gc_graph.specs.Valid.{IsValid}
use Rattle.gc_graph.specs.PlacementLaw.{FinalisesDead, SweepsFinaliseDead}
use Rattle.gc_graph.specs.FinalisedNodes.{same_either, finalised_at}

pub alive_stays : (life : Life) → (life ≡ Dead → ⊥) → life ≡ buried life
alive_stays Live alive = refl
alive_stays Dead alive = absurd (alive refl)
alive_stays Gone alive = refl

-- a node that isn't dead is left alone
finalise-others : (limit : ℕ) (node : Node) → (node.life ≡ Dead → ⊥) → finalise limit node ≡ node
finalise-others limit node alive = same_either (ltb node.place limit) node (alive_stays node.life alive)

dead_is_there : (life : Life) → life ≡ Dead → is_there life ≡ true
dead_is_there stage e = ap is_there e

pub swept_phase : (shape : Shape) → phase_at shape shape.pages ≡ Idle
swept_phase shape = cond-true (eqb shape.pages shape.pages) Idle Sweeping (eq-eqb shape.pages shape.pages refl)

module _ (setup : Setup) (old new : State) (numbers : List ℕ) (valid : IsValid setup old)
    (sweep : ContinuesSweep setup.shape old setup.shape.pages numbers new) where
  -- a dead node lies in the heap, and so below the end of its last page
  dead_below : (n : ℕ) → IsDead old.nodes n → IsDeadBelow old.nodes (setup.shape.pages * setup.shape.page_words) n
  dead_below n dead =
      let inside = valid.within n (dead_is_there (node_at old.nodes n).life dead) in
      record { dead = dead; below = omega (arith, inside) }

  after_at : (n : ℕ) → node_at new.nodes n ≡ finalise (setup.shape.pages * setup.shape.page_words) (node_at old.nodes n)
  after_at n =
      ap (λ (s : State). node_at s.nodes n) sweep.after ∙ finalised_at (setup.shape.pages * setup.shape.page_words) old.nodes n

  others_stay : (n : ℕ) → (IsDead old.nodes n → ⊥) → node_at new.nodes n ≡ node_at old.nodes n
  others_stay n alive = after_at n ∙ finalise-others (setup.shape.pages * setup.shape.page_words) (node_at old.nodes n) alive

  dead_go : (n : ℕ) → IsDead old.nodes n → (node_at new.nodes n).life ≡ Gone
  dead_go n dead =
      ap (λ (x : Node). x.life) (after_at n)
      ∙ ap (λ (x : Node). x.life)
      (cond-true (ltb (node_at old.nodes n).place (setup.shape.pages * setup.shape.page_words)) _ _ (lt-ltb _ _ (dead_below n dead).below))
      ∙ ap buried dead

  live_stays : (n : ℕ) (life : Life) → (node_at old.nodes n).life ≡ life → (life ≡ Dead → ⊥) → IsDead new.nodes n → ⊥
  live_stays n stage is alive dead =
      alive (sym is ∙ sym (ap (λ (x : Node). x.life) (others_stay n (λ d. alive (sym is ∙ d)))) ∙ dead)

  nobody_dead_at : (n : ℕ) (life : Life) → (node_at old.nodes n).life ≡ life → IsDead new.nodes n → ⊥
  nobody_dead_at n Live is dead = live_stays n Live is (λ e. cc) dead
  nobody_dead_at n Dead is dead = (let gone = dead_go n is in cc)
  nobody_dead_at n Gone is dead = live_stays n Gone is (λ e. cc) dead

  nobody_dead : (n : ℕ) → IsDead new.nodes n → ⊥
  nobody_dead n dead = nobody_dead_at n (node_at old.nodes n).life refl dead

  pub finalises : FinalisesDead old numbers new
  finalises = record {
    dead = λ k d l. (sweep.finalised.dead k d l).dead;
    whole = λ n dead. sweep.finalised.whole n (dead_below n dead);
    once = λ i j l m e. (let up = sweep.finalised.ascending i j l m in
        absurd (omega (arith, up, ap (λ n. (node_at old.nodes n).place) e)));
    ascending = sweep.finalised.ascending;
    gone = dead_go;
    none = nobody_dead;
    others = others_stay;
    over = ap (λ (s : State). s.phase) sweep.after ∙ swept_phase setup.shape;
  }

sweeps_in : (phase : Phase) (setup : Setup) (old new : State) (numbers : List ℕ) → IsValid setup old → phase ≡ Sweeping
    → SweepsInPhase phase setup.shape old setup.shape.pages numbers new → FinalisesDead old numbers new
sweeps_in Idle setup old new numbers v e h = cc
sweeps_in Marking setup old new numbers v e h = cc
sweeps_in Sweeping setup old new numbers v e h = finalises setup old new numbers v h

pub sweeps_finalise_dead : SweepsFinaliseDead
sweeps_finalise_dead setup old new numbers v e h = sweeps_in old.phase setup old new numbers v e h
