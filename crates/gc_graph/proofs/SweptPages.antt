-- A sweep tells the dead nodes of the pages that it swept, how many pages these are, and leaves none of them.
use Rattle.std.proofs.Common.{◌≡◌, ◌≢◌, ℕ, zero, suc, ◌+◌, ◌*◌, ◌≤◌, false, List, [], ◌∷◌, ◌++◌, refl, sym, ap, ◌∙◌, subst, inl, inr, arith, Contains, cond, ltb, eqb}
use mathlib.Core.Logic.{◌⊎◌}
use Rattle.std.specs.Prelude.{min}
use Rattle.std.proofs.lemmas.Bool.{cases_lt, cond_both, cond-true, cond-false, eq-eqb, ne_eqb, ltb-false}
use Rattle.std.proofs.lemmas.List.Elements.{All-contains, Contains-append_left, Contains-append_cases}
use Rattle.gc_graph.specs.declared.line.Line.{Line}
use Rattle.gc_graph.specs.declared.line.Line.TheVariants as L
use Rattle.gc_graph.specs.declared.line.Refusal.TheVariants as R
use Rattle.gc_graph.specs.declared.phase.Phase.{Phase}
use Rattle.gc_graph.specs.declared.phase.Phase.TheVariants.{Idle, Marking, Sweeping}
use Rattle.gc_graph.specs.State.{Setup, Shape, State, Node, Life, node_at}
use Rattle.gc_graph.specs.State.Life.{Live, Dead, Gone}
use Rattle.gc_graph.specs.Sweep.{IsDeadBelow, buried, finalise, SweepsInPhase, ContinuesSweep}
use Rattle.gc_graph.specs.Outcomes.{IsRefused, RefusedUnless, finalise_lines}
use Rattle.gc_graph.specs.CycleSteps.{is_sweeping, HasSwept, StepSweepTo}
use Rattle.gc_graph.specs.Members.{Contains-map, Contains-map_some}
use Rattle.gc_graph.specs.FinalisedNodes.{finalised_at}
use Rattle.gc_graph.specs.SweptPagesLaw.{HasSweptPages, SweepsTellTheirPages}

-- ---- which nodes are told, and which are left

buried_not_dead : (life : Life) → buried life ≡ Dead → ⊥
buried_not_dead Live e = cc
buried_not_dead Dead e = cc
buried_not_dead Gone e = cc

dead_past : (limit : ℕ) (x : Node) → (finalise limit x).life ≡ Dead → limit ≤ (finalise limit x).place
dead_past limit x =
    cond_both (ltb x.place limit) (record x { life = buried x.life }) x (λ y. y.life ≡ Dead → limit ≤ y.place) (λ e dead. absurd (buried_not_dead x.life dead))
    (λ e dead. ltb-false x.place limit e)

told_number : (pages m n : ℕ) → L.Finalise m ≡ L.Finalise n → m ≡ n
told_number pages m n e = ap number e
  where
    number : Line → ℕ
    number (L.Finalise k) = k
    number other = 0

not_swept : (pages n : ℕ) → L.Swept pages ≡ L.Finalise n → ⊥
not_swept pages n e = cc

told_dead : (numbers : List ℕ) (pages n : ℕ) → Contains (finalise_lines numbers ++ L.Swept pages ∷ []) (L.Finalise n) → Contains numbers n
told_dead numbers pages n c = elim (Contains-append_cases (finalise_lines numbers) (L.Swept pages ∷ []) (L.Finalise n) c) [
  | inl told ↦
      (let found = Contains-map_some (λ m. L.Finalise m) numbers (L.Finalise n) told in subst (Contains numbers) (told_number pages found.0 n found.2) found.1)
  | inr last ↦ absurd (not_last last)
] where
  not_last : Contains (L.Swept pages ∷ []) (L.Finalise n) → ⊥
  not_last (zero, low, e) = not_swept pages n e
  not_last (suc i, low, e) = omega (arith, low)

phase_open : (pages all : ℕ) → pages ≢ all → cond (eqb pages all) Idle Sweeping ≡ Sweeping
phase_open pages all other = cond-false (eqb pages all) Idle Sweeping (ne_eqb pages all other)

phase_over : (pages all : ℕ) → pages ≡ all → cond (eqb pages all) Idle Sweeping ≡ Idle
phase_over pages all same = cond-true (eqb pages all) Idle Sweeping (eq-eqb pages all same)

-- ---- a sweep that goes on

continues : (phase : Phase) (shape : Shape) (old swept : State) (pages : ℕ) (numbers : List ℕ) → phase ≡ Sweeping
    → SweepsInPhase phase shape old pages numbers swept → ContinuesSweep shape old pages numbers swept
continues Idle shape old swept pages numbers e h = cc
continues Marking shape old swept pages numbers e h = cc
continues Sweeping shape old swept pages numbers e h = h

swept_pages : (setup : Setup) (old new : State) (pages : ℕ) (lines : List Line) → old.phase ≡ Sweeping → HasSwept setup old pages lines new
    → HasSweptPages setup old pages lines new
swept_pages setup old new pages lines sweeping h =
    let limit : ℕ = pages * setup.shape.page_words in
    let on : ContinuesSweep setup.shape old pages h.numbers h.swept = continues old.phase setup.shape old h.swept pages h.numbers sweeping h.goes in
    let at : (n : ℕ) → node_at new.nodes n ≡ finalise limit (node_at old.nodes n) =
    (λ n. ap (λ (s : State). node_at s.nodes n) h.after ∙ ap (λ (s : State). node_at s.nodes n) on.after ∙ finalised_at limit old.nodes n) in
    let phase : new.phase ≡ cond (eqb pages setup.shape.pages) Idle Sweeping =
    ap (λ (s : State). s.phase) h.after ∙ ap (λ (s : State). s.phase) on.after in
    record {
      told = (finalise_lines h.numbers, h.lines_are);
      cursor = ap (λ (s : State). s.cursor) h.after ∙ ap (λ (s : State). s.cursor) on.after;
      finalised = λ n. (
        λ c.
            (let there : Contains h.numbers n = told_dead h.numbers pages n (subst (λ ls. Contains ls (L.Finalise n)) h.lines_are c) in
            let dead : IsDeadBelow old.nodes limit n = All-contains (IsDeadBelow old.nodes limit) h.numbers n on.finalised.dead there in
            (dead.dead, dead.below)),
        λ d. subst (λ ls. Contains ls (L.Finalise n)) (sym h.lines_are)
            (Contains-append_left (finalise_lines h.numbers) (L.Swept pages ∷ []) (L.Finalise n)
            (Contains-map (λ m. L.Finalise m) h.numbers n (on.finalised.whole n (record { dead = d.0; below = d.1 })))),
      );
      none_left = λ n d.
          let past = dead_past limit (node_at old.nodes n) (sym (ap (λ (x : Node). x.life) (at n)) ∙ d.0) in
          let same = ap (λ (x : Node). x.place) (at n) in
          let below = d.1 in
          omega (arith, past, same, below);
      stays_open = λ other. phase ∙ phase_open pages setup.shape.pages other;
      over = λ same. phase ∙ phase_over pages setup.shape.pages same;
    }

-- ---- the commands

goes : (setup : Setup) (old new : State) (pages : ℕ) (lines : List Line) → old.phase ≡ Sweeping → StepSweepTo setup old pages lines new
    → HasSweptPages setup old pages lines new
goes setup old new pages lines sweeping h =
    swept_pages setup old new pages lines sweeping
    (subst (λ b. RefusedUnless b (IsRefused R.Phase old lines new) (HasSwept setup old pages lines new)) (ap is_sweeping sweeping) h)

not_open : (phase : Phase) → phase ≢ Sweeping → is_sweeping phase ≡ false
not_open Idle other = refl
not_open Marking other = refl
not_open Sweeping other = absurd (other refl)

refused : (setup : Setup) (old new : State) (pages : ℕ) (lines : List Line) → old.phase ≢ Sweeping → StepSweepTo setup old pages lines new
    → IsRefused R.Phase old lines new
refused setup old new pages lines other h =
    subst (λ b. RefusedUnless b (IsRefused R.Phase old lines new) (HasSwept setup old pages lines new)) (not_open old.phase other) h

least : (some all : ℕ) → (min some all ≤ all) × ((min some all ≡ some) ⊎ ((min some all ≡ all) × (all ≤ some)))
least some all = elim (cases_lt some all) [
  | inl less ↦ (omega (arith, less), inl (omega (arith, less)))
  | inr more ↦ (omega (arith, more), inr (omega (arith, more), more))
]

pub sweeps_tell_their_pages : SweepsTellTheirPages
sweeps_tell_their_pages setup old new piece lines = record {
  some = λ n sweeping h.
      let far = least (old.cursor + n) setup.shape.pages in
      (min (old.cursor + n) setup.shape.pages, goes setup old new (min (old.cursor + n) setup.shape.pages) lines sweeping h.1, far.0, far.1);
  all = λ sweeping h. goes setup old new setup.shape.pages lines sweeping h.1;
  no_some = λ n other h. refused setup old new (min (old.cursor + n) setup.shape.pages) lines other h.1;
  no_all = λ other h. refused setup old new setup.shape.pages lines other h.1;
}
