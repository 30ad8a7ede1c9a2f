-- A step's piece of the region's history is legal, and the region's slots follow it.
use Rattle.std.proofs.Common.{◌≡◌, ℕ, Bool, true, false, List, [], ◌∷◌, ◌++◌, refl, sym, ap, ◌∙◌, subst, cond, eqb}
use Rattle.std.specs.List.{All}
use Rattle.std.proofs.lemmas.List.Elements.{All-head, All-tail}
use Rattle.gc_graph.specs.declared.region.Entry.{Entry}
use Rattle.gc_graph.specs.declared.region.Op.{Op}
use Rattle.gc_graph.specs.declared.region.Op.TheVariants as O
use Rattle.gc_graph.specs.declared.phase.Phase.{Phase}
use Rattle.gc_graph.specs.declared.phase.Phase.TheVariants.{Idle, Marking, Sweeping}
use Rattle.gc_graph.specs.State.{Shape, State}
use Rattle.gc_graph.specs.Sweep.{SweepsInPhase}
use Rattle.gc_graph.specs.History.{IsLegalFrom, replayed, started_after, started_through}
use Rattle.gc_graph.specs.Outcomes.{with_entry, took, IsThreadOp, AreOthers}
use Rattle.gc_graph.specs.CycleSteps.{is_marking}
use Rattle.gc_graph.specs.HistoryLaw.{Follows}
use Rattle.gc_graph.specs.Replays.{replayed-append, started-append, legal-append}

pub quiet : (old new : State) (piece : List Entry) → piece ≡ [] → new.region ≡ old.region → is_marking new.phase ≡ is_marking old.phase
    → Follows old piece new
quiet old new piece e r p = subst (λ es. Follows old es new) (sym e) (record { legal = tt; slots = r; started = p })

-- ---- two pieces, one after the other

pub follows-append : (old mid new : State) (xs ys : List Entry) → Follows old xs mid → Follows mid ys new → Follows old (xs ++ ys) new
follows-append old mid new xs ys a b = record {
  legal = legal-append old.region (is_marking old.phase) xs ys a.legal
      (subst (λ r. IsLegalFrom r (started_through (is_marking old.phase) xs) ys) a.slots
      (subst (λ s. IsLegalFrom mid.region s ys) a.started b.legal));
  slots = b.slots ∙ ap (λ r. replayed r ys) a.slots ∙ sym (replayed-append old.region xs ys);
  started = b.started ∙ ap (λ s. started_through s ys) a.started ∙ sym (started-append (is_marking old.phase) xs ys);
}

-- ---- entries that are taken

pub took-region : (s : State) (entries : List Entry) → (took s entries).region ≡ replayed s.region entries
took-region s [] = refl
took-region s (entry ∷ entries) = took-region (with_entry s entry) entries

pub took-phase : (s : State) (entries : List Entry) → (took s entries).phase ≡ s.phase
took-phase s [] = refl
took-phase s (entry ∷ entries) = took-phase (with_entry s entry) entries

thread_op_keeps : (started : Bool) (op : Op) → IsThreadOp op → started_after started op ≡ started
thread_op_keeps started (O.Export x n) t = absurd t
thread_op_keeps started (O.Import x) t = absurd t
thread_op_keeps started O.Start t = absurd t
thread_op_keeps started (O.Pause cleared) t = absurd t
thread_op_keeps started (O.Copy x y) t = refl
thread_op_keeps started (O.Clear x) t = refl
thread_op_keeps started (O.Weaken x) t = refl
thread_op_keeps started (O.Upgrade x y) t = refl

-- entries of threads start nothing and end nothing
others_keep : (started : Bool) (entries : List Entry) → All (λ (e : Entry). IsThreadOp e.op) entries → started_through started entries ≡ started
others_keep started [] a = refl
others_keep started (e ∷ es) a =
    ap (λ b. started_through b es) (thread_op_keeps started e.op (All-head (λ (x : Entry). IsThreadOp x.op) e es a))
    ∙ others_keep started es (All-tail (λ (x : Entry). IsThreadOp x.op) e es a)

pub others_start_nothing : (s : State) (started : Bool) (entries : List Entry) → AreOthers s entries → started_through started entries ≡ started
others_start_nothing s started entries a = others_keep started entries (λ k d l. (a k d l).1)

-- entries of threads, and then one of the owner
pub owned : (s : State) (started : Bool) (before : List Entry) (own : Entry) → AreOthers s before
    → started_through started (before ++ own ∷ []) ≡ started_after started own.op
owned s started before own a =
    started-append started before (own ∷ []) ∙ ap (λ b. started_after b own.op) (others_start_nothing s started before a)

-- ---- sweeps

still_off : (b : Bool) → is_marking (cond b Idle Sweeping) ≡ false
still_off true = refl
still_off false = refl

-- a sweep leaves the region alone, and marks nothing
pub sweep_follows : (phase : Phase) (shape : Shape) (old : State) (pages : ℕ) (numbers : List ℕ) (new : State)
    → SweepsInPhase phase shape old pages numbers new → (new.region ≡ old.region) × ((old.phase ≡ phase) → is_marking new.phase ≡ is_marking old.phase)
sweep_follows Idle shape old pages numbers new h = (ap (λ (s : State). s.region) h.1, λ e. ap (λ (s : State). is_marking s.phase) h.1)
sweep_follows Marking shape old pages numbers new h = (ap (λ (s : State). s.region) h.1, λ e. ap (λ (s : State). is_marking s.phase) h.1)
sweep_follows Sweeping shape old pages numbers new h = (
  ap (λ (s : State). s.region) h.after,
  λ e. ap (λ (s : State). is_marking s.phase) h.after ∙ still_off (eqb pages shape.pages) ∙ sym (ap is_marking e),
)
