-- What a state keeps of another: slots, stack, registrations and objects.
use Rattle.std.proofs.Common.{◌≡◌, ℕ, ◌*◌, nat_lt, Bool, true, false, List, [], ◌∷◌, length, refl, sym, ap, ◌∙◌, subst}
use Rattle.std.proofs.lemmas.Bool.{cond_both}
use Rattle.std.proofs.lemmas.List.{length-map}
use Rattle.gc_graph.specs.declared.phase.Phase.{Phase}
use Rattle.gc_graph.specs.declared.phase.Phase.TheVariants.{Idle, Marking, Sweeping}
use Rattle.gc_graph.specs.declared.region.Entry.{Entry}
use Rattle.gc_graph.specs.State.{Setup, Shape, State, Node, node_at}
use Rattle.gc_graph.specs.May.{marking, read_node}
use Rattle.gc_graph.specs.Sweep.{buried, finalise, SweepsInPhase, SweepsTo}
use Rattle.gc_graph.specs.Outcomes.{with_entry, took}
use Rattle.gc_graph.specs.CycleSteps.{IsStart}
use Rattle.gc_graph.specs.FrameLaw.{IsSameCycle}
use Rattle.gc_graph.specs.FinalisedNodes.{finalised_at}

-- handles, stack and registrations are as before, and each node has its object
pub record Keeps (old new : State) : Type 0 where
  pub slots : new.slots ≡ old.slots
  pub weak : new.weak ≡ old.weak
  pub stack : new.stack ≡ old.stack
  pub registrations : new.registrations ≡ old.registrations
  pub count : length new.nodes ≡ length old.nodes
  pub objects : (n : ℕ) → (node_at new.nodes n).object ≡ (node_at old.nodes n).object

pub keeps_same : (s : State) → Keeps s s
keeps_same s = record { slots = refl; weak = refl; stack = refl; registrations = refl; count = refl; objects = λ n. refl }

pub keeps_more : (old mid new : State) → Keeps old mid → Keeps mid new → Keeps old new
keeps_more old mid new h k = record {
  slots = k.slots ∙ h.slots;
  weak = k.weak ∙ h.weak;
  stack = k.stack ∙ h.stack;
  registrations = k.registrations ∙ h.registrations;
  count = k.count ∙ h.count;
  objects = λ n. k.objects n ∙ h.objects n;
}

pub keeps_to : (old x new : State) → new ≡ x → Keeps old x → Keeps old new
keeps_to old x new e h = subst (Keeps old) (sym e) h

pub keeps_read : (weak : Bool) (s : State) (n : ℕ) → Keeps s (read_node weak s n)
keeps_read true s n = record { slots = refl; weak = refl; stack = refl; registrations = refl; count = refl; objects = λ n. refl }
keeps_read false s n = keeps_same s

pub keeps_took : (s : State) (entries : List Entry) → Keeps s (took s entries)
keeps_took s [] = keeps_same s
keeps_took s (entry ∷ entries) =
    keeps_more s (with_entry s entry) (took (with_entry s entry) entries)
    (record { slots = refl; weak = refl; stack = refl; registrations = refl; count = refl; objects = λ n. refl }) (keeps_took (with_entry s entry) entries)

pub keeps_start : (setup : Setup) (swept new : State) (piece : List Entry) → IsStart setup swept piece new → Keeps swept new
keeps_start setup swept new piece start =
    let taken = keeps_took swept piece in
    keeps_to swept (marking (took swept piece)) new start.after
    (record { slots = taken.slots; weak = taken.weak; stack = taken.stack; registrations = taken.registrations; count = taken.count; objects = taken.objects })

-- ---- a sweep

object_finalised : (limit : ℕ) (x : Node) → (finalise limit x).object ≡ x.object
object_finalised limit x =
    cond_both (nat_lt x.place limit) (record x { life = buried x.life }) x (λ (y : Node). y.object ≡ x.object) (λ e. refl) (λ e. refl)

keeps_in : (phase : Phase) (shape : Shape) (old new : State) (pages : ℕ) (numbers : List ℕ) → SweepsInPhase phase shape old pages numbers new → Keeps old new
keeps_in Idle shape old new pages numbers h = keeps_to old old new h.1 (keeps_same old)
keeps_in Marking shape old new pages numbers h = keeps_to old old new h.1 (keeps_same old)
keeps_in Sweeping shape old new pages numbers h =
    keeps_to old _ new h.after (record {
      slots = refl;
      weak = refl;
      stack = refl;
      registrations = refl;
      count = length-map old.nodes (finalise (pages * shape.page_words));
      objects = λ n.
          ap (λ (x : Node). x.object) (finalised_at (pages * shape.page_words) old.nodes n)
          ∙ object_finalised (pages * shape.page_words) (node_at old.nodes n);
    })

pub keeps_sweep : (shape : Shape) (old new : State) (pages : ℕ) (numbers : List ℕ) → SweepsTo shape old pages numbers new → Keeps old new
keeps_sweep shape old new pages numbers h = keeps_in old.phase shape old new pages numbers h

-- ---- the cycle

pub cycle_same : (s : State) → IsSameCycle s s
cycle_same s = record { phase = refl; cursor = refl; traced = refl; count = refl; lives = λ n. refl }

pub cycle_read : (weak : Bool) (s : State) (n : ℕ) → IsSameCycle s (read_node weak s n)
cycle_read true s n = record { phase = refl; cursor = refl; traced = refl; count = refl; lives = λ n. refl }
cycle_read false s n = cycle_same s

pub cycle_took : (s : State) (entries : List Entry) → IsSameCycle s (took s entries)
cycle_took s [] = cycle_same s
cycle_took s (entry ∷ entries) =
    let rest = cycle_took (with_entry s entry) entries in
    record { phase = rest.phase; cursor = rest.cursor; traced = rest.traced; count = rest.count; lives = rest.lives }
