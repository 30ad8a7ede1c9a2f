-- What the answer of `new` tells.
use Rattle.std.proofs.Common.{◌≡◌, ◌<◌, ◌+◌, ℕ, List, length, Option, Some, None, refl, sym, ap, ◌∙◌, subst, get_or}
use Rattle.gc_graph.specs.declared.command.Command.TheVariants as C
use Rattle.gc_graph.specs.declared.line.Line.{Line}
use Rattle.gc_graph.specs.declared.line.Line.TheVariants as L
use Rattle.gc_graph.specs.declared.phase.Phase.{Phase}
use Rattle.gc_graph.specs.declared.phase.Phase.TheVariants.{Idle, Marking, Sweeping}
use Rattle.gc_graph.specs.declared.region.Entry.{Entry}
use Rattle.gc_graph.specs.State.{Setup, Shape, State}
use Rattle.gc_graph.specs.Sweep.{SweepsInPhase}
use Rattle.gc_graph.specs.Outcomes.{answered, slot_at}
use Rattle.gc_graph.specs.AccessLaw.{IsNew}
use Rattle.gc_graph.specs.RefusalLaw.{IsLeftAlone}
use Rattle.gc_graph.specs.HandleLaw.{MeansNew, LeavesSlots}
use Rattle.oilpan.specs.Asked.{IsAsked}

swept_full : (phase : Phase) (shape : Shape) (old new : State) (pages : ℕ) (numbers : List ℕ) → SweepsInPhase phase shape old pages numbers new → new.full ≡ old.full
swept_full Idle shape old new pages numbers h = ap (λ (s : State). s.full) h.1
swept_full Marking shape old new pages numbers h = ap (λ (s : State). s.full) h.1
swept_full Sweeping shape old new pages numbers h = ap (λ (s : State). s.full) h.after

module _ (setup : Setup) (old new : State) (p t e : ℕ) (piece : List Entry) (lines : List Line) (line : Line)
    (asked : IsAsked setup old new (C.New p t e) piece lines line) where
  means_if : (told : Line) → line ≡ told → MeansNew setup old p t e piece lines new told
  means_if told is = subst (MeansNew setup old p t e piece lines new) is asked.means

  pub placed : (n a : ℕ) → line ≡ L.Placed n a → p < length old.slots → IsNew setup old p t e n a new
  placed n a is low = means_if (L.Placed n a) is low

  pub full_null : line ≡ L.Full → slot_at old p ≡ None → slot_at new p ≡ None
  full_null is null = (let left : LeavesSlots setup old piece lines new = means_if L.Full is in ap (λ slots. get_or slots p None) left.slots ∙ null)

  pub full_count : line ≡ L.Full → new.full ≡ old.full + 1
  full_count is =
      let left : LeavesSlots setup old piece lines new = means_if L.Full is in
      ap (λ (s : State). s.full) left.full.after
      ∙ ap (λ n. n + 1) (swept_full old.phase setup.shape old left.full.swept setup.shape.pages left.full.numbers left.full.ended)

  pub memory_same : line ≡ L.Memory → new ≡ answered old
  memory_same is = (let left : IsLeftAlone setup (C.New p t e) old piece new = means_if L.Memory is in left.after)

  pub memory_null : line ≡ L.Memory → slot_at old p ≡ None → slot_at new p ≡ None
  memory_null is null = ap (λ (s : State). slot_at s p) (memory_same is) ∙ null

  one_of : (told : Line) → MeansNew setup old p t e piece lines new told → ((n a : ℕ) → told ≡ L.Placed n a → ⊥) → (told ≡ L.Full → ⊥)
      → (told ≡ L.Memory → ⊥) → ⊥
  one_of (L.Placed n a) h x y z = x n a refl
  one_of L.Full h x y z = y refl
  one_of L.Memory h x y z = z refl
  one_of _ h x y z = h

  -- no other line answers
  pub new_lines : ((n a : ℕ) → line ≡ L.Placed n a → ⊥) → (line ≡ L.Full → ⊥) → (line ≡ L.Memory → ⊥) → ⊥
  new_lines = one_of line asked.means
