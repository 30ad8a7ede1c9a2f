-- What the answers of the commands on slots tell.
use Rattle.std.proofs.Common.{◌≡◌, ◌≢◌, ◌<◌, ℕ, Bool, true, false, true≢false, List, length, Option, Some, None, refl, sym, ap, ◌∙◌, subst, inl, inr, get_or, set as slice_set, arith, if◌then◌else◌}
use Rattle.std.specs.Prelude.{option_map}
use Rattle.std.proofs.lemmas.List.{get_or-set_same, get_or-set_other}
use Rattle.std.proofs.Math.Logic.{∥∥₁_elim}
use Rattle.gc_graph.specs.declared.command.Command.{Command}
use Rattle.gc_graph.specs.declared.command.Command.TheVariants as C
use Rattle.gc_graph.specs.declared.line.Line.{Line}
use Rattle.gc_graph.specs.declared.line.Line.TheVariants as L
use Rattle.gc_graph.specs.declared.line.Refusal.{Refusal}
use Rattle.gc_graph.specs.declared.line.Refusal.TheVariants as R
use Rattle.gc_graph.specs.declared.region.Entry.{Entry}
use Rattle.gc_graph.specs.State.{Setup, State, Node, node_at, is_live, IsLive}
use Rattle.gc_graph.specs.NodeNumbers.{live_below}
use Rattle.gc_graph.specs.May.{read_node}
use Rattle.gc_graph.specs.Outcomes.{answered, slot_at, weak_slot_at, with_slot}
use Rattle.gc_graph.specs.Commands.{HasReason}
use Rattle.gc_graph.specs.Valid.{IsValid}
use Rattle.gc_graph.specs.HandleLaw.{MeansDone, MeansRead, IsTurnedDown, TellsLife, while_live, SlotsNameTheLive}
use Rattle.oilpan.specs.declared.handles.WeakRoot.{WeakRoot}
use Rattle.oilpan.specs.Asked.{IsAsked}
use Rattle.oilpan.specs.Handles.{Watches}
use Rattle.oilpan.proofs.Frames.{told}
use Rattle.oilpan.proofs.Lives.{Life_set}

-- ---- commands that are never refused

drop_reason : (s : State) (p : ℕ) (why : Refusal) → HasReason s (C.Drop p) why → ⊥
drop_reason s p R.Phase h = h
drop_reason s p R.Null h = h
drop_reason s p R.Field h = h.1
drop_reason s p R.Kind h = elim h [ inl k ↦ k.1 | inr k ↦ k ]
drop_reason s p R.Stack h = h
drop_reason s p R.Empty h = h

weak_reason : (s : State) (w p : ℕ) (why : Refusal) → HasReason s (C.Weak w p) why → ⊥
weak_reason s w p R.Phase h = h
weak_reason s w p R.Null h = h
weak_reason s w p R.Field h = h.1
weak_reason s w p R.Kind h = elim h [ inl k ↦ k.1 | inr k ↦ k ]
weak_reason s w p R.Stack h = h
weak_reason s w p R.Empty h = h

read_reason : (s : State) (w p : ℕ) (why : Refusal) → HasReason s (C.Read w p) why → ⊥
read_reason s w p R.Phase h = h
read_reason s w p R.Null h = h
read_reason s w p R.Field h = h.1
read_reason s w p R.Kind h = elim h [ inl k ↦ k.1 | inr k ↦ k ]
read_reason s w p R.Stack h = h
read_reason s w p R.Empty h = h

module _ (old new : State) (command : Command) (none : (why : Refusal) → HasReason old command why → ⊥) where
  sure : (Done : Type 0) (line : Line) → MeansDone old command new Done line → Done
  sure Done L.Fine h = h
  sure Done (L.Refused why) h = absurd (none why h.reason.0)
  sure Done _ h = absurd h

  read_or : (Gives : ℕ → Type 0) (Nothing : Type 0) (line : Line) → MeansRead old command new Gives Nothing line → ((n : ℕ) → line ≡ L.Node n → ⊥)
      → (line ≡ L.Null → ⊥) → ⊥
  read_or Gives Nothing (L.Node n) h node null = node n refl
  read_or Gives Nothing L.Null h node null = null refl
  read_or Gives Nothing (L.Refused why) h node null = none why h.reason.0
  read_or Gives Nothing _ h node null = h

-- ---- a root is released

module _ (setup : Setup) (old new : State) (p : ℕ) (piece : List Entry) (lines : List Line) (line : Line)
    (asked : IsAsked setup old new (C.Drop p) piece lines line) where
  pub dropped : new ≡ answered (with_slot old p None)
  dropped = sure old new (C.Drop p) (drop_reason old p) (new ≡ answered (with_slot old p None)) line asked.means

  pub dropped_null : p < length old.slots → slot_at new p ≡ None
  dropped_null low = ap (λ (s : State). slot_at s p) dropped ∙ get_or-set_same old.slots p None None low

-- ---- a weak root is given out

-- what is given out stands at another flag than a free one
pub weak_apart : (flags : List Bool) (w : ℕ) → get_or flags w true ≡ false → (z : ℕ) → get_or flags z true ≡ true → z ≢ w
weak_apart flags w free z given same = true≢false (sym given ∙ subst (λ i. get_or flags i true ≡ false) (sym same) free)

module _ (setup : Setup) (old new : State) (w p n : ℕ) (piece : List Entry) (lines : List Line) (line : Line)
    (asked : IsAsked setup old new (C.Weak w p) piece lines line) where
  pub weakened : new ≡ answered (record old { weak = slice_set old.weak w (slot_at old p) })
  weakened =
      sure old new (C.Weak w p) (weak_reason old w p) (new ≡ answered (record old { weak = slice_set old.weak w (slot_at old p) })) line asked.means

  lives : SlotsNameTheLive → slot_at old p ≡ Some n → IsValid setup old → IsLive old.nodes n
  lives law slot valid = (law setup old p n valid).0 slot

  pub tells_now : SlotsNameTheLive → ∥ IsValid setup old ∥₁ → slot_at old p ≡ Some n → w < length old.weak → TellsLife new w n
  tells_now law valid slot low =
      let nodes : new.nodes ≡ old.nodes = ap (λ (s : State). s.nodes) weakened in
      let live : IsLive old.nodes n = ∥∥₁_elim valid (Life_set _ _) (λ v. lives law slot v) in
      let named : weak_slot_at new w ≡ Some n =
      ap (λ (s : State). weak_slot_at s w) weakened ∙ get_or-set_same old.weak w (slot_at old p) None low ∙ slot in
      let alive : while_live new.nodes n ≡ Some n =
      ap (λ ns. while_live ns n) nodes ∙ ap (λ life. if is_live life then Some n else None) live in
      record { made = subst (λ ns. n < length ns) (sym nodes) (live_below old.nodes n live); names = named ∙ sym alive }

  pub watch_beside : ∥ IsValid setup old ∥₁ → (flags : List Bool) → get_or flags w true ≡ false → (o : WeakRoot) → Watches old flags o
      → Watches new (slice_set flags w true) o
  watch_beside valid flags free o h =
      let other : o.slot ≢ w = weak_apart flags w free o.slot h.given in
      record {
        given = get_or-set_other flags w o.slot true true other ∙ h.given;
        tells = told setup old new (C.Weak w p) piece lines line asked valid o.slot o.node (λ q e. other (let same = e in cc)) h.tells;
      }

-- ---- a weak root is read into slot p

module _ (setup : Setup) (old new : State) (w p : ℕ) (piece : List Entry) (lines : List Line) (line : Line)
    (asked : IsAsked setup old new (C.Read w p) piece lines line) where
  abbrev Gives : ℕ → Type 0
  Gives m = (weak_slot_at old w ≡ Some m) × (new ≡ answered (with_slot (read_node true old m) p (Some m)))

  abbrev Nothing : Type 0
  Nothing = (weak_slot_at old w ≡ None) × (new ≡ answered (with_slot old p None))

  means_if : (told : Line) → line ≡ told → MeansRead old (C.Read w p) new Gives Nothing told
  means_if told is = subst (MeansRead old (C.Read w p) new Gives Nothing) is asked.means

  pub upgraded : (m : ℕ) → line ≡ L.Node m → Gives m
  upgraded m is = means_if (L.Node m) is

  pub not_upgraded : line ≡ L.Null → Nothing
  not_upgraded is = means_if L.Null is

  pub upgraded_names : (m : ℕ) → line ≡ L.Node m → p < length old.slots → slot_at new p ≡ Some m
  upgraded_names m is low = ap (λ (s : State). slot_at s p) (upgraded m is).1 ∙ get_or-set_same old.slots p (Some m) None low

  pub not_upgraded_null : line ≡ L.Null → p < length old.slots → slot_at new p ≡ None
  not_upgraded_null is low = ap (λ (s : State). slot_at s p) (not_upgraded is).1 ∙ get_or-set_same old.slots p None None low

  pub upgrade_lines : ((m : ℕ) → line ≡ L.Node m → ⊥) → (line ≡ L.Null → ⊥) → ⊥
  upgrade_lines = read_or old new (C.Read w p) (read_reason old w p) Gives Nothing line asked.means
