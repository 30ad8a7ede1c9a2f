-- What comes of sharing an object, and of taking a root from a shared one.
use Rattle.std.proofs.Common.{◌≡◌, ◌<◌, ℕ, List, [], ◌∷◌, length, Option, Some, None, refl, ap, ◌∙◌, subst, inl, inr, arith}
use Rattle.std.proofs.lemmas.List.{get_or-set_same}
use Rattle.gc_graph.specs.declared.command.Command.TheVariants as C
use Rattle.gc_graph.specs.declared.line.Line.{Line}
use Rattle.gc_graph.specs.declared.line.Line.TheVariants as L
use Rattle.gc_graph.specs.declared.line.Refusal.{Refusal}
use Rattle.gc_graph.specs.declared.line.Refusal.TheVariants as R
use Rattle.gc_graph.specs.declared.region.Entry.{Entry}
use Rattle.gc_graph.specs.State.{Setup, State}
use Rattle.gc_graph.specs.State.RegionSlot.{Vacant, StrongTo}
use Rattle.gc_graph.specs.Outcomes.{answered, slot_at, took, with_entry}
use Rattle.gc_graph.specs.Commands.{HasReason}
use Rattle.gc_graph.specs.History.{region_slot, node_of}
use Rattle.gc_graph.specs.HandleLaw.{IsLast, MeansCycle, IsShared, IsTakenBack}
use Rattle.gc_graph.specs.RefusalLaw.{IsLeftAlone}
use Rattle.gc_graph.specs.RegionSteps.{IsImported, line_of_content}
use Rattle.oilpan.specs.Asked.{IsAsked}
use Rattle.oilpan.proofs.Pieces.{own_piece, no_others}

took_nodes : (s : State) (entries : List Entry) → (took s entries).nodes ≡ s.nodes
took_nodes s [] = refl
took_nodes s (entry ∷ entries) = took_nodes (with_entry s entry) entries

took_slots : (s : State) (entries : List Entry) → (took s entries).slots ≡ s.slots
took_slots s [] = refl
took_slots s (entry ∷ entries) = took_slots (with_entry s entry) entries

-- ---- sharing

export_reason : (s : State) (p x n : ℕ) → slot_at s p ≡ Some n → (why : Refusal) → HasReason s (C.Export p x) why → ⊥
export_reason s p x n is R.Phase h = h
export_reason s p x n is R.Null h = cc
export_reason s p x n is R.Field h = h.2
export_reason s p x n is R.Kind h = elim h [ inl k ↦ k.2 | inr k ↦ k ]
export_reason s p x n is R.Stack h = h
export_reason s p x n is R.Empty h = h

module _ (setup : Setup) (old new : State) (p x n : ℕ) (piece : List Entry) (lines : List Line) (line : Line)
    (asked : IsAsked setup old new (C.Export p x) piece lines line) (none : old.running ≡ []) (holds : slot_at old p ≡ Some n) where
  abbrev Shared : Type 0
  Shared = IsShared old p x piece lines new

  shared_by : (told : Line) → MeansCycle setup old (C.Export p x) piece new Shared told → (told ≡ L.Memory → ⊥) → Shared
  shared_by L.Memory h memory = absurd (memory refl)
  shared_by (L.Refused why) h memory = absurd (export_reason old p x n holds why h.reason.0)
  shared_by _ h memory = h

  export_if : (told : Line) → line ≡ told → MeansCycle setup old (C.Export p x) piece new Shared told
  export_if told is = subst (MeansCycle setup old (C.Export p x) piece new Shared) is asked.means

  pub export_wanting : line ≡ L.Memory → new ≡ answered old
  export_wanting is = (let left : IsLeftAlone setup (C.Export p x) old piece new = export_if L.Memory is in left.after)

  is_fine : Shared → line ≡ L.Fine
  is_fine h =
      let got : IsLast (L.Fine ∷ []) line = subst (λ ls. IsLast ls line) h.exported.lines_are asked.last in
      cc

  -- no other line answers
  pub export_lines : (line ≡ L.Memory → ⊥) → (line ≡ L.Fine → ⊥) → ⊥
  export_lines memory fine = fine (is_fine (shared_by line asked.means memory))

  done : line ≡ L.Fine → Shared
  done is = export_if L.Fine is

  exported_as : (h : Shared) → new ≡ answered (took old piece)
  exported_as h = h.exported.after

  pub exported_nodes : line ≡ L.Fine → new.nodes ≡ old.nodes
  exported_nodes is = ap (λ (s : State). s.nodes) (exported_as (done is)) ∙ took_nodes old piece

  same_node : (h : Shared) → h.node ≡ n
  same_node h = (let is : slot_at old p ≡ Some h.node = h.slot in cc)

  pub exported_names : line ≡ L.Fine → x < length old.region → region_slot new.region x ≡ StrongTo n
  exported_names is low =
      let h : Shared = done is in
      ap (λ (s : State). region_slot s.region x) (exported_as h) ∙ ap (λ es. region_slot (took old es).region x) (own_piece old h.node x piece none h.exported)
      ∙ get_or-set_same old.region x (StrongTo h.node) Vacant low ∙ ap StrongTo (same_node h)

-- ---- a root from a shared one

import_reason : (s : State) (x p : ℕ) (why : Refusal) → HasReason s (C.Import x p) why → ⊥
import_reason s x p R.Phase h = h
import_reason s x p R.Null h = h
import_reason s x p R.Field h = h.1
import_reason s x p R.Kind h = elim h [ inl k ↦ k.1 | inr k ↦ k ]
import_reason s x p R.Stack h = h
import_reason s x p R.Empty h = h

module _ (setup : Setup) (old new : State) (x p n : ℕ) (piece : List Entry) (lines : List Line) (line : Line)
    (asked : IsAsked setup old new (C.Import x p) piece lines line) (none : old.running ≡ []) (names : region_slot old.region x ≡ StrongTo n) where
  abbrev Back : Type 0
  Back = IsTakenBack old x p piece lines new line

  back_by : (told : Line) → MeansCycle setup old (C.Import x p) piece new Back told → (told ≡ L.Memory → ⊥) → Back
  back_by L.Memory h memory = absurd (memory refl)
  back_by (L.Refused why) h memory = absurd (import_reason old x p why h.reason.0)
  back_by _ h memory = h

  import_if : (told : Line) → line ≡ told → MeansCycle setup old (C.Import x p) piece new Back told
  import_if told is = subst (MeansCycle setup old (C.Import x p) piece new Back) is asked.means

  pub import_wanting : line ≡ L.Memory → new ≡ answered old
  import_wanting is = (let left : IsLeftAlone setup (C.Import x p) old piece new = import_if L.Memory is in left.after)

  pub import_null : line ≡ L.Memory → slot_at old p ≡ None → slot_at new p ≡ None
  import_null is null = ap (λ (s : State). slot_at s p) (import_wanting is) ∙ null

  read : (h : IsImported old x p piece lines new) → node_of (region_slot (took old h.before).region x) ≡ Some n
  read h =
      ap (λ es. node_of (region_slot (took old es).region x)) (no_others old.running old h.before refl none h.takes.others)
      ∙ ap node_of names

  told_node : Back → line ≡ L.Node n
  told_node h = h.told ∙ ap line_of_content (read h.imported)

  -- no other line answers
  pub import_lines : ((m : ℕ) → line ≡ L.Node m → ⊥) → (line ≡ L.Memory → ⊥) → ⊥
  import_lines node memory = node n (told_node (back_by line asked.means memory))

  pub imported_node : (m : ℕ) → line ≡ L.Node m → m ≡ n
  imported_node m is = (let told : line ≡ L.Node n = told_node (import_if (L.Node m) is) in cc)

  pub imported_nodes : (m : ℕ) → line ≡ L.Node m → new.nodes ≡ old.nodes
  imported_nodes m is =
      let h : Back = import_if (L.Node m) is in
      ap (λ (s : State). s.nodes) h.imported.after ∙ took_nodes old piece

  pub imported_names : (m : ℕ) → line ≡ L.Node m → p < length old.slots → slot_at new p ≡ Some n
  imported_names m is low =
      let h : Back = import_if (L.Node m) is in
      let content : Option ℕ = node_of (region_slot (took old h.imported.before).region x) in
      let same : length (took old piece).slots ≡ length old.slots = ap length (took_slots old piece) in
      ap (λ (s : State). slot_at s p) h.imported.after ∙ get_or-set_same (took old piece).slots p content None (omega (arith, low, same)) ∙ read h.imported
