-- The steps of the owner's calls on the region.
use Rattle.std.proofs.Common.{◌≡◌, ℕ, List, [], ◌∷◌, get_or, Option, None, Some, refl, sym, ap, ◌∙◌, subst, inr}
use mathlib.Core.Logic.{◌⊎◌}
use Rattle.std.specs.Prelude.{MatchOption, option_map}
use Rattle.gc_graph.specs.declared.line.Line.{Line}
use Rattle.gc_graph.specs.declared.line.Line.TheVariants as L
use Rattle.gc_graph.specs.declared.line.Refusal.TheVariants as R
use Rattle.gc_graph.specs.declared.region.Entry.{Entry}
use Rattle.gc_graph.specs.declared.region.Op.TheVariants as O
use Rattle.gc_graph.specs.CycleSteps.{WantsMemory}
use Rattle.gc_graph.specs.History.{node_of, region_slot}
use Rattle.gc_graph.specs.Outcomes.{answered, owner_entry, took, with_slot, IsRefused}
use Rattle.gc_graph.specs.RegionSteps.{IsExported, IsImported, StepExport, StepImport, line_of_content}
use Rattle.gc_graph.specs.State.{Node, State}
use Rattle.cross_thread_region.specs.declared.chronicle.PlacedEntry.{PlacedEntry}
use Rattle.cross_thread_region.specs.Histories.{place_at, slot_target, slots_of, IsPlacedBy}
use Rattle.heap_cycle.specs.Nodes.{place_of}
use Rattle.heap_cycle.specs.Handles.{HandlesView, put_in}
use Rattle.heap_cycle.specs.Owned.{piece_of}
use Rattle.heap_cycle.specs.declared.parts.Parts.{Parts}
use Rattle.heap_cycle.specs.Parts.{state_of}
use Rattle.heap_cycle.specs.Took.{took_append}
use Rattle.heap_engine.proofs.Taken.{HasTaken}

-- the slot's node was exported
pub step_exported : (s new : Parts) (p x n : ℕ) → get_or s.handles.slots p None ≡ Some n → HasTaken (O.Export x n) s new
    → StepExport (state_of s) p x (piece_of s.region new.region) (L.Fine ∷ []) (answered (state_of new))
step_exported s new p x n slot has =
    let st : State = state_of s in
    let piece : List Entry = piece_of s.region new.region in
    let done : IsExported st n x piece (L.Fine ∷ []) (answered (state_of new)) =
    record { before = has.before; takes = has.takes; lines_are = refl; after = ap answered has.state } in
    subst (λ (o : Option ℕ). MatchOption o ((piece ≡ []) × IsRefused R.Null st (L.Fine ∷ []) (answered (state_of new)))
    (λ m. WantsMemory st piece (L.Fine ∷ []) (answered (state_of new)) ⊎ IsExported st m x piece (L.Fine ∷ []) (answered (state_of new)))) (sym slot) (inr done)

-- ---- an import

-- the number of what is told is that of the content
numbers_told : (nodes : List Node) (content : Option ℕ) → option_map (λ (t : ℕ × ℕ). t.1) (option_map (λ (m : ℕ). (place_of nodes m, m)) content) ≡ content
numbers_told nodes None = refl
numbers_told nodes (Some m) = refl

told_content : (nodes : List Node) (content : Option ℕ) (told : Line)
    → MatchOption (option_map (λ (m : ℕ). (place_of nodes m, m)) content) (told ≡ L.Null) (λ (t : ℕ × ℕ). told ≡ L.Node t.1) → told ≡ line_of_content content
told_content nodes None told is = is
told_content nodes (Some m) told is = is

-- what a slot names is told with its place
target_is : (nodes : List Node) (history : List PlacedEntry) (x : ℕ) → IsPlacedBy (place_of nodes) history
    → slot_target history x ≡ option_map {U = ℕ × ℕ} (λ n. (place_of nodes n, n)) (node_of (region_slot (slots_of history) x))
target_is nodes history x placed = go (node_of (region_slot (slots_of history) x)) refl where
  go : (o : Option ℕ) → node_of (region_slot (slots_of history) x) ≡ o → option_map {U = ℕ × ℕ} (λ n. (place_at history x, n)) o ≡ option_map {U = ℕ × ℕ} (λ n. (place_of nodes n, n)) o
  go None is = refl
  go (Some n) is = ap (λ p. (let t : ℕ × ℕ = (p, n) in Some t)) (placed x n is)

module _ (s new : Parts) (x : ℕ) (has : HasTaken (O.Import x) s new) where
  abbrev content : Option ℕ
  content = node_of (region_slot (took (state_of s) has.before).region x)

  -- the import's own entry changes no slot
  same_slots : (took (state_of s) has.before).region ≡ slots_of new.region.taken
  same_slots =
      let whole : took (state_of s) (piece_of s.region new.region) ≡ took (took (state_of s) has.before) (owner_entry (took (state_of s) has.before) (O.Import x) ∷ []) =
      ap (took (state_of s)) has.takes.piece_is ∙ took_append (state_of s) has.before (owner_entry (took (state_of s) has.before) (O.Import x) ∷ []) in
      sym (ap (λ (t : State). t.region) (has.state ∙ whole))

  -- so it tells the slot's node as it found it
  pub told_target : (target : Option (ℕ × ℕ)) → target ≡ slot_target new.region.taken x
      → target ≡ option_map {U = ℕ × ℕ} (λ m. (place_of s.objects.nodes m, m)) content
  told_target target is =
      is ∙ target_is new.objects.nodes new.region.taken x has.region.placed
      ∙ ap (λ (ns : List Node). option_map {U = ℕ × ℕ} (λ m. (place_of ns m, m)) (node_of (region_slot (slots_of new.region.taken) x))) has.nodes
      ∙ ap (λ region. option_map {U = ℕ × ℕ} (λ m. (place_of s.objects.nodes m, m)) (node_of (region_slot region x))) (sym same_slots)

  -- the slot got the node of the region's slot, as the call found it
  pub step_imported : (handles : HandlesView) (p : ℕ) (target : Option (ℕ × ℕ)) (told : Line) → target ≡ slot_target new.region.taken x
      → MatchOption target (told ≡ L.Null) (λ (t : ℕ × ℕ). told ≡ L.Node t.1) → handles ≡ put_in new.handles p target
      → StepImport (state_of s) x p (piece_of s.region new.region) (told ∷ []) (answered (state_of (record new { handles = handles })))
  step_imported handles p target told is line put =
      let nodes : List Node = s.objects.nodes in
      let target_told : target ≡ option_map {U = ℕ × ℕ} (λ m. (place_of nodes m, m)) content = told_target target is in
      let number : option_map (λ (t : ℕ × ℕ). t.1) target ≡ content = ap (option_map (λ (t : ℕ × ℕ). t.1)) target_told ∙ numbers_told nodes content in
      let done : IsImported (state_of s) x p (piece_of s.region new.region) (told ∷ []) (answered (state_of (record new { handles = handles }))) = record {
        before = has.before;
        takes = has.takes;
        lines_are = ap (λ l. l ∷ []) (told_content nodes content told (subst (λ (t : Option (ℕ × ℕ)). MatchOption t (told ≡ L.Null) (λ (w : ℕ × ℕ). told ≡ L.Node w.1)) target_told line));
        after = ap (λ (k : HandlesView). answered (state_of (record new { handles = k }))) put
            ∙ ap (λ c. answered (with_slot (state_of new) p c)) number ∙ ap (λ (t : State). answered (with_slot t p content)) has.state;
      } in
      inr done
