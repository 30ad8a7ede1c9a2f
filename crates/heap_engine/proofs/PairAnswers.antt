-- The steps of the commands on pairs.
use Rattle.std.proofs.Common.{◌≡◌, ℕ, ◌+◌, true, List, [], ◌∷◌, get_or, Option, option_map, Some, None, refl, ap, ◌∙◌}
use Rattle.std.specs.Prelude.{MatchOption}
use Rattle.std.specs.Option.{ForSome}
use Rattle.gc_graph.specs.declared.kind.Value.{Value}
use Rattle.gc_graph.specs.declared.line.Line.{Line}
use Rattle.gc_graph.specs.declared.line.Line.TheVariants as L
use Rattle.gc_graph.specs.State.{State, Node, node_at, IsLive}
use Rattle.gc_graph.specs.Fields.{with_value, is_pair}
use Rattle.gc_graph.specs.Outcomes.{answered, slot_at}
use Rattle.gc_graph.specs.ObjectSteps.{IsChanged, IsRead, first_word, part_of}
use Rattle.heap_cycle.specs.Nodes.{place_of, word_of}
use Rattle.heap_cycle.specs.Field.{Field}
use Rattle.heap_cycle.specs.Part.{Part}
use Rattle.heap_cycle.specs.Fields.{part_in, IsLiveReference, ArePartsOf}
use Rattle.heap_engine.specs.FieldSteps.{StepPart, StepWholePair, HasRead}
use Rattle.heap_engine.proofs.SlotReads.{live_names, slot_read}
use Rattle.heap_cycle.specs.Objects.{target_in, paired_in, ObjectsView}
use Rattle.heap_cycle.specs.Handles.{put_in, HandlesView, slot_part}
use Rattle.heap_cycle.specs.declared.parts.Parts.{Parts}
use Rattle.heap_cycle.specs.Parts.{setup_of, state_of, IsReady}
use Rattle.heap_engine.proofs.FieldAnswers.{Found, field_kind, asked}
use Rattle.heap_cycle.specs.PairFields.{pair_is, holds_part}
use Rattle.heap_cycle.specs.Ties.{valid_nodes}

-- the node with both words of the pair written
abbrev paired : State → ℕ → ℕ → Value → Value → Node
paired s n f key value = with_value (with_value (node_at s.nodes n) (first_word s n f) key) (first_word s n f + 1) value

pub step_pair : (s : Parts) (new : ObjectsView) (p f : ℕ) (field : Field) (key value : Value) → (is : Found is_pair s p f field)
    → new.nodes ≡ paired_in s.objects.nodes (get_or s.handles.slots p None) f key value
    → StepWholePair (state_of s) p f key value (L.Fine ∷ []) (answered (state_of (record s { objects = new })))
step_pair s new p f field key value is nodes =
    let st : State = state_of s in
    let after : State = answered (state_of (record s { objects = new })) in
    let changed : IsChanged st is.node (paired st is.node f key value) (L.Fine ∷ []) after = (
      refl,
      ap (λ (ns : List Node). answered (record st { nodes = ns })) (nodes ∙ ap (λ slot. paired_in s.objects.nodes slot f key value) is.slot),
    ) in
    asked is_pair st.nodes (slot_at st p) f is.node _ (λ m. IsChanged st m (paired st m f key value) (L.Fine ∷ []) after) _ _ is.slot is.is.there is.kind changed

-- a part of a pair names a live node or none
pub part_live : (s : Parts) (p f : ℕ) (part : Part) (field : Field) → IsReady s → (is : Found is_pair s p f field) → IsLiveReference s.objects.nodes (part_in part s.objects.nodes is.node f)
part_live s p f part field ready is =
    holds_part (setup_of s) s.objects.nodes is.node f part (valid_nodes s ready) is.is.live (pair_is s.objects.nodes is.node f field is.is (field_kind is_pair s p f field is))

pub step_part : (s mid : Parts) (after : HandlesView) (p f q : ℕ) (part : Part) (field : Field) (target : Option (ℕ × ℕ)) (told : Line) → IsReady s → (is : Found is_pair s p f field)
    → target ≡ target_in s.objects.nodes (part_in part s.objects.nodes is.node f) → MatchOption target (told ≡ L.Null) (λ (t : ℕ × ℕ). told ≡ L.Node t.1) → HasRead true s mid target
    → after ≡ put_in mid.handles q target → StepPart part (state_of s) p f q (told ∷ []) (answered (state_of (record mid { handles = after })))
step_part s mid after p f q part field target told ready is read line has put =
    let st : State = state_of s in
    let new : State = answered (state_of (record mid { handles = after })) in
    asked is_pair st.nodes (slot_at st p) f is.node _ (λ m. IsRead true st (part_in part st.nodes m f) q (told ∷ []) new) _ _ is.slot is.is.there is.kind
    (slot_read true s mid after q (part_in part st.nodes is.node f) target told (live_names st.nodes (part_in part st.nodes is.node f) (part_live s p f part field ready is)) read line has put)

-- ---- what two slots hold

-- what two slots hold goes into a pair, where it is null if either is
pub slots_are_parts : (nodes : List Node) (k v : Option ℕ) → ForSome k (IsLive nodes) → ForSome v (IsLive nodes) → ArePartsOf nodes (part_of k v) (part_of v k)
slots_are_parts nodes None None key value = record { key_names = tt; value_names = tt; both = refl }
slots_are_parts nodes None (Some m) key value = record { key_names = tt; value_names = tt; both = refl }
slots_are_parts nodes (Some n) None key value = record { key_names = tt; value_names = tt; both = refl }
slots_are_parts nodes (Some n) (Some m) key value = record { key_names = key n refl; value_names = value m refl; both = λ null. cc }

pub slot_part_word : (nodes : List Node) (slot other : Option ℕ)
    → slot_part (option_map (place_of nodes) slot) (option_map (place_of nodes) other) ≡ word_of (place_of nodes) (part_of slot other)
slot_part_word nodes None other = refl
slot_part_word nodes (Some n) None = refl
slot_part_word nodes (Some n) (Some m) = refl
