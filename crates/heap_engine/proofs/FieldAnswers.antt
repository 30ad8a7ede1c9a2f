-- The steps of the commands on fields.
use Rattle.std.proofs.Common.{◌≡◌, ℕ, ◌<◌, Bool, true, List, [], ◌∷◌, get_or, Option, option_map, Some, None, Ok, Err, Result, refl, sym, ap, ◌∙◌, subst, inl, inr, ltb}
use Rattle.std.specs.Prelude.{MatchOption, MatchBool}
use Rattle.std.specs.Option.{ForSome}
use Rattle.std.proofs.lemmas.Bool.{cases_Bool, ltb-true, lt-ltb}
use Rattle.gc_graph.specs.declared.kind.Kind.{Kind}
use Rattle.gc_graph.specs.declared.kind.Value.{Value}
use Rattle.gc_graph.specs.declared.kind.Value.TheVariants.{Word}
use Rattle.gc_graph.specs.declared.line.Line.{Line}
use Rattle.gc_graph.specs.declared.line.Line.TheVariants as L
use Rattle.gc_graph.specs.declared.line.Refusal.{Refusal}
use Rattle.gc_graph.specs.declared.line.Refusal.TheVariants as R
use Rattle.gc_graph.specs.State.{State, Node, node_at, IsLive}
use Rattle.gc_graph.specs.Fields.{content_of, field_count, kind_of_field, with_value, is_reference, is_weak, is_plain}
use Rattle.gc_graph.specs.Outcomes.{answered, slot_at}
use Rattle.gc_graph.specs.ObjectSteps.{StepGet, StepWord, IsChanged, IsNumber, IsRead, first_word}
use Rattle.heap_cycle.specs.Field.{Field}
use Rattle.heap_cycle.specs.Wanted.{Wanted}
use Rattle.heap_cycle.specs.Nodes.{place_of, word_of}
use Rattle.heap_cycle.specs.Fields.{allows, field_of, IsFieldOf, FindsField, value_in, IsLiveReference}
use Rattle.heap_engine.specs.FieldSteps.{StepWrite, HasRead}
use Rattle.heap_engine.proofs.SlotReads.{live_names, slot_read}
use Rattle.heap_cycle.specs.Objects.{target_in, written_in, ObjectsView}
use Rattle.heap_cycle.specs.Handles.{slot_word, put_in, HandlesView}
use Rattle.heap_cycle.specs.declared.parts.Parts.{Parts}
use Rattle.heap_cycle.specs.Parts.{setup_of, state_of, IsReady}
use Rattle.heap_cycle.specs.FieldReads.{holds_reference}
use Rattle.heap_cycle.specs.Ties.{valid_nodes, slot_live}

-- the field that was asked for: the slot's node has it, and its kind passes the test
pub record Found (allowed : Kind → Bool) (s : Parts) (p f : ℕ) (field : Field) : Type 0 where
  pub node : ℕ
  pub slot : get_or s.handles.slots p None ≡ Some node
  pub kind : allowed (kind_of_field (node_at s.objects.nodes node).object f) ≡ true
  pub is : IsFieldOf s.objects.nodes node f field

never : (field : Field) (why : Refusal) → (let answer : Result Field Refusal = Ok field in answer ≡ Err why) → ⊥
never field why e = cc

same : (field other : Field) → (let answer : Result Field Refusal = Ok field in answer ≡ Ok other) → field ≡ other
same field other e = cc

-- a field of a live node
found_at : (allowed : Kind → Bool) (s : Parts) (p f n : ℕ) (field : Field) → IsReady s → get_or s.handles.slots p None ≡ Some n
    → FindsField allowed s.objects.nodes n f (Ok field) → Found allowed s p f field
found_at allowed s p f n field ready slot told =
    let node : Node = node_at s.objects.nodes n in
    let kind : Kind = kind_of_field node.object f in
    let answer : Result Field Refusal = Ok field in
    let there : Type 0 = MatchBool (allowed kind) (answer ≡ Ok (field_of s.objects.nodes n f)) (answer ≡ Err R.Kind) in
    elim (cases_Bool (ltb f (field_count node))) [
      | inl low ↦
          (let inside : there = subst (λ b. MatchBool b there (answer ≡ Err R.Field)) low told in
          elim (cases_Bool (allowed kind)) [
            | inl is ↦
                (let at : answer ≡ Ok (field_of s.objects.nodes n f) = subst (λ b. MatchBool b (answer ≡ Ok (field_of s.objects.nodes n f)) (answer ≡ Err R.Kind)) is inside in
                record {
                  node = n;
                  slot = slot;
                  kind = is;
                  is = record { live = slot_live s p ready n slot; there = ltb-true f (field_count node) low; is = same field (field_of s.objects.nodes n f) at };
                })
            | inr other ↦ absurd (never field R.Kind (subst (λ b. MatchBool b (answer ≡ Ok (field_of s.objects.nodes n f)) (answer ≡ Err R.Kind)) other inside))
          ])
      | inr past ↦ absurd (never field R.Field (subst (λ b. MatchBool b there (answer ≡ Err R.Field)) past told))
    ]

found_in : (allowed : Kind → Bool) (s : Parts) (p f : ℕ) (field : Field) (slot : Option ℕ) → IsReady s → get_or s.handles.slots p None ≡ slot
    → (let answer : Result Field Refusal = Ok field in MatchOption slot (answer ≡ Err R.Null) (λ n. FindsField allowed s.objects.nodes n f answer)) → Found allowed s p f field
found_in allowed s p f field None ready slot told = cc
found_in allowed s p f field (Some n) ready slot told = found_at allowed s p f n field ready slot told

pub found : (allowed : Kind → Bool) (s : Parts) (p f : ℕ) (field : Field) → IsReady s
    → (let answer : Result Field Refusal = Ok field in MatchOption (get_or s.handles.slots p None) (answer ≡ Err R.Null) (λ n. FindsField allowed s.objects.nodes n f answer))
    → Found allowed s p f field
found allowed s p f field ready told = found_in allowed s p f field (get_or s.handles.slots p None) ready refl told

-- the kind that the field tells passes the test
pub field_kind : (allowed : Kind → Bool) (s : Parts) (p f : ℕ) (field : Field) → Found allowed s p f field → allowed field.kind ≡ true
field_kind allowed s p f field is = ap (λ (x : Field). allowed x.kind) is.is.is ∙ is.kind

-- what is to be done at the field is done
pub asked : (allowed : Kind → Bool) (nodes : List Node) (slot : Option ℕ) (f n : ℕ) (none : Type 0) (Done : ℕ → Type 0) (other past : Type 0) → slot ≡ Some n → f < field_count (node_at nodes n)
    → allowed (kind_of_field (node_at nodes n).object f) ≡ true → Done n
    → MatchOption slot none (λ m. MatchBool (ltb f (field_count (node_at nodes m))) (MatchBool (allowed (kind_of_field (node_at nodes m).object f)) (Done m) other) past)
asked allowed nodes slot f n none Done other past is low kind done =
    subst (λ x. MatchOption x none (λ m. MatchBool (ltb f (field_count (node_at nodes m))) (MatchBool (allowed (kind_of_field (node_at nodes m).object f)) (Done m) other) past)) (sym is)
    (subst (λ b. MatchBool b (MatchBool (allowed (kind_of_field (node_at nodes n).object f)) (Done n) other) past) (sym (lt-ltb f (field_count (node_at nodes n)) low))
    (subst (λ b. MatchBool b (Done n) other) (sym kind) done))

pub step_write : (wanted : Wanted) (s : Parts) (new : ObjectsView) (p f : ℕ) (field : Field) (x : Value) → (is : Found (allows wanted) s p f field)
    → new.nodes ≡ written_in s.objects.nodes (get_or s.handles.slots p None) f x
    → StepWrite wanted (state_of s) p f x (L.Fine ∷ []) (answered (state_of (record s { objects = new })))
step_write wanted s new p f field x is nodes =
    let st : State = state_of s in
    let n : ℕ = is.node in
    let after : State = answered (state_of (record s { objects = new })) in
    let changed : IsChanged st n (with_value (node_at st.nodes n) (first_word st n f) x) (L.Fine ∷ []) after = (
      refl,
      ap (λ (ns : List Node). answered (record st { nodes = ns })) (nodes ∙ ap (λ slot. written_in s.objects.nodes slot f x) is.slot),
    ) in
    asked (allows wanted) st.nodes (slot_at st p) f n _ (λ m. IsChanged st m (with_value (node_at st.nodes m) (first_word st m f) x) (L.Fine ∷ []) after) _ _ is.slot
    is.is.there is.kind changed

pub step_word : (s t : Parts) (p f w : ℕ) (field : Field) → (is : Found is_plain s p f field) → value_in s.objects.nodes is.node f ≡ Word w → t ≡ s
    → StepWord (state_of s) p f (L.Word w ∷ []) (answered (state_of t))
step_word s t p f w field is told unchanged =
    let st : State = state_of s in
    let lines : List Line = L.Word w ∷ [] in
    let number : IsNumber st (Word w) lines (answered (state_of t)) = (refl, ap (λ (x : Parts). answered (state_of x)) unchanged) in
    asked is_plain st.nodes (slot_at st p) f is.node _ (λ m. IsNumber st (value_in st.nodes m f) lines (answered (state_of t))) _ _ is.slot is.is.there is.kind
    (subst (λ x. IsNumber st x lines (answered (state_of t))) (sym told) number)

-- a reference field names a live node or none
pub read_live : (s : Parts) (p f : ℕ) (field : Field) → IsReady s → (is : Found is_reference s p f field) → IsLiveReference s.objects.nodes (value_in s.objects.nodes is.node f)
read_live s p f field ready is =
    holds_reference (setup_of s) s.objects.nodes is.node f field (valid_nodes s ready) is.is (field_kind is_reference s p f field is)

pub step_get : (s mid : Parts) (after : HandlesView) (p f q : ℕ) (field : Field) (target : Option (ℕ × ℕ)) (told : Line) → IsReady s → (is : Found is_reference s p f field)
    → target ≡ target_in s.objects.nodes (value_in s.objects.nodes is.node f) → MatchOption target (told ≡ L.Null) (λ (t : ℕ × ℕ). told ≡ L.Node t.1)
    → HasRead (is_weak field.kind) s mid target → after ≡ put_in mid.handles q target → StepGet (state_of s) p f q (told ∷ []) (answered (state_of (record mid { handles = after })))
step_get s mid after p f q field target told ready is read line has put =
    let st : State = state_of s in
    let n : ℕ = is.node in
    let new : State = answered (state_of (record mid { handles = after })) in
    let done : IsRead (is_weak field.kind) st (value_in st.nodes n f) q (told ∷ []) new =
    slot_read (is_weak field.kind) s mid after q (value_in st.nodes n f) target told (live_names st.nodes (value_in st.nodes n f) (read_live s p f field ready is)) read line has put in
    asked is_reference st.nodes (slot_at st p) f n _ (λ m. IsRead (is_weak (kind_of_field (node_at st.nodes m).object f)) st (value_in st.nodes m f) q (told ∷ []) new) _ _ is.slot
    is.is.there is.kind (subst (λ (x : Field). IsRead (is_weak x.kind) st (value_in st.nodes n f) q (told ∷ []) new) is.is.is done)

pub content_live : (nodes : List Node) (slot : Option ℕ) → ForSome slot (IsLive nodes) → IsLiveReference nodes (content_of slot)
content_live nodes None live = tt
content_live nodes (Some n) live = live n refl

-- what a slot holds, as a word
pub content_word : (nodes : List Node) (slot : Option ℕ) → slot_word (option_map (place_of nodes) slot) ≡ word_of (place_of nodes) (content_of slot)
content_word nodes None = refl
content_word nodes (Some n) = refl
