-- What a field's word tells, and what may go into it.
use Rattle.std.proofs.Common.{◌≡◌, ℕ, ◌+◌, ◌-◌, ◌<◌, ◌≤◌, ◌^◌, true, List, length, get_or, map, Some, None, option_map, refl, sym, ap, ◌∙◌, subst, inl, inr, arith}
use Rattle.std.specs.List.{Contains}
use Rattle.std.proofs.lemmas.Bool.{true≢false, cases_eq}
use Rattle.std.proofs.lemmas.List.{get_or-map}
use Rattle.std.proofs.lemmas.List.Elements.{All-get_or}
use Rattle.gc_graph.specs.declared.kind.Kind.{Kind}
use Rattle.gc_graph.specs.declared.kind.Kind.TheVariants.{Strong, Weak, Pair, Plain}
use Rattle.gc_graph.specs.declared.kind.Value.{Value}
use Rattle.gc_graph.specs.declared.kind.Value.TheVariants.{Null, Ref, Word}
use Rattle.gc_graph.specs.State.{Setup, Node, node_at, IsLive}
use Rattle.gc_graph.specs.Fields.{word_of_field, target_of, is_reference, is_plain}
use Rattle.gc_graph.specs.Valid.{IsReferenceBelow, NamesLive}
use Rattle.marker_core.specs.Bodies.{IsReference}
use Rattle.marker_core.specs.declared.states.Body.{Body}
use Rattle.marker_core.specs.Matching.{IsWhole}
use Rattle.page_words.specs.BodyPlaces.{whole_body}
use Rattle.page_words.specs.Roles.{kind_lists}
use Rattle.page_words.specs.Seat.{SeatView, TellsWordAt, IsView}
use Rattle.member_fields.specs.Words.{IsWordIn}
use Rattle.heap_objects.specs.declared.field.Field.{Field}
use Rattle.heap_objects.specs.declared.field.Wanted.{Wanted}
use Rattle.heap_objects.specs.declared.field.Wanted.TheVariants.{References, Numbers, Pairs}
use Rattle.atomic_pause.specs.Nodes.{place_of, word_of, body_of, bodies_of, most_nodes, AreOfValid}
use Rattle.heap_objects.specs.Fields.{allows, IsFieldOf, value_in, IsLiveReference, Suits, TakesValue, TakesWord}
use Rattle.heap_objects.specs.Objects.{IsReferenceTo, target_in}
use Rattle.atomic_pause.specs.NodePlaces.{live_is_there, node_body}
use Rattle.atomic_pause.specs.TypedNodes.{known_nodes}
use Rattle.atomic_pause.specs.FieldKinds.{IsOfKind, value_of_kind}
use Rattle.heap_objects.specs.FieldPlaces.{word_low}
use Rattle.gc_graph.specs.NodeNumbers.{live_below}
use Rattle.atomic_pause.specs.KeptNodes.{live_typed}

-- ---- what may go into a field

-- what suits the fields that are wanted goes into each of them
pub takes_suited : (wanted : Wanted) (kind : Kind) (nodes : List Node) (x : Value) → allows wanted kind ≡ true → Suits wanted nodes x → TakesValue kind nodes x
takes_suited References Strong nodes x is suits = suits
takes_suited References Weak nodes x is suits = suits
takes_suited References Pair nodes x is suits = absurd (true≢false (sym is))
takes_suited References Plain nodes x is suits = absurd (true≢false (sym is))
takes_suited Numbers Strong nodes x is suits = absurd (true≢false (sym is))
takes_suited Numbers Weak nodes x is suits = absurd (true≢false (sym is))
takes_suited Numbers Pair nodes x is suits = absurd (true≢false (sym is))
takes_suited Numbers Plain nodes x is suits = suits
takes_suited Pairs kind nodes x is suits = absurd suits

pub value_is_reference : (nodes : List Node) (v : SeatView) (x : Value) → v.bodies ≡ bodies_of nodes → IsLiveReference nodes x → IsReference v.bodies (word_of (place_of nodes) x)
value_is_reference nodes v Null held names = inl refl
value_is_reference nodes v (Ref n) held names = inr (body_of (place_of nodes) n (node_at nodes n), node_body nodes v n held (live_is_there nodes n names), refl)
value_is_reference nodes v (Word w) held names = absurd names

-- a field takes the word of each value that it takes
pub takes_word : (nodes : List Node) (v : SeatView) (kind : Kind) (x : Value) → v.bodies ≡ bodies_of nodes → TakesValue kind nodes x
    → TakesWord kind v.bodies (word_of (place_of nodes) x)
takes_word nodes v Strong x held takes = value_is_reference nodes v x held takes
takes_word nodes v Weak x held takes = value_is_reference nodes v x held takes
takes_word nodes v Pair x held takes = takes
takes_word nodes v Plain x held takes = tt

-- ---- what a field holds

-- the field's value is of its kind
field_value : (setup : Setup) (nodes : List Node) (n f : ℕ) (field : Field) → AreOfValid setup nodes → IsFieldOf nodes n f field
    → IsOfKind (length nodes) field.kind (value_in nodes n f)
field_value setup nodes n f field valid is =
    let node : Node = node_at nodes n in
    subst (λ kind. IsOfKind (length nodes) kind (value_in nodes n f)) (sym (ap (λ (x : Field). x.kind) is.is))
    (value_of_kind (length nodes) node.object.kinds f node.object.values (live_typed setup nodes n valid is.live).values_are (word_low setup nodes n f field valid is))

pub named : (nodes : List Node) (bound : ℕ) (x : Value) → NamesLive nodes x → IsReferenceBelow bound x → IsLiveReference nodes x
named nodes bound Null live of = tt
named nodes bound (Ref n) live of = live
named nodes bound (Word w) live of = of

live_reference : (nodes : List Node) (bound : ℕ) (kind : Kind) (x : Value) → NamesLive nodes x → is_reference kind ≡ true → IsOfKind bound kind x → IsLiveReference nodes x
live_reference nodes bound Strong x live is of = named nodes bound x live of
live_reference nodes bound Weak x live is of = named nodes bound x live of
live_reference nodes bound Pair x live is of = absurd (true≢false (sym is))
live_reference nodes bound Plain x live is of = absurd (true≢false (sym is))

-- a strong or weak field holds null or a live node
pub holds_reference : (setup : Setup) (nodes : List Node) (n f : ℕ) (field : Field) → AreOfValid setup nodes → IsFieldOf nodes n f field → is_reference field.kind ≡ true
    → IsLiveReference nodes (value_in nodes n f)
holds_reference setup nodes n f field valid is reference =
    let node : Node = node_at nodes n in
    live_reference nodes (length nodes) field.kind (value_in nodes n f)
    (All-get_or (NamesLive nodes) node.object.values (word_of_field node.object f) Null (word_low setup nodes n f field valid is)
    ((known_nodes setup nodes valid).references n is.live)) reference (field_value setup nodes n f field valid is)

-- the word that was read stands for what the field holds
pub reads_value : (setup : Setup) (nodes : List Node) (v : SeatView) (n f : ℕ) (field : Field) (w : ℕ) → AreOfValid setup nodes → v.bodies ≡ bodies_of nodes
    → IsFieldOf nodes n f field → IsWordIn v field.holder field.word w → w ≡ word_of (place_of nodes) (value_in nodes n f)
reads_value setup nodes v n f field w valid held is read =
    let node : Node = node_at nodes n in
    let word : ℕ = word_of_field node.object f in
    let index : 2 + word - 2 ≡ word = omega arith in
    subst (λ (x : Field). IsWordIn v x.holder x.word w) is.is read (body_of (place_of nodes) n node) (node_body nodes v n held (live_is_there nodes n is.live)) refl
    ∙ ap (λ i. get_or (map (word_of (place_of nodes)) node.object.values) i 0) index
    ∙ get_or-map (word_of (place_of nodes)) node.object.values word Null 0 (word_low setup nodes n f field valid is)

-- ---- the number in a plain field

number_told : (g : ℕ → ℕ) (bound : ℕ) (kind : Kind) (x : Value) (w : ℕ) → is_plain kind ≡ true → IsOfKind bound kind x → w ≡ word_of g x → x ≡ Word w
number_told g bound Strong x w is of told = absurd (true≢false (sym is))
number_told g bound Weak x w is of told = absurd (true≢false (sym is))
number_told g bound Pair x w is of told = absurd (true≢false (sym is))
number_told g bound Plain Null w is of told = absurd of
number_told g bound Plain (Ref n) w is of told = absurd of
number_told g bound Plain (Word m) w is of told = ap (λ k. (let x : Value = Word k in x)) (sym told)

pub reads_number : (setup : Setup) (nodes : List Node) (v : SeatView) (n f : ℕ) (field : Field) (w : ℕ) → AreOfValid setup nodes → v.bodies ≡ bodies_of nodes
    → IsFieldOf nodes n f field → is_plain field.kind ≡ true → IsWordIn v field.holder field.word w → value_in nodes n f ≡ Word w
reads_number setup nodes v n f field w valid held is plain read =
    number_told (place_of nodes) (length nodes) field.kind (value_in nodes n f) w plain (field_value setup nodes n f field valid is)
    (reads_value setup nodes v n f field w valid held is read)

-- ---- the object that a reference names

pub reads_reference : (setup : Setup) (nodes : List Node) (v : SeatView) (n f : ℕ) (field : Field) (w : ℕ) → AreOfValid setup nodes → v.bodies ≡ bodies_of nodes
    → IsFieldOf nodes n f field → is_reference field.kind ≡ true → IsWordIn v field.holder field.word w → IsReferenceTo nodes (value_in nodes n f) w
reads_reference setup nodes v n f field w valid held is reference read = record {
  word = reads_value setup nodes v n f field w valid held is read;
  names = holds_reference setup nodes n f field valid is reference;
}

-- a value whose word is 0 names nothing
null_value : (nodes : List Node) (x : Value) → IsLiveReference nodes x → word_of (place_of nodes) x ≡ 0 → target_of x ≡ None
null_value nodes Null names is = refl
null_value nodes (Ref m) names is = absurd (omega arith)
null_value nodes (Word w) names is = refl

-- and another value names a live node
ref_value : (nodes : List Node) (x : Value) → IsLiveReference nodes x → (word_of (place_of nodes) x ≡ 0 → ⊥)
    → (m : ℕ) × (x ≡ Ref m) × (word_of (place_of nodes) x ≡ place_of nodes m + 1) × IsLive nodes m
ref_value nodes Null names other = absurd (other refl)
ref_value nodes (Ref m) names other = (m, refl, refl, names)
ref_value nodes (Word w) names other = absurd names

-- the word names this node
pub record NamesNode (nodes : List Node) (v : SeatView) (x : Value) (w m : ℕ) : Type 0 where
  pub value : x ≡ Ref m
  pub word : w ≡ place_of nodes m + 1
  pub live : IsLive nodes m
  pub body : Contains v.bodies (body_of (place_of nodes) m (node_at nodes m))

pub reads_null : (nodes : List Node) (x : Value) (w : ℕ) → IsReferenceTo nodes x w → w ≡ 0 → target_in nodes x ≡ None
reads_null nodes x w read null = ap (option_map (λ (m : ℕ). (place_of nodes m, m))) (null_value nodes x read.names (sym read.word ∙ null))

pub reads_node : (nodes : List Node) (v : SeatView) (x : Value) (w : ℕ) → v.bodies ≡ bodies_of nodes → IsReferenceTo nodes x w → (w ≡ 0 → ⊥) → (m : ℕ) × NamesNode nodes v x w m
reads_node nodes v x w held read other =
    let named = ref_value nodes x read.names (λ null. other (read.word ∙ null)) in (
      named.0,
      record { value = named.1; word = read.word ∙ named.2; live = named.3; body = node_body nodes v named.0 held (live_is_there nodes named.0 named.3) },
    )

-- the two words of an object's head are the heap's
pub head_address : (nodes : List Node) (v : SeatView) (x : Value) (w m : ℕ) → IsView v → NamesNode nodes v x w m → w < v.count
head_address nodes v x w m view read =
    let b : Body = body_of (place_of nodes) m (node_at nodes m) in
    let whole : IsWhole v.count (kind_lists v.types) b = whole_body v view b read.body in
    omega (arith, whole.inside, read.word, whole.fields)

-- a word that was read at a field is null, or one more than a place of the heap
pub reference_fits : (nodes : List Node) (v : SeatView) (x : Value) (w : ℕ) → IsView v → v.bodies ≡ bodies_of nodes → IsReferenceTo nodes x w → w ≤ 2 ^ 32
reference_fits nodes v x w view held read = elim (cases_eq w 0) [
  | inl null ↦ omega (arith, null)
  | inr other ↦ (let named = reads_node nodes v x w held read other in omega (arith, head_address nodes v x w named.0 view named.1, view.count))
]

pub head_number : (nodes : List Node) (v : SeatView) (x : Value) (w m a number : ℕ) → NamesNode nodes v x w m → a ≡ w → TellsWordAt v a number → number ≡ m
head_number nodes v x w m a number read at word = word.serial (body_of (place_of nodes) m (node_at nodes m)) read.body (sym (at ∙ read.word))

pub number_fits : (nodes : List Node) (m : ℕ) → length nodes ≤ most_nodes → IsLive nodes m → m < 2 ^ 32
number_fits nodes m few live = omega (arith, few, live_below nodes m live)

pub reads_target : (nodes : List Node) (v : SeatView) (x : Value) (w m place number : ℕ) → NamesNode nodes v x w m → place + 1 ≡ w → number ≡ m
    → Some (place, number) ≡ target_in nodes x
reads_target nodes v x w m place number read at is =
    let there : place ≡ place_of nodes m = omega (arith, read.word) in
    ap (λ y. Some (y, number)) there ∙ ap (λ y. Some (place_of nodes m, y)) is ∙ sym (ap (target_in nodes) read.value)
