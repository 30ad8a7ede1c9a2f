-- The words of a pair in its holder, and what they hold.
use Rattle.std.proofs.Common.{◌≡◌, ℕ, zero, suc, ◌+◌, ◌-◌, ◌<◌, true, false, List, [], ◌∷◌, length, get_or, map, take, refl, sym, ap, ◌∙◌, subst, inl, inr, arith}
use Rattle.std.specs.List.{Contains}
use Rattle.std.specs.Prelude.{◌↔◌}
use Rattle.std.proofs.lemmas.Bool.{true≢false, cases_lt}
use Rattle.std.proofs.lemmas.List.{get_or-map, get_or_past}
use Rattle.std.proofs.lemmas.List.Elements.{All-get_or}
use Rattle.std.proofs.lemmas.List.Sums.{sum_by-cons, sum_by_more_le}
use Rattle.gc_graph.specs.declared.kind.Kind.{Kind}
use Rattle.gc_graph.specs.declared.kind.Kind.TheVariants.{Strong, Weak, Pair, Plain}
use Rattle.gc_graph.specs.declared.kind.Value.{Value}
use Rattle.gc_graph.specs.declared.kind.Value.TheVariants.{Null, Ref, Word}
use Rattle.gc_graph.specs.Graph.{Object}
use Rattle.gc_graph.specs.State.{Setup, Node, node_at, IsLive}
use Rattle.gc_graph.specs.Fields.{words_of_kind, word_of_field, value_at, is_pair}
use Rattle.gc_graph.specs.Valid.{HaveKinds, IsReferenceBelow, IsTyped, NamesLive}
use Rattle.type_table.specs.Types as table
use Rattle.type_table.specs.FieldLaw.{FieldsStandApart}
use Rattle.marker_core.specs.declared.states.Body.{Body}
use Rattle.page_words.specs.Seat.{SeatView}
use Rattle.member_fields.specs.Words.{HasPair, IsWordIn}
use Rattle.heap_objects.specs.declared.field.Field.{Field}
use Rattle.heap_objects.specs.declared.field.Part.{Part}
use Rattle.heap_objects.specs.declared.field.Part.TheVariants as P
use Rattle.atomic_pause.specs.Nodes.{place_of, word_of, body_of, bodies_of, AreOfValid}
use Rattle.heap_objects.specs.Fields.{IsFieldOf, part_word, part_in, IsLiveReference, ArePartsOf}
use Rattle.heap_objects.specs.Objects.{IsReferenceTo}
use Rattle.atomic_pause.specs.NodePlaces.{live_is_there, node_body}
use Rattle.atomic_pause.specs.TypedNodes.{known_nodes}
use Rattle.atomic_pause.specs.FieldKinds.{first_word_of_kinds, IsOfKind, value_of_kind}
use Rattle.heap_objects.specs.FieldReads.{named}
use Rattle.atomic_pause.specs.KeptNodes.{live_typed}

-- ---- where a pair is

is_pair_kind : (kind : Kind) → is_pair kind ≡ true → kind ≡ Pair
is_pair_kind Strong is = absurd (true≢false (sym is))
is_pair_kind Weak is = absurd (true≢false (sym is))
is_pair_kind Pair is = refl
is_pair_kind Plain is = absurd (true≢false (sym is))

-- a pair is one of the declared fields, for the extra words are plain
pair_declared : (kinds : List Kind) (f : ℕ) → get_or kinds f Plain ≡ Pair → f < length kinds
pair_declared kinds f is = elim (cases_lt f (length kinds)) [
  | inl low ↦ low
  | inr past ↦ (let never : Plain ≡ Pair = sym (get_or_past kinds f Plain past) ∙ is in absurd (true≢false (sym (ap is_pair never))))
]

-- the node's field f is a pair
pub pair_is : (nodes : List Node) (n f : ℕ) (field : Field) → IsFieldOf nodes n f field → is_pair field.kind ≡ true → get_or (node_at nodes n).object.kinds f Plain ≡ Pair
pair_is nodes n f field is pair = sym (ap (λ (x : Field). x.kind) is.is) ∙ is_pair_kind field.kind pair

-- both words of the pair are among the values
pub pair_low : (setup : Setup) (nodes : List Node) (n f : ℕ) → AreOfValid setup nodes → IsLive nodes n → get_or (node_at nodes n).object.kinds f Plain ≡ Pair
    → word_of_field (node_at nodes n).object f + 1 < length (node_at nodes n).object.values
pair_low setup nodes n f valid live is =
    let kinds : List Kind = (node_at nodes n).object.kinds in
    let low : f < length kinds = pair_declared kinds f is in
    omega (arith, low, sum_by_more_le words_of_kind kinds f Plain low, ap words_of_kind is, (live_typed setup nodes n valid live).count)

pub has_pair : (setup : Setup) (nodes : List Node) (v : SeatView) (n f : ℕ) (field : Field) → FieldsStandApart → AreOfValid setup nodes
    → v.bodies ≡ bodies_of nodes → v.types ≡ setup.types → IsFieldOf nodes n f field → is_pair field.kind ≡ true → HasPair v field.holder field.word
has_pair setup nodes v n f field law valid held known is pair =
    let node : Node = node_at nodes n in
    let word : ℕ = 2 + word_of_field node.object f in
    let typed : IsTyped setup (length nodes) node = live_typed setup nodes n valid is.live in
    let kind : get_or node.object.kinds f Plain ≡ Pair = pair_is nodes n f field is pair in
    let kinds : table.declared_kinds v.types node.object.ty ≡ node.object.kinds = ap (λ types. table.declared_kinds types node.object.ty) known ∙ sym typed.kinds_are in
    let at : word - 2 + 2 ≡ table.offset_of node.object.kinds f = omega arith in
    let body : Body = body_of (place_of nodes) n node in
    let has : HasPair v (place_of nodes n) word = record {
      body = body;
      there = node_body nodes v n held (live_is_there nodes n is.live);
      place = refl;
      first = omega arith;
      last = omega (arith, pair_low setup nodes n f valid is.live kind);
      key = subst (λ ks. Contains (table.offsets_of_kind Pair ks) (word - 2 + 2)) (sym kinds)
          (law.told (table.is_kind Pair) node.object.kinds (word - 2 + 2) f (record {
            declared = pair_declared node.object.kinds f kind;
            kind = ap (table.is_kind Pair) kind;
            offset_is = at;
          }));
    } in
    subst (λ (x : Field). HasPair v x.holder x.word) (sym is.is) has

-- ---- what a pair holds

second_later : (bound : ℕ) (kind : Kind) (kinds : List Kind) (f : ℕ) (v : Value) (values : List Value) → words_of_kind kind ≡ 1
    → IsReferenceBelow bound (get_or values (first_word_of_kinds kinds f + 1) Null) → IsReferenceBelow bound (get_or (v ∷ values) (first_word_of_kinds (kind ∷ kinds) (suc f) + 1) Null)
second_later bound kind kinds f v values one is =
    let next : suc (first_word_of_kinds kinds f + 1) ≡ first_word_of_kinds (kind ∷ kinds) (suc f) + 1 = omega (arith, sum_by-cons words_of_kind kind (take f kinds), one) in
    subst (λ n. IsReferenceBelow bound (get_or (v ∷ values) n Null)) next is

second_here : (bound : ℕ) (kinds : List Kind) (key v : Value) (values : List Value) → IsReferenceBelow bound v
    → IsReferenceBelow bound (get_or (key ∷ v ∷ values) (first_word_of_kinds (Pair ∷ kinds) 0 + 1) Null)
second_here bound kinds key v values is =
    let next : 1 ≡ first_word_of_kinds (Pair ∷ kinds) 0 + 1 = omega arith in
    subst (λ n. IsReferenceBelow bound (get_or (key ∷ v ∷ values) n Null)) next is

second_past : (bound : ℕ) (kinds : List Kind) (f : ℕ) (key v : Value) (values : List Value)
    → IsReferenceBelow bound (get_or values (first_word_of_kinds kinds f + 1) Null) → IsReferenceBelow bound (get_or (key ∷ v ∷ values) (first_word_of_kinds (Pair ∷ kinds) (suc f) + 1) Null)
second_past bound kinds f key v values is =
    let next : suc (suc (first_word_of_kinds kinds f + 1)) ≡ first_word_of_kinds (Pair ∷ kinds) (suc f) + 1 = omega (arith, sum_by-cons words_of_kind Pair (take f kinds)) in
    subst (λ n. IsReferenceBelow bound (get_or (key ∷ v ∷ values) n Null)) next is

other_kind : (kind : Kind) → is_pair kind ≡ false → kind ≡ Pair → ⊥
other_kind kind other is = true≢false (sym (ap is_pair is) ∙ other)

-- the value of a pair is null, or names a node
second_of_pair : (bound : ℕ) (kinds : List Kind) (f : ℕ) (values : List Value) → HaveKinds bound kinds values → get_or kinds f Plain ≡ Pair
    → IsReferenceBelow bound (get_or values (first_word_of_kinds kinds f + 1) Null)
second_of_pair bound [] f values have is = absurd (other_kind Plain refl is)
second_of_pair bound (Strong ∷ kinds) f [] have is = absurd have
second_of_pair bound (Weak ∷ kinds) f [] have is = absurd have
second_of_pair bound (Pair ∷ kinds) f [] have is = absurd have
second_of_pair bound (Plain ∷ kinds) f [] have is = absurd have
second_of_pair bound (Strong ∷ kinds) zero (v ∷ values) have is = absurd (other_kind Strong refl is)
second_of_pair bound (Weak ∷ kinds) zero (v ∷ values) have is = absurd (other_kind Weak refl is)
second_of_pair bound (Plain ∷ kinds) zero (v ∷ values) have is = absurd (other_kind Plain refl is)
second_of_pair bound (Pair ∷ kinds) f (key ∷ []) have is = absurd have
second_of_pair bound (Pair ∷ kinds) zero (key ∷ v ∷ values) have is = second_here bound kinds key v values have.1
second_of_pair bound (Strong ∷ kinds) (suc f) (v ∷ values) have is = second_later bound Strong kinds f v values refl (second_of_pair bound kinds f values have.1 is)
second_of_pair bound (Weak ∷ kinds) (suc f) (v ∷ values) have is = second_later bound Weak kinds f v values refl (second_of_pair bound kinds f values have.1 is)
second_of_pair bound (Plain ∷ kinds) (suc f) (v ∷ values) have is = second_later bound Plain kinds f v values refl (second_of_pair bound kinds f values have.1 is)
second_of_pair bound (Pair ∷ kinds) (suc f) (key ∷ v ∷ values) have is = second_past bound kinds f key v values (second_of_pair bound kinds f values have.3 is)

-- the key of a pair is null, or names a node
first_of_pair : (bound : ℕ) (kinds : List Kind) (f : ℕ) (values : List Value) → HaveKinds bound kinds values → get_or kinds f Plain ≡ Pair → first_word_of_kinds kinds f < length values
    → IsReferenceBelow bound (get_or values (first_word_of_kinds kinds f) Null)
first_of_pair bound kinds f values have is low =
    subst (λ kind. IsOfKind bound kind (get_or values (first_word_of_kinds kinds f) Null)) is (value_of_kind bound kinds f values have low)

part_below : (setup : Setup) (nodes : List Node) (n f : ℕ) (part : Part) → AreOfValid setup nodes → IsLive nodes n → get_or (node_at nodes n).object.kinds f Plain ≡ Pair
    → IsReferenceBelow (length nodes) (part_in part nodes n f)
part_below setup nodes n f P.Key valid live is =
    let object : Object = (node_at nodes n).object in
    first_of_pair (length nodes) object.kinds f object.values (live_typed setup nodes n valid live).values_are is (omega (arith, pair_low setup nodes n f valid live is))
part_below setup nodes n f P.Value valid live is =
    second_of_pair (length nodes) (node_at nodes n).object.kinds f (node_at nodes n).object.values (live_typed setup nodes n valid live).values_are is

part_low : (nodes : List Node) (n f : ℕ) (part : Part) → word_of_field (node_at nodes n).object f + 1 < length (node_at nodes n).object.values
    → part_word part (word_of_field (node_at nodes n).object f) < length (node_at nodes n).object.values
part_low nodes n f P.Key low = omega arith
part_low nodes n f P.Value low = low

-- each part of a pair is null, or names a live node
pub holds_part : (setup : Setup) (nodes : List Node) (n f : ℕ) (part : Part) → AreOfValid setup nodes → IsLive nodes n → get_or (node_at nodes n).object.kinds f Plain ≡ Pair
    → IsLiveReference nodes (part_in part nodes n f)
holds_part setup nodes n f part valid live is =
    let object : Object = (node_at nodes n).object in
    named nodes (length nodes) (part_in part nodes n f)
    (All-get_or (NamesLive nodes) object.values (part_word part (word_of_field object f)) Null (part_low nodes n f part (pair_low setup nodes n f valid live is))
    ((known_nodes setup nodes valid).references n live)) (part_below setup nodes n f part valid live is)

-- the word at an offset that was read stands for what the node holds there
reads_at : (nodes : List Node) (v : SeatView) (n i word w : ℕ) → v.bodies ≡ bodies_of nodes → IsLive nodes n → i < length (node_at nodes n).object.values → word ≡ 2 + i
    → IsWordIn v (place_of nodes n) word w → w ≡ word_of (place_of nodes) (value_at (node_at nodes n) i)
reads_at nodes v n i word w held live low at read =
    let values : List Value = (node_at nodes n).object.values in
    let index : word - 2 ≡ i = omega arith in
    read (body_of (place_of nodes) n (node_at nodes n)) (node_body nodes v n held (live_is_there nodes n live)) refl
    ∙ ap (λ j. get_or (map (word_of (place_of nodes)) values) j 0) index ∙ get_or-map (word_of (place_of nodes)) values i Null 0 low

pub reads_part : (setup : Setup) (nodes : List Node) (v : SeatView) (n f : ℕ) (field : Field) (part : Part) (w : ℕ) → AreOfValid setup nodes → v.bodies ≡ bodies_of nodes
    → IsFieldOf nodes n f field → is_pair field.kind ≡ true → IsWordIn v field.holder (part_word part field.word) w → IsReferenceTo nodes (part_in part nodes n f) w
reads_part setup nodes v n f field part w valid held is pair read =
    let kind : get_or (node_at nodes n).object.kinds f Plain ≡ Pair = pair_is nodes n f field is pair in
    let first : ℕ = word_of_field (node_at nodes n).object f in
    record {
      word = reads_at nodes v n (part_word part first) (part_word part (2 + first)) w held is.live (part_low nodes n f part (pair_low setup nodes n f valid is.live kind))
          (part_offset part first) (subst (λ (x : Field). IsWordIn v x.holder (part_word part x.word) w) is.is read);
      names = holds_part setup nodes n f part valid is.live kind;
    } where
      part_offset : (part : Part) (first : ℕ) → part_word part (2 + first) ≡ 2 + part_word part first
      part_offset P.Key first = refl
      part_offset P.Value first = omega arith

-- ---- what goes into a pair

-- the words of both are null, or neither
pub null_together : (nodes : List Node) (key value : Value) → ArePartsOf nodes key value → (word_of (place_of nodes) key ≡ 0) ↔ (word_of (place_of nodes) value ≡ 0)
null_together nodes Null value parts = (λ _. ap (word_of (place_of nodes)) parts.both, λ _. refl)
null_together nodes (Ref n) Null parts = absurd (parts.both refl)
null_together nodes (Ref n) (Ref m) parts = (λ null. absurd (omega arith), λ null. absurd (omega arith))
null_together nodes (Ref n) (Word w) parts = absurd parts.value_names
null_together nodes (Word w) value parts = absurd parts.key_names
