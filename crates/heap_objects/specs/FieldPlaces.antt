-- Where the fields of an object are.
use Rattle.std.proofs.Common.{◌≡◌, ℕ, ◌+◌, ◌-◌, ◌<◌, ◌≤◌, Bool, true, List, length, get_or, Option, Some, None, Ok, Err, refl, sym, ap, ◌∙◌, subst, arith, Result, take}
use Rattle.std.specs.Prelude.{MatchBool, MatchOption}
use Rattle.std.specs.List.{Contains}
use Rattle.std.proofs.lemmas.Bool.{lt-ltb, le-ltb}
use Rattle.std.proofs.lemmas.List.Elements.{All-get_or}
use Rattle.gc_graph.specs.declared.kind.Kind.{Kind}
use Rattle.gc_graph.specs.declared.kind.Kind.TheVariants.{Plain}
use Rattle.gc_graph.specs.declared.line.Refusal.{Refusal}
use Rattle.gc_graph.specs.declared.line.Refusal.TheVariants as R
use Rattle.gc_graph.specs.Graph.{Object}
use Rattle.gc_graph.specs.State.{Setup, Node, node_at, no_node}
use Rattle.gc_graph.specs.Fields.{field_words, field_count, kind_of_field, word_of_field}
use Rattle.gc_graph.specs.Valid.{IsTyped}
use Rattle.object_headers.specs.declared.header.Header.{Header}
use Rattle.type_table.specs.Types as table
use Rattle.marker_core.specs.Bodies.{IsPlace}
use Rattle.marker_core.specs.declared.states.Body.{Body}
use Rattle.page_words.specs.Bodies.{kind_in}
use Rattle.page_words.specs.Seat.{SeatView}
use Rattle.page_space.specs.Space.{IsHeaderOf}
use Rattle.member_fields.specs.Words.{HasFieldWord}
use Rattle.heap_objects.specs.declared.field.Field.{Field}
use Rattle.atomic_pause.specs.Nodes.{place_of, body_of, bodies_of, AreOfValid}
use Rattle.heap_objects.specs.Fields.{field_of, IsFieldOf, FindsField}
use Rattle.heap_objects.specs.Objects.{IsLiveAt}
use Rattle.atomic_pause.specs.NodePlaces.{live_is_there, node_body}
use Rattle.type_table.specs.FieldLaw.{FieldsStandApart}
use Rattle.atomic_pause.specs.TypedNodes.{AreKnown, known_nodes}
use Rattle.atomic_pause.specs.FieldKinds.{some_words, first_word_below}
use Rattle.gc_graph.specs.NodeNumbers.{live_below}
use Rattle.atomic_pause.specs.KeptNodes.{live_typed}

pub live_place : (nodes : List Node) (v : SeatView) (n place : ℕ) → v.bodies ≡ bodies_of nodes → IsLiveAt nodes n place → IsPlace v.bodies place
live_place nodes v n place held at = (body_of (place_of nodes) n (node_at nodes n), node_body nodes v n held (live_is_there nodes n at.0), at.1)

-- what the head of a live node's body tells: its type, and how many words it has
pub record IsHead (setup : Setup) (nodes : List Node) (n size ty : ℕ) : Type 0 where
  pub known : ty < length setup.types
  pub kinds : (node_at nodes n).object.kinds ≡ table.declared_kinds setup.types ty
  pub size_is : size ≡ table.size_with (table.declared_kinds setup.types ty) (node_at nodes n).object.extra

pub live_head : (setup : Setup) (nodes : List Node) (v : SeatView) (n place : ℕ) (header : Header) → AreOfValid setup nodes → v.bodies ≡ bodies_of nodes → IsLiveAt nodes n place
    → ((b : Body) → Contains v.bodies b → b.place ≡ place → IsHeaderOf v b header) → IsHead setup nodes n header.size header.ty
live_head setup nodes v n place header valid held at tells =
    let node : Node = node_at nodes n in
    let b : Body = body_of (place_of nodes) n node in
    let is : IsHeaderOf v b header = tells b (node_body nodes v n held (live_is_there nodes n at.0)) at.1 in
    let type : header.ty ≡ node.object.ty = is.ty in
    let known : AreKnown setup nodes = known_nodes setup nodes valid in
    let typed : IsTyped setup (length nodes) node = All-get_or (IsTyped setup (length nodes)) nodes n no_node (live_below nodes n at.0) known.typed in
    let kinds : node.object.kinds ≡ table.declared_kinds setup.types header.ty = typed.kinds_are ∙ ap (table.declared_kinds setup.types) (sym type) in
    record {
      known = omega (arith, type, typed.ty);
      kinds = kinds;
      size_is = omega (arith, is.size, typed.count, ap field_words kinds);
    }

-- how many extra words the object has
pub extra_is : (setup : Setup) (nodes : List Node) (n size ty none extra : ℕ) → IsHead setup nodes n size ty → none ≡ table.size_with (table.declared_kinds setup.types ty) 0
    → extra ≡ size - none → extra ≡ (node_at nodes n).object.extra
extra_is setup nodes n size ty none extra is least rest = omega (arith, is.size_is, least, rest)

-- what the table tells of the field, on the node
pub record IsFieldTold (node : Node) (f : ℕ) (kind : Kind) (offset : ℕ) : Type 0 where
  pub there : f < field_count node
  pub kind_is : kind ≡ kind_of_field node.object f
  pub offset_is : offset ≡ 2 + word_of_field node.object f

field_told : (setup : Setup) (nodes : List Node) (n f size ty extra : ℕ) (found : Kind × ℕ) → IsHead setup nodes n size ty → extra ≡ (node_at nodes n).object.extra
    → table.IsFieldAt (table.declared_kinds setup.types ty) extra f found → IsFieldTold (node_at nodes n) f found.0 found.1
field_told setup nodes n f size ty extra found is extras at = record {
  there = omega (arith, at.there, extras, ap length is.kinds);
  kind_is = at.kind ∙ ap (λ (ks : List Kind). get_or ks f Plain) (sym is.kinds);
  offset_is = at.offset ∙ ap (λ (ks : List Kind). 2 + (field_words (take f ks) + (f - length ks))) (sym is.kinds);
}

-- the answer that the table's answer leads to is the one of the definition
pub field_answered : (setup : Setup) (nodes : List Node) (n place f size ty extra : ℕ) (allowed : Kind → Bool) (found : Option (Kind × ℕ)) (answer : Result Field Refusal) → IsHead setup nodes n size ty
    → extra ≡ (node_at nodes n).object.extra → place_of nodes n ≡ place
    → MatchOption found (table.count_with (table.declared_kinds setup.types ty) extra ≤ f) (table.IsFieldAt (table.declared_kinds setup.types ty) extra f)
    → MatchOption found (answer ≡ Err R.Field) (λ t. MatchBool (allowed t.0) (answer ≡ Ok (record { holder = place; kind = t.0; word = t.1 })) (answer ≡ Err R.Kind)) → FindsField allowed nodes n f answer
field_answered setup nodes n place f size ty extra allowed None answer is extras at past told =
    let node : Node = node_at nodes n in
    subst (λ b. MatchBool b (MatchBool (allowed (kind_of_field node.object f)) (answer ≡ Ok (field_of nodes n f)) (answer ≡ Err R.Kind)) (answer ≡ Err R.Field))
    (sym (le-ltb f (field_count node) (omega (arith, past, extras, ap length is.kinds)))) told
field_answered setup nodes n place f size ty extra allowed (Some t) answer is extras at there told =
    let node : Node = node_at nodes n in
    let tells : IsFieldTold node f t.0 t.1 = field_told setup nodes n f size ty extra t is extras there in
    let build : ℕ → Kind → ℕ → Field = λ place kind word. record { holder = place; kind = kind; word = word } in
    let same : build place t.0 t.1 ≡ field_of nodes n f =
    ap (λ a. build a t.0 t.1) (sym at) ∙ ap (λ k. build (place_of nodes n) k t.1) tells.kind_is
    ∙ ap (build (place_of nodes n) (kind_of_field node.object f)) tells.offset_is in
    subst (λ b. MatchBool b (MatchBool (allowed (kind_of_field node.object f)) (answer ≡ Ok (field_of nodes n f)) (answer ≡ Err R.Kind)) (answer ≡ Err R.Field))
    (sym (lt-ltb f (field_count node) tells.there))
    (subst (λ k. MatchBool (allowed k) (answer ≡ Ok (field_of nodes n f)) (answer ≡ Err R.Kind)) tells.kind_is
    (subst (λ x. MatchBool (allowed t.0) (answer ≡ Ok x) (answer ≡ Err R.Kind)) same told))

-- ---- the word of a field

-- the field's first word is one of the values
pub word_low : (setup : Setup) (nodes : List Node) (n f : ℕ) (field : Field) → AreOfValid setup nodes → IsFieldOf nodes n f field
    → word_of_field (node_at nodes n).object f < length (node_at nodes n).object.values
word_low setup nodes n f field valid is =
    let o : Object = (node_at nodes n).object in
    omega (arith, first_word_below o.kinds o.extra f is.there, (live_typed setup nodes n valid is.live).count)

-- the holder has the field's word, and it is of the field's kind
pub holder_has_word : (setup : Setup) (nodes : List Node) (v : SeatView) (n f : ℕ) (field : Field) (is_so : Kind → Bool) → FieldsStandApart → AreOfValid setup nodes
    → v.bodies ≡ bodies_of nodes → v.types ≡ setup.types → IsFieldOf nodes n f field → is_so field.kind ≡ true → HasFieldWord is_so v field.holder field.word
holder_has_word setup nodes v n f field is_so law valid held known is so =
    let node : Node = node_at nodes n in
    let kinds : List Kind = table.declared_kinds setup.types node.object.ty in
    let word : ℕ = 2 + word_of_field node.object f in
    let typed : IsTyped setup (length nodes) node = live_typed setup nodes n valid is.live in
    let in_table : table.IsWordOfField kinds f word = subst (λ ks. table.IsWordOfField ks f word) typed.kinds_are (record {
      first = omega arith;
      last = omega (arith, some_words (kind_of_field node.object f));
    }) in
    let b : Body = body_of (place_of nodes) n node in
    let kind : kind_in v.types b (word - 2) ≡ kind_of_field node.object f =
    ap (λ types. kind_in types b (word - 2)) known ∙ law.kind kinds f word in_table ∙ ap (λ (ks : List Kind). get_or ks f Plain) (sym typed.kinds_are) in
    let at : HasFieldWord is_so v (place_of nodes n) word = record {
      body = b;
      there = node_body nodes v n held (live_is_there nodes n is.live);
      place = refl;
      first = omega arith;
      last = omega (arith, word_low setup nodes n f field valid is);
      kind = ap is_so (kind ∙ sym (ap (λ (x : Field). x.kind) is.is)) ∙ so;
    } in
    subst (λ (x : Field). HasFieldWord is_so v x.holder x.word) (sym is.is) at
