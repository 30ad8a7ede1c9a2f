-- What the action of a prefinalizer does to a node's field, and to its body's.
use Rattle.std.proofs.Common.{◌≡◌, ℕ, zero, suc, ◌+◌, ◌-◌, ◌%◌, ◌^◌, ◌<◌, Bool, true, false, cond, ltb, List, [], ◌∷◌, length, set, map, take, get_or, option_map, refl, sym, ap, ◌∙◌, subst, inl, inr, arith}
use Rattle.std.proofs.lemmas.Bool.{cases_Bool, cases_lt, ltb-true}
use Rattle.std.proofs.lemmas.List.{map-set, length-set, get_or_past}
use Rattle.gc_graph.specs.declared.kind.Kind.{Kind}
use Rattle.gc_graph.specs.declared.kind.Kind.TheVariants.{Strong, Weak, Pair, Plain}
use Rattle.gc_graph.specs.declared.kind.Value.{Value}
use Rattle.gc_graph.specs.declared.kind.Value.TheVariants.{Null, Ref, Word}
use Rattle.gc_graph.specs.State.{Setup, Node, size_of}
use Rattle.gc_graph.specs.Fields.{field_words, with_value, value_at}
use Rattle.gc_graph.specs.Valid.{IsReferenceBelow, IsPlainWord, IsTyped}
use Rattle.gc_graph.specs.Actions as graph
use Rattle.gc_graph.specs.Fields as fields
use Rattle.type_table.specs.Types.{declared_kinds}
use Rattle.marker_core.specs.declared.states.Body.{Body}
use Rattle.prefinalizer_effects.specs.Acting as bodies
use Rattle.nodes_in_words.specs.Nodes.{word_of, body_of}
use Rattle.nodes_in_words.specs.FieldKinds.{IsOfKind, value_of_kind, first_word_below}

-- ---- what one change leaves of a body

words_default : (place : ℕ → ℕ) (values : List Value) (i : ℕ) → get_or (map (word_of place) values) i 0 ≡ word_of place (get_or values i Null)
words_default place [] i = refl
words_default place (x ∷ values) zero = refl
words_default place (x ∷ values) (suc i) = words_default place values i

field_written : (place : ℕ → ℕ) (k i : ℕ) (x : Value) (node : Node) → bodies.with_field_word (body_of place k node) i (word_of place x) ≡ body_of place k (with_value node i x)
field_written place k i x node =
    let made : ℕ → List ℕ → Body = λ size fields. record { place = node.place; ty = node.object.ty; size = size; serial = k; fields = fields } in
    ap (made (size_of node)) (sym (map-set (word_of place) node.object.values i x))
    ∙ ap (λ n. made (2 + n) (map (word_of place) (set node.object.values i x))) (sym (length-set node.object.values i x))

cleared_kind : (place : ℕ → ℕ) (k i : ℕ) (kind : Kind) (node : Node) → bodies.body_cleared_field kind (body_of place k node) i ≡ body_of place k (graph.cleared_field kind node i)
cleared_kind place k i Strong node = field_written place k i Null node
cleared_kind place k i Weak node = field_written place k i Null node
cleared_kind place k i Pair node =
    ap (λ b. bodies.with_field_word b (i + 1) 0) (field_written place k i Null node) ∙ field_written place k (i + 1) Null (with_value node i Null)
cleared_kind place k i Plain node = refl

added_word : (place : ℕ → ℕ) (x : Value) (amount : ℕ) → IsPlainWord x → (word_of place x + amount) % 2 ^ 64 ≡ word_of place (graph.added x amount)
added_word place Null amount is = absurd is
added_word place (Ref n) amount is = absurd is
added_word place (Word w) amount is = refl

added_kind : (place : ℕ → ℕ) (k i amount : ℕ) (kind : Kind) (node : Node) → (kind ≡ Plain → IsPlainWord (value_at node i))
    → bodies.body_added_field kind (body_of place k node) i amount ≡ body_of place k (graph.added_field kind node i amount)
added_kind place k i amount Strong node is = refl
added_kind place k i amount Weak node is = refl
added_kind place k i amount Pair node is = refl
added_kind place k i amount Plain node is =
    ap (λ w. bodies.with_field_word (body_of place k node) i ((w + amount) % 2 ^ 64)) (words_default place node.object.values i)
    ∙ ap (bodies.with_field_word (body_of place k node) i) (added_word place (value_at node i) amount (is refl))
    ∙ field_written place k i (graph.added (value_at node i) amount) node

-- ---- the fields of a typed node

module _ (setup : Setup) (bound : ℕ) (place : ℕ → ℕ) (k : ℕ) (node : Node) (typed : IsTyped setup bound node) where
  abbrev pub own : Body
  own = body_of place k node

  count_same : (kinds : List Kind) → node.object.kinds ≡ kinds → length kinds + (size_of node - (2 + (field_words kinds + 0))) ≡ fields.field_count node
  count_same kinds is = omega (arith, typed.count, ap length is, ap field_words is)

  -- the body has as many fields
  pub counts_fields : bodies.body_field_count setup.types own ≡ fields.field_count node
  counts_fields = count_same (declared_kinds setup.types node.object.ty) typed.kinds_are

  kind_same : (f : ℕ) → bodies.body_field_kind setup.types own f ≡ fields.kind_of_field node.object f
  kind_same f = ap (λ (kinds : List Kind). get_or kinds f Plain) (sym typed.kinds_are)

  word_same : (f : ℕ) → bodies.body_field_word setup.types own f ≡ fields.word_of_field node.object f
  word_same f =
      ap (λ (kinds : List Kind). 2 + (field_words (take f kinds) + (f - length kinds)) - 2) (sym typed.kinds_are)
      ∙ (let same : 2 + fields.word_of_field node.object f - 2 ≡ fields.word_of_field node.object f = omega arith in same)

  pub cleared_body : (f : ℕ) → bodies.body_cleared_at setup.types f own ≡ body_of place k (graph.cleared_at node f)
  cleared_body f =
      ap (λ n. cond (ltb f n) (bodies.body_cleared_field (bodies.body_field_kind setup.types own f) own (bodies.body_field_word setup.types own f)) own) counts_fields
      ∙ ap (λ kind. cond (ltb f (fields.field_count node)) (bodies.body_cleared_field kind own (bodies.body_field_word setup.types own f)) own) (kind_same f)
      ∙ ap (λ i. cond (ltb f (fields.field_count node)) (bodies.body_cleared_field (fields.kind_of_field node.object f) own i) own) (word_same f)
      ∙ ap (λ b. cond (ltb f (fields.field_count node)) b own) (cleared_kind place k (fields.word_of_field node.object f) (fields.kind_of_field node.object f) node)
      ∙ sym (cond-body (ltb f (fields.field_count node)) (graph.cleared_field (fields.kind_of_field node.object f) node (fields.word_of_field node.object f))) where
        cond-body : (t : Bool) (y : Node) → body_of place k (cond t y node) ≡ cond t (body_of place k y) own
        cond-body true y = refl
        cond-body false y = refl

  -- what a field holds is of its kind, where it is there
  held_kind : (f : ℕ) → fields.word_of_field node.object f < length node.object.values
      → IsOfKind bound (fields.kind_of_field node.object f) (value_at node (fields.word_of_field node.object f))
  held_kind f low = value_of_kind bound node.object.kinds f node.object.values typed.values_are low

  plain_held : (f : ℕ) → f < fields.field_count node → fields.kind_of_field node.object f ≡ Plain → IsPlainWord (value_at node (fields.word_of_field node.object f))
  plain_held f there plain =
      subst (λ kind. IsOfKind bound kind (value_at node (fields.word_of_field node.object f))) plain
      (held_kind f (omega (arith, typed.count, first_word_below node.object.kinds node.object.extra f there)))

  pub added_body : (f amount : ℕ) → bodies.body_added_at setup.types f amount own ≡ body_of place k (graph.added_at node f amount)
  added_body f amount =
      ap (λ n. cond (ltb f n) (bodies.body_added_field (bodies.body_field_kind setup.types own f) own (bodies.body_field_word setup.types own f) amount) own) counts_fields
      ∙ ap (λ kind. cond (ltb f (fields.field_count node)) (bodies.body_added_field kind own (bodies.body_field_word setup.types own f) amount) own) (kind_same f)
      ∙ ap (λ i. cond (ltb f (fields.field_count node)) (bodies.body_added_field (fields.kind_of_field node.object f) own i amount) own) (word_same f)
      ∙ elim (cases_Bool (ltb f (fields.field_count node))) [
        | inl low ↦
            (let there : f < fields.field_count node = ltb-true f (fields.field_count node) low in
            ap (λ t. cond t (bodies.body_added_field (fields.kind_of_field node.object f) own (fields.word_of_field node.object f) amount) own) low
            ∙ added_kind place k (fields.word_of_field node.object f) amount (fields.kind_of_field node.object f) node (plain_held f there)
            ∙ ap (λ t. body_of place k (cond t (graph.added_field (fields.kind_of_field node.object f) node (fields.word_of_field node.object f) amount) node)) (sym low))
        | inr past ↦
            ap (λ t. cond t (bodies.body_added_field (fields.kind_of_field node.object f) own (fields.word_of_field node.object f) amount) own) past
            ∙ ap (λ t. body_of place k (cond t (graph.added_field (fields.kind_of_field node.object f) node (fields.word_of_field node.object f) amount) node)) (sym past)
      ]

  links_kind : (kind : Kind) (x : Value) → (kind ≡ Strong → IsReferenceBelow bound x) → bodies.place_linked_by kind (word_of place x) ≡ option_map place (graph.linked_by kind x)
  links_kind Strong Null is = refl
  links_kind Strong (Ref m) is = (let one : place m + 1 ≡ suc (place m) = omega arith in ap bodies.place_referred_to one)
  links_kind Strong (Word w) is = absurd (is refl)
  links_kind Weak x is = refl
  links_kind Pair x is = refl
  links_kind Plain x is = refl

  strong_held : (f : ℕ) → fields.kind_of_field node.object f ≡ Strong → IsReferenceBelow bound (value_at node (fields.word_of_field node.object f))
  strong_held f strong = elim (cases_lt (fields.word_of_field node.object f) (length node.object.values)) [
    | inl low ↦ subst (λ kind. IsOfKind bound kind (value_at node (fields.word_of_field node.object f))) strong (held_kind f low)
    | inr past ↦ subst (IsReferenceBelow bound) (sym (get_or_past node.object.values (fields.word_of_field node.object f) Null past)) tt
  ]

  -- the body's field names the place of what the node's names
  pub links_body : (link : ℕ) → bodies.linked_place setup.types own link ≡ option_map place (graph.linked node link)
  links_body link =
      ap (λ kind. bodies.place_linked_by kind (get_or own.fields (bodies.body_field_word setup.types own link) 0)) (kind_same link)
      ∙ ap (λ i. bodies.place_linked_by (fields.kind_of_field node.object link) (get_or own.fields i 0)) (word_same link)
      ∙ ap (bodies.place_linked_by (fields.kind_of_field node.object link)) (words_default place node.object.values (fields.word_of_field node.object link))
      ∙ links_kind (fields.kind_of_field node.object link) (value_at node (fields.word_of_field node.object link)) (strong_held link)
