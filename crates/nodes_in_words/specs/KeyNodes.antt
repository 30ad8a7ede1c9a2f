-- The key of a pair in a body is the place of the key of a pair of the body's node. A lemma that the crates above cite too, since a
-- crate's proofs/ can't be cited from another.
use Rattle.std.proofs.Common.{◌≡◌, ℕ, ◌+◌, ◌-◌, ◌<◌, List, get_or, map, refl, sym, ap, ◌∙◌, subst, inl, inr, arith}
use Rattle.std.specs.List.{Contains}
use Rattle.std.proofs.lemmas.Bool.{cases_lt}
use Rattle.gc_graph.specs.declared.kind.Kind.{Kind}
use Rattle.gc_graph.specs.declared.kind.Kind.TheVariants.{Pair}
use Rattle.gc_graph.specs.Graph.{pair_targets}
use Rattle.gc_graph.specs.Members.{Contains-map_some}
use Rattle.gc_graph.specs.State.{Setup, ObjectType, Node, node_at, IsLive}
use Rattle.gc_graph.specs.Valid.{IsTyped}
use Rattle.object_headers.specs.Offsets.{reference_to}
use Rattle.type_table.specs.Types.{declared_kinds}
use Rattle.marker_core.specs.declared.states.Body.{Body}
use Rattle.page_words.specs.Seat.{SeatView}
use Rattle.pair_notes.specs.BodyGraph.{pair_offsets, values_in, word_at}
use Rattle.pair_notes.specs.BodyLeads.{role_of_offset}
use Rattle.pair_notes.specs.Fields.{field_at_offset, first_of}
use Rattle.pair_notes.specs.PairFields.{pair_of_field}
use Rattle.nodes_in_words.specs.Nodes.{place_of, word_of, body_of, IsHeld, AreOfValid}
use Rattle.nodes_in_words.specs.NodePlaces.{live_is_there, node_body}
use Rattle.nodes_in_words.specs.BodyGraph.{both, renamed, pairs_renamed}
use Rattle.nodes_in_words.specs.NodeGraph.{values_told}
use Rattle.nodes_in_words.specs.KeptNodes.{live_typed}
use Rattle.nodes_in_words.specs.WholePairs.{pairs_whole}

-- the node is the key of one of the pairs of the other
abbrev pub IsKeyIn : Node → ℕ → Type 0
IsKeyIn node m = (x : ℕ) × Contains (pair_targets node.object.kinds node.object.values) (m, x)

module _ (setup : Setup) (nodes : List Node) (v : SeatView) (n p offset : ℕ) (valid : AreOfValid setup nodes) (held : IsHeld nodes v) (known : v.types ≡ setup.types) (live : IsLive nodes n)
    (pair : Contains (pair_offsets setup.types (body_of (place_of nodes) n (node_at nodes n))) offset)
    (key : word_at (body_of (place_of nodes) n (node_at nodes n)) offset ≡ reference_to p) where
  abbrev node : Node
  node = node_at nodes n

  abbrev b : Body
  b = body_of (place_of nodes) n node

  abbrev kinds : List Kind
  kinds = declared_kinds setup.types b.ty

  -- the pair has a value, since it has a key
  value_some : 0 < get_or b.fields (offset - 2 + 1) 0
  value_some = elim (cases_lt 0 (get_or b.fields (offset - 2 + 1) 0)) [
    | inl some ↦ some
    | inr none ↦
        (let known_pair : Contains (pair_offsets v.types b) offset = subst (λ (ts : List ObjectType). Contains (pair_offsets ts b) offset) (sym known) pair in
        let whole = pairs_whole setup nodes v valid held known b (offset - 2) (node_body nodes v n held.bodies (live_is_there nodes n live)) (role_of_offset v.types b Pair offset known_pair) in
        let null : get_or b.fields (offset - 2 + 1) 0 ≡ 0 = omega (arith, none) in
        let never : get_or b.fields (offset - 2) 0 ≡ 0 = whole.1 null in
        absurd (omega (arith, never, key)))
  ]

  -- so the object of the body has the pair
  in_body : Contains (pair_targets kinds (values_in kinds b.fields)) (p, get_or b.fields (offset - 2 + 1) 0 - 1)
  in_body =
      let field = field_at_offset Pair kinds offset pair in
      let at : offset - 2 ≡ first_of kinds field.0 + 0 = omega (arith, field.2) in
      let after : offset - 2 + 1 ≡ first_of kinds field.0 + 1 = omega (arith, field.2) in
      let value : get_or b.fields (offset - 2 + 1) 0 ≡ get_or b.fields (offset - 2 + 1) 0 - 1 + 1 = omega (arith, value_some) in
      pair_of_field kinds p (get_or b.fields (offset - 2 + 1) 0 - 1) field.0 b.fields field.1 (ap (λ i. get_or b.fields i 0) (sym at) ∙ key)
      (ap (λ i. get_or b.fields i 0) (sym after) ∙ value)

  -- with the kinds and the values of the node
  renamed_pair : Contains (map (both (place_of nodes)) (pair_targets node.object.kinds node.object.values)) (p, get_or b.fields (offset - 2 + 1) 0 - 1)
  renamed_pair =
      let typed : IsTyped setup _ node = live_typed setup nodes n valid live in
      let target : ℕ × ℕ = (p, get_or b.fields (offset - 2 + 1) 0 - 1) in
      subst (λ ps. Contains ps target) (pairs_renamed (place_of nodes) node.object.kinds node.object.values)
      (subst (λ vs. Contains (pair_targets node.object.kinds vs) target) (values_told (place_of nodes) _ node.object.kinds node.object.values typed.values_are)
      (subst (λ ks. Contains (pair_targets ks (values_in ks (map (word_of (place_of nodes)) node.object.values))) target) (sym typed.kinds_are) in_body))

  pub key_of_node : (m : ℕ) × (place_of nodes m ≡ p) × IsKeyIn node m
  key_of_node =
      let w = Contains-map_some (both (place_of nodes)) (pair_targets node.object.kinds node.object.values) (p, get_or b.fields (offset - 2 + 1) 0 - 1) renamed_pair in
      (w.0.0, ap (λ (r : ℕ × ℕ). r.0) w.2, (w.0.1, w.1))
