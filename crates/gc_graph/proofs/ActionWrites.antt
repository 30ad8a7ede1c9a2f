-- Which words an action writes.
use Rattle.std.proofs.Common.{◌≡◌, ◌≢◌, ℕ, ◌+◌, ◌%◌, ◌^◌, ◌<◌, ◌≤◌, nat_lt, List, length, get_or, set, Some, None, refl, sym, ap, ◌∙◌, subst, inl, inr, arith}
use Rattle.std.proofs.lemmas.Bool.{cases_lt, cases_eq, cond-true, cond-false, lt-ltb, le-ltb}
use Rattle.std.proofs.lemmas.List.{get_or_past, get_or-set_same, get_or-set_other, set_past, set-get_or}
use Rattle.gc_graph.specs.declared.kind.Kind.{Kind}
use Rattle.gc_graph.specs.declared.kind.Kind.TheVariants.{Strong, Weak, Pair, Plain}
use Rattle.gc_graph.specs.declared.kind.Value.{Value}
use Rattle.gc_graph.specs.declared.kind.Value.TheVariants.{Null, Ref, Word}
use Rattle.gc_graph.specs.State.{Node, no_node, node_at}
use Rattle.gc_graph.specs.Fields.{words_of_kind, field_count, kind_of_field, word_of_field, value_at, target_of}
use Rattle.gc_graph.specs.Actions.{cleared_field, added, added_field, at_field, cleared_at, added_at, linked_by, linked, change_linked}
use Rattle.gc_graph.specs.Commands.{IsWordOf}
use Rattle.gc_graph.specs.ActionLaw.{Links, LeavesOthers, IsCleared, IsAdded, ActionsWriteOneField}

-- ---- words of a node

null_written : (values : List Value) (word : ℕ) → get_or (set values word Null) word Null ≡ Null
null_written values word = elim (cases_lt word (length values)) [
  | inl low ↦ get_or-set_same values word Null Null low
  | inr past ↦ ap (λ vs. get_or vs word Null) (set_past values word Null past) ∙ get_or_past values word Null past
]

cleared_null : (kind : Kind) (node : Node) (first word : ℕ) → kind ≢ Plain → first ≤ word → word < first + words_of_kind kind
    → value_at (cleared_field kind node first) word ≡ Null
cleared_null Strong node first word kind low high =
    (let is : word ≡ first = omega arith in ap (λ k. get_or (set node.object.values first Null) k Null) is ∙ null_written node.object.values first)
cleared_null Weak node first word kind low high =
    (let is : word ≡ first = omega arith in ap (λ k. get_or (set node.object.values first Null) k Null) is ∙ null_written node.object.values first)
cleared_null Pair node first word kind low high =
    let key : List Value = set node.object.values first Null in
    elim (cases_eq word (first + 1)) [
      | inl is ↦ ap (λ k. get_or (set key (first + 1) Null) k Null) is ∙ null_written key (first + 1)
      | inr other ↦
          (let is : word ≡ first = omega (arith, other) in
          get_or-set_other key (first + 1) word Null Null other ∙ ap (λ k. get_or key k Null) is ∙ null_written node.object.values first)
    ]
cleared_null Plain node first word kind low high = absurd (kind refl)

-- the word is none of the field's
abbrev IsOutside : Kind → ℕ → ℕ → Type 0
IsOutside kind first word = (first ≤ word) × (word < first + words_of_kind kind) → ⊥

cleared_other : (kind : Kind) (node : Node) (first word : ℕ) → IsOutside kind first word → value_at (cleared_field kind node first) word ≡ value_at node word
cleared_other Strong node first word out = get_or-set_other node.object.values first word Null Null (λ is. out (omega (arith, is), omega (arith, is)))
cleared_other Weak node first word out = get_or-set_other node.object.values first word Null Null (λ is. out (omega (arith, is), omega (arith, is)))
cleared_other Pair node first word out =
    get_or-set_other (set node.object.values first Null) (first + 1) word Null Null (λ is. out (omega (arith, is), omega (arith, is)))
    ∙ get_or-set_other node.object.values first word Null Null (λ is. out (omega (arith, is), omega (arith, is)))
cleared_other Plain node first word out = refl

added_other : (kind : Kind) (node : Node) (first amount word : ℕ) → IsOutside kind first word → value_at (added_field kind node first amount) word ≡ value_at node word
added_other Plain node first amount word out =
    get_or-set_other node.object.values first word (added (value_at node first) amount) Null (λ is. out (omega (arith, is), omega (arith, is)))
added_other kind node first amount word out = refl

added_sum : (kind : Kind) (node : Node) (first amount w : ℕ) → kind ≡ Plain → value_at node first ≡ Word w
    → value_at (added_field kind node first amount) first ≡ Word ((w + amount) % 2 ^ 64)
added_sum Plain node first amount w is holds =
    elim (cases_lt first (length node.object.values)) [
      | inl low ↦ get_or-set_same node.object.values first (added (value_at node first) amount) Null low ∙ ap (λ v. added v amount) holds
      | inr past ↦ (let none : Null ≡ Word w = sym (get_or_past node.object.values first Null past) ∙ holds in absurd cc)
    ]
added_sum kind node first amount w is holds = absurd cc

not_added : (kind : Kind) (node : Node) (first amount : ℕ) → kind ≢ Plain → added_field kind node first amount ≡ node
not_added Plain node first amount other = absurd (other refl)
not_added kind node first amount other = refl

plain_stays : (kind : Kind) (node : Node) (first : ℕ) → kind ≡ Plain → cleared_field kind node first ≡ node
plain_stays Plain node first is = refl
plain_stays kind node first is = absurd cc

-- ---- one node of many

module _ (node : Node) (field : ℕ) (changed : Node) where
  there : field < field_count node → at_field node field changed ≡ changed
  there low = cond-true (nat_lt field (field_count node)) changed node (lt-ltb field (field_count node) low)

  not_there : field_count node ≤ field → at_field node field changed ≡ node
  not_there high = cond-false (nat_lt field (field_count node)) changed node (le-ltb field (field_count node) high)

  -- either way the other words stay
  either : (word : ℕ) → value_at changed word ≡ value_at node word → value_at (at_field node field changed) word ≡ value_at node word
  either word same = elim (cases_lt field (field_count node)) [
    | inl low ↦ ap (λ (x : Node). value_at x word) (there low) ∙ same
    | inr high ↦ ap (λ (x : Node). value_at x word) (not_there high)
  ]

-- nothing was changed
same_either : (node : Node) (f : ℕ) → at_field node f node ≡ node
same_either node f = elim (cases_lt f (field_count node)) [ inl low ↦ there node f node low | inr high ↦ not_there node f node high ]

module _ (nodes : List Node) (n field : ℕ) (change : Node → Node) where
  -- a node that isn't there has no field to be changed
  node_changed : (field_count no_node ≤ field → change no_node ≡ no_node) → node_at (set nodes n (change (node_at nodes n))) n ≡ change (node_at nodes n)
  node_changed none = elim (cases_lt n (length nodes)) [
    | inl low ↦ get_or-set_same nodes n (change (node_at nodes n)) no_node low
    | inr past ↦
        (let out : node_at nodes n ≡ no_node = get_or_past nodes n no_node past in
        ap (λ ns. node_at ns n) (set_past nodes n (change (node_at nodes n)) past) ∙ out ∙ sym (ap change out ∙ none (omega arith)))
  ]

  stays : change (node_at nodes n) ≡ node_at nodes n → set nodes n (change (node_at nodes n)) ≡ nodes
  stays same = ap (set nodes n) same ∙ set-get_or nodes n no_node

  leaves : node_at (set nodes n (change (node_at nodes n))) n ≡ change (node_at nodes n)
      → ((word : ℕ) → (IsWordOf (node_at nodes n).object field word → ⊥) → value_at (change (node_at nodes n)) word ≡ value_at (node_at nodes n) word)
      → LeavesOthers nodes n field (set nodes n (change (node_at nodes n)))
  leaves is words = record {
    others = λ m other. get_or-set_other nodes n m (change (node_at nodes n)) no_node other;
    words = λ word out. ap (λ (x : Node). value_at x word) is ∙ words word out;
  }

module _ (nodes : List Node) (n field : ℕ) where
  abbrev Old : Node
  Old = node_at nodes n

  abbrev First : ℕ
  First = word_of_field (node_at nodes n).object field

  abbrev At : Kind
  At = kind_of_field (node_at nodes n).object field

  cleared_is : node_at (set nodes n (cleared_at Old field)) n ≡ cleared_at Old field
  cleared_is = node_changed nodes n field (λ node. cleared_at node field) (not_there no_node field _)

  pub clears : IsCleared nodes n field (set nodes n (cleared_at Old field))
  clears = record {
    null = λ word low kind at.
        ap (λ (x : Node). value_at x word) (cleared_is ∙ there Old field (cleared_field At Old First) low)
        ∙ cleared_null At Old First word kind at.0 at.1;
    plain = λ is.
        stays nodes n field (λ node. cleared_at node field)
        (ap (at_field Old field) (plain_stays At Old First is) ∙ same_either Old field);
    missing = λ high. stays nodes n field (λ node. cleared_at node field) (not_there Old field (cleared_field At Old First) high);
    rest = leaves nodes n field (λ node. cleared_at node field) cleared_is
        (λ word out. either Old field (cleared_field At Old First) word (cleared_other At Old First word out));
  }

  module _ (amount : ℕ) where
    added_is : node_at (set nodes n (added_at Old field amount)) n ≡ added_at Old field amount
    added_is = node_changed nodes n field (λ node. added_at node field amount) (not_there no_node field _)

    pub adds : IsAdded nodes n field amount (set nodes n (added_at Old field amount))
    adds = record {
      sum = λ w low kind holds.
          ap (λ (x : Node). value_at x First) (added_is ∙ there Old field (added_field At Old First amount) low)
          ∙ added_sum At Old First amount w kind holds;
      other = λ other.
          stays nodes n field (λ node. added_at node field amount)
          (ap (at_field Old field) (not_added At Old First amount other) ∙ same_either Old field);
      missing = λ high. stays nodes n field (λ node. added_at node field amount) (not_there Old field (added_field At Old First amount) high);
      rest = leaves nodes n field (λ node. added_at node field amount) added_is
          (λ word out. either Old field (added_field At Old First amount) word (added_other At Old First amount word out));
    }

-- ---- the node to which a link leads

link_leads : (nodes : List Node) (dying link n : ℕ) → Links nodes dying link n → linked (node_at nodes dying) link ≡ Some n
link_leads nodes dying link n h =
    ap (λ kind. linked_by kind (value_at (node_at nodes dying) (word_of_field (node_at nodes dying).object link))) h.0 ∙ ap target_of h.1

leads_nowhere : (kind : Kind) (value : Value) → ((n : ℕ) → (kind ≡ Strong) × (value ≡ Ref n) → ⊥) → linked_by kind value ≡ None
leads_nowhere Strong Null none = refl
leads_nowhere Strong (Ref n) none = absurd (none n (refl, refl))
leads_nowhere Strong (Word w) none = refl
leads_nowhere kind value none = refl

no_link : (nodes : List Node) (dying link : ℕ) (change : Node → Node) → ((n : ℕ) → Links nodes dying link n → ⊥)
    → change_linked nodes (linked (node_at nodes dying) link) change ≡ nodes
no_link nodes dying link change none =
    ap (λ target. change_linked nodes target change)
    (leads_nowhere (kind_of_field (node_at nodes dying).object link) (value_at (node_at nodes dying) (word_of_field (node_at nodes dying).object link)) none)

pub actions_write_one_field : ActionsWriteOneField
actions_write_one_field nodes dying link field = record {
  clear = λ n h.
      subst (IsCleared nodes n field)
      (sym (ap (λ target. change_linked nodes target (λ node. cleared_at node field)) (link_leads nodes dying link n h))) (clears nodes n field);
  add = λ n amount h.
      subst (IsAdded nodes n field amount)
      (sym (ap (λ target. change_linked nodes target (λ node. added_at node field amount)) (link_leads nodes dying link n h))) (adds nodes n field amount);
  clear_none = λ none. no_link nodes dying link (λ node. cleared_at node field) none;
  add_none = λ amount none. no_link nodes dying link (λ node. added_at node field amount) none;
  nothing = refl;
}
