-- The bodies after a store into a field word.
use Rattle.std.proofs.Common.{◌≡◌, ℕ, zero, suc, ◌+◌, ◌-◌, ◌<◌, ◌≤◌, Bool, true, false, ◌&&◌, List, [], ◌∷◌, length, set, map, refl, sym, ap, ◌∙◌, inl, inr, arith, leb, ltb}
use mathlib.Core.Logic.{◌⊎◌}
use Rattle.std.proofs.lemmas.Bool.{true≢false, cases_Bool, and_from, le-leb, lt-ltb, lt-leb, le-ltb, cond-true, cond-false, cases_lt}
use Rattle.std.proofs.lemmas.List.{map-set}
use Rattle.gc_graph.specs.declared.kind.Value.{Value}
use Rattle.gc_graph.specs.State.{Node, node_at, is_there, size_of}
use Rattle.gc_graph.specs.Fields.{with_value}
use Rattle.marker_core.specs.Bodies.{end_of, with_word, has_field}
use Rattle.marker_core.specs.declared.states.Body.{Body}
use Rattle.page_words.specs.Seat.{SeatView, IsView}
use Rattle.atomic_pause.specs.Nodes.{place_of, word_of, body_of, bodies_from, bodies_of, IsThere}
use Rattle.atomic_pause.specs.NodeBodies.{bodies-there, bodies-gone}
use Rattle.atomic_pause.specs.NodePlaces.{node_body}
use Rattle.heap_objects.specs.FieldNodes.{with_field, size_field}

-- ---- the place stays

-- ---- one body alone changes

-- the node has no field word at the address
abbrev pub IsElsewhere : ℕ → Node → Type 0
IsElsewhere a node = (a < node.place + 2) ⊎ (node.place + size_of node ≤ a)

and_never : (b : Bool) → (b && false) ≡ false
and_never true = refl
and_never false = refl

word-elsewhere : (g : ℕ → ℕ) (k a w : ℕ) (node : Node) → IsElsewhere a node → with_word a w (body_of g k node) ≡ body_of g k node
word-elsewhere g k a w node off =
    let b : Body = body_of g k node in
    let none : has_field a b ≡ false =
    elim off [
      | inl below ↦ ap (λ t. t && ltb a (end_of b)) (lt-leb (b.place + 2) a below)
      | inr past ↦ ap (λ t. leb (b.place + 2) a && t) (le-ltb a (end_of b) past) ∙ and_never (leb (b.place + 2) a)
    ] in
    ap (λ fields. record b { fields = fields }) (cond-false (has_field a b) (set b.fields (a - (b.place + 2)) w) b.fields none)

word-field : (g : ℕ → ℕ) (k a f : ℕ) (x : Value) (node : Node) → a ≡ node.place + 2 + f → f < length node.object.values
    → with_word a (word_of g x) (body_of g k node) ≡ body_of g k (with_value node f x)
word-field g k a f x node at low =
    let b : Body = body_of g k node in
    let w : ℕ = word_of g x in
    let made : ℕ → List ℕ → Body = λ size fields. record { place = node.place; ty = node.object.ty; size = size; serial = k; fields = fields } in
    let above : node.place + 2 ≤ a = omega arith in
    let within : a < node.place + size_of node = omega arith in
    let offset : a - (node.place + 2) ≡ f = omega arith in
    let fields : set b.fields (a - (node.place + 2)) w ≡ map (word_of g) (set node.object.values f x) =
    ap (λ i. set b.fields i w) offset ∙ sym (map-set (word_of g) node.object.values f x) in
    ap (λ fields. record b { fields = fields }) (cond-true (has_field a b) (set b.fields (a - (b.place + 2)) w) b.fields
    (and_from (leb (b.place + 2) a) (ltb a (end_of b)) (le-leb (b.place + 2) a above) (lt-ltb a (end_of b) within)))
    ∙ ap (made (size_of node)) fields
    ∙ ap (λ size. made size (map (word_of g) (set node.object.values f x))) (sym (size_field node f x))

bodies-elsewhere : (g : ℕ → ℕ) (k a w : ℕ) (nodes : List Node) → ((m : ℕ) → IsThere nodes m → IsElsewhere a (node_at nodes m))
    → map (with_word a w) (bodies_from g k nodes) ≡ bodies_from g k nodes
bodies-elsewhere g k a w [] off = refl
bodies-elsewhere g k a w (y ∷ nodes) off =
    let rest : map (with_word a w) (bodies_from g (suc k) nodes) ≡ bodies_from g (suc k) nodes =
    bodies-elsewhere g (suc k) a w nodes (λ m there. off (suc m) there) in
    elim (cases_Bool (is_there y.life)) [
      | inl present ↦ ap (map (with_word a w)) (bodies-there g k y nodes present)
          ∙ ap (λ b. b ∷ map (with_word a w) (bodies_from g (suc k) nodes)) (word-elsewhere g k a w y (off 0 present))
          ∙ ap (λ bs. body_of g k y ∷ bs) rest ∙ sym (bodies-there g k y nodes present)
      | inr gone ↦ ap (map (with_word a w)) (bodies-gone g k y nodes gone) ∙ rest ∙ sym (bodies-gone g k y nodes gone)
    ]

pub bodies-field : (g : ℕ → ℕ) (k a n f : ℕ) (x : Value) (nodes : List Node) → IsThere nodes n → a ≡ (node_at nodes n).place + 2 + f
    → f < length (node_at nodes n).object.values → ((m : ℕ) → IsThere nodes m → (m ≡ n → ⊥) → IsElsewhere a (node_at nodes m))
    → map (with_word a (word_of g x)) (bodies_from g k nodes) ≡ bodies_from g k (with_field nodes n f x)
bodies-field g k a n f x [] there at low off = absurd (true≢false (sym there))
bodies-field g k a zero f x (y ∷ nodes) there at low off =
    let w : ℕ = word_of g x in
    let rest : map (with_word a w) (bodies_from g (suc k) nodes) ≡ bodies_from g (suc k) nodes =
    bodies-elsewhere g (suc k) a w nodes (λ m present. off (suc m) present (λ e. omega arith)) in
    ap (map (with_word a w)) (bodies-there g k y nodes there)
    ∙ ap (λ b. b ∷ map (with_word a w) (bodies_from g (suc k) nodes)) (word-field g k a f x y at low)
    ∙ ap (λ bs. body_of g k (with_value y f x) ∷ bs) rest ∙ sym (bodies-there g k (with_value y f x) nodes there)
bodies-field g k a (suc n) f x (y ∷ nodes) there at low off =
    let w : ℕ = word_of g x in
    let rest : map (with_word a w) (bodies_from g (suc k) nodes) ≡ bodies_from g (suc k) (with_field nodes n f x) =
    bodies-field g (suc k) a n f x nodes there at low (λ m present other. off (suc m) present (λ e. other (omega arith))) in
    elim (cases_Bool (is_there y.life)) [
      | inl present ↦ ap (map (with_word a w)) (bodies-there g k y nodes present)
          ∙ ap (λ b. b ∷ map (with_word a w) (bodies_from g (suc k) nodes)) (word-elsewhere g k a w y (off 0 present (λ e. omega arith)))
          ∙ ap (λ bs. body_of g k y ∷ bs) rest ∙ sym (bodies-there g k y (with_field nodes n f x) present)
      | inr gone ↦ ap (map (with_word a w)) (bodies-gone g k y nodes gone) ∙ rest ∙ sym (bodies-gone g k y (with_field nodes n f x) gone)
    ]

pub only_there : (nodes : List Node) (v : SeatView) (a n f m : ℕ) → IsView v → v.bodies ≡ bodies_of nodes → IsThere nodes n
    → a ≡ place_of nodes n + 2 + f → f < length (node_at nodes n).object.values → IsThere nodes m → (m ≡ n → ⊥) → IsElsewhere a (node_at nodes m)
only_there nodes v a n f m view held there at low present other =
    elim (cases_lt a (place_of nodes m + 2)) [
      | inl below ↦ inl below
      | inr above ↦ elim (cases_lt a (place_of nodes m + size_of (node_at nodes m))) [
        | inl within ↦ absurd (other (ap (λ (b : Body). b.serial)
            (view.apart (body_of (place_of nodes) m (node_at nodes m)) (body_of (place_of nodes) n (node_at nodes n)) a
            (node_body nodes v m held present) (node_body nodes v n held there) (omega arith) within (omega arith) (omega arith))))
        | inr past ↦ inr past
      ]
    ]

-- the bodies of the nodes once the field has the value, with the places as they were
pub bodies_stored : (nodes : List Node) (v : SeatView) (a n f : ℕ) (x : Value) → IsView v → v.bodies ≡ bodies_of nodes → IsThere nodes n
    → a ≡ place_of nodes n + 2 + f → f < length (node_at nodes n).object.values
    → map (with_word a (word_of (place_of nodes) x)) v.bodies ≡ bodies_from (place_of nodes) 0 (with_field nodes n f x)
bodies_stored nodes v a n f x view held there at low =
    ap (map (with_word a (word_of (place_of nodes) x))) held
    ∙ bodies-field (place_of nodes) 0 a n f x nodes there at low (λ m present other. only_there nodes v a n f m view held there at low present other)
