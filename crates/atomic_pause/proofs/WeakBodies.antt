-- Weak clearing over the bodies of judged nodes leaves the bodies of the nodes with their weak fields and pairs cleared.
use Rattle.std.proofs.Common.{◌≡◌, ℕ, suc, ◌+◌, Bool, true, false, not, List, [], ◌∷◌, map, refl, sym, ap, ◌∙◌, inl, inr, arith, cond}
use Rattle.std.specs.List.{All}
use Rattle.std.proofs.lemmas.Bool.{cases_Bool}
use Rattle.std.proofs.lemmas.List.Elements.{All-head, All-tail}
use Rattle.gc_graph.specs.declared.kind.Kind.{Kind}
use Rattle.gc_graph.specs.declared.kind.Kind.TheVariants.{Strong, Weak, Pair, Plain}
use Rattle.gc_graph.specs.declared.kind.Value.{Value}
use Rattle.gc_graph.specs.declared.kind.Value.TheVariants.{Null, Ref, Word}
use Rattle.gc_graph.specs.State.{ObjectType, Node, is_live, is_there, IsLive, size_of}
use Rattle.gc_graph.specs.Valid.{HaveKinds, IsReferenceBelow, NamesLive}
use Rattle.gc_graph.specs.Pause.{names_dead, cleared_values, with_cleared, clear_node}
use Rattle.gc_graph.specs.Condemning.{length-cleared}
use Rattle.type_table.specs.Types.{declared_kinds}
use Rattle.type_table.specs.Layouts.{kinds_of_words}
use Rattle.marker_core.specs.declared.states.Body.{Body}
use Rattle.marker_core.specs.Bodies.{holds}
use Rattle.weak_clearing.specs.Clearing.{names_unmarked, clear_weak, clear_words, clear_body, clear_pair_words, clear_pairs_of}
use Rattle.prefinalizer_effects.specs.Nodes.{word_of, body_of, bodies_from}
use Rattle.prefinalizer_effects.specs.NodeBodies.{bodies-there, bodies-gone}
use Rattle.prefinalizer_effects.specs.WeakNodes.{life-clear}

-- ---- the values of a live node

-- the test tells which of the live nodes are not marked, where these are the places
abbrev pub TellsUnmarked : List Node → List ℕ → (ℕ → ℕ) → (ℕ → Bool) → Type 0
TellsUnmarked nodes marked f dead = (n : ℕ) → IsLive nodes n → dead n ≡ not (holds marked (f n))

-- one weak value
cleared_word : (nodes : List Node) (marked : List ℕ) (f : ℕ → ℕ) (dead : ℕ → Bool) (bound : ℕ) (v : Value) → TellsUnmarked nodes marked f dead
    → IsReferenceBelow bound v → NamesLive nodes v → clear_weak marked (word_of f v) ≡ word_of f (cond (names_dead dead v) Null v)
cleared_word nodes marked f dead bound Null tells is live = refl
cleared_word nodes marked f dead bound (Ref n) tells is live =
    let word : f n + 1 ≡ suc (f n) = omega arith in
    let flag : Bool = not (holds marked (f n)) in
    ap (clear_weak marked) word ∙ ap (λ w. cond flag 0 w) (sym word) ∙ by_cases flag (f n) n
    ∙ sym (ap (λ b. word_of f (cond b Null (Ref n))) (tells n live)) where
      by_cases : (b : Bool) (a m : ℕ) → cond b 0 (f m + 1) ≡ word_of f (cond b Null (Ref m))
      by_cases true a m = refl
      by_cases false a m = refl
cleared_word nodes marked f dead bound (Word w) tells is live = absurd is

-- whether a value names what is not marked
pub names_word : (nodes : List Node) (marked : List ℕ) (f : ℕ → ℕ) (dead : ℕ → Bool) (bound : ℕ) (v : Value) → TellsUnmarked nodes marked f dead
    → IsReferenceBelow bound v → NamesLive nodes v → names_unmarked marked (word_of f v) ≡ names_dead dead v
names_word nodes marked f dead bound Null tells is live = refl
names_word nodes marked f dead bound (Ref n) tells is live =
    ap (names_unmarked marked) (let word : f n + 1 ≡ suc (f n) = omega arith in word) ∙ sym (tells n live)
names_word nodes marked f dead bound (Word w) tells is live = absurd is

-- either word of a pair
pair_word : (f : ℕ → ℕ) (flag dead : Bool) (v : Value) → flag ≡ dead → cond flag 0 (word_of f v) ≡ word_of f (cond dead Null v)
pair_word f flag dead v same = ap (λ b. cond b 0 (word_of f v)) same ∙ by_cases dead where
  by_cases : (b : Bool) → cond b 0 (word_of f v) ≡ word_of f (cond b Null v)
  by_cases true = refl
  by_cases false = refl

-- the words of fields of these kinds after both clearings: of weak fields, and then of pairs
abbrev pub cleared_both : List ℕ → List Kind → List ℕ → List ℕ
cleared_both marked kinds words = clear_pair_words marked kinds (clear_words marked (kinds_of_words kinds) words)

-- of all values
pub cleared_words : (nodes : List Node) (marked : List ℕ) (f : ℕ → ℕ) (dead : ℕ → Bool) (bound : ℕ) (kinds : List Kind) (values : List Value)
    → TellsUnmarked nodes marked f dead → HaveKinds bound kinds values → All (NamesLive nodes) values
    → cleared_both marked kinds (map (word_of f) values) ≡ map (word_of f) (cleared_values dead kinds values)
cleared_words nodes marked f dead bound [] values tells have live = refl
cleared_words nodes marked f dead bound (Strong ∷ kinds) [] tells have live = absurd have
cleared_words nodes marked f dead bound (Weak ∷ kinds) [] tells have live = absurd have
cleared_words nodes marked f dead bound (Pair ∷ kinds) [] tells have live = absurd have
cleared_words nodes marked f dead bound (Plain ∷ kinds) [] tells have live = absurd have
cleared_words nodes marked f dead bound (Strong ∷ kinds) (v ∷ values) tells have live =
    ap (λ ws. word_of f v ∷ ws) (cleared_words nodes marked f dead bound kinds values tells have.1 (All-tail (NamesLive nodes) v values live))
cleared_words nodes marked f dead bound (Plain ∷ kinds) (v ∷ values) tells have live =
    ap (λ ws. word_of f v ∷ ws) (cleared_words nodes marked f dead bound kinds values tells have.1 (All-tail (NamesLive nodes) v values live))
cleared_words nodes marked f dead bound (Weak ∷ kinds) (v ∷ values) tells have live =
    ap (λ w. w ∷ cleared_both marked kinds (map (word_of f) values))
    (cleared_word nodes marked f dead bound v tells have.0 (All-head (NamesLive nodes) v values live))
    ∙ ap (λ ws. word_of f (cond (names_dead dead v) Null v) ∷ ws)
    (cleared_words nodes marked f dead bound kinds values tells have.1 (All-tail (NamesLive nodes) v values live))
cleared_words nodes marked f dead bound (Pair ∷ kinds) (key ∷ []) tells have live = absurd have
cleared_words nodes marked f dead bound (Pair ∷ kinds) (key ∷ v ∷ values) tells have live =
    let same : names_unmarked marked (word_of f key) ≡ names_dead dead key =
    names_word nodes marked f dead bound key tells have.0 (All-head (NamesLive nodes) key (v ∷ values) live) in
    ap (λ w. w ∷ cond (names_unmarked marked (word_of f key)) 0 (word_of f v) ∷ cleared_both marked kinds (map (word_of f) values))
    (pair_word f (names_unmarked marked (word_of f key)) (names_dead dead key) key same)
    ∙ ap (λ w. word_of f (cond (names_dead dead key) Null key) ∷ w ∷ cleared_both marked kinds (map (word_of f) values))
    (pair_word f (names_unmarked marked (word_of f key)) (names_dead dead key) v same)
    ∙ ap (λ ws. word_of f (cond (names_dead dead key) Null key) ∷ word_of f (cond (names_dead dead key) Null v) ∷ ws)
    (cleared_words nodes marked f dead bound kinds values tells have.3
    (All-tail (NamesLive nodes) v values (All-tail (NamesLive nodes) key (v ∷ values) live)))

-- ---- the bodies of nodes

-- a live node is marked, and its words are cleared as its values are; a dead one isn't marked
pub record Clears (types : List ObjectType) (marked : List ℕ) (f : ℕ → ℕ) (dead : ℕ → Bool) (x : Node) : Type 0 where
  pub kept : is_live x.life ≡ true → holds marked x.place ≡ true
  pub words :
      is_live x.life ≡ true
      → cleared_both marked (declared_kinds types x.object.ty) (map (word_of f) x.object.values)
      ≡ map (word_of f) (cleared_values dead x.object.kinds x.object.values)
  pub left : is_there x.life ≡ true → is_live x.life ≡ false → holds marked x.place ≡ false

-- a body after both clearings
abbrev pub clear_both : List ObjectType → List ℕ → Body → Body
clear_both types marked b = clear_pairs_of types marked (clear_body types marked b)

-- bodies after both clearings
abbrev pub clear_all : List ObjectType → List ℕ → List Body → List Body
clear_all types marked bodies = map (clear_pairs_of types marked) (map (clear_body types marked) bodies)

body_cleared : (types : List ObjectType) (marked : List ℕ) (f : ℕ → ℕ) (dead : ℕ → Bool) (k : ℕ) (x : Node) → is_there x.life ≡ true → Clears types marked f dead x
    → clear_both types marked (body_of f k x) ≡ body_of f k (clear_node dead x)
body_cleared types marked f dead k x there is =
    let old : Body = body_of f k x in
    let kinds : List Kind = declared_kinds types x.object.ty in
    let weak : List ℕ = clear_words marked (kinds_of_words kinds) (map (word_of f) x.object.values) in
    let both : List ℕ = cleared_both marked kinds (map (word_of f) x.object.values) in
    let old_both : List ℕ = clear_pair_words marked kinds (map (word_of f) x.object.values) in
    let build : ℕ → List ℕ → Body = λ size fields. record { place = x.place; ty = x.object.ty; size = size; serial = k; fields = fields } in
    elim (cases_Bool (is_live x.life)) [
      | inl live ↦ ap (λ b. clear_pairs_of types marked (cond b (build (size_of x) weak) old)) (is.kept live)
          ∙ ap (λ b. cond b (build (size_of x) both) (build (size_of x) weak)) (is.kept live) ∙ ap (build (size_of x)) (is.words live)
          ∙ ap (λ n. build (2 + n) (map (word_of f) (cleared_values dead x.object.kinds x.object.values))) (sym (length-cleared dead x.object.kinds x.object.values))
          ∙ sym (ap (λ b. body_of f k (cond b (with_cleared dead x) x)) live)
      | inr other ↦ ap (λ b. clear_pairs_of types marked (cond b (build (size_of x) weak) old)) (is.left there other)
          ∙ ap (λ b. cond b (build (size_of x) old_both) old) (is.left there other)
          ∙ sym (ap (λ b. body_of f k (cond b (with_cleared dead x) x)) other)
    ]

pub bodies_cleared : (types : List ObjectType) (marked : List ℕ) (f : ℕ → ℕ) (dead : ℕ → Bool) (k : ℕ) (nodes : List Node) → All (Clears types marked f dead) nodes
    → clear_all types marked (bodies_from f k nodes) ≡ bodies_from f k (map (clear_node dead) nodes)
bodies_cleared types marked f dead k [] each = refl
bodies_cleared types marked f dead k (x ∷ nodes) each =
    let y : Node = clear_node dead x in
    let rest : clear_all types marked (bodies_from f (suc k) nodes) ≡ bodies_from f (suc k) (map (clear_node dead) nodes) =
    bodies_cleared types marked f dead (suc k) nodes (All-tail (Clears types marked f dead) x nodes each) in
    let same : is_there y.life ≡ is_there x.life = ap is_there (life-clear dead x) in
    elim (cases_Bool (is_there x.life)) [
      | inl there ↦ ap (clear_all types marked) (bodies-there f k x nodes there)
          ∙ ap (λ b. b ∷ clear_all types marked (bodies_from f (suc k) nodes)) (body_cleared types marked f dead k x there (All-head (Clears types marked f dead) x nodes each))
          ∙ ap (λ bs. body_of f k y ∷ bs) rest ∙ sym (bodies-there f k y (map (clear_node dead) nodes) (same ∙ there))
      | inr gone ↦ ap (clear_all types marked) (bodies-gone f k x nodes gone) ∙ rest
          ∙ sym (bodies-gone f k y (map (clear_node dead) nodes) (same ∙ gone))
    ]
