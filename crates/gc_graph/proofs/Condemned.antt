-- What a pause leaves of the nodes when it has condemned those that it doesn't keep, and cleared the weak fields.
use Rattle.std.proofs.Common.{◌≡◌, ℕ, zero, suc, Bool, true, false, true≢false, List, [], ◌∷◌, length, map, All, refl, sym, ap, ◌∙◌, subst, arith, if◌then◌else◌}
use Rattle.std.proofs.lemmas.Bool.{cond_both}
use Rattle.std.proofs.lemmas.List.{length-map}
use Rattle.std.proofs.lemmas.List.Elements.{All-cons, All-head, All-tail, All-from_get_or}
use Rattle.gc_graph.specs.declared.kind.Kind.{Kind}
use Rattle.gc_graph.specs.declared.kind.Kind.TheVariants.{Strong, Weak, Pair, Plain}
use Rattle.gc_graph.specs.declared.kind.Value.{Value}
use Rattle.gc_graph.specs.declared.kind.Value.TheVariants.{Null, Ref, Word}
use Rattle.gc_graph.specs.Graph.{has, IsIn}
use Rattle.gc_graph.specs.State.{Setup, Node, no_node, Life, node_at, is_live, is_dead, is_there, IsLive}
use Rattle.gc_graph.specs.State.Life.{Live, Dead, Gone}
use Rattle.gc_graph.specs.Pause.{judged, condemn, is_dead_at, names_dead, cleared_values, with_cleared, clear_node, clear_fields}
use Rattle.gc_graph.specs.Valid.{HaveKinds, IsTyped, NamesLive, IsPlainWord, ArePaired}
use Rattle.gc_graph.specs.Condemning.{judged_gone, length-condemn, length-cleared, clear_typed}
use Rattle.gc_graph.proofs.Follows.{Held, Carries, Follows, AllFollow}
use Rattle.gc_graph.proofs.Sound.{IsHeap, kinds_at}
use Rattle.gc_graph.proofs.NodeWrites.{IsPlaced, IsLikeNode, apart_after, within_after, pure_after, LookSame, names_after}

-- ---- lives

abbrev pub Judged : Bool → Node → Node
Judged flag node = record node { life = judged flag node.life }

pub condemned_at : (kept : List Bool) (nodes : List Node) (m : ℕ) → node_at (condemn kept nodes) m ≡ Judged (has kept m) (node_at nodes m)
condemned_at kept [] m = ap (λ life. record no_node { life = life }) (sym (judged_gone (has kept m)))
condemned_at [] (node ∷ nodes) zero = refl
condemned_at [] (node ∷ nodes) (suc m) = condemned_at [] nodes m
condemned_at (flag ∷ kept) (node ∷ nodes) zero = refl
condemned_at (flag ∷ kept) (node ∷ nodes) (suc m) = condemned_at kept nodes m

pub was_live : (flag : Bool) (life : Life) → judged flag life ≡ Live → life ≡ Live
was_live true x e = e
was_live false Live e = refl
was_live false Dead e = e
was_live false Gone e = e

pub was_kept : (flag : Bool) (life : Life) → judged flag life ≡ Live → flag ≡ true
was_kept true x e = refl
was_kept false Live e = cc
was_kept false Dead e = cc
was_kept false Gone e = cc

was_there : (flag : Bool) (life : Life) → is_there (judged flag life) ≡ true → is_there life ≡ true
was_there true x e = e
was_there false Live e = refl
was_there false Dead e = e
was_there false Gone e = e

kept_if_not_dead : (flag : Bool) (life : Life) → life ≡ Live → is_dead (judged flag life) ≡ false → flag ≡ true
kept_if_not_dead true x e h = refl
kept_if_not_dead false Live e h = sym h
kept_if_not_dead false Dead e h = sym h
kept_if_not_dead false Gone e h = cc

module _ (kept : List Bool) (nodes : List Node) where
  pub stays : (n : ℕ) → IsLive nodes n → IsIn kept n → IsLive (condemn kept nodes) n
  stays n live i = ap (λ (x : Node). x.life) (condemned_at kept nodes n) ∙ ap (λ flag. judged flag (node_at nodes n).life) i ∙ live

  pub alive : (n : ℕ) → IsLive nodes n → is_dead_at (condemn kept nodes) n ≡ false → IsIn kept n
  alive n live e =
      kept_if_not_dead (has kept n) (node_at nodes n).life live (ap (λ (x : Node). is_dead x.life) (sym (condemned_at kept nodes n)) ∙ e)

  pub lives_on : (n : ℕ) → IsLive nodes n → is_dead_at (condemn kept nodes) n ≡ false → IsLive (condemn kept nodes) n
  lives_on n live e = stays n live (alive n live e)

  pub lived : (n : ℕ) → IsLive (condemn kept nodes) n → IsLive nodes n
  lived n live = was_live (has kept n) (node_at nodes n).life (ap (λ (x : Node). x.life) (sym (condemned_at kept nodes n)) ∙ live)

  pub in_kept : (n : ℕ) → IsLive (condemn kept nodes) n → IsIn kept n
  in_kept n live = was_kept (has kept n) (node_at nodes n).life (ap (λ (x : Node). x.life) (sym (condemned_at kept nodes n)) ∙ live)

-- ---- the words of a live node

module _ (kept : List Bool) (nodes : List Node) where
  abbrev After : Value → Type 0
  After value = NamesLive (condemn kept nodes) value

  abbrev Dying : ℕ → Bool
  Dying n = is_dead_at (condemn kept nodes) n

  strong_after : (value : Value) → Held kept value → NamesLive nodes value → After value
  strong_after Null h live = tt
  strong_after (Ref n) h live = stays kept nodes n live h
  strong_after (Word w) h live = tt

  weak_after : (value : Value) → NamesLive nodes value → After (if names_dead Dying value then Null else value)
  weak_after Null live = tt
  weak_after (Ref n) live = cond_both (Dying n) Null (Ref n) After (λ e. tt) (λ e. lives_on kept nodes n live e)
  weak_after (Word w) live = tt

  value_after : (key value : Value) → ArePaired key value → Carries kept key value → NamesLive nodes key → NamesLive nodes value
      → After (if names_dead Dying key then Null else value)
  value_after Null value paired c k v = subst After (sym paired) tt
  value_after (Word w) value paired c k v = absurd paired
  value_after (Ref n) value paired c k v =
      cond_both (Dying n) Null value After (λ e. tt) (λ e. strong_after value (c (alive kept nodes n k e)) v)

  plain_after : (value : Value) → IsPlainWord value → After value
  plain_after Null h = absurd h
  plain_after (Ref n) h = absurd h
  plain_after (Word w) h = tt

  pub cleared_names : (bound : ℕ) (kinds : List Kind) (values : List Value) → HaveKinds bound kinds values → Follows kept kinds values
      → All (NamesLive nodes) values → All After (cleared_values Dying kinds values)
  cleared_names bound [] values h f live = λ k d l. plain_after _ (h k d l)
  cleared_names bound (Strong ∷ kinds) [] h f live = absurd h
  cleared_names bound (Weak ∷ kinds) [] h f live = absurd h
  cleared_names bound (Pair ∷ kinds) [] h f live = absurd h
  cleared_names bound (Plain ∷ kinds) [] h f live = absurd h
  cleared_names bound (Strong ∷ kinds) (x ∷ xs) h f live =
      All-cons After x _ (strong_after x f.0 (All-head (NamesLive nodes) x xs live)) (cleared_names bound kinds xs h.1 f.1 (All-tail (NamesLive nodes) x xs live))
  cleared_names bound (Weak ∷ kinds) (x ∷ xs) h f live =
      All-cons After (if names_dead Dying x then Null else x) (cleared_values Dying kinds xs) (weak_after x (All-head (NamesLive nodes) x xs live)) (cleared_names bound kinds xs h.1 f.1 (All-tail (NamesLive nodes) x xs live))
  cleared_names bound (Plain ∷ kinds) (x ∷ xs) h f live =
      All-cons After x _ (plain_after x h.0) (cleared_names bound kinds xs h.1 f.1 (All-tail (NamesLive nodes) x xs live))
  cleared_names bound (Pair ∷ kinds) (x ∷ []) h f live = absurd h
  cleared_names bound (Pair ∷ kinds) (x ∷ y ∷ xs) h f live =
      let rest : All (NamesLive nodes) (y ∷ xs) = All-tail (NamesLive nodes) x (y ∷ xs) live in
      let key : NamesLive nodes x = All-head (NamesLive nodes) x (y ∷ xs) live in
      let flag : Bool = names_dead Dying x in
      All-cons After (if flag then Null else x) ((if flag then Null else y) ∷ cleared_values Dying kinds xs) (weak_after x key)
      (All-cons After (if flag then Null else y) (cleared_values Dying kinds xs) (value_after x y h.2 f.0 key (All-head (NamesLive nodes) y xs rest))
      (cleared_names bound kinds xs h.3 f.1 (All-tail (NamesLive nodes) y xs rest)))

-- ---- all nodes

pub map_at : (f : Node → Node) (nodes : List Node) (m : ℕ) → f no_node ≡ no_node → node_at (map f nodes) m ≡ f (node_at nodes m)
map_at f [] m e = sym e
map_at f (node ∷ nodes) zero e = refl
map_at f (node ∷ nodes) (suc m) e = map_at f nodes m e

pub clear_like : (dead : ℕ → Bool) (node : Node) → IsLikeNode node (clear_node dead node)
clear_like dead node =
    cond_both (is_live node.life) (with_cleared dead node) node (IsLikeNode node)
    (λ e. record { place = refl; size = length-cleared dead node.object.kinds node.object.values; life = refl; ty = refl })
    (λ e. record { place = refl; size = refl; life = refl; ty = refl })

module _ (setup : Setup) (kept : List Bool) (nodes : List Node) (heap : IsHeap setup nodes) (follows : AllFollow nodes kept) where
  abbrev Cleared : List Node
  Cleared = clear_fields (condemn kept nodes)

  pub cleared_at_is : (m : ℕ) → node_at Cleared m ≡ clear_node (is_dead_at (condemn kept nodes)) (Judged (has kept m) (node_at nodes m))
  cleared_at_is m =
      map_at (clear_node (is_dead_at (condemn kept nodes))) (condemn kept nodes) m refl
      ∙ ap (clear_node (is_dead_at (condemn kept nodes))) (condemned_at kept nodes m)

  pub cleared_look : LookSame (condemn kept nodes) Cleared
  cleared_look = record {
    whole = length-map (condemn kept nodes) (clear_node (is_dead_at (condemn kept nodes)));
    like = λ m.
        subst (IsLikeNode (node_at (condemn kept nodes) m)) (sym (map_at (clear_node (is_dead_at (condemn kept nodes))) (condemn kept nodes) m refl))
        (clear_like (is_dead_at (condemn kept nodes)) (node_at (condemn kept nodes) m));
  }

  cleared_whole : length Cleared ≡ length nodes
  cleared_whole = cleared_look.whole ∙ length-condemn kept nodes

  cleared_placed : (m : ℕ) → IsPlaced (node_at nodes m) (node_at Cleared m)
  cleared_placed m =
      let like : IsLikeNode (Judged (has kept m) (node_at nodes m)) (node_at Cleared m) =
      subst (λ x. IsLikeNode x (node_at Cleared m)) (condemned_at kept nodes m) (cleared_look.like m) in
      record {
        place = like.place;
        size = like.size;
        there = λ e. was_there (has kept m) (node_at nodes m).life (ap is_there (sym like.life) ∙ e);
      }

  cleared_named : (m : ℕ) → IsLive Cleared m → All (NamesLive (condemn kept nodes)) (node_at Cleared m).object.values
  cleared_named m live =
      let dead : ℕ → Bool = is_dead_at (condemn kept nodes) in
      let old : Node = node_at nodes m in
      let live_mid : IsLive (condemn kept nodes) m = sym (cleared_look.like m).life ∙ live in
      let was : IsLive nodes m = lived kept nodes m live_mid in
      let flag : IsIn kept m = in_kept kept nodes m live_mid in
      let judged_live : judged (has kept m) old.life ≡ Live = ap (λ (x : Node). x.life) (sym (condemned_at kept nodes m)) ∙ live_mid in
      subst (λ x. All (NamesLive (condemn kept nodes)) x.object.values) (sym (cleared_at_is m))
      (cond_both (is_live (judged (has kept m) old.life)) (with_cleared dead (Judged (has kept m) old)) (Judged (has kept m) old)
      (λ x. All (NamesLive (condemn kept nodes)) x.object.values)
      (λ e. cleared_names kept nodes (length nodes) old.object.kinds old.object.values (kinds_at setup nodes heap.typed m) (follows m flag) (heap.named m was))
      (λ e. absurd (true≢false (sym (ap is_live judged_live) ∙ e))))

  cleared_typed : All (IsTyped setup (length Cleared)) Cleared
  cleared_typed =
      subst (λ bound. All (IsTyped setup bound) Cleared) (sym cleared_whole)
      (All-from_get_or (IsTyped setup (length nodes)) Cleared no_node
      (λ m l. subst (IsTyped setup (length nodes)) (sym (cleared_at_is m))
      (clear_typed setup (length nodes) (is_dead_at (condemn kept nodes)) (Judged (has kept m) (node_at nodes m))
      (let whole : length Cleared ≡ length nodes = cleared_whole in
      let t : IsTyped setup (length nodes) (node_at nodes m) = heap.typed m no_node (omega arith) in
      record { ty = t.ty; kinds_are = t.kinds_are; values_are = t.values_are; count = t.count }))))

  pub cleared_heap : IsHeap setup Cleared
  cleared_heap = record {
    typed = cleared_typed;
    named = λ m live k d l. names_after (condemn kept nodes) Cleared cleared_look _ (cleared_named m live k d l);
    apart = apart_after setup nodes Cleared cleared_placed heap.apart;
    within = within_after setup nodes Cleared cleared_placed heap.within;
    pure = pure_after setup nodes Cleared cleared_placed heap.pure;
  }
