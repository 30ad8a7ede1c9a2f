-- A node is written: the others stay, and places, sizes and lives are as before.
use Rattle.std.proofs.Common.{◌≡◌, ◌≢◌, ℕ, ◌+◌, ◌*◌, ◌<◌, ◌≤◌, true, List, length, set, All, refl, sym, ap, ◌∙◌, subst, inl, inr, arith}
use Rattle.std.proofs.lemmas.Bool.{cases_lt, cases_eq}
use Rattle.std.proofs.lemmas.List.{get_or-set_same, get_or-set_other, set_past, length-set}
use Rattle.std.proofs.lemmas.List.Elements.{All-set}
use Rattle.gc_graph.specs.declared.kind.Value.{Value}
use Rattle.gc_graph.specs.declared.kind.Value.TheVariants.{Null, Ref, Word}
use Rattle.gc_graph.specs.declared.phase.Phase.{Phase}
use Rattle.gc_graph.specs.declared.phase.Phase.TheVariants.{Idle, Marking, Sweeping}
use Rattle.gc_graph.specs.State.{Setup, Shape, State, Node, no_node, node_at, is_there, IsLive, size_of}
use Rattle.gc_graph.specs.State.Life.{Live}
use Rattle.gc_graph.specs.Placement.{bucket_of}
use Rattle.gc_graph.specs.Pages.{IsInPage, bucket_of_node, ArePure}
use Rattle.gc_graph.specs.Valid.{IsTyped, NamesLive, IsThere, AreApart, word_count, IsSettled}
use Rattle.gc_graph.proofs.Sound.{slot_weaker, word_weaker, region_weaker, IsRoot, IsHeap, MayFollows, IsSound}

-- the one node became the other, and its place and size are as before
pub record IsPlaced (x y : Node) : Type 0 where
  pub place : y.place ≡ x.place
  pub size : length y.object.values ≡ length x.object.values
  pub there : is_there y.life ≡ true → is_there x.life ≡ true

-- and its life too
pub record IsLikeNode (x y : Node) : Type 0 where
  pub place : y.place ≡ x.place
  pub size : length y.object.values ≡ length x.object.values
  pub life : y.life ≡ x.life
  pub ty : y.object.ty ≡ x.object.ty

pub like_same : (x : Node) → IsLikeNode x x
like_same x = record { place = refl; size = refl; life = refl; ty = refl }

pub like_more : (x y z : Node) → IsLikeNode x y → IsLikeNode y z → IsLikeNode x z
like_more x y z h k = record { place = k.place ∙ h.place; size = k.size ∙ h.size; life = k.life ∙ h.life; ty = k.ty ∙ h.ty }

pub placed_from : (x y : Node) → IsLikeNode x y → IsPlaced x y
placed_from x y h = record { place = h.place; size = h.size; there = λ e. ap is_there (sym h.life) ∙ e }

-- ---- where nodes lie

pub apart_placed : (x y x2 y2 : Node) → IsPlaced x x2 → IsPlaced y y2 → AreApart x y → AreApart x2 y2
apart_placed x y x2 y2 h k apart = elim apart [ inl before ↦ inl (omega arith) | inr after ↦ inr (omega arith) ]

module _ (setup : Setup) (nodes after : List Node) (placed : (m : ℕ) → IsPlaced (node_at nodes m) (node_at after m)) where
  pub apart_after : ((m n : ℕ) → m ≢ n → IsThere nodes m → IsThere nodes n → AreApart (node_at nodes m) (node_at nodes n))
      → (m n : ℕ) → m ≢ n → IsThere after m → IsThere after n → AreApart (node_at after m) (node_at after n)
  apart_after apart m n ne a b =
      apart_placed (node_at nodes m) (node_at nodes n) (node_at after m) (node_at after n) (placed m) (placed n)
      (apart m n ne ((placed m).there a) ((placed n).there b))

  pub within_after : ((n : ℕ) → IsThere nodes n → (node_at nodes n).place + size_of (node_at nodes n) ≤ word_count setup.shape)
      → (n : ℕ) → IsThere after n → (node_at after n).place + size_of (node_at after n) ≤ word_count setup.shape
  within_after within n a =
      let p = placed n in
      let place : (node_at after n).place ≡ (node_at nodes n).place = p.place in
      let size : length (node_at after n).object.values ≡ length (node_at nodes n).object.values = p.size in
      let old : (node_at nodes n).place + size_of (node_at nodes n) ≤ word_count setup.shape = within n (p.there a) in
      omega arith

  in_page_before : (page m : ℕ) → IsInPage setup.shape.page_words (node_at after m) page → IsInPage setup.shape.page_words (node_at nodes m) page
  in_page_before page m h =
      let p = placed m in
      let place : (node_at after m).place ≡ (node_at nodes m).place = p.place in
      let size : length (node_at after m).object.values ≡ length (node_at nodes m).object.values = p.size in
      let begins : (node_at after m).place ≤ h.word = h.has.0 in
      let ends : h.word < (node_at after m).place + size_of (node_at after m) = h.has.1 in
      record { there = p.there h.there; word = h.word; first = h.first; last = h.last; has = (omega arith, omega arith) }

  bucket_before : (m : ℕ)
      → bucket_of_node setup.shape.page_words (node_at after m) ≡ bucket_of_node setup.shape.page_words (node_at nodes m)
  bucket_before m = ap (λ n. bucket_of setup.shape.page_words (2 + n)) (placed m).size

  pub pure_after : ArePure setup.shape.page_words nodes → ArePure setup.shape.page_words after
  pure_after pure = record {
    one_bucket = λ page m n h k.
        bucket_before m ∙ pure.one_bucket page m n (in_page_before page m h) (in_page_before page n k) ∙ sym (bucket_before n);
    alone = λ page m n h k large. pure.alone page m n (in_page_before page m h) (in_page_before page n k) (sym (bucket_before m) ∙ large);
  }

-- ---- all nodes look the same

pub record LookSame (nodes after : List Node) : Type 0 where
  pub whole : length after ≡ length nodes
  pub like : (m : ℕ) → IsLikeNode (node_at nodes m) (node_at after m)

pub look_same : (nodes : List Node) → LookSame nodes nodes
look_same nodes = record { whole = refl; like = λ m. like_same (node_at nodes m) }

pub look_more : (xs ys zs : List Node) → LookSame xs ys → LookSame ys zs → LookSame xs zs
look_more xs ys zs h k = record { whole = k.whole ∙ h.whole; like = λ m. like_more (node_at xs m) (node_at ys m) (node_at zs m) (h.like m) (k.like m) }

pub live_after : (nodes after : List Node) → LookSame nodes after → (n : ℕ) → IsLive nodes n → IsLive after n
live_after nodes after h n live = (h.like n).life ∙ live

pub live_before : (nodes after : List Node) → LookSame nodes after → (n : ℕ) → IsLive after n → IsLive nodes n
live_before nodes after h n live = sym (h.like n).life ∙ live

pub names_after : (nodes after : List Node) → LookSame nodes after → (value : Value) → NamesLive nodes value → NamesLive after value
names_after nodes after h Null live = tt
names_after nodes after h (Ref n) live = live_after nodes after h n live
names_after nodes after h (Word w) live = tt

pub settled_after : (shape : Shape) (phase : Phase) (cursor : ℕ) (nodes after : List Node) → LookSame nodes after → IsSettled shape phase cursor nodes
    → IsSettled shape phase cursor after
settled_after shape Idle cursor nodes after h none = λ n dead. none n (sym (h.like n).life ∙ dead)
settled_after shape Marking cursor nodes after h none = λ n dead. none n (sym (h.like n).life ∙ dead)
settled_after shape Sweeping cursor nodes after h some = (
  some.0,
  λ n dead.
      let place : (node_at after n).place ≡ (node_at nodes n).place = (h.like n).place in
      let old : cursor * shape.page_words ≤ (node_at nodes n).place = some.1 n (sym (h.like n).life ∙ dead) in
      omega arith,
)

-- a sound state whose nodes look the same is sound, if the nodes are in order and the set follows them
pub nodes_sound : (setup : Setup) (s : State) (after : List Node) → IsSound setup s → IsHeap setup after → LookSame s.nodes after
    → MayFollows s.phase after s.may → IsSound setup (record s { nodes = after })
nodes_sound setup s after g heap look follows =
    let live : (n : ℕ) → IsLive s.nodes n → IsLive after n = live_after s.nodes after look in
    let root : (n : ℕ) → IsRoot s.nodes s.phase s.may n → IsRoot after s.phase s.may n = (λ n r. record { live = live n r.live; in_may = r.in_may }) in
    record {
      heap = heap;
      slots = λ k d l. slot_weaker (IsRoot s.nodes s.phase s.may) (IsRoot after s.phase s.may) root _ (g.slots k d l);
      weak = λ k d l. slot_weaker (IsLive s.nodes) (IsLive after) live _ (g.weak k d l);
      stack = λ k d l. word_weaker (IsRoot s.nodes s.phase s.may) (IsRoot after s.phase s.may) root _ (g.stack k d l);
      region = λ k d l.
          region_weaker (IsRoot s.nodes s.phase s.may) (IsLive s.nodes) (IsRoot after s.phase s.may) (IsLive after) root live _ (g.region k d l);
      registered = λ k d l. live _ (g.registered k d l);
      settled = settled_after setup.shape s.phase s.cursor s.nodes after look g.settled;
      may = follows;
    }

-- ---- one node is written

pub node_after : (P : Node → Type 0) (nodes : List Node) (n m : ℕ) (node : Node) → (m ≡ n → P node) → P (node_at nodes m) → P (node_at (set nodes n node) m)
node_after P nodes n m node here there =
    elim (cases_eq m n) [
      | inr other ↦ subst P (sym (get_or-set_other nodes n m node no_node other)) there
      | inl same ↦
          elim (cases_lt n (length nodes)) [
            | inl l ↦ subst (λ k. P (node_at (set nodes n node) k)) (sym same) (subst P (sym (get_or-set_same nodes n node no_node l)) (here same))
            | inr past ↦ subst (λ list. P (node_at list m)) (sym (set_past nodes n node past)) there
          ]
    ]

pub look_written : (nodes : List Node) (n : ℕ) (node : Node) → IsLikeNode (node_at nodes n) node → LookSame nodes (set nodes n node)
look_written nodes n node like = record {
  whole = length-set nodes n node;
  like = λ m.
      node_after (IsLikeNode (node_at nodes m)) nodes n m node
      (λ e. subst (λ k. IsLikeNode (node_at nodes k) node) (sym e) like) (like_same (node_at nodes m));
}

pub heap_written : (setup : Setup) (nodes : List Node) (n : ℕ) (node : Node) → IsHeap setup nodes → IsLikeNode (node_at nodes n) node
    → IsTyped setup (length nodes) node → (node.life ≡ Live → All (NamesLive nodes) node.object.values) → IsHeap setup (set nodes n node)
heap_written setup nodes n node heap like typed names =
    let after : List Node = set nodes n node in
    let look : LookSame nodes after = look_written nodes n node like in
    let placed : (m : ℕ) → IsPlaced (node_at nodes m) (node_at after m) = (λ m. placed_from (node_at nodes m) (node_at after m) (look.like m)) in
    record {
      typed = subst (λ bound. All (IsTyped setup bound) after) (sym look.whole) (All-set (IsTyped setup (length nodes)) nodes n node typed heap.typed);
      named = λ m.
          node_after (λ y. y.life ≡ Live → All (NamesLive after) y.object.values) nodes n m node
          (λ e live k d l. names_after nodes after look _ (names live k d l)) (λ live k d l. names_after nodes after look _ (heap.named m live k d l));
      apart = apart_after setup nodes after placed heap.apart;
      within = within_after setup nodes after placed heap.within;
      pure = pure_after setup nodes after placed heap.pure;
    }
