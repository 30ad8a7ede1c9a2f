-- A new object keeps a state sound.
use Rattle.std.proofs.Common.{◌≡◌, ◌≢◌, ℕ, ◌+◌, ◌*◌, ◌<◌, ◌≤◌, Bool, true, false, true≢false, List, [], ◌∷◌, ◌++◌, length, get_or, All, Some, refl, sym, ap, ◌∙◌, subst, inl, inr, arith}
use Rattle.std.proofs.lemmas.Bool.{cases_order}
use Rattle.std.proofs.lemmas.List.{get_or_append_left, get_or_push, get_or_past, length_push}
use Rattle.std.proofs.lemmas.List.Elements.{All-push, All-append, All-map}
use Rattle.gc_graph.specs.declared.kind.Value.{Value}
use Rattle.gc_graph.specs.declared.kind.Value.TheVariants.{Null, Ref, Word}
use Rattle.gc_graph.specs.declared.line.Line.{Line}
use Rattle.gc_graph.specs.declared.phase.Phase.{Phase}
use Rattle.gc_graph.specs.declared.phase.Phase.TheVariants.{Idle, Marking, Sweeping}
use Rattle.gc_graph.specs.Graph.{IsIn}
use Rattle.gc_graph.specs.State.{Setup, State, Node, no_node, Registration, node_at, type_at, is_there, IsLive, size_of}
use Rattle.gc_graph.specs.State.Life.{Live, Dead}
use Rattle.gc_graph.specs.Fields.{new_node, size_of_type}
use Rattle.gc_graph.specs.May.{may_with_new}
use Rattle.gc_graph.specs.Placement.{extents_of, bucket_of, IsPlaceFor, IsPlacement}
use Rattle.gc_graph.specs.Pages.{IsInPage, bucket_of_node}
use Rattle.gc_graph.specs.Valid.{IsTyped, NamesLive, IsThere, AreApart, word_count, IsSettled}
use Rattle.gc_graph.specs.Outcomes.{answered}
use Rattle.gc_graph.specs.ObjectSteps.{registrations_for, with_new, IsAllocation, StepNew}
use Rattle.gc_graph.proofs.Follows.{Anything, Held, Carries, Follows}
use Rattle.gc_graph.proofs.Sound.{slot_weaker, word_weaker, region_weaker, MayHas, IsRoot, IsHeap, MayFollows, IsSound, kinds_at}
use Rattle.gc_graph.proofs.WeakReads.{in_below}
use Rattle.gc_graph.specs.NodeNumbers.{live_below}
use Rattle.gc_graph.proofs.FreePlaces.{IsFreeAt, place_free, free_apart}
use Rattle.gc_graph.proofs.PurePages.{SharesWell, place_shares}
use Rattle.gc_graph.proofs.NewObjects.{nulls_each, nulls_all, new_size, new_typed, typed_more, follows_more}
use Rattle.gc_graph.proofs.ValidCases.{option_is, landed}
use Rattle.gc_graph.proofs.ValidHandles.{Root, slot_sound}
use Rattle.gc_graph.proofs.ValidSweeps.{sweeps_sound}

-- what the set of those that may be kept has become
record IsNewSet (nodes : List Node) (n : ℕ) (phase : Phase) (may after : List Bool) : Type 0 where
  follows : MayFollows phase nodes after
  more : (k : ℕ) → MayHas phase may k → MayHas phase after k
  new : MayHas phase after n

module _ (setup : Setup) (s : State) (t extra place : ℕ) (g : IsSound setup s) (ty : t < length setup.types)
    (free : IsFreeAt setup.shape (extents_of s.nodes) (size_of_type setup t extra) place)
    (shares : SharesWell setup.shape.page_words s.nodes (size_of_type setup t extra) place) where
  abbrev New : Node
  New = new_node setup t extra place

  abbrev After : List Node
  After = s.nodes ++ New ∷ []

  abbrev Count : ℕ
  Count = length s.nodes

  whole : length After ≡ Count + 1
  whole = length_push s.nodes New

  at : (P : Node → Type 0) (m : ℕ) → (m < Count → P (node_at s.nodes m)) → (m ≡ Count → P New) → P no_node → P (node_at After m)
  at P m old new past =
      elim (cases_order m Count) [
        | inl same ↦ subst (λ k. P (node_at After k)) (sym same) (subst P (sym (get_or_push s.nodes New no_node Count refl)) (new same))
        | inr other ↦
            elim other [
              | inl under ↦ subst P (sym (get_or_append_left s.nodes (New ∷ []) no_node m under)) (old under)
              | inr over ↦ subst P (sym (get_or_past After m no_node (let long = whole in omega arith))) past
            ]
      ]

  live_old : (n : ℕ) → IsLive s.nodes n → IsLive After n
  live_old n live =
      ap (λ (x : Node). x.life) (get_or_append_left s.nodes (New ∷ []) no_node n (live_below s.nodes n live)) ∙ live

  live_new : IsLive After Count
  live_new = ap (λ (x : Node). x.life) (get_or_push s.nodes New no_node Count refl)

  names : (value : Value) → NamesLive s.nodes value → NamesLive After value
  names Null h = tt
  names (Ref n) h = live_old n h
  names (Word w) h = tt

  -- ---- the nodes

  gone_there : is_there no_node.life ≡ true → ⊥
  gone_there e = true≢false (sym e)

  size_new : size_of New ≡ size_of_type setup t extra
  size_new = new_size setup t extra place

  apart_new : (m : ℕ) → IsThere s.nodes m → AreApart New (node_at s.nodes m)
  apart_new m there =
      let size : size_of New ≡ size_of_type setup t extra = size_new in
      elim (free_apart setup.shape s.nodes (size_of_type setup t extra) place m free (omega arith) there)
      [ inl before ↦ inl (omega arith) | inr after ↦ inr (omega arith) ]

  apart_back : (m : ℕ) → IsThere s.nodes m → AreApart (node_at s.nodes m) New
  apart_back m there = elim (apart_new m there) [ inl before ↦ inr before | inr after ↦ inl after ]

  apart_all : (m n : ℕ) → m ≢ n → IsThere After m → IsThere After n → AreApart (node_at After m) (node_at After n)
  apart_all m n ne a b =
      at (λ x. is_there x.life ≡ true → AreApart x (node_at After n)) m
      (λ lm there. at (λ y. is_there y.life ≡ true → AreApart (node_at s.nodes m) y) n
      (λ ln other. g.heap.apart m n ne there other) (λ en other. apart_back m there) (λ other. absurd (gone_there other)) b)
      (λ em there. at (λ y. is_there y.life ≡ true → AreApart New y) n
      (λ ln other. apart_new n other) (λ en other. absurd (ne (em ∙ sym en))) (λ other. absurd (gone_there other)) b)
      (λ there. absurd (gone_there there)) a

  -- ---- the pages

  abbrev Words : ℕ
  Words = setup.shape.page_words

  bucket_new : bucket_of_node Words New ≡ bucket_of Words (size_of_type setup t extra)
  bucket_new = ap (bucket_of Words) size_new

  shared : (page m : ℕ) → IsInPage Words New page → IsInPage Words (node_at s.nodes m) page
      → (bucket_of_node Words (node_at s.nodes m) ≡ bucket_of_node Words New) × (bucket_of_node Words New ≡ 4 → ⊥)
  shared page m h k =
      let size : size_of New ≡ size_of_type setup t extra = size_new in
      let begins : place ≤ h.word = h.has.0 in
      let ends : h.word < place + size_of New = h.has.1 in
      let both = shares page h.word m h.first h.last begins (omega arith) k in
      (both.0 ∙ sym bucket_new, λ large. both.1 (sym bucket_new ∙ large))

  one_bucket : (page m n : ℕ) → IsInPage Words (node_at After m) page → IsInPage Words (node_at After n) page
      → bucket_of_node Words (node_at After m) ≡ bucket_of_node Words (node_at After n)
  one_bucket page m n a b =
      at (λ x. IsInPage Words x page → bucket_of_node Words x ≡ bucket_of_node Words (node_at After n)) m
      (λ lm h. at (λ y. IsInPage Words y page → bucket_of_node Words (node_at s.nodes m) ≡ bucket_of_node Words y) n
      (λ ln k. g.heap.pure.one_bucket page m n h k) (λ en k. (shared page m k h).0) (λ k. absurd (gone_there k.there)) b)
      (λ em h. at (λ y. IsInPage Words y page → bucket_of_node Words New ≡ bucket_of_node Words y) n
      (λ ln k. sym (shared page n h k).0) (λ en k. refl) (λ k. absurd (gone_there k.there)) b)
      (λ h. absurd (gone_there h.there)) a

  alone : (page m n : ℕ) → IsInPage Words (node_at After m) page → IsInPage Words (node_at After n) page
      → bucket_of_node Words (node_at After m) ≡ 4 → m ≡ n
  alone page m n a b =
      at (λ x. IsInPage Words x page → bucket_of_node Words x ≡ 4 → m ≡ n) m
      (λ lm h large. at (λ y. IsInPage Words y page → m ≡ n) n
      (λ ln k. g.heap.pure.alone page m n h k large)
      (λ en k. (let both = shared page m k h in absurd (both.1 (sym both.0 ∙ large))))
      (λ k. absurd (gone_there k.there)) b)
      (λ em h large. at (λ y. IsInPage Words y page → m ≡ n) n
      (λ ln k. absurd ((shared page n h k).1 large)) (λ en k. em ∙ sym en) (λ k. absurd (gone_there k.there)) b)
      (λ h. absurd (gone_there h.there)) a

  heap_new : IsHeap setup After
  heap_new = record {
    typed = subst (λ bound. All (IsTyped setup bound) After) (sym whole)
        (All-push (IsTyped setup (Count + 1)) s.nodes New
        (λ k d l. typed_more setup Count (Count + 1) (get_or s.nodes k d) (omega arith) (g.heap.typed k d l))
        (new_typed setup (Count + 1) t extra place ty));
    named = λ m.
        at (λ x. x.life ≡ Live → All (NamesLive After) x.object.values) m
        (λ l live k d i. names _ (g.heap.named m live k d i))
        (λ e live. nulls_all (NamesLive After) tt tt (type_at setup t).kinds extra)
        (λ live k d i. absurd (omega arith));
    apart = apart_all;
    within = λ m.
        at (λ x. is_there x.life ≡ true → x.place + size_of x ≤ word_count setup.shape) m
        (λ l there. g.heap.within m there)
        (λ e there. (let inside : place + size_of_type setup t extra ≤ word_count setup.shape = free.inside in let size = size_new in omega arith))
        (λ there. absurd (gone_there there));
    pure = record { one_bucket = one_bucket; alone = alone };
  }

  settled_new : (phase : Phase) → IsSettled setup.shape phase s.cursor s.nodes → IsSettled setup.shape phase s.cursor After
  settled_new Idle none = λ m. at (λ x. x.life ≡ Dead → ⊥) m (λ l d. none m d) (λ e d. cc) (λ d. cc)
  settled_new Marking none = λ m. at (λ x. x.life ≡ Dead → ⊥) m (λ l d. none m d) (λ e d. cc) (λ d. cc)
  settled_new Sweeping some =
      (some.0, λ m. at (λ x. x.life ≡ Dead → s.cursor * setup.shape.page_words ≤ x.place) m (λ l d. some.1 m d) (λ e d. absurd (cc)) (λ d. absurd (cc)))

  -- ---- the set

  new_set : (phase : Phase) → MayFollows phase s.nodes s.may → IsNewSet After Count phase s.may (may_with_new phase s.may)
  new_set Idle h = record { follows = tt; more = λ k i. tt; new = tt }
  new_set Sweeping h = record { follows = tt; more = λ k i. tt; new = tt }
  new_set Marking h =
      let may : List Bool = s.may ++ true ∷ [] in
      let same : length s.may ≡ Count = h.whole in
      let more : (k : ℕ) → IsIn s.may k → IsIn may k = (λ k i. get_or_append_left s.may (true ∷ []) false k (in_below s.may k i) ∙ i) in
      let less : (k : ℕ) → k < Count → IsIn may k → IsIn s.may k =
      (λ k l i. sym (get_or_append_left s.may (true ∷ []) false k (omega arith)) ∙ i) in
      record {
        follows = record {
          follows = λ m i.
              at (λ x. Follows may x.object.kinds x.object.values) m
              (λ l. follows_more s.may may Count more less (node_at s.nodes m).object.kinds (node_at s.nodes m).object.values
              (kinds_at setup s.nodes g.heap.typed m) (h.follows m (less m l i)))
              (λ e. nulls_each (Held may) Anything Anything (Carries may) tt tt tt tt (type_at setup t).kinds extra)
              (λ k d l. tt);
          live = λ m i. elim (cases_order m Count) [
            | inl same ↦ subst (IsLive After) (sym same) live_new
            | inr other ↦ elim other [
              | inl under ↦ live_old m (h.live m (less m under i))
              | inr over ↦ absurd (true≢false (sym i ∙ get_or_past may m false (omega (arith, length_push s.may true))))
            ]
          ];
          whole = length_push s.may true ∙ ap (λ n. n + 1) same ∙ sym whole;
        };
        more = more;
        new = get_or_push s.may true false Count same;
      }

  set_new : IsNewSet After Count s.phase s.may (may_with_new s.phase s.may)
  set_new = new_set s.phase g.may

  abbrev RootAfter : ℕ → Type 0
  RootAfter n = IsRoot After s.phase (may_with_new s.phase s.may) n

  root_old : (n : ℕ) → Root s n → RootAfter n
  root_old n r = record { live = live_old n r.live; in_may = set_new.more n r.in_may }

  pub root_new : RootAfter Count
  root_new = record { live = live_new; in_may = set_new.new }

  pub new_sound : IsSound setup (with_new setup s t extra place)
  new_sound = record {
    heap = heap_new;
    slots = λ k d l. slot_weaker (Root s) RootAfter root_old _ (g.slots k d l);
    weak = λ k d l. slot_weaker (IsLive s.nodes) (IsLive After) live_old _ (g.weak k d l);
    stack = λ k d l. word_weaker (Root s) RootAfter root_old _ (g.stack k d l);
    region = λ k d l. region_weaker (Root s) (IsLive s.nodes) RootAfter (IsLive After) root_old live_old _ (g.region k d l);
    registered =
        All-append (λ r. IsLive After r.node) s.registrations (registrations_for setup t Count) (λ k d l. live_old _ (g.registered k d l))
        (All-map (λ (r : Registration). IsLive After r.node) (λ c. record { node = Count; callback = c }) (type_at setup t).prefinalizers (λ k d l. live_new));
    settled = settled_new s.phase g.settled;
    may = set_new.follows;
  }

-- ---- the command

allocated_sound : (setup : Setup) (old new : State) (p t extra : ℕ) (lines : List Line) → t < length setup.types → IsSound setup old
    → IsAllocation setup old p t extra lines new → IsSound setup new
allocated_sound setup old new p t extra lines ty g h =
    let mid : State = h.mid in
    let place_is : IsPlacement setup.shape old (size_of_type setup t extra) h.numbers mid h.place = h.placed in
    let sound : IsSound setup mid = sweeps_sound setup old mid old.phase place_is.pages h.numbers g place_is.within place_is.swept in
    option_is h.place _ _ (IsSound setup new) (λ full. landed setup new (answered (record mid { full = mid.full + 1 })) full.after sound)
    (λ a is made.
    let free : IsFreeAt setup.shape (extents_of mid.nodes) (size_of_type setup t extra) a =
    place_free setup.shape place_is.pages (extents_of mid.nodes) (size_of_type setup t extra) a place_is.within
    (subst (IsPlaceFor setup.shape place_is.pages (extents_of mid.nodes) (size_of_type setup t extra)) is place_is.placed) in
    let shares : SharesWell setup.shape.page_words mid.nodes (size_of_type setup t extra) a =
    place_shares setup.shape place_is.pages mid.nodes (size_of_type setup t extra) a sound.heap.pure
    (subst (IsPlaceFor setup.shape place_is.pages (extents_of mid.nodes) (size_of_type setup t extra)) is place_is.placed) in
    landed setup new _ made.after
    (slot_sound setup (with_new setup mid t extra a) p (Some (length mid.nodes)) (new_sound setup mid t extra a sound ty free shares)
    (root_new setup mid t extra a sound ty free shares))) h.done

pub new_keeps : (setup : Setup) (old new : State) (p t extra : ℕ) (lines : List Line) → t < length setup.types → IsSound setup old
    → StepNew setup old p t extra lines new → IsSound setup new
new_keeps setup old new p t extra lines ty g h =
    elim h [ inl memory ↦ landed setup new (answered old) memory.1.1 g | inr made ↦ allocated_sound setup old new p t extra lines ty g made ]
