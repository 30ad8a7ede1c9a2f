-- What a pause keeps is lawful: all that the roots and the stack reach, and nothing but what may be kept.
use Rattle.std.proofs.Common.{◌≡◌, ℕ, ◌+◌, ◌<◌, ◌||◌, Bool, true, false, All, List, [], ◌∷◌, ◌++◌, length, map, reverse, refl, sym, ap, ◌∙◌, subst, inl, inr, arith, eqb, ltb}
use Rattle.std.specs.List.{list_any, range_with_len}
use Rattle.std.proofs.lemmas.Bool.{true≢false, or_cases, or_left, or_right, eqb-true, and_parts, and_from, le-leb, lt-ltb, ltb-false}
use Rattle.std.proofs.lemmas.List.{length-map, reverse-append}
use Rattle.std.proofs.lemmas.List.Elements.{All-head, All-tail, filter_agree}
use Rattle.std.proofs.lemmas.List.Folds.{list_any-append}
use Rattle.gc_graph.specs.declared.command.Want.{Want}
use Rattle.gc_graph.specs.declared.command.Want.TheVariants.{Precise, Conservative}
use Rattle.gc_graph.specs.Graph.{Object, IsIn, IsWithin}
use Rattle.gc_graph.specs.Reach.{Reach, AreNodes, IsLeastClosed, RefersWithin, ReachIsLeast}
use Rattle.gc_graph.specs.State.{State, Node, StackWord, node_at, size_of, is_there, IsLive, graph_of, roots_of, slot_targets, stack_targets, strong_region_targets}
use Rattle.gc_graph.specs.State.StackWord.{Pointer, Number}
use Rattle.gc_graph.specs.CycleSteps.{is_stack_refused}
use Rattle.gc_graph.specs.May.{members, address_of, has_word, is_hit, hits_of, hits_for}
use Rattle.gc_graph.specs.Pause.{IsKept}
use Rattle.gc_graph.specs.Valid.{AreLive, IsThere, IsMay}
use Rattle.heap_roots.specs.MembersOf.{member_among, among_member}
use Rattle.heap_roots.specs.Pausing.{IsKeptBetween, hits_at, hits_in}
use Rattle.heap_roots.specs.AmongNodes.{IsAmong, among_cases, among_left, among_right, filter_holds, filter_passes}
use Rattle.heap_roots.specs.NodePlaces.{live_is_there}
use Rattle.heap_roots.specs.Stack.{StackView, PointsInside, HoldsWords, is_precise}
use Rattle.gc_graph.specs.Members.{below_ranged, any_member}
use Rattle.gc_graph.specs.NodeNumbers.{there_below}

-- ---- the hits of the stack

-- a node that is there has each of its words
own_word : (nodes : List Node) (n offset : ℕ) → IsThere nodes n → offset < size_of (node_at nodes n) → has_word (node_at nodes n) ((node_at nodes n).place + offset) ≡ true
own_word nodes n offset there low =
    let x : Node = node_at nodes n in
    and_from _ _ there (and_from _ _ (le-leb x.place (x.place + offset) (omega arith)) (lt-ltb (x.place + offset) (x.place + size_of x) (omega (arith, low))))

-- what a pointer names is hit
pointers_hit : (nodes : List Node) (words : List StackWord) (n : ℕ) → AreLive nodes (stack_targets words) → All (PointsInside nodes) words → IsAmong (stack_targets words) n
    → is_hit nodes words n ≡ true
pointers_hit nodes [] n live inside is = absurd (true≢false (sym is))
pointers_hit nodes (Pointer m offset ∷ words) n live inside is =
    let there : IsThere nodes m = live_is_there nodes m (All-head (IsLive nodes) m (stack_targets words) live) in
    let low : offset < size_of (node_at nodes m) = All-head (PointsInside nodes) (Pointer m offset) words inside in
    elim (or_cases (eqb m n) (list_any (λ r. eqb r n) (stack_targets words)) is) [
      | inl here ↦ or_left _ _ (subst (λ k. has_word (node_at nodes k) ((node_at nodes m).place + offset) ≡ true) (eqb-true m n here) (own_word nodes m offset there low))
      | inr later ↦ or_right (has_word (node_at nodes n) ((node_at nodes m).place + offset)) _
          (pointers_hit nodes words n (All-tail (IsLive nodes) m (stack_targets words) live) (All-tail (PointsInside nodes) (Pointer m offset) words inside) later)
    ]
pointers_hit nodes (Number w ∷ words) n live inside is =
    or_right (has_word (node_at nodes n) w) _ (pointers_hit nodes words n live (All-tail (PointsInside nodes) (Number w) words inside) is)

last_first : (b c : Bool) → (c || (b || false)) ≡ (b || c)
last_first true true = refl
last_first true false = refl
last_first false true = refl
last_first false false = refl

-- a word of the stack hits a node where its address does
any_address : (nodes : List Node) (words : List StackWord) (x : Node)
    → list_any (λ a. has_word x a) (reverse (map (address_of nodes) words)) ≡ list_any (λ word. has_word x (address_of nodes word)) words
any_address nodes [] x = refl
any_address nodes (word ∷ words) x =
    let a : ℕ = address_of nodes word in
    let rest : List ℕ = map (address_of nodes) words in
    ap (list_any (λ b. has_word x b)) (reverse-append (a ∷ []) rest) ∙ list_any-append (λ b. has_word x b) (reverse rest) (a ∷ [])
    ∙ ap (λ b. b || (has_word x a || false)) (any_address nodes words x) ∙ last_first (has_word x a) (list_any (λ w. has_word x (address_of nodes w)) words)

same_hits : (nodes : List Node) (words : List StackWord) (addresses : List ℕ) → addresses ≡ reverse (map (address_of nodes) words) → hits_at nodes addresses ≡ hits_of nodes words
same_hits nodes words addresses is =
    ap (hits_at nodes) is
    ∙ filter_agree (λ n. list_any (λ a. has_word (node_at nodes n) a) (reverse (map (address_of nodes) words))) (is_hit nodes words)
    (λ n. any_address nodes words (node_at nodes n)) (range_with_len 0 (length nodes))

-- what is hit is there
hit_there : (nodes : List Node) (words : List StackWord) (n : ℕ) → IsAmong (hits_of nodes words) n → IsThere nodes n
hit_there nodes words n is =
    let word = any_member (λ w. has_word (node_at nodes n) (address_of nodes w)) words (filter_passes (is_hit nodes words) (range_with_len 0 (length nodes)) n is) in
    (and_parts (is_there (node_at nodes n).life) _ word.2).0

-- ---- the roots, and what may be kept

among_live : (nodes : List Node) (targets : List ℕ) (n : ℕ) → AreLive nodes targets → IsAmong targets n → IsLive nodes n
among_live nodes [] n live is = absurd (true≢false (sym is))
among_live nodes (m ∷ targets) n live is =
    elim (or_cases (eqb m n) (list_any (λ r. eqb r n) targets) is) [
      | inl here ↦ subst (IsLive nodes) (eqb-true m n here) (All-head (IsLive nodes) m targets live)
      | inr later ↦ among_live nodes targets n (All-tail (IsLive nodes) m targets live) later
    ]

-- beside what the strong slots name, these are the roots of a pause: what the stack hits, each pointer's node with it
pub record HasRoots (want : Want) (s : State) (hits : List ℕ) : Type 0 where
  pub same : hits ≡ hits_for want s
  pub covered : (n : ℕ) → IsAmong (stack_targets s.stack) n → IsAmong hits n
  pub there : (n : ℕ) → IsAmong hits n → IsThere s.nodes n

no_words : (words : List StackWord) → ltb 0 (length words) ≡ false → words ≡ []
no_words [] none = refl
no_words (word ∷ words) none = absurd (omega (arith, ltb-false 0 (length (word ∷ words)) none))

pub has_roots : (want : Want) (s : State) (stack : StackView) → s.stack ≡ stack.words → is_stack_refused want stack.words ≡ false → AreLive s.nodes (stack_targets s.stack)
    → HoldsWords s.nodes stack → HasRoots want s (hits_in (is_precise want) s.nodes stack.addresses)
has_roots Precise s stack words empty live held = record {
  same = refl;
  covered = λ n is. absurd (true≢false (sym is ∙ ap (λ ws. list_any (λ r. eqb r n) (stack_targets ws)) (words ∙ no_words stack.words empty)));
  there = λ n is. absurd (true≢false (sym is));
}
has_roots Conservative s stack words empty live held =
    let hits : hits_at s.nodes stack.addresses ≡ hits_of s.nodes s.stack =
    same_hits s.nodes stack.words stack.addresses held.addresses ∙ ap (hits_of s.nodes) (sym words) in
    record {
      same = hits;
      covered = λ n is.
          let low : n < length s.nodes = there_below s.nodes n (live_is_there s.nodes n (among_live s.nodes (stack_targets s.stack) n live is)) in
          subst (λ hs. IsAmong hs n) (sym hits)
          (filter_holds (is_hit s.nodes s.stack) (range_with_len 0 (length s.nodes)) n (below_ranged (length s.nodes) n low)
          (pointers_hit s.nodes s.stack n live (subst (All (PointsInside s.nodes)) (sym words) held.inside) is));
      there = λ n is. hit_there s.nodes s.stack n (subst (λ hs. IsAmong hs n) hits is);
    }

-- the state's roots are among those of the pause
roots_within : (want : Want) (s : State) (hits : List ℕ) (n : ℕ) → HasRoots want s hits → IsAmong (roots_of s) n
    → IsAmong (slot_targets s.slots ++ strong_region_targets s.region ++ hits) n
roots_within want s hits n has is =
    let slots : List ℕ = slot_targets s.slots in
    let shared : List ℕ = strong_region_targets s.region in
    elim (among_cases (slots ++ stack_targets s.stack) shared n is) [
      | inl owned ↦ elim (among_cases slots (stack_targets s.stack) n owned) [
        | inl slot ↦ among_left (slots ++ shared) hits n (among_left slots shared n slot)
        | inr word ↦ among_right (slots ++ shared) hits n (has.covered n word)
      ]
      | inr region ↦ among_left (slots ++ shared) hits n (among_right slots shared n region)
    ]

-- what the region's strong slots name may be kept
pub shared_may : (s : State) (n : ℕ) → IsMay s → IsAmong (strong_region_targets s.region) n → IsIn s.may n
shared_may s n may is = may.roots n (among_right (slot_targets s.slots ++ stack_targets s.stack) (strong_region_targets s.region) n is)

-- what may be kept, with what the region's strong slots name, reaches no more than it does alone
bounded_most : (s : State) (hits : List ℕ) → ReachIsLeast → RefersWithin (graph_of s.nodes) → IsMay s → ((n : ℕ) → IsAmong hits n → n < length (graph_of s.nodes))
    → IsWithin (Reach (graph_of s.nodes) (members s.may ++ strong_region_targets s.region ++ hits)) (Reach (graph_of s.nodes) (members s.may ++ hits))
bounded_most s hits law refers may low =
    let g : List Object = graph_of s.nodes in
    let own : List ℕ = members s.may in
    let shared : List ℕ = strong_region_targets s.region in
    let count : length g ≡ length s.nodes = length-map s.nodes (λ (x : Node). x.object) in
    let below : (n : ℕ) → IsIn s.may n → n < length g = λ n is. omega (arith, count, there_below s.nodes n (live_is_there s.nodes n (may.live n is))) in
    let nodes : AreNodes g (own ++ hits) = λ n is. elim (among_cases own hits n is) [
      | inl member ↦ below n (among_member s.may n member)
      | inr hit ↦ low n hit
    ] in
    let within : (n : ℕ) → IsAmong (own ++ shared ++ hits) n → IsAmong (own ++ hits) n = λ n is. elim (among_cases (own ++ shared) hits n is) [
      | inl left ↦ elim (among_cases own shared n left) [
        | inl member ↦ among_left own hits n member
        | inr root ↦ among_left own hits n (member_among s.may n (shared_may s n may root))
      ]
      | inr hit ↦ among_right own hits n hit
    ] in
    let most : IsLeastClosed g (own ++ hits) (Reach g (own ++ hits)) = law g (own ++ hits) refers nodes in
    let more : IsLeastClosed g (own ++ shared ++ hits) (Reach g (own ++ shared ++ hits)) =
    law g (own ++ shared ++ hits) refers (λ n is. nodes n (within n is)) in
    λ n is. more.least (Reach g (own ++ hits)) most.closed (λ m root. most.roots_in m (within m root)) n is

pub pause_keeps : (want : Want) (s : State) (hits : List ℕ) (kept : List Bool) → ReachIsLeast → RefersWithin (graph_of s.nodes) → IsMay s
    → AreLive s.nodes (slot_targets s.slots) → HasRoots want s hits
    → IsKeptBetween s.nodes (slot_targets s.slots ++ strong_region_targets s.region ++ hits) (members s.may ++ strong_region_targets s.region ++ hits) kept
    → IsKept s (hits_for want s) kept
pause_keeps want s hits kept law refers may live has keeps =
    let g : List Object = graph_of s.nodes in
    let slots : List ℕ = slot_targets s.slots in
    let shared : List ℕ = strong_region_targets s.region in
    let count : length g ≡ length s.nodes = length-map s.nodes (λ (x : Node). x.object) in
    let low : (n : ℕ) → IsLive s.nodes n → n < length g = λ n lives. omega (arith, count, there_below s.nodes n (live_is_there s.nodes n lives)) in
    let hit_low : (n : ℕ) → IsAmong hits n → n < length g = λ n hit. omega (arith, count, there_below s.nodes n (has.there n hit)) in
    let nodes : AreNodes g (slots ++ shared ++ hits) = λ n is. elim (among_cases (slots ++ shared) hits n is) [
      | inl left ↦ elim (among_cases slots shared n left) [
        | inl slot ↦ low n (among_live s.nodes slots n live slot)
        | inr root ↦ low n (may.live n (shared_may s n may root))
      ]
      | inr hit ↦ hit_low n hit
    ] in
    let within : (n : ℕ) → IsAmong (roots_of s ++ hits) n → IsAmong (slots ++ shared ++ hits) n = λ n is. elim (among_cases (roots_of s) hits n is) [
      | inl root ↦ roots_within want s hits n has root
      | inr hit ↦ among_right (slots ++ shared) hits n hit
    ] in
    let whole : IsLeastClosed g (slots ++ shared ++ hits) (Reach g (slots ++ shared ++ hits)) = law g (slots ++ shared ++ hits) refers nodes in
    let lower : IsLeastClosed g (roots_of s ++ hits) (Reach g (roots_of s ++ hits)) = law g (roots_of s ++ hits) refers (λ n is. nodes n (within n is)) in
    let done : IsKept s hits kept = record {
      closed = keeps.closed;
      reached = λ n is. keeps.reached n (lower.least (Reach g (slots ++ shared ++ hits)) whole.closed (λ m root. whole.roots_in m (within m root)) n is);
      bounded = λ n is. bounded_most s hits law refers may hit_low n (keeps.bounded n is);
    } in
    subst (λ hs. IsKept s hs kept) has.same done
