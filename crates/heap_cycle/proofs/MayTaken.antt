-- What may be kept while threads' entries are taken: it grows, and so does what a pause may keep.
use Rattle.std.proofs.Common.{◌≡◌, ℕ, ◌<◌, Bool, false, List, [], ◌∷◌, ◌++◌, Option, Some, None, length, refl, sym, subst, inl, inr, arith, eqb}
use Rattle.std.specs.Prelude.{Contains}
use Rattle.std.proofs.lemmas.Bool.{true≢false, or_cases, eqb-true}
use Rattle.std.proofs.lemmas.List.{length-map}
use Rattle.std.proofs.lemmas.List.Elements.{All-contains, All-cons, All-head, All-nil, All-tail}
use Rattle.gc_graph.specs.declared.phase.Phase.TheVariants.{Marking}
use Rattle.gc_graph.specs.declared.region.Entry.{Entry}
use Rattle.gc_graph.specs.declared.region.Op.{Op}
use Rattle.gc_graph.specs.declared.region.Op.TheVariants as O
use Rattle.gc_graph.specs.Graph.{Object, IsIn, IsWithin}
use Rattle.gc_graph.specs.History.{node_of, read_by, region_slot, weak_target}
use Rattle.gc_graph.specs.May.{members, may_with_read}
use Rattle.gc_graph.specs.NodeNumbers.{there_below}
use Rattle.gc_graph.specs.Outcomes.{may_with_entry, took, with_entry, AreOthers, IsThreadOp}
use Rattle.gc_graph.specs.Reach.{Reach, AreNodes, IsLeastClosed, RefersWithin, ReachIsLeast}
use Rattle.gc_graph.specs.State.{Setup, State, Node, RegionSlot, IsLive, graph_of, strong_region_targets}
use Rattle.gc_graph.specs.State.RegionSlot.{Vacant, StrongTo, WeakTo}
use Rattle.gc_graph.specs.Valid.{HasMay, IsMay, IsValid, region_targets}
use Rattle.gc_graph.specs.ValidLaw.{OrdersKeepValid}
use Rattle.cross_thread_region.specs.PlacedNodes.{named_is_target}
use Rattle.heap_roots.specs.AmongNodes.{IsAmong, among_cases, among_left, among_right}
use Rattle.heap_roots.specs.KeptNodes.{refers_within}
use Rattle.heap_roots.specs.MembersOf.{among_member, member_among}
use Rattle.heap_roots.specs.NodePlaces.{live_is_there}
use Rattle.heap_roots.specs.Pausing.{IsKeptBetween}
use Rattle.heap_cycle.proofs.PauseKeeps.{shared_may}

-- ---- an entry reads a node that a slot names

weak_named : (slot : RegionSlot) (n : ℕ) → weak_target slot ≡ Some n → node_of slot ≡ Some n
weak_named Vacant n is = cc
weak_named (StrongTo m) n is = cc
weak_named (WeakTo m) n is = is

read_named : (region : List RegionSlot) (op : Op) (n : ℕ) → read_by region op ≡ Some n → Contains (region_targets region) n
read_named region (O.Import x) n is = named_is_target region x n (weak_named (region_slot region x) n is)
read_named region (O.Upgrade x y) n is = named_is_target region x n (weak_named (region_slot region x) n is)
read_named region (O.Export x m) n is = absurd (cc)
read_named region O.Start n is = absurd (cc)
read_named region (O.Pause cleared) n is = absurd (cc)
read_named region (O.Copy x y) n is = absurd (cc)
read_named region (O.Clear x) n is = absurd (cc)
read_named region (O.Weaken x) n is = absurd (cc)

-- ---- what may be kept grows

live_low : (nodes : List Node) (n : ℕ) → IsLive nodes n → n < length (graph_of nodes)
live_low nodes n live =
    let count : length (graph_of nodes) ≡ length nodes = length-map nodes (λ (x : Node). x.object) in
    omega (arith, count, there_below nodes n (live_is_there nodes n live))

read_grows : (s : State) (n : ℕ) → ReachIsLeast → RefersWithin (graph_of s.nodes) → IsMay s → IsLive s.nodes n
    → IsWithin s.may (Reach (graph_of s.nodes) (members s.may ++ n ∷ []))
read_grows s n law refers may live k is =
    let nodes : AreNodes (graph_of s.nodes) (members s.may ++ n ∷ []) = λ m among. elim (among_cases (members s.may) (n ∷ []) m among) [
      | inl own ↦ live_low s.nodes m (may.live m (among_member s.may m own))
      | inr read ↦ elim (or_cases (eqb n m) false read) [
        | inl here ↦ live_low s.nodes m (subst (IsLive s.nodes) (eqb-true n m here) live)
        | inr none ↦ absurd (true≢false (sym none))
      ]
    ] in
    let least : IsLeastClosed (graph_of s.nodes) (members s.may ++ n ∷ []) (Reach (graph_of s.nodes) (members s.may ++ n ∷ [])) =
    law (graph_of s.nodes) (members s.may ++ n ∷ []) refers nodes in
    least.roots_in k (among_left (members s.may) (n ∷ []) k (member_among s.may k is))

entry_grows : (s : State) (read : Option ℕ) → s.phase ≡ Marking → ReachIsLeast → RefersWithin (graph_of s.nodes) → IsMay s
    → ((n : ℕ) → read ≡ Some n → IsLive s.nodes n) → IsWithin s.may (may_with_entry s read)
entry_grows s None marking law refers may live n is = is
entry_grows s (Some m) marking law refers may live n is =
    subst (λ ph. IsIn (may_with_read ph (graph_of s.nodes) s.may m) n) (sym marking) (read_grows s m law refers may (live m refl) n is)

pub may_in : (s : State) → s.phase ≡ Marking → HasMay s.phase s → IsMay s
may_in s marking may = subst (λ ph. HasMay ph s) marking may

-- while marking goes on entries of threads take nothing of what may be kept away
pub may_grows : (setup : Setup) (s : State) (es : List Entry) → ReachIsLeast → OrdersKeepValid → s.phase ≡ Marking → AreOthers s es → IsValid setup s
    → IsWithin s.may (took s es).may
may_grows setup s [] law keeps marking others valid n is = is
may_grows setup s (e ∷ es) law keeps marking others valid n is =
    let Is : Entry → Type 0 = λ (entry : Entry). Contains s.running entry.thread × IsThreadOp entry.op in
    let next : IsValid setup (with_entry s e) = keeps setup s (e ∷ []) (All-cons Is e [] (All-head Is e es others) (All-nil Is)) valid in
    may_grows setup (with_entry s e) es law keeps marking (All-tail Is e es others) next n
    (entry_grows s (read_by s.region e.op) marking law (refers_within setup s.nodes (s, valid, refl)) (may_in s marking valid.may_kept)
    (λ m read. All-contains (IsLive s.nodes) (region_targets s.region) m valid.region (read_named s.region e.op m read)) n is)

-- ---- so a pause may keep more

-- what was kept between bounds is so where more may be kept
pub kept_more : (s : State) (least fewer : List ℕ) (hits : List ℕ) (kept : List Bool) → ReachIsLeast → RefersWithin (graph_of s.nodes) → IsMay s
    → ((n : ℕ) → IsAmong hits n → n < length (graph_of s.nodes)) → ((n : ℕ) → IsAmong fewer n → IsIn s.may n)
    → IsKeptBetween s.nodes least (fewer ++ strong_region_targets s.region ++ hits) kept
    → IsKeptBetween s.nodes least (members s.may ++ strong_region_targets s.region ++ hits) kept
kept_more s least fewer hits kept law refers may low more between =
    let g : List Object = graph_of s.nodes in
    let own : List ℕ = members s.may in
    let shared : List ℕ = strong_region_targets s.region in
    let nodes : AreNodes g (own ++ shared ++ hits) = λ n is. elim (among_cases (own ++ shared) hits n is) [
      | inl left ↦ elim (among_cases own shared n left) [
        | inl member ↦ live_low s.nodes n (may.live n (among_member s.may n member))
        | inr root ↦ live_low s.nodes n (may.live n (shared_may s n may root))
      ]
      | inr hit ↦ low n hit
    ] in
    let within : (n : ℕ) → IsAmong (fewer ++ shared ++ hits) n → IsAmong (own ++ shared ++ hits) n = λ n is. elim (among_cases (fewer ++ shared) hits n is) [
      | inl left ↦ elim (among_cases fewer shared n left) [
        | inl member ↦ among_left (own ++ shared) hits n (among_left own shared n (member_among s.may n (more n member)))
        | inr root ↦ among_left (own ++ shared) hits n (among_right own shared n root)
      ]
      | inr hit ↦ among_right (own ++ shared) hits n hit
    ] in
    let most : IsLeastClosed g (own ++ shared ++ hits) (Reach g (own ++ shared ++ hits)) = law g (own ++ shared ++ hits) refers nodes in
    let few : IsLeastClosed g (fewer ++ shared ++ hits) (Reach g (fewer ++ shared ++ hits)) =
    law g (fewer ++ shared ++ hits) refers (λ n is. nodes n (within n is)) in
    record {
      closed = between.closed;
      reached = between.reached;
      bounded = λ n is. few.least (Reach g (own ++ shared ++ hits)) most.closed (λ m root. most.roots_in m (within m root)) n (between.bounded n is);
      low = between.low;
    }
