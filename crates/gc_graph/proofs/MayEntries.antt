-- What may be kept stays within its bound over entries of the region's history, writes and new nodes.
use Rattle.std.proofs.Common.{◌≡◌, ℕ, ◌≤◌, ◌==◌, Bool, true, false, true≢false, List, [], ◌∷◌, ◌++◌, length, get_or, set, replicate, All, Option, Some, None, refl, sym, ap, ◌∙◌, subst, inl, inr, arith, eq-eqb}
use mathlib.Core.Logic.{◌⊎◌}
use Rattle.std.specs.Prelude.{⊤}
use Rattle.std.specs.List.{list_any}
use Rattle.std.specs.Option.{option_to_list}
use Rattle.std.proofs.lemmas.Bool.{or_left, cases_lt, cases_eq}
use Rattle.std.proofs.lemmas.List.{length-set, length_push, get_or_push, get_or_append_left, get_or_past, append_assoc}
use Rattle.std.proofs.lemmas.List.Elements.{All-head, All-tail}
use Rattle.gc_graph.specs.declared.kind.Value.TheVariants.{Word}
use Rattle.gc_graph.specs.declared.phase.Phase.{Phase}
use Rattle.gc_graph.specs.declared.phase.Phase.TheVariants.{Idle, Marking, Sweeping}
use Rattle.gc_graph.specs.declared.region.Entry.{Entry}
use Rattle.gc_graph.specs.declared.region.Op.{Op}
use Rattle.gc_graph.specs.declared.region.Op.TheVariants as O
use Rattle.gc_graph.specs.Graph.{IsIn}
use Rattle.gc_graph.specs.State.{Setup, State, Node, RegionSlot, no_node, node_at, IsLive, type_at, graph_of}
use Rattle.gc_graph.specs.State.RegionSlot.{Vacant, StrongTo, WeakTo}
use Rattle.gc_graph.specs.Fields.{new_node}
use Rattle.gc_graph.specs.May.{may_with_read}
use Rattle.gc_graph.specs.History.{region_slot, region_after, replayed, weak_target, read_by}
use Rattle.gc_graph.specs.Outcomes.{with_entry, took, may_with_entry, IsThreadOp}
use Rattle.gc_graph.specs.MayLaw.{HasStarted, entry_reads}
use Rattle.gc_graph.proofs.Sound.{MayHas, IsFollowed, MayFollows, IsSound}
use Rattle.gc_graph.proofs.WeakReads.{in_below}
use Rattle.gc_graph.specs.NodeNumbers.{live_below}
use Rattle.gc_graph.proofs.NodeWrites.{node_after}
use Rattle.gc_graph.proofs.HistoryLaws.{took-region}
use Rattle.gc_graph.proofs.ValidRegion.{Shares, entry_sound, thread_may, took_phase, shared_at}
use Rattle.gc_graph.proofs.Since.{Since, fresh, since_more}
use Rattle.gc_graph.proofs.MayBounds.{of_first, of_second}
use Rattle.gc_graph.proofs.MayGrows.{IsKeptUp, before, read_kept, kept_more}

-- the one list has what the other has
abbrev pub More : List ℕ → List ℕ → Type 0
More xs ys = (k : ℕ) → list_any (λ r. r == k) xs ≡ true → list_any (λ r. r == k) ys ≡ true

pub more_first : (xs ys zs : List ℕ) → More (xs ++ ys) zs → More xs zs
more_first xs ys zs h k e = h k (of_first xs ys k e)

pub more_second : (xs ys zs : List ℕ) → More (xs ++ ys) zs → More ys zs
more_second xs ys zs h k e = h k (of_second xs ys k e)

pub more_none : (zs : List ℕ) → More [] zs
more_none zs k e = absurd (true≢false (sym e))

pub more_itself : (n : ℕ) (zs : List ℕ) → More (n ∷ []) zs → list_any (λ r. r == n) zs ≡ true
more_itself n zs h = h n (or_left (n == n) false (eq-eqb n n refl))

pub followed : (phase : Phase) (nodes : List Node) (may : List Bool) → phase ≡ Marking → MayFollows phase nodes may → IsFollowed nodes may
followed Idle nodes may e h = cc
followed Marking nodes may e h = h
followed Sweeping nodes may e h = cc

pub in_may_of : (phase : Phase) (may : List Bool) (n : ℕ) → phase ≡ Marking → MayHas phase may n → IsIn may n
in_may_of Idle may n e h = cc
in_may_of Marking may n e h = h
in_may_of Sweeping may n e h = cc

reads-append : (region : List RegionSlot) (xs ys : List Entry) → entry_reads region (xs ++ ys) ≡ entry_reads region xs ++ entry_reads (replayed region xs) ys
reads-append region [] ys = refl
reads-append region (x ∷ xs) ys =
    ap (λ t. option_to_list (read_by region x.op) ++ t) (reads-append (region_after region x.op) xs ys)
    ∙ sym (append_assoc (option_to_list (read_by region x.op)) (entry_reads (region_after region x.op) xs) (entry_reads (replayed region (x ∷ xs)) ys))

module _ (setup : Setup) (start : State) (begun : HasStarted setup start) where
  abbrev pub Kept : List ℕ → State → Type 0
  Kept reads s = IsKeptUp setup start begun reads s.nodes s.may

  -- the new state looks the same to what may be kept
  pub same_kept : (reads after : List ℕ) (old new : State) → More reads after → new.nodes ≡ old.nodes → new.may ≡ old.may → Kept reads old → Kept after new
  same_kept reads after old new more e f kept =
      subst (λ nodes. IsKeptUp setup start begun after nodes new.may) (sym e)
      (subst (λ may. IsKeptUp setup start begun after old.nodes may) (sym f) (kept_more setup start begun reads after old.nodes old.may more kept))

  -- ---- weak reads

  reading : (phase : Phase) (reads after : List ℕ) (s : State) (n : ℕ) → phase ≡ Marking → IsSound setup s → MayFollows phase s.nodes s.may
      → IsLive s.nodes n → More reads after
      → More (n ∷ []) after → Kept reads s → IsKeptUp setup start begun after s.nodes (may_with_read phase (graph_of s.nodes) s.may n)
  reading Idle reads after s n e g f live more one kept = cc
  reading Sweeping reads after s n e g f live more one kept = cc
  reading Marking reads after s n e g f live more one kept =
      read_kept setup start begun after s.nodes s.may n g.heap.typed f.whole (live_below s.nodes n live) (more_itself n after one)
      (kept_more setup start begun reads after s.nodes s.may more kept)

  pub weak_read_kept : (reads after : List ℕ) (s : State) (n : ℕ) → s.phase ≡ Marking → IsSound setup s → IsLive s.nodes n → More reads after
      → More (n ∷ []) after → Kept reads s → IsKeptUp setup start begun after s.nodes (may_with_read s.phase (graph_of s.nodes) s.may n)
  weak_read_kept reads after s n on g live more one kept = reading s.phase reads after s n on g g.may live more one kept

  -- ---- entries

  abbrev Named : State → Option ℕ → Type 0
  Named s None = ⊤
  Named s (Some n) = IsLive s.nodes n

  slot_named : (s : State) (slot : RegionSlot) → IsSound setup s → Shares s slot → Named s (weak_target slot)
  slot_named s Vacant g h = tt
  slot_named s (StrongTo n) g h = tt
  slot_named s (WeakTo n) g h = h

  op_named : (s : State) (op : Op) → IsSound setup s → Named s (read_by s.region op)
  op_named s (O.Export x n) g = tt
  op_named s (O.Import x) g = slot_named s (region_slot s.region x) g (shared_at s s.region x g.region)
  op_named s O.Start g = tt
  op_named s (O.Pause cleared) g = tt
  op_named s (O.Copy x y) g = tt
  op_named s (O.Clear x) g = tt
  op_named s (O.Weaken x) g = tt
  op_named s (O.Upgrade x y) g = slot_named s (region_slot s.region x) g (shared_at s s.region x g.region)

  option_kept : (reads after : List ℕ) (s : State) (o : Option ℕ) → s.phase ≡ Marking → IsSound setup s → Named s o → More reads after
      → More (option_to_list o) after → Kept reads s → IsKeptUp setup start begun after s.nodes (may_with_entry s o)
  option_kept reads after s None on g named more one kept = kept_more setup start begun reads after s.nodes s.may more kept
  option_kept reads after s (Some n) on g named more one kept = weak_read_kept reads after s n on g named more one kept

  pub entry_kept : (reads after : List ℕ) (s : State) (entry : Entry) → s.phase ≡ Marking → IsSound setup s → More reads after
      → More (option_to_list (read_by s.region entry.op)) after → Kept reads s → Kept after (with_entry s entry)
  entry_kept reads after s entry on g more one kept = option_kept reads after s (read_by s.region entry.op) on g (op_named s entry.op g) more one kept

  pub took_kept : (reads after : List ℕ) (s : State) (entries : List Entry) → s.phase ≡ Marking → All (λ (entry : Entry). IsThreadOp entry.op) entries
      → IsSound setup s → More reads after → More (entry_reads s.region entries) after → Kept reads s → Kept after (took s entries)
  took_kept reads after s [] on ops g more from kept = kept_more setup start begun reads after s.nodes s.may more kept
  took_kept reads after s (entry ∷ entries) on ops g more from kept =
      let one : List ℕ = option_to_list (read_by s.region entry.op) in
      let rest : List ℕ = entry_reads (region_after s.region entry.op) entries in
      took_kept after after (with_entry s entry) entries on (All-tail (λ (e : Entry). IsThreadOp e.op) entry entries ops)
      (entry_sound setup s entry g (thread_may s entry.op (All-head (λ (e : Entry). IsThreadOp e.op) entry entries ops))) (λ k e. e)
      (more_second one rest after from) (entry_kept reads after s entry on g more (more_first one rest after from) kept)

  -- the owner's entry after those of threads
  pub own_kept : (reads after : List ℕ) (s : State) (others : List Entry) (own : Entry) → s.phase ≡ Marking → All (λ (entry : Entry). IsThreadOp entry.op) others
      → IsSound setup s → IsSound setup (took s others) → More reads after → More (entry_reads s.region (others ++ own ∷ [])) after → Kept reads s
      → Kept after (with_entry (took s others) own)
  own_kept reads after s others own on ops g h more from kept =
      let split : More (entry_reads s.region others ++ entry_reads (replayed s.region others) (own ∷ [])) after =
      subst (λ xs. More xs after) (reads-append s.region others (own ∷ [])) from in
      let last : More (entry_reads (took s others).region (own ∷ [])) after =
      subst (λ r. More (entry_reads r (own ∷ [])) after) (sym (took-region s others))
      (more_second (entry_reads s.region others) (entry_reads (replayed s.region others) (own ∷ [])) after split) in
      entry_kept after after (took s others) own (took_phase s others ∙ on) h (λ k e. e)
      (more_first (option_to_list (read_by (took s others).region own.op)) [] after last)
      (took_kept reads after s others on ops g more (more_first (entry_reads s.region others) (entry_reads (replayed s.region others) (own ∷ [])) after split) kept)

  -- ---- writes and new nodes

  pub written_kept : (reads : List ℕ) (nodes : List Node) (may : List Bool) (n : ℕ) (node : Node) → IsKeptUp setup start begun reads nodes may
      → Since may (before setup start begun n) node.object.kinds node.object.values → IsKeptUp setup start begun reads (set nodes n node) may
  written_kept reads nodes may n node kept since = record {
    longer = (let l = kept.longer in omega (arith, length-set nodes n node));
    edges = λ m. node_after (λ (x : Node). Since may (before setup start begun m) x.object.kinds x.object.values) nodes n m node
        (λ e. subst (λ k. Since may (before setup start begun k) node.object.kinds node.object.values) (sym e) since) (kept.edges m);
    bounded = kept.bounded;
  }

  flag_added : (may : List Bool) (n : ℕ) → IsIn (may ++ true ∷ []) n → IsIn may n ⊎ (length may ≤ n)
  flag_added may n i =
      elim (cases_lt n (length may)) [
        | inl l ↦ inl (sym (get_or_append_left may (true ∷ []) false n l) ∙ i)
        | inr past ↦ inr past
      ]

  flag_kept : (may : List Bool) (n : ℕ) → IsIn may n → IsIn (may ++ true ∷ []) n
  flag_kept may n i = get_or_append_left may (true ∷ []) false n (in_below may n i) ∙ i

  pub new_kept : (reads : List ℕ) (nodes : List Node) (may : List Bool) (t extra place : ℕ) → length may ≡ length nodes
      → IsKeptUp setup start begun reads nodes may
      → IsKeptUp setup start begun reads (nodes ++ new_node setup t extra place ∷ []) (may ++ true ∷ [])
  new_kept reads nodes may t extra place whole kept = record {
    longer = (let l = kept.longer in omega (arith, length_push nodes (new_node setup t extra place)));
    edges = λ m. elim (cases_lt m (length nodes)) [
      | inl l ↦
          subst (λ (x : Node). Since (may ++ true ∷ []) (before setup start begun m) x.object.kinds x.object.values)
          (sym (get_or_append_left nodes (new_node setup t extra place ∷ []) no_node m l))
          (since_more may (may ++ true ∷ []) (before setup start begun m) (flag_kept may) (node_at nodes m).object.kinds (node_at nodes m).object.values (kept.edges m))
      | inr past ↦ elim (cases_eq m (length nodes)) [
        | inl e ↦
            subst (λ (x : Node). Since (may ++ true ∷ []) (before setup start begun m) x.object.kinds x.object.values)
            (sym (ap (λ k. get_or (nodes ++ new_node setup t extra place ∷ []) k no_node) e ∙ get_or_push nodes (new_node setup t extra place) no_node (length nodes) refl))
            (fresh (may ++ true ∷ []) (before setup start begun m) (type_at setup t).kinds (replicate extra (Word 0)))
        | inr other ↦
            subst (λ (x : Node). Since (may ++ true ∷ []) (before setup start begun m) x.object.kinds x.object.values)
            (sym (get_or_past (nodes ++ new_node setup t extra place ∷ []) m no_node (omega (arith, length_push nodes (new_node setup t extra place)))))
            (λ k d l. tt)
      ]
    ];
    bounded = λ n i. elim (flag_added may n i) [ inl old ↦ kept.bounded n old | inr new ↦ inl (let l = kept.longer in omega arith) ];
  }
