-- What may be kept stays within its bound while marking goes on.
use Rattle.std.proofs.Common.{◌≡◌, ℕ, ◌<◌, ◌≤◌, ◌==◌, ◌&&◌, ◌||◌, Bool, true, false, true≢false, List, [], ◌∷◌, ◌++◌, length, cond, All, refl, sym, ap, ◌∙◌, subst, inl, inr, arith, leb, ltb, eqb-true, eq-eqb}
use mathlib.Core.Logic.{◌⊎◌}
use Rattle.std.specs.List.{list_any, filter}
use Rattle.std.proofs.lemmas.Bool.{or_cases, or_left, or_right, and_parts, and_from, cases_lt, leb-true, le-leb, ltb-true, lt-ltb}
use Rattle.std.proofs.lemmas.List.{get_or_past, length-map}
use Rattle.gc_graph.specs.Graph.{Object, has, IsIn, IsClosed, leads_to, pair_targets}
use Rattle.gc_graph.specs.Reach.{Reach, IsLeastClosed, set_of}
use Rattle.gc_graph.specs.State.{Setup, State, Node, no_node, node_at, graph_of, roots_of}
use Rattle.gc_graph.specs.May.{members}
use Rattle.gc_graph.specs.Valid.{IsTyped, IsMay}
use Rattle.gc_graph.specs.MayLaw.{HasStarted, old_ones}
use Rattle.gc_graph.specs.NodeNumbers.{object_of_node}
use Rattle.gc_graph.proofs.Sets.{has-set_of, set_of-below}
use Rattle.gc_graph.proofs.Reaching.{reach_law}
use Rattle.gc_graph.proofs.Sound.{found, kinds_at}
use Rattle.gc_graph.proofs.Follows.{AnyStrong, AnyPair}
use Rattle.gc_graph.proofs.WeakReads.{refers_within, members_in, member_found, in_below}
use Rattle.gc_graph.proofs.MayBounds.{either_list, of_first, of_second, may_of}
use Rattle.gc_graph.proofs.Since.{Since, IsStrongOf, IsPairOf, HasPair, strong_since, pair_since, since_more, pair_key_below}

-- ---- nodes that were there at the start

old_head : (b : Bool) (first n bound : ℕ) (rest : List ℕ) → b ≡ ltb first bound → (list_any (λ r. r == n) rest ≡ true → n < bound)
    → list_any (λ r. r == n) (cond b (first ∷ rest) rest) ≡ true → n < bound
old_head true first n bound rest e later f =
    elim (or_cases (first == n) (list_any (λ r. r == n) rest) f) [
      | inl here ↦ (let low = ltb-true first bound (sym e) in let same = eqb-true first n here in omega arith)
      | inr more ↦ later more
    ]
old_head false first n bound rest e later f = later f

old_one_below : (bound : ℕ) (nodes : List ℕ) (n : ℕ) → list_any (λ r. r == n) (filter (λ k. ltb k bound) nodes) ≡ true → n < bound
old_one_below bound [] n e = absurd (true≢false (sym e))
old_one_below bound (k ∷ nodes) n e =
    old_head (ltb k bound) k n bound (filter (λ j. ltb j bound) nodes) refl (old_one_below bound nodes n) e

keep_head : (b : Bool) (first n bound : ℕ) (rest : List ℕ) → b ≡ ltb first bound → n < bound → (first ≡ n) → list_any (λ r. r == n) (cond b (first ∷ rest) rest) ≡ true
keep_head true first n bound rest e low same = or_left (first == n) (list_any (λ r. r == n) rest) (eq-eqb first n same)
keep_head false first n bound rest e low same = absurd (true≢false (sym (e ∙ lt-ltb first bound (omega arith))))

keep_rest : (b : Bool) (first n : ℕ) (rest : List ℕ) → list_any (λ r. r == n) rest ≡ true → list_any (λ r. r == n) (cond b (first ∷ rest) rest) ≡ true
keep_rest true first n rest h = or_right (first == n) (list_any (λ r. r == n) rest) h
keep_rest false first n rest h = h

old_one_found : (bound : ℕ) (nodes : List ℕ) (n : ℕ) → n < bound → list_any (λ r. r == n) nodes ≡ true
    → list_any (λ r. r == n) (filter (λ k. ltb k bound) nodes) ≡ true
old_one_found bound [] n l e = e
old_one_found bound (k ∷ nodes) n l e =
    elim (or_cases (k == n) (list_any (λ r. r == n) nodes) e) [
      | inl here ↦ keep_head (ltb k bound) k n bound (filter (λ j. ltb j bound) nodes) refl l (eqb-true k n here)
      | inr more ↦ keep_rest (ltb k bound) k n (filter (λ j. ltb j bound) nodes) (old_one_found bound nodes n l more)
    ]

drop_head : (b : Bool) (first n : ℕ) (rest more : List ℕ) → (list_any (λ r. r == n) rest ≡ true → list_any (λ r. r == n) more ≡ true)
    → list_any (λ r. r == n) (cond b (first ∷ rest) rest) ≡ true → list_any (λ r. r == n) (first ∷ more) ≡ true
drop_head true first n rest more later e =
    elim (or_cases (first == n) (list_any (λ r. r == n) rest) e) [ inl h ↦ or_left (first == n) _ h | inr l ↦ or_right (first == n) _ (later l) ]
drop_head false first n rest more later e = or_right (first == n) _ (later e)

any_old : (bound : ℕ) (nodes : List ℕ) (n : ℕ) → list_any (λ r. r == n) (filter (λ k. ltb k bound) nodes) ≡ true → list_any (λ r. r == n) nodes ≡ true
any_old bound [] n e = e
any_old bound (k ∷ nodes) n e = drop_head (ltb k bound) k n (filter (λ j. ltb j bound) nodes) nodes (any_old bound nodes n) e

pub pair_found : (set : List Bool) (k n : ℕ) (pairs : List (ℕ × ℕ)) → IsIn set k → list_any (λ p. (p.0 == k) && (p.1 == n)) pairs ≡ true
    → list_any (λ p. has set p.0 && (p.1 == n)) pairs ≡ true
pair_found set k n [] i e = e
pair_found set k n (p ∷ pairs) i e =
    elim (or_cases ((p.0 == k) && (p.1 == n)) (list_any (λ q. (q.0 == k) && (q.1 == n)) pairs) e) [
      | inl here ↦
          (let both = and_parts (p.0 == k) (p.1 == n) here in
          or_left (has set p.0 && (p.1 == n)) _ (and_from (has set p.0) (p.1 == n) (subst (λ j. IsIn set j) (sym (eqb-true p.0 k both.0)) i) both.1))
      | inr rest ↦ or_right (has set p.0 && (p.1 == n)) _ (pair_found set k n pairs i rest)
    ]

-- ---- the bound

module _ (setup : Setup) (start : State) (begun : HasStarted setup start) where
  abbrev pub bound_of : List ℕ → List Bool
  bound_of reads = Reach (graph_of start.nodes) (roots_of start ++ old_ones start reads)

  start_long : length (graph_of start.nodes) ≡ length start.nodes
  start_long = length-map start.nodes (λ (x : Node). x.object)

  start_may : IsMay start
  start_may = may_of start.phase start begun.marking begun.valid.may_kept

  root_below : (k : ℕ) → list_any (λ r. r == k) (roots_of start) ≡ true → k < length (graph_of start.nodes)
  root_below k e = (let l = in_below start.may k (start_may.roots k e) in let w = start_may.whole in let g = start_long in omega arith)

  old_below : (reads : List ℕ) (k : ℕ) → list_any (λ r. r == k) (old_ones start reads) ≡ true → k < length (graph_of start.nodes)
  old_below reads k e = (let l = old_one_below (length start.nodes) reads k e in let g = start_long in omega arith)

  pub bound_least : (reads : List ℕ) → IsLeastClosed (graph_of start.nodes) (roots_of start ++ old_ones start reads) (bound_of reads)
  bound_least reads =
      reach_law (graph_of start.nodes) (roots_of start ++ old_ones start reads) (refers_within setup start.nodes begun.valid.typed)
      (λ k. either_list (roots_of start) (old_ones start reads) k (k < length (graph_of start.nodes)) (root_below k) (old_below reads k))

  abbrev pub InBound : List ℕ → ℕ → Type 0
  InBound reads n = (length start.nodes ≤ n) ⊎ IsIn (bound_of reads) n

  -- more that was read bounds no less
  pub bound_more : (reads after : List ℕ) → ((k : ℕ) → list_any (λ r. r == k) reads ≡ true → list_any (λ r. r == k) after ≡ true)
      → (n : ℕ) → InBound reads n → InBound after n
  bound_more reads after more n h =
      let big = bound_least after in
      elim h [
        | inl new ↦ inl new
        | inr old ↦
            inr ((bound_least reads).least (bound_of after) big.closed
            (λ k. either_list (roots_of start) (old_ones start reads) k (IsIn (bound_of after) k)
            (λ r. big.roots_in k (of_first (roots_of start) (old_ones start after) k r))
            (λ r. big.roots_in k (of_second (roots_of start) (old_ones start after) k
            (old_one_found (length start.nodes) after k (old_one_below (length start.nodes) reads k r) (more k (any_old (length start.nodes) reads k r))))))
            n old)
      ]

  -- a node that was read is within the bound
  pub read_bound : (reads : List ℕ) (n : ℕ) → list_any (λ r. r == n) reads ≡ true → InBound reads n
  read_bound reads n e =
      elim (cases_lt n (length start.nodes)) [
        | inl old ↦ inr ((bound_least reads).roots_in n (of_second (roots_of start) (old_ones start reads) n (old_one_found (length start.nodes) reads n old e)))
        | inr new ↦ inl new
      ]

  -- ---- edges of the start's graph stay within the bound

  abbrev pub before : ℕ → Object
  before m = (node_at start.nodes m).object

  -- a node that has an edge was there at the start
  strong_was_there : (m n : ℕ) → IsStrongOf (before m) n → m < length start.nodes
  strong_was_there m n e =
      elim (cases_lt m (length start.nodes)) [
        | inl l ↦ l
        | inr past ↦ absurd (true≢false (sym (ap (λ (x : Node). AnyStrong n x.object.kinds x.object.values) (sym (get_or_past start.nodes m no_node past)) ∙ e)))
      ]

  pair_was_there : (m k n : ℕ) → IsPairOf (before m) k n → m < length start.nodes
  pair_was_there m k n e =
      elim (cases_lt m (length start.nodes)) [
        | inl l ↦ l
        | inr past ↦ absurd (true≢false (sym (ap (λ (x : Node). HasPair k n x.object.kinds x.object.values) (sym (get_or_past start.nodes m no_node past)) ∙ e)))
      ]

  reached : (reads : List ℕ) (m : ℕ) → m < length start.nodes → InBound reads m → IsIn (bound_of reads) m
  reached reads m low h = elim h [ inl new ↦ absurd (omega arith) | inr old ↦ old ]

  strong_bounded : (reads : List ℕ) (m n : ℕ) → InBound reads m → IsStrongOf (before m) n → InBound reads n
  strong_bounded reads m n h e =
      inr ((bound_least reads).closed m n (reached reads m (strong_was_there m n e) h)
      (subst (λ o. leads_to (bound_of reads) o n ≡ true) (sym (object_of_node start.nodes m))
      (or_left (AnyStrong n (before m).kinds (before m).values) (AnyPair (bound_of reads) n (before m).kinds (before m).values) e)))

  pair_bounded : (reads : List ℕ) (m k n : ℕ) → InBound reads m → InBound reads k → IsPairOf (before m) k n → InBound reads n
  pair_bounded reads m k n h key e =
      let low : k < length start.nodes = pair_key_below (length start.nodes) k n (before m).kinds (before m).values (kinds_at setup start.nodes begun.valid.typed m) e in
      inr ((bound_least reads).closed m n (reached reads m (pair_was_there m k n e) h)
      (subst (λ o. leads_to (bound_of reads) o n ≡ true) (sym (object_of_node start.nodes m))
      (or_right (AnyStrong n (before m).kinds (before m).values) (AnyPair (bound_of reads) n (before m).kinds (before m).values)
      (pair_found (bound_of reads) k n (pair_targets (before m).kinds (before m).values) (reached reads k low key) e))))

  -- ---- what is kept up while marking goes on

  pub record IsKeptUp (reads : List ℕ) (nodes : List Node) (may : List Bool) : Type 0 where
    pub longer : length start.nodes ≤ length nodes
    pub edges : (m : ℕ) → Since may (before m) (node_at nodes m).object.kinds (node_at nodes m).object.values
    pub bounded : (n : ℕ) → IsIn may n → InBound reads n

  -- the bound as a set of the nodes that are there now
  abbrev flags : List ℕ → ℕ → List Bool
  flags reads count = set_of (λ n. leb (length start.nodes) n || has (bound_of reads) n) count

  into_flags : (reads : List ℕ) (count n : ℕ) → n < count → InBound reads n → IsIn (flags reads count) n
  into_flags reads count n low h =
      has-set_of (λ k. leb (length start.nodes) k || has (bound_of reads) k) count n low
      ∙ elim h [
        | inl new ↦ or_left (leb (length start.nodes) n) (has (bound_of reads) n) (le-leb (length start.nodes) n new)
        | inr old ↦ or_right (leb (length start.nodes) n) (has (bound_of reads) n) old
      ]

  from_flags : (reads : List ℕ) (count n : ℕ) → IsIn (flags reads count) n → InBound reads n
  from_flags reads count n h =
      let low = set_of-below (λ k. leb (length start.nodes) k || has (bound_of reads) k) count n h in
      elim (or_cases (leb (length start.nodes) n) (has (bound_of reads) n)
      (sym (has-set_of (λ k. leb (length start.nodes) k || has (bound_of reads) k) count n low) ∙ h)) [
        | inl new ↦ inl (leb-true (length start.nodes) n new)
        | inr old ↦ inr old
      ]

  flags_closed : (reads : List ℕ) (nodes : List Node) (may : List Bool) → All (IsTyped setup (length nodes)) nodes → IsKeptUp reads nodes may
      → IsClosed (graph_of nodes) (flags reads (length nodes))
  flags_closed reads nodes may typed kept m n inside leads =
      let t : List Bool = flags reads (length nodes) in
      let o : Object = (node_at nodes m).object in
      let long : length (graph_of nodes) ≡ length nodes = length-map nodes (λ (x : Node). x.object) in
      let low : n < length nodes = (let l = refers_within setup nodes typed t m n leads in omega arith) in
      let here : leads_to t o n ≡ true = subst (λ x. leads_to t x n ≡ true) (object_of_node nodes m) leads in
      let from : InBound reads m = from_flags reads (length nodes) m inside in
      into_flags reads (length nodes) n low
      (elim (or_cases (AnyStrong n o.kinds o.values) (AnyPair t n o.kinds o.values) here) [
        | inl strong ↦ elim (strong_since may (before m) n o.kinds o.values (kept.edges m) strong) [
          | inl old ↦ strong_bounded reads m n from old
          | inr new ↦ kept.bounded n new
        ]
        | inr pair ↦ elim (pair_since may (before m) t n o.kinds o.values (kept.edges m) pair) [
          | inl old ↦ pair_bounded reads m old.0 n from (from_flags reads (length nodes) old.0 old.1) old.2
          | inr new ↦ kept.bounded n new
        ]
      ])

  -- a weak read grows what may be kept within the bound
  pub read_kept : (reads : List ℕ) (nodes : List Node) (may : List Bool) (n : ℕ) → All (IsTyped setup (length nodes)) nodes → length may ≡ length nodes
      → n < length nodes → list_any (λ r. r == n) reads ≡ true → IsKeptUp reads nodes may
      → IsKeptUp reads nodes (Reach (graph_of nodes) (members may ++ n ∷ []))
  read_kept reads nodes may n typed whole low read kept =
      let g : List Object = graph_of nodes in
      let after : List Bool = Reach g (members may ++ n ∷ []) in
      let long : length g ≡ length nodes = length-map nodes (λ (x : Node). x.object) in
      let only : (k : ℕ) → list_any (λ r. r == k) (n ∷ []) ≡ true → n ≡ k =
      (λ k e. elim (or_cases (n == k) false e) [ inl h ↦ eqb-true n k h | inr h ↦ absurd (true≢false (sym h)) ]) in
      let held : (k : ℕ) → list_any (λ r. r == k) (members may) ≡ true → IsIn may k = (λ k e. found (IsIn may) (members may) (members_in may) k e) in
      let least : IsLeastClosed g (members may ++ n ∷ []) after =
      reach_law g (members may ++ n ∷ []) (refers_within setup nodes typed)
      (λ k. either_list (members may) (n ∷ []) k (k < length g) (λ e. (let l = in_below may k (held k e) in omega arith))
      (λ e. (let same = only k e in omega arith))) in
      record {
        longer = kept.longer;
        edges = λ m. since_more may after (before m) (λ k i. least.roots_in k (of_first (members may) (n ∷ []) k (member_found may k i)))
            (node_at nodes m).object.kinds (node_at nodes m).object.values (kept.edges m);
        bounded = λ k i. from_flags reads (length nodes) k
            (least.least (flags reads (length nodes)) (flags_closed reads nodes may typed kept)
            (λ j. either_list (members may) (n ∷ []) j (IsIn (flags reads (length nodes)) j)
            (λ e. into_flags reads (length nodes) j (let l = in_below may j (held j e) in omega arith) (kept.bounded j (held j e)))
            (λ e. subst (λ x. IsIn (flags reads (length nodes)) x) (only j e) (into_flags reads (length nodes) n low (read_bound reads n read))))
            k i);
      }

  pub kept_more : (reads after : List ℕ) (nodes : List Node) (may : List Bool)
      → ((k : ℕ) → list_any (λ r. r == k) reads ≡ true → list_any (λ r. r == k) after ≡ true) → IsKeptUp reads nodes may → IsKeptUp after nodes may
  kept_more reads after nodes may more kept =
      record { longer = kept.longer; edges = kept.edges; bounded = λ n i. bound_more reads after more n (kept.bounded n i) }
