-- What a call of the owner, or a join, finds behind what was taken: orders of threads.
use Rattle.std.proofs.Common.{◌≡◌, ◌≢◌, ℕ, ◌+◌, ◌-◌, ◌≤◌, false, List, [], ◌∷◌, ◌++◌, length, take, drop, All, sym, ap, ◌∙◌, subst, inl, inr, arith}
use Rattle.std.specs.Prelude.{Contains}
use Rattle.std.proofs.Math.Seq.{take-append-add}
use Rattle.std.proofs.lemmas.Bool.{cases_Bool}
use Rattle.std.proofs.lemmas.List.{append_assoc, length-take-le, take-append-drop, take-append-le}
use Rattle.std.proofs.lemmas.List.Elements.{All-append, All-contains, All-head, All-tail, All-take, All-cons, All-nil}
use Rattle.gc_graph.specs.declared.region.Entry.{Entry}
use Rattle.gc_graph.specs.History.{IsLegal}
use Rattle.gc_graph.specs.Outcomes.{IsThreadOp}
use Rattle.gc_graph.specs.State.{Node}
use Rattle.cross_thread_region.specs.declared.chronicle.PlacedEntry.{PlacedEntry}
use Rattle.cross_thread_region.specs.Calls.{AreByRight, Finds}
use Rattle.cross_thread_region.specs.Histories.{entries_of}
use Rattle.cross_thread_region.specs.OrdersStay.{all_behind, legal_on, live_after, placed_after}
use Rattle.heap_objects.specs.Nodes.{place_of}
use Rattle.heap_region.specs.declared.owned.OwnedRegion.TheInside.{Inside}
use Rattle.heap_region.specs.Calls.{IsFound}
use Rattle.heap_region.specs.Handled.{IsHandled}
use Rattle.heap_region.specs.Inside.{taken_of}
use Rattle.heap_region.specs.ThreadEntries.{thread_above}
use Rattle.heap_region.proofs.Fields.{AreOwned, owned_view}

found_orders : (running out : List ℕ) (rest : List PlacedEntry) → All (Contains running) out → All (λ (p : PlacedEntry). Contains out p.entry.thread) rest
    → All (λ (p : PlacedEntry). IsThreadOp p.entry.op) rest → All (λ (e : Entry). Contains running e.thread × IsThreadOp e.op) (entries_of rest)
found_orders running out [] runs outs orders = All-nil (λ (e : Entry). Contains running e.thread × IsThreadOp e.op)
found_orders running out (p ∷ rest) runs outs orders =
    All-cons (λ (e : Entry). Contains running e.thread × IsThreadOp e.op) p.entry (entries_of rest) (
      All-contains (Contains running) out p.entry.thread runs (All-head (λ (q : PlacedEntry). Contains out q.entry.thread) p rest outs),
      All-head (λ (q : PlacedEntry). IsThreadOp q.entry.op) p rest orders,
    )
    (found_orders running out rest runs (All-tail (λ (q : PlacedEntry). Contains out q.entry.thread) p rest outs)
    (All-tail (λ (q : PlacedEntry). IsThreadOp q.entry.op) p rest orders))

-- the first orders of threads leave each slot a live node, with its place
handled_on : (nodes : List Node) (xs ys : List PlacedEntry) (j : ℕ) → IsHandled nodes xs → All (λ (p : PlacedEntry). IsThreadOp p.entry.op) ys
    → IsHandled nodes (xs ++ take j ys)
handled_on nodes xs ys j handled orders =
    let some : All (λ (p : PlacedEntry). IsThreadOp p.entry.op) (take j ys) = All-take (λ (p : PlacedEntry). IsThreadOp p.entry.op) j ys orders in
    record {
      live = live_after nodes (place_of nodes) xs (take j ys) handled.live handled.placed some;
      placed = placed_after nodes (place_of nodes) xs (take j ys) handled.live handled.placed some;
    }

-- so do they up to an entry behind them
pub handled_at : (nodes : List Node) (xs ys later : List PlacedEntry) (k : ℕ) → IsHandled nodes xs → All (λ (p : PlacedEntry). IsThreadOp p.entry.op) ys
    → length xs ≤ k → k ≤ length xs + length ys → IsHandled nodes (take k (xs ++ (ys ++ later)))
handled_at nodes xs ys later k handled orders above below =
    let j : ℕ = k - length xs in
    let is : length xs + j ≡ k = omega (arith, above) in
    let low : j ≤ length ys = omega (arith, above, below) in
    let same : take k (xs ++ (ys ++ later)) ≡ xs ++ take j ys =
    ap (λ n. take n (xs ++ (ys ++ later))) (sym is) ∙ take-append-add xs (ys ++ later) j
    ∙ ap (λ zs. xs ++ zs) (take-append-le j ys later low) in
    subst (IsHandled nodes) (sym same) (handled_on nodes xs ys j handled orders)

module _ (r : Inside) (owned : AreOwned r) where
  pub taken_len : length (taken_of r.pass r.taken) ≡ r.taken
  taken_len = length-take-le r.taken r.pass.seen owned.few

  module _ (opened : r.closed ≡ false) where
    -- no thread has number 0
    pub out_above : (n : ℕ) → Contains r.pass.out n → n ≢ 0
    out_above n there none = elim (cases_Bool r.threads.awaiting) [
      | inl awaits ↦
          let runs : Contains r.threads.running n = All-contains (Contains r.threads.running) r.pass.out n owned.outs.running there in
          omega (arith, none, thread_above r.threads.queues n (subst (λ (js : List ℕ). Contains js n) (owned.started awaits opened).all runs))
      | inr still ↦ (let never : Contains [] n = subst (λ (js : List ℕ). Contains js n) (owned.none_out still) there in omega (arith, never.1))
    ]

    module _ (history : List PlacedEntry) (finds : Finds r.pass history) where
      -- what is found behind what was taken
      abbrev pub others : List PlacedEntry
      others = drop r.taken r.pass.seen ++ finds.goes_on.rest

      pub whole : history ≡ taken_of r.pass r.taken ++ others
      whole =
          finds.goes_on.all ∙ ap (λ xs. xs ++ finds.goes_on.rest) (sym (take-append-drop r.taken r.pass.seen))
          ∙ append_assoc (taken_of r.pass r.taken) (drop r.taken r.pass.seen) finds.goes_on.rest

      pub are_out : All (λ (p : PlacedEntry). Contains r.pass.out p.entry.thread) others
      are_out =
          All-append (λ (p : PlacedEntry). Contains r.pass.out p.entry.thread) (drop r.taken r.pass.seen) finds.goes_on.rest (owned.ahead opened)
          (finds.goes_on.outs owned.owner.first)

      pub are_orders : All (λ (p : PlacedEntry). IsThreadOp p.entry.op) others
      are_orders k d low =
          all_behind (λ (p : PlacedEntry). p.entry.thread ≢ 0 → IsThreadOp p.entry.op) (taken_of r.pass r.taken) others (subst AreByRight whole finds.right) k d low
          (out_above _ (are_out k d low))

      pub is_found : IsFound (owned_view r) others
      is_found = record {
        outs = are_out;
        orders = found_orders r.threads.running r.pass.out others owned.outs.running are_out are_orders;
        legal = legal_on (taken_of r.pass r.taken) others (subst (λ h. IsLegal (entries_of h)) whole finds.legal);
        told = omega (arith, owned.printed_few, taken_len);
      }
