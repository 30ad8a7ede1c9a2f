-- The region once the owner's entry was made behind those of threads.
use Rattle.std.proofs.Common.{◌≡◌, ℕ, List, [], ◌∷◌, ◌++◌, All, length, take, sym, ap, ◌∙◌, subst}
use Rattle.std.specs.Prelude.{Contains}
use Rattle.std.proofs.lemmas.List.Elements.{All-head, All-tail, All-cons, All-nil}
use Rattle.gc_graph.specs.declared.region.Entry.{Entry}
use Rattle.gc_graph.specs.declared.region.Op.{Op}
use Rattle.gc_graph.specs.declared.region.Op.TheVariants as O
use Rattle.gc_graph.specs.History.{started_after}
use Rattle.gc_graph.specs.Outcomes.{IsThreadOp}
use Rattle.gc_graph.specs.State.{Node}
use Rattle.gc_graph.specs.Valid.{AreLive, region_targets}
use Rattle.cross_thread_region.specs.declared.chronicle.PlacedEntry.{PlacedEntry}
use Rattle.cross_thread_region.specs.Calls.{placed_entry_of}
use Rattle.cross_thread_region.specs.Histories.{entries_of, is_started, slots_of, IsPlacedBy}
use Rattle.cross_thread_region.specs.NextEntries.{started_next}
use Rattle.cross_thread_region.specs.OrdersStay.{placed_after, started_on}
use Rattle.cross_thread_region.specs.PlacedNodes.{placed_next}
use Rattle.heap_roots.specs.Calls.{HasEntered, TakesMore}
use Rattle.heap_roots.specs.Nodes.{place_of}
use Rattle.heap_roots.specs.Owned.{OwnedView}
use Rattle.heap_cycle.proofs.Pieces.{begins_on, goes_on}

-- what threads have done is orders
thread_ops : (running : List ℕ) (xs : List PlacedEntry) → All (λ (e : Entry). Contains running e.thread × IsThreadOp e.op) (entries_of xs)
    → All (λ (p : PlacedEntry). IsThreadOp p.entry.op) xs
thread_ops running [] orders = All-nil (λ (p : PlacedEntry). IsThreadOp p.entry.op)
thread_ops running (x ∷ xs) orders =
    let Is : Entry → Type 0 = λ (e : Entry). Contains running e.thread × IsThreadOp e.op in
    All-cons (λ (p : PlacedEntry). IsThreadOp p.entry.op) x xs (All-head Is x.entry (entries_of xs) orders).1
    (thread_ops running xs (All-tail Is x.entry (entries_of xs) orders))

module _ (op : Op) (place : ℕ) (old new : OwnedView) (is : HasEntered op place old new) where
  abbrev found : List PlacedEntry
  found = old.taken ++ is.others

  pub grown : TakesMore old new
  grown = record {
    begins = ap (take (length old.taken)) (goes_on op place old new is).taken ∙ begins_on old.taken _;
    rest = (goes_on op place old new is).rest;
  }

  -- orders start no collection and end none, and so the entry alone may
  pub started_entered : is_started new.taken ≡ started_after (is_started old.taken) op
  started_entered =
      ap is_started is.taken ∙ started_next found (placed_entry_of 0 found op place)
      ∙ ap (λ started. started_after started op) (started_on old.taken is.others (thread_ops old.running is.others is.found.orders))

  -- the slots have the places of their nodes
  pub placed_entered : (nodes : List Node) → AreLive nodes (region_targets (slots_of old.taken)) → IsPlacedBy (place_of nodes) old.taken
      → ((x n : ℕ) → op ≡ O.Export x n → place ≡ place_of nodes n) → IsPlacedBy (place_of nodes) new.taken
  placed_entered nodes live placed exported =
      subst (IsPlacedBy (place_of nodes)) (sym is.taken)
      (placed_next (place_of nodes) found (placed_entry_of 0 found op place)
      (placed_after nodes (place_of nodes) old.taken is.others live placed (thread_ops old.running is.others is.found.orders)) exported)
