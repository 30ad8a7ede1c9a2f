-- A call of the owner for which memory was wanting: its pass may have seen more, of which nothing is taken.
use Rattle.std.proofs.Common.{◌≡◌, ℕ, false, List, ◌++◌, take, drop, All, Option, Some, None, sym, ap, ◌∙◌, subst, inl, inr, arith}
use Rattle.std.specs.Prelude.{Contains, is_some}
use Rattle.std.proofs.lemmas.List.{drop-append-le, length-append, take-append-le}
use Rattle.std.proofs.lemmas.List.Elements.{All-append}
use Rattle.gc_graph.specs.declared.region.Op.{Op}
use Rattle.gc_graph.specs.declared.region.Op.TheVariants as O
use Rattle.gc_graph.specs.declared.region.Reply.{Reply}
use Rattle.gc_graph.specs.declared.region.Reply.TheVariants as R
use Rattle.gc_graph.specs.History.{node_of, region_slot, reply_of, reply_with}
use Rattle.gc_graph.specs.State.{RegionSlot}
use Rattle.cross_thread_region.specs.declared.chronicle.PlacedEntry.{PlacedEntry}
use Rattle.cross_thread_region.specs.Calls.{IsCallAnswered, PassView, seeing}
use Rattle.cross_thread_region.specs.Histories.{entries_of, slots_of}
use Rattle.heap_region.specs.declared.owned.OwnedRegion.TheInside.{Inside}
use Rattle.heap_region.specs.Inside.{IsOwners, lines_told, taken_of}
use Rattle.heap_region.proofs.Fields.{AreOwned, owned_view}
use Rattle.heap_region.proofs.OwnedOn.{grown}

read_answers : (node : Option ℕ) → reply_with node ≡ R.NoMemory → ⊥
read_answers None is = cc
read_answers (Some n) is = cc

-- a region of one thread has memory
always_answers : (region : List RegionSlot) (op : Op) → reply_of region op ≡ R.NoMemory → ⊥
always_answers region (O.Export x n) is = cc
always_answers region (O.Import x) is = read_answers (node_of (region_slot region x)) is
always_answers region O.Start is = cc
always_answers region (O.Pause cleared) is = cc
always_answers region (O.Copy x y) is = cc
always_answers region (O.Clear x) is = cc
always_answers region (O.Weaken x) is = cc
always_answers region (O.Upgrade x y) is = read_answers (node_of (region_slot region x)) is

module _ (r : Inside) (owned : AreOwned r) (quiet : r.held ≡ None) (opened : r.closed ≡ false) (op : Op) (place : ℕ) (reply : Reply) (passed : PassView)
    (answered : IsCallAnswered r.pass op place reply passed) (none : reply ≡ R.NoMemory) where
  abbrev rest : List PlacedEntry
  rest = answered.finds.goes_on.rest

  seen_more : passed ≡ seeing r.pass (r.pass.seen ++ rest)
  seen_more = elim answered.answer [
    | inl refused ↦ refused.pass ∙ ap (seeing r.pass) answered.finds.goes_on.all
    | inr entered ↦ absurd (always_answers (slots_of answered.history) op (sym entered.reply_is ∙ none))
  ]

  same_taken : take r.taken (r.pass.seen ++ rest) ≡ taken_of r.pass r.taken
  same_taken = take-append-le r.taken r.pass.seen rest owned.few

  pub still_owned : AreOwned (record r { pass = passed })
  still_owned =
      grown r owned quiet opened passed rest r.taken seen_more (omega arith) (omega (arith, owned.few, length-append r.pass.seen rest))
      (subst (All (λ (p : PlacedEntry). Contains r.pass.out p.entry.thread)) (sym (drop-append-le r.taken r.pass.seen rest owned.few))
      (All-append (λ (p : PlacedEntry). Contains r.pass.out p.entry.thread) (drop r.taken r.pass.seen) rest (owned.ahead opened)
      (answered.finds.goes_on.outs owned.owner.first)))
      (λ still. subst (λ h. All IsOwners (entries_of (drop r.printed h))) (sym same_taken) (owned.owners still))

  -- so the owner's view of the region stays
  pub same_view : owned_view (record r { pass = passed }) ≡ owned_view r
  same_view =
      ap (λ (p : PassView). owned_view (record r { pass = p })) seen_more
      ∙ ap (λ (taken : List PlacedEntry). record (owned_view r) { taken = taken; told = lines_told (is_some r.held) r.threads.replies r.shown taken }) same_taken
