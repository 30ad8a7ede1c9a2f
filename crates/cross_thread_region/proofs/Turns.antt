-- What a call finds at its turn, and what a pass has seen after it.
use Rattle.std.proofs.Common.{◌≡◌, ℕ, ◌+◌, ◌%◌, ◌^◌, ◌<◌, true, List, [], ◌∷◌, ◌++◌, length, Option, Some, None, inl, inr, refl, sym, ap, ◌∙◌, arith}
use Rattle.std.specs.List.{slice_get}
use Rattle.std.proofs.lemmas.List.{append-nil, length-append}
use Rattle.std.proofs.lemmas.List.Elements.{All-cons, All-nil}
use Rattle.gc_graph.specs.declared.region.Entry.{Entry}
use Rattle.gc_graph.specs.declared.region.Op.{Op}
use Rattle.gc_graph.specs.declared.region.Op.TheVariants as O
use Rattle.gc_graph.specs.declared.region.Reply.{Reply}
use Rattle.gc_graph.specs.declared.region.Reply.TheVariants as R
use Rattle.gc_graph.specs.History.{node_of, region_slot, reply_of, reply_with}
use Rattle.gc_graph.specs.State.{RegionSlot}
use Rattle.region_lock.specs.Passes.{MayBeGiven}
use Rattle.cross_thread_region.specs.declared.chronicle.PlacedEntry.{PlacedEntry}
use Rattle.cross_thread_region.specs.Calls.{Continues, Finds, PassView, named}
use Rattle.cross_thread_region.specs.Contents.{ChronicleView, MayAdd, placed_entry}
use Rattle.cross_thread_region.specs.Histories.{entries_of, is_started, slots_of}
use Rattle.cross_thread_region.specs.NextEntries.{started_next}
use Rattle.cross_thread_region.specs.NextReads.{entry_within}
use Rattle.cross_thread_region.specs.OrdersStay.{rest_orders, started_on}

-- a collection that the first pass has seen started is not over, since others only do orders
pub still_started : (pass : PassView) (history : List PlacedEntry) → pass.number ≡ 0 → Finds pass history → is_started pass.seen ≡ true → is_started history ≡ true
still_started pass history first finds started =
    ap is_started finds.goes_on.all
    ∙ started_on pass.seen finds.goes_on.rest (rest_orders pass history finds.goes_on first finds.right)
    ∙ started

-- a start was entered
pub start_entered : (old new : ChronicleView) (thread : ℕ) (reply : Reply) → MayAdd old thread O.Start 0 reply new → reply ≡ R.Done → is_started new.history ≡ true
start_entered old new thread reply added done = elim added [
  | inl refused ↦ absurd (cc (refused.0, done))
  | inr a ↦ ap (λ (v : ChronicleView). is_started v.history) a.after ∙ started_next old.history (placed_entry thread O.Start reply 0)
]

-- an entry that was seen is the same in the history found
pub seen_entry : (pass : PassView) (history : List PlacedEntry) (i : ℕ) (entry : Entry) → Continues pass history → i < length pass.seen
    → slice_get (entries_of history) i ≡ Some entry → slice_get (entries_of pass.seen) i ≡ Some entry
seen_entry pass history i entry found low at =
    sym (entry_within pass.seen found.rest i low) ∙ sym (ap (λ h. slice_get (entries_of h) i) found.all) ∙ at

-- a region of one thread has memory
always_answers : (region : List RegionSlot) (op : Op) → reply_of region op ≡ R.NoMemory → ⊥
always_answers region (O.Export x n) is = cc
always_answers region (O.Import x) is = read_answers (node_of (region_slot region x)) is where
  read_answers : (node : Option ℕ) → reply_with node ≡ R.NoMemory → ⊥
  read_answers None is = cc
  read_answers (Some n) is = cc
always_answers region O.Start is = cc
always_answers region (O.Pause cleared) is = cc
always_answers region (O.Copy x y) is = cc
always_answers region (O.Clear x) is = cc
always_answers region (O.Weaken x) is = cc
always_answers region (O.Upgrade x y) is = read_answers (node_of (region_slot region x)) is where
  read_answers : (node : Option ℕ) → reply_with node ≡ R.NoMemory → ⊥
  read_answers None is = cc
  read_answers (Some n) is = cc

-- a turn in which nothing was entered is ended, or one with an entry of its pass
module _ (mid : PassView) (op : Op) (place : ℕ) (reply : Reply) (ticket count : ℕ) (before after : ChronicleView)
    (turn : mid.turn ≡ Some (ticket, before.history)) (added : MayAdd before mid.number op place reply after) where
  pub none_given : reply ≡ R.NoMemory → count ≡ length before.history % 2 ^ 64
      → MayBeGiven (λ (c : ChronicleView). c.history) named mid (record { value = after; ticket = ticket; count = count })
  none_given none counted = elim added [
    | inl refused ↦
        let same : after.history ≡ before.history = ap (λ (c : ChronicleView). c.history) refused.1 in record {
          found = before.history;
          turn = turn;
          new = [];
          all = same ∙ sym (append-nil before.history);
          own = All-nil (λ (p : PlacedEntry). named p ≡ mid.number);
          counted = counted ∙ ap (λ (h : List PlacedEntry). length h % 2 ^ 64) (sym same);
        }
    | inr is ↦ absurd (always_answers (slots_of before.history) op (sym is.reply_is ∙ none))
  ]

  pub one_given : (reply ≡ R.NoMemory → ⊥) → count ≡ length before.history % 2 ^ 64
      → MayBeGiven (λ (c : ChronicleView). c.history) named mid (record { value = after; ticket = ticket; count = (count + 1) % 2 ^ 64 })
  one_given some counted = elim added [
    | inl refused ↦ absurd (some refused.0)
    | inr is ↦
        let placed : PlacedEntry = placed_entry mid.number op reply place in
        let grown : after.history ≡ before.history ++ placed ∷ [] = ap (λ (c : ChronicleView). c.history) is.after in record {
          found = before.history;
          turn = turn;
          new = placed ∷ [];
          all = grown;
          own = All-cons (λ (p : PlacedEntry). named p ≡ mid.number) placed [] refl (All-nil (λ (p : PlacedEntry). named p ≡ mid.number));
          counted = omega (arith, counted, ap length grown, length-append before.history (placed ∷ []));
        }
  ]
