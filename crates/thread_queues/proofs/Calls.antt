-- One order done by a call on the region.
use Rattle.std.proofs.Common.{◌≡◌, ◌≢◌, ℕ, List, [], ◌∷◌, ◌++◌, Option, Some, None, All, refl, sym, ap, ◌∙◌, subst, inl, inr}
use Rattle.std.proofs.lemmas.List.{append-nil, append_assoc}
use Rattle.gc_graph.specs.declared.command.Order.{Order}
use Rattle.gc_graph.specs.declared.command.Order.TheVariants as Q
use Rattle.gc_graph.specs.declared.line.Line.{Line}
use Rattle.gc_graph.specs.declared.line.Line.TheVariants as L
use Rattle.gc_graph.specs.declared.region.Op.{Op}
use Rattle.gc_graph.specs.declared.region.Op.TheVariants as O
use Rattle.gc_graph.specs.declared.region.Reply.{Reply}
use Rattle.gc_graph.specs.State.{RegionSlot}
use Rattle.gc_graph.specs.History.{node_of, region_slot, reply_of, reply_with}
use Rattle.gc_graph.specs.RegionSteps as S
use Rattle.gc_graph.specs.RegionSteps.{AnswersOrder, op_of}
use Rattle.gc_graph.specs.RegionSteps.Answer.{Replied, Told}
use Rattle.cross_thread_region.specs.declared.chronicle.PlacedEntry.{PlacedEntry}
use Rattle.cross_thread_region.specs.Histories.{slots_of}
use Rattle.cross_thread_region.specs.Calls.{RegionView, PassView, Continues, IsCallAnswered, IsCallRefused, IsEntered, named, placed_entry_of, seeing}
use Rattle.heap_stats.specs.Boards.{ReaderView, with_read}
use Rattle.heap_stats.specs.declared.totals.Totals.{Totals}
use Rattle.thread_queues.specs.declared.working.OwnPasses.{OwnPasses}
use Rattle.thread_queues.specs.Orders.{IsOwn, IsReadOn, OrderDone}
use Rattle.thread_queues.proofs.Entries.{none_by, last_by}

-- a call is answered by its entry, where memory isn't wanting
abbrev pub MakesEntry : ℕ → Op → Type 0
MakesEntry j op =
    (region : List RegionSlot) → S.entry_of j (Some op) (Replied (reply_of region op)) ≡ record { thread = j; op = op; reply = reply_of region op } ∷ []

read_entry : (j : ℕ) (op : Op) (read : Option ℕ)
    → S.entry_of j (Some op) (Replied (reply_with read)) ≡ record { thread = j; op = op; reply = reply_with read } ∷ []
read_entry j op None = refl
read_entry j op (Some n) = refl

pub copy_entry : (j x y : ℕ) → MakesEntry j (O.Copy x y)
copy_entry j x y region = refl

pub clear_entry : (j x : ℕ) → MakesEntry j (O.Clear x)
clear_entry j x region = refl

pub weaken_entry : (j x : ℕ) → MakesEntry j (O.Weaken x)
weaken_entry j x region = refl

pub upgrade_entry : (j x y : ℕ) → MakesEntry j (O.Upgrade x y)
upgrade_entry j x y region = read_entry j (O.Upgrade x y) (node_of (region_slot region x))

module _ (j : ℕ) (order : Order) (op : Op) (before after : OwnPasses) (reply : Reply) (line : Line) (is : op_of order ≡ Some op) (makes : MakesEntry j op)
    (number : before.region.number ≡ j) (same : after.board ≡ before.board) (tells : line ≡ L.Reply j reply) where
  -- what the pass had not seen is of others
  others_of : (history : List PlacedEntry) (goes_on : Continues before.region history) → All (λ (p : PlacedEntry). named p ≢ j) goes_on.rest
  others_of history goes_on = subst (λ n. All (λ (p : PlacedEntry). named p ≢ n) goes_on.rest) number goes_on.others

  none_read : after.board.read ≡ before.board.read ++ []
  none_read = ap (λ (b : ReaderView). b.read) same ∙ sym (append-nil before.board.read)

  refused : (history : List PlacedEntry) → Continues before.region history → IsCallRefused before.region history reply after.region
      → OrderDone j order before after line
  refused history goes_on r = record {
    made = goes_on.rest;
    seen = ap (λ (p : PassView). p.seen) r.pass ∙ goes_on.all;
    answer = Replied reply;
    answers_order = subst (λ o. AnswersOrder o (Replied reply)) (sym is) tt;
    entries =
        none_by j goes_on.rest (others_of history goes_on)
        ∙ sym (ap (λ o. S.entry_of j o (Replied reply)) is ∙ ap (λ a. S.entry_of j (Some op) (Replied a)) r.reply_is);
    line_is = tells;
    read = none_read;
  }

  entered : (history : List PlacedEntry) → Continues before.region history
      → IsEntered before.region history (placed_entry_of before.region.number history op 0) reply after.region
      → OrderDone j order before after line
  entered history goes_on e = let placed : PlacedEntry = placed_entry_of before.region.number history op 0 in record {
    made = goes_on.rest ++ placed ∷ [];
    seen =
        ap (λ (p : PassView). p.seen) e.pass ∙ ap (λ h. h ++ placed ∷ []) goes_on.all
        ∙ append_assoc before.region.seen goes_on.rest (placed ∷ []);
    answer = Replied reply;
    answers_order = subst (λ o. AnswersOrder o (Replied reply)) (sym is) tt;
    entries =
        last_by j goes_on.rest placed (others_of history goes_on) number
        ∙ ap (λ n. record { thread = n; op = op; reply = reply_of (slots_of history) op } ∷ []) number
        ∙ sym (ap (λ o. S.entry_of j o (Replied reply)) is ∙ ap (λ a. S.entry_of j (Some op) (Replied a)) e.reply_is ∙ makes (slots_of history));
    line_is = tells;
    read = none_read;
  }

  -- an order was done by its call
  pub order_called : IsCallAnswered before.region op 0 reply after.region → OrderDone j order before after line
  order_called call = elim call.answer [
    | inl r ↦ refused call.history call.finds.goes_on r
    | inr e ↦ entered call.history call.finds.goes_on e
  ]

-- the pass stays the thread's own
pub own_stays : (region : RegionView) (j : ℕ) (op : Op) (pass : PassView) (reply : Reply) (new : PassView) → IsOwn region pass j → IsCallAnswered pass op 0 reply new
    → IsOwn region new j
own_stays region j op pass reply new own call = elim call.answer [
  | inl r ↦ subst (λ (p : PassView). IsOwn region p j) (sym r.pass) (seeing_own call.history)
  | inr e ↦ subst (λ (p : PassView). IsOwn region p j) (sym e.pass) (seeing_own (call.history ++ placed_entry_of pass.number call.history op 0 ∷ []))
] where
  seeing_own : (history : List PlacedEntry) → IsOwn region (seeing pass history) j
  seeing_own history = record {
    ready = record { lock = own.ready.lock; free = own.ready.free };
    slots = own.slots;
    number_is = own.number_is;
  }

-- a pass of the board that reads nothing
pub reads_none : (old new : ReaderView) → new ≡ old → IsReadOn old new
reads_none old new same = record { rest = same ∙ ap (λ (b : ReaderView). record old { seen = b.seen; read = b.read }) (sym same) }

-- and one that reads
pub reads_one : (old new : ReaderView) (totals : Totals) → new ≡ with_read old totals → IsReadOn old new
reads_one old new totals is = record { rest = is ∙ ap (λ (b : ReaderView). record old { seen = b.seen; read = b.read }) (sym is) }

-- an order for totals was done by reading them
pub totals_told : (j : ℕ) (order : Order) (before after : OwnPasses) (totals : Totals) → order ≡ Q.Totals → after.region ≡ before.region
    → after.board ≡ with_read before.board totals
    → OrderDone j order before after (L.ReplyTotals j totals.ordinal totals.objects totals.used totals.finalised)
totals_told j order before after totals is same read = let op : op_of order ≡ None = ap op_of is in record {
  made = [];
  seen = ap (λ (p : PassView). p.seen) same ∙ sym (append-nil before.region.seen);
  answer = Told totals.ordinal totals.objects totals.used totals.finalised;
  answers_order = subst (λ o. AnswersOrder o (Told totals.ordinal totals.objects totals.used totals.finalised)) (sym op) tt;
  entries = sym (ap (λ o. S.entry_of j o (Told totals.ordinal totals.objects totals.used totals.finalised)) op);
  line_is = refl;
  read = ap (λ (b : ReaderView). b.read) read;
}
