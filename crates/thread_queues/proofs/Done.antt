-- The orders of one thread, one after the other.
use Rattle.std.proofs.Common.{◌≡◌, ◌<◌, ◌+◌, ℕ, List, [], ◌∷◌, ◌++◌, length, take, get_or, refl, sym, ap, ◌∙◌, subst}
use Rattle.std.proofs.lemmas.List.{append-nil, append_assoc, map-append, take_more}
use Rattle.gc_graph.specs.declared.command.Order.{Order}
use Rattle.gc_graph.specs.declared.line.Line.{Line}
use Rattle.gc_graph.specs.declared.region.Entry.{Entry}
use Rattle.gc_graph.specs.RegionSteps.{Answer, AnswersOrder, HasDone, entries_by, entry_of, op_of, reply_line}
use Rattle.cross_thread_region.specs.Histories.{entries_of}
use Rattle.heap_stats.specs.Boards.{ReaderView}
use Rattle.thread_queues.specs.declared.working.OwnPasses.{OwnPasses}
use Rattle.thread_queues.specs.Orders.{OrderDone, ThreadDone, IsReadOn, totals_in, totals_of}
use Rattle.thread_queues.proofs.Entries.{by_append}

done_next : (j : ℕ) (orders : List Order) (answers : List Answer) (entries : List Entry) (order : Order) (answer : Answer) → HasDone j orders answers entries
    → AnswersOrder (op_of order) answer → HasDone j (orders ++ order ∷ []) (answers ++ answer ∷ []) (entries ++ entry_of j (op_of order) answer)
done_next j [] [] entries order answer h a =
    ([], a, ap (λ l. l ++ entry_of j (op_of order) answer) h ∙ sym (append-nil (entry_of j (op_of order) answer)), refl)
done_next j (o ∷ orders) (b ∷ answers) entries order answer h a = (
  h.0 ++ entry_of j (op_of order) answer,
  h.1,
  ap (λ l. l ++ entry_of j (op_of order) answer) h.2 ∙ append_assoc (entry_of j (op_of o) b) h.0 (entry_of j (op_of order) answer),
  done_next j orders answers h.0 order answer h.3 a,
)
done_next j [] (b ∷ answers) entries order answer h a = absurd h
done_next j (o ∷ orders) [] entries order answer h a = absurd h

totals_push : (answers : List Answer) (answer : Answer) → totals_in (answers ++ answer ∷ []) ≡ totals_in answers ++ totals_of answer
totals_push [] answer = append-nil (totals_of answer)
totals_push (a ∷ answers) answer =
    ap (λ l. totals_of a ++ l) (totals_push answers answer) ∙ sym (append_assoc (totals_of a) (totals_in answers) (totals_of answer))

-- a thread has not begun
pub thread_none : (j : ℕ) (own : OwnPasses) (replies : List Line) → replies ≡ [] → ThreadDone j [] own own replies
thread_none j own replies e = record {
  made = [];
  seen = sym (append-nil own.region.seen);
  answers = [];
  done = refl;
  replies_are = e;
  read = sym (append-nil own.board.read);
}

-- a thread has done one more order
pub thread_next : (j : ℕ) (orders : List Order) (order : Order) (a b c : OwnPasses) (old new : List Line) (told : Line)
    → ThreadDone j orders a b old → OrderDone j order b c told → new ≡ old ++ told ∷ []
    → ThreadDone j (orders ++ order ∷ []) a c new
thread_next j orders order a b c old new told t o e = record {
  made = t.made ++ o.made;
  seen = o.seen ∙ ap (λ h. h ++ o.made) t.seen ∙ append_assoc a.region.seen t.made o.made;
  answers = t.answers ++ o.answer ∷ [];
  done =
      subst (HasDone j (orders ++ order ∷ []) (t.answers ++ o.answer ∷ []))
      (sym (by_append j t.made o.made ∙ ap (λ l. entries_by j (entries_of t.made) ++ l) o.entries))
      (done_next j orders t.answers (entries_by j (entries_of t.made)) order o.answer t.done o.answers_order);
  replies_are =
      e ∙ ap (λ l. old ++ l ∷ []) o.line_is ∙ ap (λ l. l ++ reply_line j o.answer ∷ []) t.replies_are
      ∙ sym (map-append (reply_line j) t.answers (o.answer ∷ []));
  read =
      o.read ∙ ap (λ l. l ++ totals_of o.answer) t.read ∙ append_assoc a.board.read (totals_in t.answers) (totals_of o.answer)
      ∙ ap (λ l. a.board.read ++ l) (sym (totals_push t.answers o.answer));
}

-- a thread has done the first i of its orders, and does the next
pub thread_goes_on : (j : ℕ) (orders : List Order) (i : ℕ) (order : Order) (a b c : OwnPasses) (old new : List Line) (told : Line)
    → i < length orders → order ≡ get_or orders i order
    → ThreadDone j (take i orders) a b old → OrderDone j order b c told → new ≡ old ++ told ∷ []
    → ThreadDone j (take (i + 1) orders) a c new
thread_goes_on j orders i order a b c old new told low e t o grown =
    subst (λ (l : List Order). ThreadDone j l a c new)
    (sym (take_more orders i order low ∙ ap (λ (o : Order). take i orders ++ o ∷ []) (sym e)))
    (thread_next j (take i orders) order a b c old new told t o grown)

-- a pass of the board that read more and more
pub reads_on : (a b c : ReaderView) → IsReadOn a b → IsReadOn b c → IsReadOn a c
reads_on a b c first second = record {
  rest = second.rest ∙ ap (λ (r : ReaderView). record r { seen = c.seen; read = c.read }) first.rest;
}

-- it is of the same board
pub board_stays : (a b : ReaderView) → IsReadOn a b → b.board ≡ a.board
board_stays a b on = ap (λ (r : ReaderView). r.board) on.rest
