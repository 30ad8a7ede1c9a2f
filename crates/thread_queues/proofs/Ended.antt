-- A thread that came back.
use Rattle.std.proofs.Common.{◌≡◌, ◌≤◌, List, [], ◌∷◌, ◌++◌, All, Contains, None, refl, sym, ap, ◌∙◌, subst}
use Rattle.std.proofs.lemmas.Option.{none-some, same_Some}
use Rattle.atomic_table.specs.Seated.{TableId}
use Rattle.cross_thread_region.specs.Calls.{PassView}
use Rattle.heap_stats.specs.Boards.{ReaderView, NeverFall}
use Rattle.heap_stats.specs.declared.totals.Totals.{Totals}
use Rattle.thread_queues.specs.declared.endings.Begun.{Begun}
use Rattle.thread_queues.specs.declared.endings.Ended.{Ended}
use Rattle.thread_queues.specs.Endings.{HasRun}
use Rattle.thread_queues.specs.Orders.{totals_in}
use Rattle.thread_queues.specs.Queues.{ThreadView}
use Rattle.thread_queues.specs.Runs.{HasEnded, IsBack, IsLentBy, away_with}

module _ (begun : Begun) (ended : Ended) (h : HasRun begun ended) (published : List Totals) (old new : List PassView) (none : begun.own.board.read ≡ [])
    (grows : new ≡ old ++ ended.own.region ∷ []) (within : All (Contains published) ended.own.board.read)
    (later : All (λ (t : Totals). ended.own.board.from ≤ t.ordinal) ended.own.board.read) (order : NeverFall ended.own.board.read) where
  -- what its pass of the board has read is what it was told
  read_is : ended.own.board.read ≡ totals_in h.done.answers
  read_is = h.done.read ∙ ap (λ l. l ++ totals_in h.done.answers) none

  from_is : ended.own.board.from ≡ begun.own.board.from
  from_is = ap (λ (b : ReaderView). b.from) h.board.rest

  has_ended : HasEnded begun.own begun.queue.orders published old new ended.queue.replies
  has_ended = record {
    pass = ended.own.region;
    passes = grows;
    lock = h.lock;
    free = h.free;
    number = h.number;
    made = h.done.made;
    seen = h.done.seen;
    answers = h.done.answers;
    done = h.done.done;
    replies_are = h.done.replies_are;
    published_before = subst (All (Contains published)) read_is within;
    later =
        subst (λ n. All (λ (t : Totals). n ≤ t.ordinal) (totals_in h.done.answers)) from_is
        (subst (All (λ (t : Totals). ended.own.board.from ≤ t.ordinal)) read_is later);
    order = subst NeverFall read_is order;
  }

  -- its orders and its replies are here
  pub is_back : IsBack (away_with begun) published old new (record { orders = ended.queue.orders; replies = ended.queue.replies; run = None })
  is_back = record {
    orders = h.orders;
    here = refl;
    idle = λ gone. absurd (none-some begun.own (sym gone));
    away = λ own is. subst (λ o. HasEnded o begun.queue.orders published old new ended.queue.replies) (same_Some begun.own own is) has_ended;
  }

-- a thread came back from its work
pub came_back : (begun : Begun) (ended last : Ended) (thread : ThreadView) (board : TableId) (published : List Totals) (old new : List PassView)
    → away_with begun ≡ thread → IsLentBy board thread → HasRun begun last → ended ≡ last → new ≡ old ++ ended.own.region ∷ []
    → All (Contains published) ended.own.board.read → All (λ (t : Totals). ended.own.board.from ≤ t.ordinal) ended.own.board.read
    → NeverFall ended.own.board.read
    → IsBack thread published old new (record { orders = ended.queue.orders; replies = ended.queue.replies; run = None })
came_back begun ended last thread board published old new is lent h same grows within later order =
    subst (λ (t : ThreadView). IsBack t published old new (record { orders = ended.queue.orders; replies = ended.queue.replies; run = None })) is
    (is_back begun ended (subst (HasRun begun) (sym same) h) published old new
    ((subst (IsLentBy board) (sym is) lent begun.own refl).1) grows within later order)
