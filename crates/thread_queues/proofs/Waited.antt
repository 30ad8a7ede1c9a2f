-- One of the threads was waited for: it has returned, and what came back is the same as what began.
use Rattle.std.proofs.Common.{◌≡◌, ℕ, ◌+◌, ◌<◌, List, ◌∷◌, ◌++◌, length, get_or, take, All, sym, ap, ◌∙◌, subst}
use Rattle.std.proofs.lemmas.List.Elements.{All-get_or}
use Rattle.cross_thread_region.specs.Calls.{PassView}
use Rattle.heap_stats.specs.Boards.{Rise}
use Rattle.heap_stats.specs.declared.totals.Totals.{Totals}
use Rattle.thread_queues.specs.Queues.{ThreadView, pass_begun, passes_of, posted}
use Rattle.thread_queues.specs.Runs.{IsAtWork, IsBack, IsLentThen, first_ordinal}
use Rattle.thread_queues.proofs.Away.{pass_among, passes_more}
use Rattle.thread_queues.proofs.Back.{AreSame, HasReturned, has_returned, same_next}
use Rattle.thread_queues.proofs.Posted.{split_at, first_at, first_since}

module _ (threads : List ThreadView) (i : ℕ) (old new : ThreadView) (since : List Totals) (last : Totals) (earlier published : List Totals) (passes now : List PassView)
    (within : i < length threads) (is : old ≡ get_or threads i old) (are : published ≡ earlier ++ posted since last) (rise : Rise published)
    (at_work : IsAtWork (i + 1) (get_or threads i old)) (all_lent : All (IsLentThen (first_ordinal since last)) threads) (back : IsBack old published passes now new) where
  work : IsAtWork (i + 1) old
  work = subst (IsAtWork (i + 1)) (sym is) at_work

  lent : IsLentThen (first_at since last).ordinal old
  lent = subst (λ n. IsLentThen n old) (first_since since last)
      (subst (IsLentThen (first_ordinal since last)) (sym is) (All-get_or (IsLentThen (first_ordinal since last)) threads i old within all_lent))

  split_so : published ≡ earlier ++ first_at since last ∷ (split_at since last).0
  split_so = are ∙ ap (λ (ts : List Totals). earlier ++ ts) (split_at since last).1

  -- it did its orders
  pub waited_for : HasReturned (i + 1) old.orders (passes_of threads) passes now (posted since last) new.replies
  waited_for = subst (λ (ts : List Totals). HasReturned (i + 1) old.orders (passes_of threads) passes now ts new.replies) (sym (split_at since last).1)
      (has_returned (i + 1) old new published earlier (split_at since last).0 (first_at since last) (passes_of threads) passes now split_so rise work lent back
      (λ own runs. pass_among threads i old own within (ap (λ (t : ThreadView). t.run) (sym is) ∙ runs)))

  -- and its pass came back
  pub same_still : AreSame (passes_of (take i threads)) passes → AreSame (passes_of (take (i + 1) threads)) now
  same_still same = subst (λ (ps : List PassView). AreSame ps now)
      (sym (passes_more threads i old within ∙ ap (λ (t : ThreadView). passes_of (take i threads) ++ pass_begun t.run) (sym is)))
      (same_next (i + 1) old new published earlier (split_at since last).0 (first_at since last) (passes_of threads) passes now split_so rise work lent back
      (passes_of (take i threads)) same)
