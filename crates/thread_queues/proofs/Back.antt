-- Threads that come back, one after the other.
use Rattle.std.proofs.Common.{◌≡◌, ◌≢◌, ◌⊎◌, ℕ, ◌+◌, ◌<◌, ◌≤◌, Bool, false, true, ltb, reverse, List, [], ◌∷◌, ◌++◌, length, map, All, Contains, Some, refl, sym, ap, ◌∙◌, subst, inl, inr, arith, cond, eqb}
use Rattle.std.specs.List.{flat_map, range_with_len}
use Rattle.std.proofs.lemmas.Bool.{cases_Bool, cases_eq, ltb-false, ltb-true, eq-eqb, ne_eqb}
use Rattle.std.proofs.lemmas.List.{append-nil, length-append, map_push, nil_from_length}
use Rattle.std.proofs.Math.ListN.{get_or-append}
use Rattle.std.proofs.lemmas.List.Elements.{All-push, All-contains, Contains-append_cases, Contains-append_left, Contains-push}
use Rattle.gc_graph.specs.declared.command.Order.{Order}
use Rattle.gc_graph.specs.declared.line.Line.{Line}
use Rattle.gc_graph.specs.declared.line.Line.TheVariants as L
use Rattle.gc_graph.specs.Lawful.{TotalsNeverFall}
use Rattle.gc_graph.specs.Members.{was_in, has_passed, in_range}
use Rattle.gc_graph.specs.RegionSteps.{Answer, HasDone, entries_by, reply_line}
use Rattle.cross_thread_region.specs.Histories.{entries_of}
use Rattle.cross_thread_region.specs.Calls.{RegionView, PassView, IsPassReady}
use Rattle.heap_stats.specs.Boards.{Rise}
use Rattle.heap_stats.specs.declared.totals.Totals.{Totals}
use Rattle.thread_queues.specs.Queues.{ThreadView, pass_begun, queue_in}
use Rattle.thread_queues.specs.Going.{AreBack, IsBackWith, TellSomeOf}
use Rattle.thread_queues.specs.Orders.{HasOut, totals_in}
use Rattle.thread_queues.specs.Runs.{HasEnded, IsAtWork, IsBack, IsLentThen}
use Rattle.thread_queues.specs.Falling.{both_fall_not, none_falls}
use Rattle.thread_queues.specs.declared.working.OwnPasses.{OwnPasses}
use Rattle.thread_queues.proofs.Answered.{never_older, told_in, told_since}
use Rattle.thread_queues.proofs.Threads.{has_orders, threads_to, flat_next}

-- ---- one thread

-- thread j came back, where it was away, with the last one of these passes; the replies tell its answers, and each of its totals is one
-- of these, and none is older than one before it
pub record HasReturned (j : ℕ) (orders : List Order) (starts old new : List PassView) (totals : List Totals) (replies : List Line) : Type 0 where
  pub kept : (p : PassView) → Contains old p → Contains new p
  pub answers : List Answer
  pub none : orders ≡ [] → answers ≡ []
  pub done : 0 < length orders → IsBackWith starts new j orders answers
  pub replies_are : replies ≡ map (reply_line j) answers
  pub told : TellSomeOf totals replies
  pub fall : TotalsNeverFall replies

-- passes that came back are the same as those that began: their numbers are, and calls may be made with them
pub record AreSame (starts ends : List PassView) : Type 0 where
  pub numbers : map (λ (p : PassView). p.number) ends ≡ map (λ (p : PassView). p.number) starts
  pub ready : (region : RegionView) → All (IsPassReady region) starts → All (IsPassReady region) ends
  pub others : All (λ (p : PassView). p.number ≢ 0) starts → All (λ (p : PassView). p.number ≢ 0) ends

pub same_none : AreSame [] []
same_none = record { numbers = refl; ready = λ region all. all; others = λ all. all }

-- so what was out when they began is out
pub same_out : (region : RegionView) (pass : PassView) (starts ends : List PassView) → AreSame starts ends → HasOut region pass starts → HasOut region pass ends
same_out region pass starts ends same o = record {
  ready = same.ready region o.ready;
  others = same.others o.others;
  numbers = o.numbers ∙ ap reverse (sym same.numbers);
  once = o.once;
}

first_half : (P : PassView → Type 0) (xs ys : List PassView) → All P (xs ++ ys) → All P xs
first_half P xs ys all i d low = subst P (get_or-append xs ys d i low) (all i d (omega (arith, low, length-append xs ys)))

module _ (j : ℕ) (old new : ThreadView) (published before since : List Totals) (first : Totals) (starts passes now : List PassView)
    (is : published ≡ before ++ first ∷ since) (rise : Rise published) (work : IsAtWork j old) (lent : IsLentThen first.ordinal old)
    (back : IsBack old published passes now new) where
  empty_back : length old.orders ≡ 0 → (now ≡ passes) × (new.replies ≡ [])
  empty_back empty = let idle = work.idle empty in let same = back.idle idle.0 in (same.0, same.1 ∙ idle.1)

  ended : (full : 0 < length old.orders) → HasEnded (work.busy full).0 old.orders published passes now new.replies
  ended full = let busy = work.busy full in back.away busy.0 busy.1

  -- a thread without orders
  returned_without : length old.orders ≡ 0 → HasReturned j old.orders starts passes now (first ∷ since) new.replies
  returned_without empty = let e = empty_back empty in record {
    kept = λ p there. subst (λ ps. Contains ps p) (sym e.0) there;
    answers = [];
    none = λ _. refl;
    done = λ full. absurd (omega (arith, full, empty));
    replies_are = e.1;
    told = λ k o n u f there. absurd (omega (arith, (subst (λ ls. Contains ls (L.ReplyTotals k o n u f)) e.1 there).1));
    fall = subst TotalsNeverFall (sym e.1) (none_falls [] (λ k o n u f there. absurd (omega (arith, there.1))));
  }

  -- and one with orders
  returned_with : (full : 0 < length old.orders) → Contains starts (work.busy full).0.region → HasReturned j old.orders starts passes now (first ∷ since) new.replies
  returned_with full among =
      let busy = work.busy full in
      let h = ended full in
      let number : busy.0.region.number ≡ j = busy.2 in
      let replies : new.replies ≡ map (reply_line j) h.answers = h.replies_are ∙ ap (λ n. map (reply_line n) h.answers) number in record {
        kept = λ p there. subst (λ ps. Contains ps p) (sym h.passes) (Contains-append_left passes (h.pass ∷ []) p there);
        answers = h.answers;
        none = λ empty. absurd (omega (arith, full, ap length empty));
        done = λ _. record {
          start = busy.0.region;
          began = among;
          number_is = number;
          done = record {
            pass = h.pass;
            among = subst (λ ps. Contains ps h.pass) (sym h.passes) (Contains-push passes h.pass);
            number_is = h.number ∙ number;
            made = h.made;
            seen = h.seen;
            done = subst (λ n. HasDone n old.orders h.answers (entries_by n (entries_of h.made))) number h.done;
          };
        };
        replies_are = replies;
        told = λ k o n u f there.
            told_since published before since first j h.answers is rise h.published_before
            (subst (λ n. All (λ (t : Totals). n ≤ t.ordinal) (totals_in h.answers)) (lent busy.0 busy.1) h.later)
            k o n u f (subst (λ ls. Contains ls (L.ReplyTotals k o n u f)) replies there);
        fall = subst TotalsNeverFall (sym replies) (never_older j h.answers h.order);
      }

  -- a thread that was waited for has returned
  pub has_returned : ((own : OwnPasses) → old.run ≡ Some own → Contains starts own.region) → HasReturned j old.orders starts passes now (first ∷ since) new.replies
  has_returned among = elim (cases_Bool (has_some old.orders)) [
    | inl has ↦ let full = ltb-true 0 (length old.orders) has in returned_with full (let busy = work.busy full in among busy.0 busy.1)
    | inr not ↦ returned_without (omega (arith, ltb-false 0 (length old.orders) not))
  ]
    where
      has_some : List Order → Bool
      has_some orders = ltb 0 (length orders)

  -- with the same passes as it began with
  pub same_next : (begun : List PassView) → AreSame begun passes → AreSame (begun ++ pass_begun old.run) now
  same_next begun same = elim (cases_Bool (ltb 0 (length old.orders))) [
    | inl has ↦ let full = ltb-true 0 (length old.orders) has in with_one full
    | inr not ↦ let empty : length old.orders ≡ 0 = omega (arith, ltb-false 0 (length old.orders) not) in
        subst (AreSame (begun ++ pass_begun old.run)) (sym (empty_back empty).0)
        (subst (λ ps. AreSame ps passes) (sym (ap (λ r. begun ++ pass_begun r) (work.idle empty).0 ∙ append-nil begun)) same)
  ]
    where
      with_one : 0 < length old.orders → AreSame (begun ++ pass_begun old.run) now
      with_one full =
          let busy = work.busy full in
          let h = ended full in
          let own : PassView = busy.0.region in
          subst (AreSame (begun ++ pass_begun old.run)) (sym h.passes)
          (subst (λ ps. AreSame ps (passes ++ h.pass ∷ [])) (sym (ap (λ r. begun ++ pass_begun r) busy.1))
          (record {
            numbers =
                map_push (λ (p : PassView). p.number) passes h.pass ∙ ap (λ ns. ns ++ h.pass.number ∷ []) same.numbers
                ∙ ap (λ n. map (λ (p : PassView). p.number) begun ++ n ∷ []) h.number ∙ sym (map_push (λ (p : PassView). p.number) begun own);
            ready = λ region all.
                All-push (IsPassReady region) passes h.pass (same.ready region (first_half (IsPassReady region) begun (own ∷ []) all))
                (let r : IsPassReady region own = All-contains (IsPassReady region) (begun ++ own ∷ []) own all (Contains-push begun own) in
                record { lock = h.lock ∙ r.lock; free = h.free });
            others = λ all.
                All-push (λ (p : PassView). p.number ≢ 0) passes h.pass
                (same.others (first_half (λ (p : PassView). p.number ≢ 0) begun (own ∷ []) all))
                (λ zero. All-contains (λ (p : PassView). p.number ≢ 0) (begun ++ own ∷ []) own all (Contains-push begun own) (sym h.number ∙ zero));
          }))

-- ---- all of them

-- the first i threads came back
pub record AreBackTo (queues : List (List Order)) (i : ℕ) (starts ends : List PassView) (totals : List Totals) (replies : List Line) : Type 0 where
  pub answers : ℕ → List Answer
  pub done : (j : ℕ) → j ≤ i → 1 ≤ j → has_orders queues j ≡ true → IsBackWith starts ends j (queue_in queues j) (answers j)
  pub replies_are : replies ≡ flat_map (λ j. map (reply_line j) (answers j)) (threads_to queues i)
  pub told : TellSomeOf totals replies
  pub fall : TotalsNeverFall replies
  pub low : (k o n u f : ℕ) → Contains replies (L.ReplyTotals k o n u f) → k ≤ i

-- none was away
pub back_none : (queues : List (List Order)) (starts : List PassView) (totals : List Totals) (replies : List Line) → replies ≡ []
    → AreBackTo queues 0 starts [] totals replies
back_none queues starts totals replies e =
    let none : (k o n u f : ℕ) → Contains replies (L.ReplyTotals k o n u f) → ⊥ =
    λ k o n u f there. absurd (omega (arith, (subst (λ ls. Contains ls (L.ReplyTotals k o n u f)) e there).1)) in record {
      answers = λ j. [];
      done = λ j h l has. absurd (omega (arith, l, h));
      replies_are = e;
      told = λ k o n u f there. absurd (none k o n u f there);
      fall = none_falls replies none;
      low = λ k o n u f there. absurd (none k o n u f there);
    }

module _ (queues : List (List Order)) (i : ℕ) (starts old now : List PassView) (totals : List Totals) (mid own new : List Line)
    (g : AreBackTo queues i starts old totals mid) (t : HasReturned (i + 1) (queue_in queues (i + 1)) starts old now totals own) (grows : new ≡ mid ++ own) where
  -- the answers to each thread, with the next one's
  abbrev next_answers : ℕ → List Answer
  next_answers k = cond (eqb k (i + 1)) t.answers (g.answers k)

  answers_here : next_answers (i + 1) ≡ t.answers
  answers_here = ap (λ d. cond d t.answers (g.answers (i + 1))) (eq-eqb (i + 1) (i + 1) refl)

  answers_before : (k : ℕ) → k < i + 1 → next_answers k ≡ g.answers k
  answers_before k l = ap (λ d. cond d t.answers (g.answers k)) (ne_eqb k (i + 1) (λ e. omega (arith, l, e)))

  queue_none : has_orders queues (i + 1) ≡ false → queue_in queues (i + 1) ≡ []
  queue_none empty = nil_from_length (queue_in queues (i + 1)) (omega (arith, ltb-false 0 (length (queue_in queues (i + 1))) empty))

  next_done : (j : ℕ) → j ≤ i + 1 → 1 ≤ j → has_orders queues j ≡ true → IsBackWith starts now j (queue_in queues j) (next_answers j)
  next_done j h l has = elim (cases_eq j (i + 1)) [
    | inl here ↦
        subst (λ k. IsBackWith starts now k (queue_in queues k) (next_answers k)) (sym here)
        (subst (IsBackWith starts now (i + 1) (queue_in queues (i + 1))) (sym answers_here)
        (t.done (ltb-true 0 (length (queue_in queues (i + 1))) (subst (λ k. has_orders queues k ≡ true) here has))))
    | inr before ↦
        let low : j ≤ i = omega (arith, h, before) in
        subst (IsBackWith starts now j (queue_in queues j)) (sym (answers_before j (omega (arith, low))))
        (let d = g.done j low l has in record {
          start = d.start;
          began = d.began;
          number_is = d.number_is;
          done = record {
            pass = d.done.pass;
            among = t.kept d.done.pass d.done.among;
            number_is = d.done.number_is;
            made = d.done.made;
            seen = d.done.seen;
            done = d.done.done;
          };
        })
  ]

  next_replies : new ≡ flat_map (λ j. map (reply_line j) (next_answers j)) (threads_to queues (i + 1))
  next_replies =
      grows ∙ ap (λ l. mid ++ l) t.replies_are ∙ ap (λ l. l ++ map (reply_line (i + 1)) t.answers) g.replies_are
      ∙ ap (λ l. flat_map (λ j. map (reply_line j) (g.answers j)) (threads_to queues i) ++ map (reply_line (i + 1)) l) (sym answers_here)
      ∙ sym (flat_next queues (λ j. map (reply_line j) (g.answers j)) (λ j. map (reply_line j) (next_answers j)) i
      (λ k l. ap (map (reply_line k)) (answers_before k l))
      (λ empty. ap (map (reply_line (i + 1))) (answers_here ∙ t.none (queue_none empty))))

  -- a reply of totals is one of those before, or one of this thread's
  before_or_here : (k o n u f : ℕ) → Contains new (L.ReplyTotals k o n u f) → Contains mid (L.ReplyTotals k o n u f) ⊎ Contains own (L.ReplyTotals k o n u f)
  before_or_here k o n u f there = Contains-append_cases mid own (L.ReplyTotals k o n u f) (subst (λ ls. Contains ls (L.ReplyTotals k o n u f)) grows there)

  own_number : (k o n u f : ℕ) → Contains own (L.ReplyTotals k o n u f) → k ≡ i + 1
  own_number k o n u f there = (told_in (i + 1) k o n u f t.answers (subst (λ ls. Contains ls (L.ReplyTotals k o n u f)) t.replies_are there)).0

  -- the next thread came back too
  pub back_next : AreBackTo queues (i + 1) starts now totals new
  back_next = record {
    answers = next_answers;
    done = next_done;
    replies_are = next_replies;
    told = λ k o n u f there. elim (before_or_here k o n u f there) [
      | inl before ↦ g.told k o n u f before
      | inr here ↦ t.told k o n u f here
    ];
    fall =
        subst TotalsNeverFall (sym grows)
        (both_fall_not mid own g.fall t.fall
        (λ k o n u f o2 n2 u2 f2 here there. absurd (omega (arith, g.low k o n u f here, own_number k o2 n2 u2 f2 there))));
    low = λ k o n u f there. elim (before_or_here k o n u f there) [
      | inl before ↦ let l = g.low k o n u f before in omega (arith, l)
      | inr here ↦ let l = own_number k o n u f here in omega (arith, l)
    ];
  }

-- all threads did
pub back_all : (queues : List (List Order)) (i : ℕ) (starts ends : List PassView) (totals : List Totals) (replies : List Line)
    → AreBackTo queues i starts ends totals replies → i ≡ 8 → AreBack queues starts ends replies
back_all queues i starts ends totals replies h e = let g = subst (λ k. AreBackTo queues k starts ends totals replies) e h in record {
  answers = g.answers;
  done = λ j c. let r = in_range 1 8 j (was_in (has_orders queues) (range_with_len 1 8) j c) in
      g.done j (omega (arith, r.1)) r.0 (has_passed (has_orders queues) (range_with_len 1 8) j c);
  replies_are = g.replies_are;
}
