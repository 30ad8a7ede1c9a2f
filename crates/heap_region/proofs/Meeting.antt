-- The passes of threads are joined: the owner's has then seen what each thread has made of its orders.
use Rattle.std.proofs.Common.{◌≡◌, ℕ, ◌≤◌, Bool, true, false, cond, eqb, List, [], ◌∷◌, ◌++◌, length, take, drop, refl, sym, ap, ◌∙◌, subst, arith}
use Rattle.std.specs.List.{Contains}
use Rattle.std.proofs.lemmas.List.{append_assoc, drop-append-le, map-append, take-append-drop, take-append-le}
use Rattle.gc_graph.specs.declared.line.Line.{Line}
use Rattle.gc_graph.specs.RegionSteps.{Answer, HasDone, entries_by}
use Rattle.cross_thread_region.specs.declared.chronicle.PlacedEntry.{PlacedEntry}
use Rattle.cross_thread_region.specs.Calls.{named}
use Rattle.cross_thread_region.specs.Histories.{entries_of}
use Rattle.cross_thread_region.specs.Own.{entries_naming}
use Rattle.thread_queues.specs.Going.{HasDoneWith, HaveMet, HaveReturned}
use Rattle.thread_queues.specs.Queues.{queue_in, threads_in}
use Rattle.heap_region.specs.declared.owned.OwnedRegion.TheInside.{Inside}
use Rattle.heap_region.specs.Inside.{HasBegunIn, HaveStarted, taken_of}
use Rattle.heap_region.specs.ThreadEntries.{entries_on, owners_by_none, thread_above}
use Rattle.heap_region.proofs.Beginnings.{same_behind}
use Rattle.heap_region.proofs.Begun.{done_first}
use Rattle.heap_region.proofs.Fields.{AreOwned}
use Rattle.heap_region.proofs.Found.{taken_len}

naming_by : (j : ℕ) (xs : List PlacedEntry) → entries_of (entries_naming named j xs) ≡ entries_by j (entries_of xs)
naming_by j [] = refl
naming_by j (x ∷ xs) = go (eqb x.entry.thread j) (naming_by j xs) where
  go : (b : Bool) → entries_of (entries_naming named j xs) ≡ entries_by j (entries_of xs)
      → entries_of (cond b (x ∷ entries_naming named j xs) (entries_naming named j xs)) ≡ cond b (x.entry ∷ entries_by j (entries_of xs)) (entries_by j (entries_of xs))
  go true rest = ap (λ es. x.entry ∷ es) rest
  go false rest = rest

-- the entries of a thread in two pieces
by_pieces : (j : ℕ) (xs ys : List PlacedEntry) → entries_by j (entries_of (xs ++ ys)) ≡ entries_by j (entries_of xs) ++ entries_by j (entries_of ys)
by_pieces j xs ys = ap (entries_by j) (map-append (λ (p : PlacedEntry). p.entry) xs ys) ∙ entries_on j (entries_of xs) (entries_of ys)

module _ (r : Inside) (owned : AreOwned r) (awaits : r.threads.awaiting ≡ true) (opened : r.closed ≡ false) (seen : List PlacedEntry)
    (replies : List Line) (returned : HaveReturned r.threads r.pass seen replies) where
  abbrev pub base : List PlacedEntry
  base = take r.printed r.pass.seen

  abbrev met : HaveMet returned.ends r.pass seen
  met = returned.met

  started : HaveStarted r.threads base
  started = owned.started awaits opened

  -- what each thread that runs was answered
  abbrev pub answers_of : ℕ → List Answer
  answers_of = returned.back.answers

  -- each has done its orders, with its entries behind what joins have told
  have_done : (j : ℕ) → Contains r.threads.running j → HasDoneWith returned.ends base j (queue_in r.threads.queues j) (answers_of j)
  have_done j runs =
      let there : Contains (threads_in r.threads.queues) j = subst (λ (js : List ℕ). Contains js j) started.all runs in
      let back = returned.back.done j there in
      let first = started.seen back.start back.began in
      let made = back.done.made in
      let by : entries_by j (entries_of (first.0 ++ made)) ≡ entries_by j (entries_of made) =
      by_pieces j first.0 made ∙ ap (λ es. es ++ entries_by j (entries_of made)) (owners_by_none j (entries_of first.0) (thread_above r.threads.queues j there) first.2) in
      record {
        pass = back.done.pass;
        among = back.done.among;
        number_is = back.done.number_is;
        made = first.0 ++ made;
        seen = back.done.seen ∙ ap (λ xs. xs ++ made) first.1 ∙ append_assoc base first.0 made;
        done = subst (HasDone j (queue_in r.threads.queues j) (answers_of j)) (sym by) back.done.done;
      }

  printed_few : r.printed ≤ length r.pass.seen
  printed_few = omega (arith, owned.printed_few, owned.few)

  pub base_stays : take r.printed seen ≡ base
  base_stays = ap (take r.printed) met.grown ∙ take-append-le r.printed r.pass.seen met.rest printed_few

  whole : seen ≡ base ++ drop r.printed seen
  whole = sym (take-append-drop r.printed seen) ∙ ap (λ b. b ++ drop r.printed seen) base_stays

  made_is : (j : ℕ) (p : HasDoneWith returned.ends base j (queue_in r.threads.queues j) (answers_of j))
      → entries_by j (entries_of (drop r.printed seen)) ≡ entries_by j (entries_of p.made)
  made_is j p =
      let all : entries_naming named j seen ≡ entries_naming named j p.pass.seen =
      subst (λ n. entries_naming named n seen ≡ entries_naming named n p.pass.seen) p.number_is (met.met p.pass p.among) in
      let both : entries_by j (entries_of seen) ≡ entries_by j (entries_of p.pass.seen) =
      sym (naming_by j seen) ∙ ap entries_of all ∙ naming_by j p.pass.seen in
      same_behind (entries_by j (entries_of base)) (entries_by j (entries_of (drop r.printed seen))) (entries_by j (entries_of p.made))
      (sym (by_pieces j base (drop r.printed seen)) ∙ ap (λ xs. entries_by j (entries_of xs)) (sym whole) ∙ both
      ∙ ap (λ xs. entries_by j (entries_of xs)) p.seen ∙ by_pieces j base p.made)

  -- each thread that runs has done its orders
  pub done_behind : (j : ℕ) → Contains r.threads.running j → HasDone j (queue_in r.threads.queues j) (answers_of j) (entries_by j (entries_of (drop r.printed seen)))
  done_behind j runs = subst (HasDone j (queue_in r.threads.queues j) (answers_of j)) (sym (made_is j (have_done j runs))) (have_done j runs).done

  -- and what was taken of its entries is of the first ones
  pub has_begun : (j : ℕ) → Contains r.threads.running j
      → HasBegunIn r.threads (entries_of (drop r.printed (taken_of r.pass r.taken))) j
  has_begun j runs =
      let taken : List PlacedEntry = taken_of r.pass r.taken in
      let ahead : List PlacedEntry = drop r.taken r.pass.seen ++ met.rest in
      let pieces : drop r.printed seen ≡ drop r.printed taken ++ ahead =
      ap (drop r.printed) (met.grown ∙ ap (λ xs. xs ++ met.rest) (sym (take-append-drop r.taken r.pass.seen))
      ∙ append_assoc taken (drop r.taken r.pass.seen) met.rest)
      ∙ drop-append-le r.printed taken ahead (omega (arith, owned.printed_few, taken_len r owned)) in
      done_first j (queue_in r.threads.queues j) (answers_of j) (entries_by j (entries_of (drop r.printed taken))) (entries_by j (entries_of ahead))
      (subst (HasDone j (queue_in r.threads.queues j) (answers_of j)) (ap (λ xs. entries_by j (entries_of xs)) pieces ∙ by_pieces j (drop r.printed taken) ahead)
      (done_behind j runs))
