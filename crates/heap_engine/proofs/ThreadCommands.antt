-- A join of threads is a step, and leaves the region to the parts.
use Rattle.std.proofs.Common.{◌≡◌, ℕ, false, All, List, [], ◌∷◌, ◌++◌, length, drop, take, map, Some, cond, eqb, inr, refl, sym, ap, ◌∙◌, subst}
use Rattle.std.proofs.Math.Seq.{drop-length, take-append_seam}
use Rattle.std.specs.List.{flat_map, list_any, range_with_len}
use Rattle.std.proofs.lemmas.Bool.{true≢false}
use Rattle.gc_graph.specs.declared.command.Command.TheVariants as C
use Rattle.gc_graph.specs.declared.line.Line.TheVariants as L
use Rattle.gc_graph.specs.declared.region.Entry.{Entry}
use Rattle.gc_graph.specs.CycleSteps.{is_marking}
use Rattle.gc_graph.specs.History.{IsLegalFrom}
use Rattle.gc_graph.specs.Outcomes.{AreOthers, answered, took}
use Rattle.gc_graph.specs.RegionSteps.{HasDone, StepThreadsJoin, entries_by, joined, queue_of, reply_line}
use Rattle.gc_graph.specs.State.{State}
use Rattle.cross_thread_region.specs.Histories.{entries_of, is_started, IsPlacedBy}
use Rattle.cross_thread_region.specs.OrdersStay.{placed_after, started_on}
use Rattle.heap_cycle.specs.Calls.{HasJoined}
use Rattle.heap_cycle.specs.Handled.{LooksAgain}
use Rattle.heap_cycle.specs.Nodes.{place_of}
use Rattle.heap_cycle.specs.Objects.{ObjectsView, setup_of_objects}
use Rattle.heap_cycle.specs.Owned.{OwnedView, IsToldLine, piece_of, untold_of}
use Rattle.heap_cycle.specs.declared.parts.Parts.{Parts}
use Rattle.heap_cycle.specs.Parts.{counted, state_of, AreTied, IsFrame}
use Rattle.heap_cycle.specs.Printed.{Printed}
use Rattle.heap_cycle.specs.Region.{HasRegion}
use Rattle.heap_cycle.specs.Ties.{manned_grey, tied_counted}
use Rattle.heap_cycle.specs.Took.{took_is}
use Rattle.heap_engine.specs.CarriedOut.{IsAsked, IsCarriedOut, IsOfJoin}
use Rattle.heap_engine.proofs.CommandsDone.{last_is, line_ends}
use Rattle.heap_engine.proofs.OutcomeLines.{ended_alone}
use Rattle.heap_engine.proofs.Taken.{orders_of, piece_taken, state_taken, tied_taken, taken_parts}
use Rattle.heap_engine.proofs.Tellings.{tells_kept}
use Rattle.heap_engine.proofs.ThreadsTold.{all_told}

-- ---- threads are joined

module _ (s : Parts) (begun o : Printed) (objects : ObjectsView) (r : OwnedView) (m : ℕ) (asked : IsAsked s begun) (is : HasJoined s.region r m)
    (looked : LooksAgain s.objects s.region r objects) (ended : o ≡ record begun { last = Some (L.Joined m) }) where
  abbrev es : List Entry
  es = entries_of is.others

  piece_is : piece_of s.region r ≡ es
  piece_is = piece_taken s objects r is.others is.taken is.found.told looked

  -- the region as it is with what was taken, and still with its threads
  abbrev still : OwnedView
  still = record s.region { taken = r.taken }

  state_is : state_of (taken_parts s objects r) ≡ joined (took (state_of s) (piece_of s.region r))
  state_is =
      let untold : untold_of r ≡ [] = ap (λ (v : OwnedView). entries_of (drop v.printed v.taken)) is.rest ∙ ap entries_of (drop-length r.taken) in
      let build : State → List Entry → State = λ t told. record t {
        queues = map (λ j. cond (list_any (λ k. eqb k j) s.region.running) [] (queue_of (state_of s) j)) (range_with_len 1 8);
        running = [];
        awaiting = false;
        unprinted = told;
      } in
      ap (λ (v : OwnedView). record (state_of (taken_parts s objects r)) { queues = v.queues; running = v.running; awaiting = v.awaiting }) is.rest
      ∙ ap (λ told. build (state_of (taken_parts s objects r)) told) untold
      ∙ ap (λ (t : State). build t []) (state_taken s objects still is.others is.taken is.found.told (record { others = looked.others; marks = looked.marks }) refl)
      ∙ ap (λ (t : State). build t []) (took_is (state_of s) (piece_of s.region r)) ∙ sym (ap joined (took_is (state_of s) (piece_of s.region r)))

  untold_is : (took (state_of s) (piece_of s.region r)).unprinted ≡ untold_of still
  untold_is = ap (λ (t : State). t.unprinted) (sym (state_taken s objects still is.others is.taken is.found.told (record { others = looked.others; marks = looked.marks }) refl))

  pub step_joined : StepThreadsJoin (state_of s) (piece_of s.region r) (r.told ++ L.Joined m ∷ []) (answered (state_of (taken_parts s objects r)))
  step_joined = record {
    others = subst (AreOthers (state_of s)) (sym piece_is) is.found.orders;
    legal = subst (IsLegalFrom (state_of s).region (is_marking s.cycle.phase)) (sym piece_is)
        (subst (λ started. IsLegalFrom (state_of s).region started es) asked.region.started is.found.legal);
    answers = is.answers;
    done = λ j runs. subst (λ l. HasDone j (queue_of (state_of s) j) (is.answers j) (entries_by j l)) (sym untold_is) (is.done j runs);
    lines_are = ap (λ l. l ++ L.Joined m ∷ []) is.told
        ∙ ap (λ l. flat_map (λ j. map (reply_line j) (is.answers j)) s.region.running ++ map (λ entry. L.Entry entry) l ++ L.Joined m ∷ []) (sym untold_is)
        ∙ ap (λ n. flat_map (λ j. map (reply_line j) (is.answers j)) s.region.running
        ++ map (λ entry. L.Entry entry) (took (state_of s) (piece_of s.region r)).unprinted ++ L.Joined n ∷ []) is.count_is;
    after = ap answered state_is;
  }

  new_region : HasRegion (taken_parts s objects r)
  new_region =
      let orders = orders_of s.region.running is.others is.found.orders in
      record {
        opened = ap (λ (v : OwnedView). v.closed) is.rest ∙ asked.region.opened;
        placed = λ x n named.
            subst (IsPlacedBy (place_of s.objects.nodes)) (sym is.taken)
            (placed_after s.objects.nodes (place_of s.objects.nodes) s.region.taken is.others asked.ready.valid.region asked.region.placed orders) x n named
            ∙ sym (ap (λ (v : ObjectsView). place_of v.nodes n) looked.others);
        started = ap is_started is.taken ∙ started_on s.region.taken is.others orders ∙ asked.region.started;
      }

  pub threads_joined : IsCarriedOut C.ThreadsJoin s (taken_parts s objects r) begun o
  threads_joined =
      let new : Parts = taken_parts s objects r in
      let tied : AreTied new = tied_taken s objects r is.others is.taken is.found.told looked asked.ready.tied in
      let grey : new.objects.grey ≡ s.objects.grey = ap (λ (v : ObjectsView). v.grey) looked.others in
      let of_join : IsOfJoin o = record {
        count = m;
        last = ap (λ (p : Printed). p.last) ended;
        numbers = ap (λ (p : Printed). p.numbers) ended ∙ asked.nothing.numbers;
        calm = ap (λ (p : Printed). p.calls_back) ended ∙ asked.nothing.calm;
      } in
      let frame : IsFrame s (counted new) (L.Joined m) = record {
        setup = ap setup_of_objects looked.others;
        ordinal = refl;
        tied = tied_counted new tied;
        manned = manned_grey s (counted new) asked.ready.tied (tied_counted new tied) grey;
        refused = tells_kept s.cycle.phase s.objects objects grey;
      } in
      record {
        ended = line_ends begun o (L.Joined m) ended;
        step = rw (ended_alone begun o s.cycle.ran (L.Joined m) ended asked.nothing.numbers asked.nothing.calm) step_joined;
        frame = subst (IsFrame s (counted new)) (sym (last_is begun o (L.Joined m) ended)) frame;
        region = record {
          region = new_region;
          begins = ap (take (length s.region.taken)) is.taken ∙ take-append_seam s.region.taken is.others;
          none_out = λ awaits. ap (λ (v : OwnedView). v.out) is.rest;
          board = (ap (λ (v : OwnedView). v.last) is.rest, ap (λ (v : OwnedView). v.since) is.rest);
          replies = subst (All IsToldLine) (sym is.told) (all_told is.answers s.region.running (untold_of still));
          joined = inr of_join;
          of_join = λ same. of_join;
          totals = is.totals;
          fall = is.fall;
        };
        ran = λ runs. absurd (true≢false (sym runs ∙ ap (λ (p : Printed). p.calls_back) ended ∙ asked.nothing.calm));
        marked = λ start told. cc;
        done = λ n t step told. cc;
        took = λ n step some. cc;
        room = ap (λ (p : Printed). p.room) ended;
      }
