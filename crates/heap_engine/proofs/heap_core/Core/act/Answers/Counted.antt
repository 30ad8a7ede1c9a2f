-- A command, once it is counted: what the heap then is, and what is owed of it.
use Rattle.std.proofs.Common.{◌≡◌, ℕ, ◌-◌, ◌^◌, ◌<◌, ◌≤◌, true, false, [], ◌∷◌, ◌++◌, Option, Some, IfSome, length, drop, map, refl, sym, ap, ◌∙◌, subst, inl, inr, arith, ◌+◌, List}
use Rattle.std.specs.List.{Contains}
use Rattle.std.proofs.lemmas.List.{length-append}
use Rattle.gc_graph.specs.declared.command.Command.{Command}
use Rattle.gc_graph.specs.declared.line.Line.{Line}
use Rattle.gc_graph.specs.declared.phase.Phase.{Phase}
use Rattle.gc_graph.specs.Graph.{IsWithin}
use Rattle.gc_graph.specs.Outcomes.{answered}
use Rattle.gc_graph.specs.Reach.{HoldsAll}
use Rattle.gc_graph.specs.State.{Setup, slot_targets, strong_region_targets}
use Rattle.gc_graph.specs.Step.{Step}
use Rattle.gc_graph.specs.ThreadLaw.{IsCounted}
use Rattle.gc_graph.specs.Valid.{IsValid}
use Rattle.cross_thread_region.specs.Histories.{entries_of}
use Rattle.marker_core.specs.Bodies.{holds}
use Rattle.heap_cycle.specs.PlacesInWords.{kept_of}
use Rattle.heap_cycle.specs.Crews.{IsIdleOrLong}
use Rattle.heap_cycle.specs.Objects.{HaveCallbacks, refusals_told_of}
use Rattle.heap_cycle.specs.Owned.{piece_of}
use Rattle.heap_cycle.specs.Refused.{RefusalsTold}
use Rattle.heap_cycle.specs.declared.parts.Parts.{Parts}
use Rattle.heap_cycle.specs.Cycles.{AreSlotsMarked, HasNoRefusedPush}
use Rattle.heap_cycle.specs.Parts.{setup_of, state_of, counted, AreTied, IsManned, IsReady}
use Rattle.heap_cycle.specs.Printed.{TellsNode, IsOutcome, count_ran, lines_with, outcome_lines}
use Rattle.heap_cycle.specs.Region.{HasRegion}
use Rattle.heap_cycle.specs.Views.{CycleView}
use Rattle.heap_cycle.specs.Walks.{IsWalkToldIn}
use Rattle.heap_engine.specs.Ended.{last_line}
use Rattle.heap_engine.proofs.OutcomeLines.{ended_lines, walk_in_lines}
use Rattle.heap_engine.proofs.MarksTold.{all_traced, roots_marked, some_run, started_last, stepped_last, still_marking, was_marking, all_lent, items_dealt}
use Rattle.heap_engine.proofs.CommandsDone.{quiet}
use Rattle.heap_engine.proofs.LastLines.{last_plain, started_by, stepped_by}
use Rattle.heap_engine.proofs.ThreadsTold.{started_behind, stepped_behind, walk_behind}
use Rattle.heap_engine.proofs.TotalsTold.{last_stays, never_fall, posted_after, posted_is, tell_one}
use Rattle.heap_engine.specs.Going.{ArePublished, TellOneOf, published, since_after, totals_of}
use Rattle.thread_queues.specs.Going.{TellSomeOf}
use Rattle.thread_queues.specs.Queues.{posted}
use Rattle.thread_queues.specs.Totals.{Totals}
use Rattle.heap_engine.specs.Acted.{IsActed}
use Rattle.heap_engine.specs.CarriedOut.{IsCarriedOut}
use Rattle.heap_engine.specs.Sound.{view_of}
use Rattle.heap_engine.proofs.RegionAlone.{made_behind}
use Rattle.gc_graph.specs.declared.command.Command.TheVariants as C
use Rattle.gc_graph.specs.declared.line.Line.TheVariants as L
use Rattle.heap_engine.proofs.heap_core.Core.act.Given as given
use Rattle.heap_engine.proofs.heap_core.Core.act.Goals as goal

-- what a step that is done found, between the parts
pub record FindsAll (old new : Parts) : Type 0 where
  pub alone :
      old.objects.grey.markers ≡ 0 → HasNoRefusedPush (refusals_told_of new.objects)
      → IsWithin (kept_of (holds new.objects.seat.marked) new.objects.nodes) (kept_of (holds new.objects.seat.traced) new.objects.nodes)
  pub beside : 0 < old.objects.grey.markers → IsIdleOrLong old.objects.grey new.objects.grey

-- the region belongs to the parts also once the command is counted
region_counted : (s : Parts) → HasRegion s → HasRegion (counted s)
region_counted s region = record { opened = region.opened; placed = region.placed; started = region.started }

-- and the parts stay tied when totals are published
tied_published : (s : Parts) → AreTied s → AreTied (published s)
tied_published s tied = record {
  slots = tied.slots;
  weak = tied.weak;
  stack = tied.stack;
  registered = tied.registered;
  weakly = tied.weakly;
  sweep = tied.sweep;
  marks = tied.marks;
  traced = tied.traced;
  made = tied.made;
}

module _
    (d : given.Over) (c : goal.After-count_command d)
    (is : IsCarriedOut c.args.command.now (quiet c.self.inside.parts) c.run.new.parts c.begin.new.self c.run.new.outcome) where
  -- the heap isn't closed
  pub opened : c.self.inside.closed ≡ false
  opened = rw (← c.self.view_is) at c.requires.opened

  few : c.self.inside.parts.cycle.rest.ordinal < 2 ^ 64 - 1
  few = rw (← c.self.view_is) at c.requires.few

  -- the step that the command is
  step :
      Step (setup_of c.self.inside.parts) (state_of c.self.inside.parts) c.args.command.now (piece_of c.self.inside.parts.region c.run.new.parts.region)
      (c.run.new.parts.region.told ++ outcome_lines c.run.new.outcome c.run.new.parts.cycle.ran) (answered (state_of c.run.new.parts))
  step = is.step

  -- where the region tells no lines, the outcome does all
  step_alone : c.run.new.parts.region.told ≡ []
      → Step (setup_of c.self.inside.parts) (state_of c.self.inside.parts) c.args.command.now (piece_of c.self.inside.parts.region c.run.new.parts.region)
      (lines_with c.run.new.outcome c.run.new.parts.cycle.ran (last_line c.run.new.outcome)) (answered (state_of c.run.new.parts))
  step_alone none =
      subst (λ ls. Step (setup_of c.self.inside.parts) (state_of c.self.inside.parts) c.args.command.now (piece_of c.self.inside.parts.region c.run.new.parts.region) ls
      (answered (state_of c.run.new.parts)))
      (ap (λ told. told ++ outcome_lines c.run.new.outcome c.run.new.parts.cycle.ran) none ∙ ended_lines c.run.new.outcome c.run.new.parts.cycle.ran is.ended) step

  -- and it tells some where a join ends the outcome alone
  told_none : (line : Line) → last_line c.run.new.outcome ≡ line → ((n : ℕ) → L.Joined n ≡ line → ⊥) → c.run.new.parts.region.told ≡ []
  told_none line last other = elim is.region.joined [
    | inl none ↦ none
    | inr join ↦ (let same : Some (L.Joined join.count) ≡ Some line = sym join.last ∙ is.ended ∙ ap Some last in absurd (other join.count (let e : L.Joined join.count ≡ line = cc in e)))
  ]

  -- the outcome is one of a command
  pub told : IsOutcome c.run.new.outcome c.count_command.new.self.ran
  told = record {
    ran_some = λ runs. omega (arith, is.ran runs, ap (λ (k : CycleView). count_ran k.ran) c.count_command.ensures);
    last_plain = elim is.region.joined [
      | inl none ↦ subst (λ (last : Option Line). IfSome last (λ l. TellsNode l → ⊥)) (sym is.ended)
          (last_plain c.commands_are_answered_in_kind.ensures (setup_of c.self.inside.parts) (state_of c.self.inside.parts) c.args.command.now
          (piece_of c.self.inside.parts.region c.run.new.parts.region) c.run.new.outcome c.run.new.parts.cycle.ran
          (last_line c.run.new.outcome) (answered (state_of c.run.new.parts)) (step_alone none))
      | inr join ↦ subst (λ (last : Option Line). IfSome last (λ l. TellsNode l → ⊥)) (sym join.last) (λ node. node)
    ];
  }

  -- the parts are ready for the next command
  pub ready : IsReady (record c.run.new.parts { cycle = c.count_command.new.self })
  ready =
      let s : Parts = c.self.inside.parts in
      let was : IsReady s = c.self.invariant.ready opened in
      let valid : IsValid (setup_of s) (answered (state_of c.run.new.parts)) =
      c.step_keeps_valid.ensures (setup_of s) (state_of s) (answered (state_of c.run.new.parts)) c.args.command.now (piece_of s.region c.run.new.parts.region)
      (c.run.new.parts.region.told ++ outcome_lines c.run.new.outcome c.run.new.parts.cycle.ran) c.shape_is_valid.ensures.some
      (rw (← c.self.view_is) at c.requires.allowed) was.valid step in
      subst (λ (k : CycleView). IsReady (record c.run.new.parts { cycle = k })) (sym c.count_command.ensures) (record {
        valid = subst (λ u. IsValid u (answered (state_of c.run.new.parts))) (sym is.frame.setup) valid;
        called = subst (λ (u : Setup). HaveCallbacks (length u.callbacks) u.types) (sym is.frame.setup) was.called;
        tied = is.frame.tied;
      })

  -- and so few were counted that there can be a next one, or this was the last
  pub most : c.count_command.new.self.rest.ordinal ≤ 2 ^ 64 - 1
  most = omega (arith, ap (λ (k : CycleView). k.rest.ordinal) c.count_command.ensures, is.frame.ordinal, few)

  -- with the markers that ought to run
  pub manned : IsManned (record c.run.new.parts { cycle = c.count_command.new.self })
  manned =
      subst (λ (k : CycleView). IsManned (record c.run.new.parts { cycle = k })) (sym c.count_command.ensures) (is.frame.manned (c.self.invariant.manned opened))

  -- and the region is theirs
  pub region : HasRegion (record c.run.new.parts { cycle = c.count_command.new.self })
  region =
      subst (λ (k : CycleView). HasRegion (record c.run.new.parts { cycle = k })) (sym c.count_command.ensures) (region_counted c.run.new.parts is.region.region)

  -- the parts, once the command is counted
  parts_are : record c.run.new.parts { cycle = c.count_command.new.self } ≡ counted c.run.new.parts
  parts_are = ap (λ (k : CycleView). record c.run.new.parts { cycle = k }) c.count_command.ensures

  pub ordinal : c.count_command.new.self.rest.ordinal ≡ c.self.inside.parts.cycle.rest.ordinal + 1
  ordinal = ap (λ (p : Parts). p.cycle.rest.ordinal) parts_are ∙ is.frame.ordinal

  -- what is counted stays within bounds
  pub counts : IsCounted (state_of (record c.run.new.parts { cycle = c.count_command.new.self }))
  counts =
      subst (λ (k : CycleView). IsCounted (state_of (record c.run.new.parts { cycle = k }))) (sym c.count_command.ensures)
      (c.steps_count.ensures (setup_of c.self.inside.parts) (state_of c.self.inside.parts) c.args.command.now
      (piece_of c.self.inside.parts.region c.run.new.parts.region) (c.run.new.parts.region.told ++ outcome_lines c.run.new.outcome c.run.new.parts.cycle.ran)
      (answered (state_of c.run.new.parts)) step c.self.invariant.counted)

  -- what was published until now are the totals of the states since threads went
  pub posted_now : posted c.run.new.parts.region.since c.run.new.parts.region.last ≡ map totals_of c.after.result.value
  posted_now =
      posted_after c.args.command.now (state_of c.self.inside.parts) c.self.inside.since.value (record c.self.inside.parts.region { told = [] })
      c.run.new.parts.region is.region.board (record { last = c.self.invariant.board.last; before = c.self.invariant.board.before })
      ∙ ap (map totals_of) (sym c.after.ensures)

  -- those of the state that is to be published are later
  pub later : c.run.new.parts.region.last.ordinal < c.count_command.new.self.rest.ordinal
  later =
      omega (
        arith,
        ap (λ (t : Totals). t.ordinal)
            (last_stays c.args.command.now (record c.self.inside.parts.region { told = [] }) c.run.new.parts.region is.region.board ∙ c.self.invariant.board.last),
        ordinal,
      )

  -- the lines of the outcome are those of the command
  lines :
      lines_with c.run.new.outcome c.run.new.parts.cycle.ran (last_line c.run.new.outcome) ≡ outcome_lines c.run.new.outcome c.count_command.new.self.ran
  lines =
      sym (ended_lines c.run.new.outcome c.run.new.parts.cycle.ran is.ended)
      ∙ ap (λ (k : CycleView). outcome_lines c.run.new.outcome k.ran) (sym c.count_command.ensures)

  -- they tell of refusals what the command's line tells
  walks :
      IsWalkToldIn c.self.inside.parts.cycle.phase (refusals_told_of c.self.inside.parts.objects) (refusals_told_of c.run.new.parts.objects)
      (c.run.new.parts.region.told ++ outcome_lines c.run.new.outcome c.count_command.new.self.ran)
  walks =
      let phase : Phase = c.self.inside.parts.cycle.phase in
      let before : RefusalsTold = refusals_told_of c.self.inside.parts.objects in
      let after : RefusalsTold = refusals_told_of c.run.new.parts.objects in
      walk_behind phase before after c.run.new.parts.region.told (outcome_lines c.run.new.outcome c.count_command.new.self.ran) is.region.replies
      (subst (IsWalkToldIn phase before after) lines
      (walk_in_lines phase before after c.run.new.outcome c.run.new.parts.cycle.ran (last_line c.run.new.outcome) is.frame.refused))

  -- where they tell a start, what the strong slots name is marked, those of the region among them
  starts : Contains (c.run.new.parts.region.told ++ outcome_lines c.run.new.outcome c.count_command.new.self.ran) L.Started
      → HoldsAll (kept_of (holds c.run.new.parts.objects.seat.marked) c.run.new.parts.objects.nodes)
      (slot_targets c.run.new.parts.handles.slots ++ strong_region_targets (state_of c.run.new.parts).region)
  starts there =
      let s : Parts = c.run.new.parts in
      let last : last_line c.run.new.outcome ≡ L.Started =
      started_last c.run.new.outcome s.cycle.ran (last_line c.run.new.outcome) (subst (λ ls. Contains ls L.Started) (sym lines)
      (started_behind s.region.told (outcome_lines c.run.new.outcome c.count_command.new.self.ran) is.region.replies there)) in
      let command : c.args.command.now ≡ C.GcStart =
      started_by c.commands_are_answered_in_kind.ensures (setup_of c.self.inside.parts) (state_of c.self.inside.parts) c.args.command.now
      (piece_of c.self.inside.parts.region s.region) c.run.new.outcome s.cycle.ran (last_line c.run.new.outcome)
      (answered (state_of s)) (step_alone (told_none L.Started last (λ n same. cc))) last in
      roots_marked (counted s) is.frame.tied (subst (λ (p : Parts). IsReady p) parts_are ready).valid (region_counted s is.region.region) (marked_counted (is.marked command last))
    where
      marked_counted : AreSlotsMarked c.run.new.parts c.run.new.parts.region.taken → AreSlotsMarked (counted c.run.new.parts) c.run.new.parts.region.taken
      marked_counted marked = record { slots = marked.slots; shared = marked.shared }

  -- where they tell a step that is done, it is
  traces : (t : ℕ) → c.run.new.parts.region.told ++ outcome_lines c.run.new.outcome c.count_command.new.self.ran ≡ L.Step t true ∷ []
      → FindsAll c.self.inside.parts c.run.new.parts
  traces t alone =
      let s : Parts = c.run.new.parts in
      let old : Parts = c.self.inside.parts in
      let told : lines_with c.run.new.outcome s.cycle.ran (last_line c.run.new.outcome) ≡ L.Step t true ∷ [] =
      lines ∙ stepped_behind s.region.told (outcome_lines c.run.new.outcome c.count_command.new.self.ran) t true is.region.replies alone in
      let last : last_line c.run.new.outcome ≡ L.Step t true = stepped_last c.run.new.outcome s.cycle.ran (last_line c.run.new.outcome) t true told in
      let is_step = step_alone (told_none (L.Step t true) last (λ n same. cc)) in
      let command : (n : ℕ) × (c.args.command.now ≡ C.GcStep n) =
      stepped_by c.commands_are_answered_in_kind.ensures (setup_of old) (state_of old) c.args.command.now (piece_of old.region s.region) c.run.new.outcome s.cycle.ran
      (last_line c.run.new.outcome) (answered (state_of s)) is_step t true last in
      let step : Step (setup_of old) (state_of old) (C.GcStep command.0) (piece_of old.region s.region) (L.Step t true ∷ []) (answered (state_of s)) =
      subst (λ ls. Step (setup_of old) (state_of old) (C.GcStep command.0) (piece_of old.region s.region) ls (answered (state_of s))) told
      (subst (λ (k : Command). Step (setup_of old) (state_of old) k (piece_of old.region s.region) (lines_with c.run.new.outcome s.cycle.ran (last_line c.run.new.outcome)) (answered (state_of s)))
      command.1 is_step) in
      let found = is.done command.0 t command.1 last in
      record {
        alone = λ none unrefused.
            all_traced (counted s) is.frame.tied (still_marking (state_of old) command.0 t true (answered (state_of s)) step.1) (found.alone none) unrefused;
        beside = λ some.
            found.beside (some_run old (c.self.invariant.manned opened) (was_marking (state_of old) command.0 t true (answered (state_of s)) step.1) some);
      }

  -- what had been taken of the history
  before_is : c.history.result.value ≡ c.self.inside.parts.region.taken
  before_is = c.history.ensures

  -- the history goes on
  history_after :
      entries_of c.run.new.parts.region.taken
      ≡ entries_of c.self.inside.parts.region.taken ++ entries_of (drop (length c.history.result.value) c.run.new.parts.region.taken)
  history_after = rw before_is (made_behind c.self.inside.parts.region.taken c.run.new.parts.region.taken is.region.begins)

  -- a join tells totals of states since threads went, and none falls
  joins : c.args.command.now ≡ C.ThreadsJoin → map totals_of c.after.result.value ≡ map totals_of (c.self.inside.since.value ++ state_of c.self.inside.parts ∷ [])
  joins join = ap (map totals_of) (c.after.ensures ∙ ap (λ (k : Command). since_after k (state_of c.self.inside.parts) c.self.inside.since.value) join)

  join_tells : c.args.command.now ≡ C.ThreadsJoin
      → TellOneOf c.after.result.value (c.run.new.parts.region.told ++ outcome_lines c.run.new.outcome c.count_command.new.self.ran)
  join_tells join =
      tell_one c.run.new.parts.region.told c.run.new.outcome c.count_command.new.self.ran (is.region.of_join join) c.after.result.value
      (subst (λ (ts : List Totals). TellSomeOf ts c.run.new.parts.region.told)
      (posted_is c.self.inside.since.value (state_of c.self.inside.parts) c.self.inside.parts.region c.self.invariant.board ∙ sym (joins join)) is.region.totals)

  acted_counted : (count : ℕ)
      → count ≡ length c.run.new.parts.region.told + length (outcome_lines c.run.new.outcome c.count_command.new.self.ran)
      → IsActed (view_of c.self.inside) (view_of (record c.self.inside {
        parts = published (record c.run.new.parts { cycle = c.count_command.new.self });
        before = c.history.result;
        since = c.after.result;
        outcome = c.run.new.outcome;
      })) c.args.command.now count
  acted_counted count lines_are = record {
    step = rw (before_is, c.count_command.ensures) step;
    count = omega (
      arith,
      lines_are,
      length-append c.run.new.parts.region.told (outcome_lines c.run.new.outcome c.count_command.new.self.ran),
    );
    ordinal = ordinal;
    history = history_after;
    out = is.region.none_out;
    since = c.after.ensures;
    published = refl;
    totals = join_tells;
    fall = λ join.
        never_fall c.run.new.parts.region.told c.run.new.outcome c.count_command.new.self.ran (is.region.of_join join) is.region.fall;
    setup = ap setup_of parts_are ∙ is.frame.setup;
    closed = opened;
    walked = walks;
    started = starts;
    lent = λ marking. all_lent (record c.run.new.parts { cycle = c.count_command.new.self }) ready manned marking;
    items = λ marking some none p took.
        items_dealt (record c.run.new.parts { cycle = c.count_command.new.self }) ready manned c.seat_has_all_words.ensures marking some none p took;
    took = λ n step marking some. is.took n step (some_run c.self.inside.parts (c.self.invariant.manned opened) marking some);
    done = λ t told. (let found = traces t told in record { alone = found.alone; beside = found.beside });
  }

-- ---- the totals are published

module _
    (d : given.Over) (c : goal.After-count_command d)
    (is : IsCarriedOut c.args.command.now (quiet c.self.inside.parts) c.run.new.parts c.begin.new.self c.run.new.outcome) (now : Parts)
    (parts_now : now ≡ published (record c.run.new.parts { cycle = c.count_command.new.self })) where
  pub ready_now : IsReady now
  ready_now =
      let was = ready d c is in
      subst IsReady (sym parts_now)
      (record { valid = was.valid; called = was.called; tied = tied_published (record c.run.new.parts { cycle = c.count_command.new.self }) was.tied })

  pub most_now : now.cycle.rest.ordinal ≤ 2 ^ 64 - 1
  most_now = subst (λ (p : Parts). p.cycle.rest.ordinal ≤ 2 ^ 64 - 1) (sym parts_now) (most d c is)

  pub manned_now : IsManned now
  manned_now = subst IsManned (sym parts_now) (manned d c is)

  pub region_now : HasRegion now
  region_now =
      let was = region d c is in
      subst HasRegion (sym parts_now) (record { opened = was.opened; placed = was.placed; started = was.started })

  pub counts_now : IsCounted (state_of now)
  counts_now = subst (λ (p : Parts). IsCounted (state_of p)) (sym parts_now) (counts d c is)

  pub board_now : ArePublished c.after.result.value (state_of now) now.region
  board_now =
      subst (λ (p : Parts). ArePublished c.after.result.value (state_of p) p.region) (sym parts_now) (record { last = refl; before = posted_now d c is })

  pub told_now : IsOutcome c.run.new.outcome now.cycle.ran
  told_now = subst (λ (p : Parts). IsOutcome c.run.new.outcome p.cycle.ran) (sym parts_now) (told d c is)

  pub same_now : now.region.told ≡ c.run.new.parts.region.told
  same_now = ap (λ (p : Parts). p.region.told) parts_now

  pub none_out_now : now.region.awaiting ≡ false → now.region.out ≡ []
  none_out_now = subst (λ (p : Parts). p.region.awaiting ≡ false → p.region.out ≡ []) (sym parts_now) is.region.none_out

  pub acted : (count : ℕ) → count ≡ length now.region.told + length (outcome_lines c.run.new.outcome now.cycle.ran)
      → IsActed (view_of c.self.inside) (view_of (record c.self.inside {
        parts = now;
        before = c.history.result;
        since = c.after.result;
        outcome = c.run.new.outcome;
      })) c.args.command.now count
  acted count lines_are =
      let counted_before = lines_are ∙ ap (λ (p : Parts). length p.region.told + length (outcome_lines c.run.new.outcome p.cycle.ran)) parts_now in
      subst (λ (p : Parts). IsActed (view_of c.self.inside) (view_of (record c.self.inside {
        parts = p;
        before = c.history.result;
        since = c.after.result;
        outcome = c.run.new.outcome;
      })) c.args.command.now count) (sym parts_now) (acted_counted d c is count counted_before)
