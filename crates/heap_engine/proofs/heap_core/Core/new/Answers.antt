use Rattle.std.proofs.Common.{◌≡◌, ◌-◌, ◌^◌, ◌≤◌, ◌++◌, List, All, inl, length, sym, ap, ◌∙◌, subst, arith}
use Rattle.std.proofs.lemmas.Bool.{true≢false}
use Rattle.std.proofs.lemmas.List.Elements.{All-nil}
use Rattle.gc_graph.specs.State.{Shape, State}
use Rattle.heap_engine.specs.Going.{ArePublished}
use Rattle.callback_table.specs.Table.{callback_kinds}
use Rattle.marker_core.specs.Bodies.{holds}
use Rattle.cross_thread_region.specs.Histories.{entries_of}
use Rattle.heap_cycle.specs.Seat.{Heap}
use Rattle.heap_cycle.specs.PlacesInWords.{kept_of}
use Rattle.heap_cycle.specs.Objects.{refusals_told_of}
use Rattle.heap_cycle.specs.declared.parts.Parts.{Parts}
use Rattle.heap_cycle.specs.Parts.{state_of}
use Rattle.heap_cycle.specs.Printed.{Printed, IsOutcome, outcome_lines}
use Rattle.heap_cycle.specs.Owned.{IsToldLine}
use Rattle.heap_engine.proofs.HeapEmpty.{board_empty, counted_empty, empty_parts, manned_empty, parts_empty, ready_empty, refusals_empty, region_empty}
use Rattle.heap_engine.proofs.heap_core.Core.new.Given as given
use Rattle.heap_engine.proofs.heap_core.Core.new.Goals as goal

-- the parts are those of an empty heap
are_empty : (d : given.Over) (c : goal.After-no_states d)
    → (let parts : Parts = record { objects = c.in_ok-objects.objects; handles = c.in_ok-handles.handles; cycle = c.new-cycle.result; region = c.in_ok-region.region } in
    parts ≡ empty_parts c.in_ok-objects.objects.seat.heap (record { pages = c.args.config.pages; page_words = c.args.config.page_words }) c.args.config.markers c.args.types (callback_kinds c.args.callbacks.now))
are_empty d c =
    parts_empty (record { objects = c.in_ok-objects.objects; handles = c.in_ok-handles.handles; cycle = c.new-cycle.result; region = c.in_ok-region.region }) c.in_ok-objects.objects.seat.heap
    (record { pages = c.args.config.pages; page_words = c.args.config.page_words }) c.args.config.markers c.args.types (callback_kinds c.args.callbacks.now) c.in_ok-objects.ensures.view c.in_ok-handles.ensures
    c.new-cycle.ensures c.in_ok-region.ensures

pub invariant_of-result : goal.invariant_of-result
invariant_of-result d c =
    let shape : Shape = record { pages = c.args.config.pages; page_words = c.args.config.page_words } in
    let parts : Parts = record { objects = c.in_ok-objects.objects; handles = c.in_ok-handles.handles; cycle = c.new-cycle.result; region = c.in_ok-region.region } in
    let heap : Heap = c.in_ok-objects.objects.seat.heap in
    record {
      ready = λ opened. ready_empty parts heap shape c.args.config.markers c.args.types (callback_kinds c.args.callbacks.now) c.empty_is_valid.ensures c.requires.called (are_empty d c);
      manned = λ opened. manned_empty parts heap shape c.args.config.markers c.args.types (callback_kinds c.args.callbacks.now) (are_empty d c);
      joined_at_last = λ closed. absurd (true≢false (sym closed));
      most = subst (λ (s : Parts). s.cycle.rest.ordinal ≤ 2 ^ 64 - 1) (sym (are_empty d c)) (omega arith);
      made = subst (λ (s : Parts). length s.objects.nodes ≤ s.cycle.rest.ordinal) (sym (are_empty d c)) (omega arith);
      region = λ opened. region_empty parts heap shape c.args.config.markers c.args.types (callback_kinds c.args.callbacks.now) (are_empty d c);
      none_out = λ still. ap (λ (s : Parts). s.region.out) (are_empty d c);
      board =
          subst (λ (since : List State). ArePublished since (state_of parts) parts.region) (sym c.no_states.ensures)
          (board_empty parts heap shape c.args.config.markers c.args.types (callback_kinds c.args.callbacks.now) (are_empty d c));
      replies = subst (λ (s : Parts). All IsToldLine s.region.told) (sym (are_empty d c)) (All-nil IsToldLine);
      joined = inl (ap (λ (s : Parts). s.region.told) (are_empty d c));
      counted = counted_empty parts heap shape c.args.config.markers c.args.types (callback_kinds c.args.callbacks.now) (are_empty d c);
      untold = λ none.
          ap (λ (s : Parts). s.region.told ++ outcome_lines c.in_ok-outcome.outcome c.new-cycle.result.ran) (are_empty d c)
          ∙ ap (λ (o : Printed). outcome_lines o c.new-cycle.result.ran) c.in_ok-outcome.ensures;
      told = subst (λ (o : Printed). IsOutcome o c.new-cycle.result.ran) (sym c.in_ok-outcome.ensures) (record { ran_some = λ runs. cc; last_plain = tt });
      room = omega (arith, ap (λ (o : Printed). o.room) c.in_ok-outcome.ensures, c.word_count.ensures);
    }

-- they hold what an empty state has
pub returns-clause-state : goal.returns-clause-state
returns-clause-state d c = ap state_of (are_empty d c)

pub returns-clause-marked : goal.returns-clause-marked
returns-clause-marked d c = ap (λ (s : Parts). kept_of (holds s.objects.seat.marked) s.objects.nodes) (are_empty d c)

pub returns-clause-traced : goal.returns-clause-traced
returns-clause-traced d c = ap (λ (s : Parts). kept_of (holds s.objects.seat.traced) s.objects.nodes) (are_empty d c)

pub returns-clause-refusals : goal.returns-clause-refusals
returns-clause-refusals d c = ap (λ (s : Parts). refusals_told_of s.objects) (are_empty d c) ∙ refusals_empty c.args.config.markers

pub returns-clause-history : goal.returns-clause-history
returns-clause-history d c = ap (λ (s : Parts). entries_of s.region.taken) (are_empty d c)

pub returns-clause-out : goal.returns-clause-out
returns-clause-out d c = ap (λ (s : Parts). s.region.out) (are_empty d c)

pub returns-clause-lines : goal.returns-clause-lines
returns-clause-lines d c =
    ap (λ (s : Parts). s.region.told ++ outcome_lines c.in_ok-outcome.outcome c.new-cycle.result.ran) (are_empty d c)
    ∙ ap (λ (o : Printed). outcome_lines o c.new-cycle.result.ran) c.in_ok-outcome.ensures

pub returns-clause-lent : goal.returns-clause-lent
returns-clause-lent d c = ap (λ (s : Parts). s.objects.seat.lent) (are_empty d c)

pub returns-clause-published : goal.returns-clause-published
returns-clause-published d c = ap (λ (s : Parts). s.region.last) (are_empty d c)
