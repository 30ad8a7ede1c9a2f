-- Threads are joined: what they have done is taken, and told.
use Rattle.std.proofs.Common.{◌≡◌, ℕ, ◌+◌, ◌-◌, ◌<◌, ◌≤◌, true, false, List, [], ◌++◌, length, take, drop, map, All, Option, Some, refl, sym, ap, ◌∙◌, subst, inl, inr, arith}
use Rattle.std.specs.Arc.{arc_value}
use Rattle.std.specs.Prelude.{is_some}
use Rattle.std.specs.List.{Contains, flat_map}
use Rattle.std.proofs.Math.Seq.{drop-length, take-length}
use Rattle.std.proofs.lemmas.Bool.{true≢false}
use Rattle.std.proofs.lemmas.List.{append-nil, length-append, length-drop, length-map, take-append-le}
use Rattle.std.proofs.lemmas.List.Elements.{All-nil, Contains-append_cases}
use Rattle.gc_graph.specs.declared.line.Line.{Line}
use Rattle.gc_graph.specs.declared.line.Line.TheVariants as L
use Rattle.gc_graph.specs.declared.region.Entry.{Entry}
use Rattle.gc_graph.specs.History.{IsLegal}
use Rattle.gc_graph.specs.Members.{Contains-map_some}
use Rattle.gc_graph.specs.Lawful.{TotalsNeverFall}
use Rattle.gc_graph.specs.RegionSteps.{HasDone, entries_by, reply_line}
use Rattle.gc_graph.specs.State.{Node}
use Rattle.cross_thread_region.specs.declared.chronicle.PlacedEntry.{PlacedEntry}
use Rattle.cross_thread_region.specs.Calls.{AreByRight, Finds, HeldView, PassView}
use Rattle.cross_thread_region.specs.Histories.{entries_of}
use Rattle.thread_queues.specs.Falling.{still_fall_not}
use Rattle.thread_queues.specs.Going.{HaveMet, HaveReturned, TellSomeOf}
use Rattle.thread_queues.specs.Queues.{QueuesView, posted, queue_in, queues_left}
use Rattle.heap_objects.specs.Objects.{ObjectsView}
use Rattle.heap_region.specs.declared.owned.OwnedRegion.TheInside.{Inside}
use Rattle.heap_region.specs.Calls.{HasJoined}
use Rattle.heap_region.specs.Handled.{IsHandled, LooksAgain}
use Rattle.heap_region.specs.Inside.{IsHeld, IsOwned, IsOwners, IsOwnersPass, lines_told, taken_of}
use Rattle.heap_region.specs.Owned.{OwnedView}
use Rattle.heap_region.specs.Taking.{HasLooked, entries_between}
use Rattle.heap_region.proofs.Beginnings.{none_named}
use Rattle.heap_region.proofs.Closed.{none_are_out}
use Rattle.heap_region.proofs.Fields.{AreOwned, owned_view, view_of_fields}
use Rattle.heap_region.proofs.Found.{are_orders, handled_at, is_found, others, out_above, taken_len, whole}
use Rattle.heap_region.proofs.Meeting.{answers_of, done_behind}

-- totals stand among replies alone
totals_replied : (replies : List Line) (es : List Entry) (line : Line) → ((e : Entry) → L.Entry e ≡ line → ⊥)
    → Contains (replies ++ map (λ e. L.Entry e) es) line → Contains replies line
totals_replied replies es line no_entry there = elim (Contains-append_cases replies (map (λ e. L.Entry e) es) line there) [
  | inl reply ↦ reply
  | inr entry ↦ (let which = Contains-map_some (λ (e : Entry). L.Entry e) es line entry in absurd (no_entry which.0 which.2))
]

-- where no pass is out, what is found was seen
pub found_seen : (pass : PassView) (history : List PlacedEntry) → Finds pass history → pass.number ≡ 0 → pass.out ≡ [] → history ≡ pass.seen
found_seen pass history finds first out =
    finds.goes_on.all
    ∙ ap (λ rest. pass.seen ++ rest)
    (none_named (λ (p : PlacedEntry). p.entry.thread) finds.goes_on.rest
    (subst (λ outs. All (λ (p : PlacedEntry). Contains outs p.entry.thread) finds.goes_on.rest) out (finds.goes_on.outs first)))
    ∙ append-nil pass.seen

-- how many lines a join tells
pub lines_len : (replies : List Line) (shown : ℕ) (taken : List PlacedEntry) → length (lines_told true replies shown taken) ≡ length replies + (length taken - shown)
lines_len replies shown taken =
    omega (
      arith,
      length-append replies (map (λ entry. L.Entry entry) (entries_of (drop shown taken))),
      length-map (entries_of (drop shown taken)) (λ (e : Entry). L.Entry e),
      length-map (drop shown taken) (λ (p : PlacedEntry). p.entry),
      length-drop shown taken,
    )

-- ---- what the owner's pass has seen once the others were joined to it

module _ (r : Inside) (owned : AreOwned r) (opened : r.closed ≡ false) (awaits : r.threads.awaiting ≡ true) (seen : List PlacedEntry)
    (replies : List Line) (returned : HaveReturned r.threads r.pass seen replies) (told : TellSomeOf (posted r.threads.since r.threads.last) replies)
    (fall : TotalsNeverFall replies) (legal : IsLegal (entries_of seen)) (right : AreByRight seen) where
  abbrev met : HaveMet returned.ends r.pass seen
  met = returned.met

  -- it is found by its pass as it was before
  joined_finds : Finds r.pass seen
  joined_finds = record {
    goes_on = record {
      rest = met.rest;
      all = met.grown;
      others = others_made;
      outs = λ first. met.outs;
    };
    legal = legal;
    right = right;
  } where
    others_made : All (λ (p : PlacedEntry). p.entry.thread ≡ r.pass.number → ⊥) met.rest
    others_made k d low same =
        out_above r owned opened _ (met.outs k d low) (same ∙ owned.owner.first)

  abbrev pub joined_queues : QueuesView
  joined_queues = record r.threads {
    queues = queues_left r.threads.queues r.threads.running;
    running = [];
    awaiting = false;
    away = false;
    replies = replies;
    passes = [];
  }

  -- each beginning of it that has what was taken leaves the slots live nodes, with their places
  pub handled_between : (nodes : List Node) → IsHandled nodes (taken_of r.pass r.taken) → (k : ℕ) → r.taken ≤ k → k < length seen → IsHandled nodes (take k seen)
  handled_between nodes handled k above below =
      let more : List PlacedEntry = others r owned opened seen joined_finds in
      let is : seen ≡ taken_of r.pass r.taken ++ (more ++ []) = whole r owned opened seen joined_finds ∙ ap (λ xs. taken_of r.pass r.taken ++ xs) (sym (append-nil more)) in
      subst (λ h. IsHandled nodes (take k h)) (sym is)
      (handled_at nodes (taken_of r.pass r.taken) more [] k handled (are_orders r owned opened seen joined_finds)
      (omega (arith, above, taken_len r owned))
      (omega (arith, below, ap length (whole r owned opened seen joined_finds), length-append (taken_of r.pass r.taken) more)))

  -- all of it is taken
  module _ (passed : PassView) (held : Option HeldView) (taken : ℕ) (seen_is : passed.seen ≡ seen) (out_is : passed.out ≡ []) (taken_is : taken ≡ length seen) where
    abbrev pub joined_view : OwnedView
    joined_view = view_of_fields passed joined_queues held taken taken r.printed r.closed

    taken_now : taken_of passed taken ≡ seen
    taken_now = ap (take taken) seen_is ∙ ap (λ n. take n seen) taken_is ∙ take-length seen

    pub few_seen : r.taken ≤ length seen
    few_seen = omega (arith, owned.few, ap length met.grown, length-append r.pass.seen met.rest)

    pub stays_owned : IsOwnersPass (arc_value r.region) passed held → ((h : HeldView) → held ≡ Some h → IsHeld passed joined_queues h taken r.printed)
        → IsOwned (arc_value r.region) passed joined_queues held taken taken r.printed r.closed
    stays_owned owner holds = record {
      owner = owner;
      holds = holds;
      outs = none_are_out (arc_value r.region) passed joined_queues out_is refl;
      few = omega (arith, taken_is, ap length seen_is);
      ahead = λ still_open.
          subst (All (λ (p : PlacedEntry). Contains passed.out p.entry.thread)) (sym (ap (drop taken) seen_is ∙ ap (λ n. drop n seen) taken_is ∙ drop-length seen))
          (All-nil (λ (p : PlacedEntry). Contains passed.out p.entry.thread));
      printed_few = omega arith;
      shown_few = omega (arith, owned.printed_few, few_seen, taken_is);
      none_out = λ still. out_is;
      none_run = λ still. refl;
      owners = λ still.
          subst (λ (es : List PlacedEntry). All IsOwners (entries_of es)) (sym (ap (drop taken) taken_now ∙ ap (λ n. drop n seen) taken_is ∙ drop-length seen)) (All-nil IsOwners);
      started = λ waits. absurd (true≢false (sym waits));
      begun = λ shut. absurd (true≢false (sym shut ∙ opened));
    }

    pub has_joined : lines_told (is_some held) replies r.printed (taken_of passed taken) ≡ lines_told true replies r.printed (taken_of passed taken)
        → HasJoined (owned_view r) joined_view (length r.threads.running)
    has_joined tells =
        let untold : List Entry = entries_of (drop r.printed (taken_of passed taken)) in
        record {
          others = others r owned opened seen joined_finds;
          found = is_found r owned opened seen joined_finds;
          taken = taken_now ∙ whole r owned opened seen joined_finds;
          answers = answers_of r owned awaits opened seen replies returned;
          done = λ j runs.
              subst (λ h. HasDone j (queue_in r.threads.queues j) (returned.back.answers j) (entries_by j (entries_of (drop r.printed h)))) (sym taken_now)
              (done_behind r owned awaits opened seen replies returned j runs);
          told =
              tells
              ∙ ap (λ ls. ls ++ map (λ entry. L.Entry entry) untold)
              (returned.back.replies_are ∙ ap (flat_map (λ j. map (reply_line j) (returned.back.answers j))) (sym (owned.started awaits opened).all));
          totals = λ j o n u f there.
              told j o n u f (totals_replied replies untold (L.ReplyTotals j o n u f) (λ e never. (cc)) (subst (λ ls. Contains ls (L.ReplyTotals j o n u f)) tells there));
          fall =
              subst TotalsNeverFall (sym tells)
              (still_fall_not replies (map (λ entry. L.Entry entry) untold) fall
              (λ j o n u f there. (let which = Contains-map_some (λ (e : Entry). L.Entry e) untold (L.ReplyTotals j o n u f) there in cc)));
          count_is = refl;
          rest = ap (λ out. record joined_view { out = out }) out_is ∙ ap (λ n. record joined_view { out = []; printed = n }) (taken_is ∙ sym (ap length taken_now));
        }

    -- what the objects looked at is what was taken
    pub has_looked : (objects looked : ObjectsView) (history : List PlacedEntry) → history ≡ seen
        → HasLooked objects (take r.taken history) (entries_between r.taken taken history) looked → LooksAgain objects (owned_view r) joined_view looked
    has_looked objects looked history is looks =
        let first : take r.taken history ≡ taken_of r.pass r.taken =
        ap (take r.taken) (is ∙ met.grown) ∙ take-append-le r.taken r.pass.seen met.rest owned.few in
        let piece : entries_between r.taken taken history ≡ entries_of (drop (length (taken_of r.pass r.taken)) joined_view.taken) =
        ap (λ h. entries_of (drop r.taken h)) (ap (take taken) is ∙ ap (λ n. take n seen) taken_is ∙ take-length seen ∙ sym taken_now)
        ∙ ap (λ n. entries_of (drop n joined_view.taken)) (sym (taken_len r owned)) in
        let now : HasLooked objects (taken_of r.pass r.taken) (entries_of (drop (length (taken_of r.pass r.taken)) joined_view.taken)) looked =
        subst (λ es. HasLooked objects (taken_of r.pass r.taken) es looked) piece
        (subst (λ h. HasLooked objects h (entries_between r.taken taken history) looked) first looks) in
        record { others = now.others; marks = now.marks }
