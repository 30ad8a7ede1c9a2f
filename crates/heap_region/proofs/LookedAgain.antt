-- Weak reads of the entries that are taken, one after the other.
use Rattle.std.proofs.Common.{◌≡◌, ℕ, zero, suc, ◌<◌, ◌≤◌, Bool, List, [], ◌∷◌, ◌++◌, length, take, drop, Option, Some, None, refl, sym, ap, ◌∙◌, subst, arith}
use Rattle.std.specs.List.{slice_get}
use Rattle.std.proofs.lemmas.List.{drop-append-le, length-take-le, map-append}
use Rattle.std.proofs.lemmas.List.Elements.{All-contains}
use Rattle.gc_graph.specs.declared.phase.Phase.{Phase}
use Rattle.gc_graph.specs.declared.region.Entry.{Entry}
use Rattle.gc_graph.specs.History.{read_by, replayed}
use Rattle.gc_graph.specs.May.{may_with_read}
use Rattle.gc_graph.specs.Outcomes.{may_with_entry, took}
use Rattle.gc_graph.specs.State.{Node, State, IsLive, graph_of}
use Rattle.gc_graph.specs.Valid.{region_targets}
use Rattle.cross_thread_region.specs.declared.chronicle.PlacedEntry.{PlacedEntry}
use Rattle.cross_thread_region.specs.Histories.{entries_of, slots_of, places_in_history}
use Rattle.cross_thread_region.specs.PlacedNodes.{named_is_target}
use Rattle.cross_thread_region.specs.WeakReads.{read_from, weak_read_at, entry_read}
use Rattle.heap_region.specs.Handled.{IsHandled}
use Rattle.heap_objects.specs.Marks.{HasMarks}
use Rattle.heap_objects.specs.Objects.{ObjectsView, IsLiveAt}
use Rattle.heap_region.specs.Taking.{entries_between}
use Rattle.heap_region.specs.Took.{took_append, took_is}
use Rattle.heap_region.proofs.Beginnings.{take_on}
use Rattle.heap_region.proofs.WeakSlots.{ReadsAt, reads_at, reads_none}
use Rattle.cross_thread_region.specs.OrdersStay.{slots_on}

-- the entry at a place of the history
entry_at : (history : List PlacedEntry) (i : ℕ) → i < length history → (e : PlacedEntry) × (take (suc i) history ≡ take i history ++ e ∷ []) × (slice_get (entries_of history) i ≡ Some e.entry)
entry_at [] i low = absurd (omega (arith, low))
entry_at (e ∷ history) zero low = (e, refl, refl)
entry_at (x ∷ history) (suc i) low =
    (let w = entry_at history i (omega (arith, low)) in (w.0, ap (λ l. x ∷ l) w.1, w.2))

-- so much more of the history is taken with it
between_next : (history : List PlacedEntry) (from i : ℕ) (e : PlacedEntry) → from ≤ i → i < length history → take (suc i) history ≡ take i history ++ e ∷ []
    → entries_between from (suc i) history ≡ entries_between from i history ++ e.entry ∷ []
between_next history from i e above low next =
    ap (λ l. entries_of (drop from l)) next
    ∙ ap entries_of (drop-append-le from (take i history) (e ∷ []) (omega (arith, above, length-take-le i history (omega (arith, low)))))
    ∙ map-append (λ (p : PlacedEntry). p.entry) (drop from (take i history)) (e ∷ [])

-- the slots just before the entry
slots_before : (history : List PlacedEntry) (from i : ℕ) → from ≤ i → slots_of (take i history) ≡ replayed (slots_of (take from history)) (entries_between from i history)
slots_before history from i above =
    ap slots_of (take_on from i history above) ∙ slots_on (take from history) (drop from (take i history))

-- ---- marks

-- what comes of the marks by the next entry, where its read gives this
next_marks : (s : State) (limit : ℕ) (es : List Entry) (e : Entry) (read : Option ℕ) (o : ObjectsView) → read_by (replayed s.region es) e.op ≡ read
    → HasMarks s.phase limit (may_with_entry (took s es) read) o → HasMarks s.phase limit (took s (es ++ e ∷ [])).may o
next_marks s limit es e read o is marks =
    let t : State = took s es in
    let region : t.region ≡ replayed s.region es = ap (λ (u : State). u.region) (took_is s es) in
    subst (λ may. HasMarks s.phase limit may o)
    (ap (may_with_entry t) (sym is ∙ ap (λ r. read_by r e.op) (sym region)) ∙ sym (ap (λ (u : State). u.may) (took_append s es (e ∷ []))))
    marks

-- the entry read nothing by a weak slot
pub no_look : (s : State) (limit from i : ℕ) (history : List PlacedEntry) (o : ObjectsView) → from ≤ i → i < length history → s.region ≡ slots_of (take from history)
    → weak_read_at history i ≡ None → HasMarks s.phase limit (took s (entries_between from i history)).may o
    → HasMarks s.phase limit (took s (entries_between from (suc i) history)).may o
no_look s limit from i history o above low slots none marks =
    let w = entry_at history i low in
    let told : read_from (slots_of (take i history)) (places_in_history (take i history)) w.0.entry.op ≡ None =
    sym (ap (entry_read (take i history)) w.2) ∙ none in
    let read : read_by (replayed s.region (entries_between from i history)) w.0.entry.op ≡ None =
    ap (λ region. read_by region w.0.entry.op) (ap (λ r. replayed r (entries_between from i history)) slots ∙ sym (slots_before history from i above))
    ∙ reads_none (slots_of (take i history)) (places_in_history (take i history)) w.0.entry.op told in
    subst (λ es. HasMarks s.phase limit (took s es).may o) (sym (between_next history from i w.0 above low w.1))
    (next_marks s limit (entries_between from i history) w.0.entry None o read marks)

-- it read the live node at this place
pub live_read : (nodes : List Node) (history : List PlacedEntry) (i place : ℕ) → i < length history → IsHandled nodes (take i history) → weak_read_at history i ≡ Some place
    → (n : ℕ) × IsLiveAt nodes n place
live_read nodes history i place low handled told =
    let w = entry_at history i low in
    let reads : ReadsAt (slots_of (take i history)) (places_in_history (take i history)) w.0.entry.op place =
    reads_at (slots_of (take i history)) (places_in_history (take i history)) w.0.entry.op place (sym (ap (entry_read (take i history)) w.2) ∙ told) in (
      reads.node,
      (
        All-contains (IsLive nodes) (region_targets (slots_of (take i history))) reads.node handled.live
            (named_is_target (slots_of (take i history)) reads.slot reads.node reads.named),
        sym (handled.placed reads.slot reads.node reads.named) ∙ reads.placed,
      ),
    )

pub looked : (s : State) (limit from i place : ℕ) (history : List PlacedEntry) (before after : ObjectsView) → from ≤ i → i < length history
    → s.region ≡ slots_of (take from history) → s.nodes ≡ before.nodes → IsHandled before.nodes (take i history) → weak_read_at history i ≡ Some place
    → ((phase : Phase) (limit : ℕ) (may : List Bool) (n : ℕ) → IsLiveAt before.nodes n place → HasMarks phase limit may before
    → HasMarks phase limit (may_with_read phase (graph_of before.nodes) may n) after)
    → HasMarks s.phase limit (took s (entries_between from i history)).may before
    → HasMarks s.phase limit (took s (entries_between from (suc i) history)).may after
looked s limit from i place history before after above low slots nodes handled told reads_so marks =
    let w = entry_at history i low in
    let es : List Entry = entries_between from i history in
    let reads : ReadsAt (slots_of (take i history)) (places_in_history (take i history)) w.0.entry.op place =
    reads_at (slots_of (take i history)) (places_in_history (take i history)) w.0.entry.op place (sym (ap (entry_read (take i history)) w.2) ∙ told) in
    let live : IsLiveAt before.nodes reads.node place = (
      All-contains (IsLive before.nodes) (region_targets (slots_of (take i history))) reads.node handled.live
          (named_is_target (slots_of (take i history)) reads.slot reads.node reads.named),
      sym (handled.placed reads.slot reads.node reads.named) ∙ reads.placed,
    ) in
    let read : read_by (replayed s.region es) w.0.entry.op ≡ Some reads.node =
    ap (λ region. read_by region w.0.entry.op) (ap (λ r. replayed r es) slots ∙ sym (slots_before history from i above)) ∙ reads.read in
    let kept : HasMarks s.phase limit (may_with_read s.phase (graph_of s.nodes) (took s es).may reads.node) after =
    subst (λ (ns : List Node). HasMarks s.phase limit (may_with_read s.phase (graph_of ns) (took s es).may reads.node) after) (sym nodes)
    (reads_so s.phase limit (took s es).may reads.node live marks) in
    let same : may_with_read s.phase (graph_of s.nodes) (took s es).may reads.node ≡ may_with_entry (took s es) (Some reads.node) =
    sym (ap (λ (u : State). may_with_read u.phase (graph_of u.nodes) (took s es).may reads.node) (took_is s es)) in
    subst (λ l. HasMarks s.phase limit (took s l).may after) (sym (between_next history from i w.0 above low w.1))
    (next_marks s limit es w.0.entry (Some reads.node) after read (subst (λ may. HasMarks s.phase limit may after) same kept))
