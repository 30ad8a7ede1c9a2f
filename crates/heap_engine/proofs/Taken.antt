-- What the owner takes of the region's history, and with it the parts: what it found there, and then its own entry.
use Rattle.std.proofs.Common.{◌≡◌, ℕ, ◌≤◌, All, Bool, List, [], ◌∷◌, ◌++◌, length, drop, take, refl, sym, ap, ◌∙◌, subst, arith}
use Rattle.std.proofs.Math.Seq.{take-append_seam}
use Rattle.std.specs.List.{Contains}
use Rattle.std.proofs.lemmas.List.Elements.{All-cons, All-head, All-tail}
use Rattle.std.proofs.lemmas.List.{append_assoc, drop-append-le, drop_at, map-append}
use Rattle.gc_graph.specs.declared.region.Entry.{Entry}
use Rattle.gc_graph.specs.declared.region.Op.{Op}
use Rattle.gc_graph.specs.declared.region.Op.TheVariants as O
use Rattle.gc_graph.specs.CycleSteps.{is_marking}
use Rattle.gc_graph.specs.History.{IsLegalFrom, MayPause, replayed, reply_of, started_after}
use Rattle.gc_graph.specs.Outcomes.{IsThreadOp, owner_entry, took}
use Rattle.gc_graph.specs.RegionSteps.{TakesOwn}
use Rattle.gc_graph.specs.Replays.{legal-append}
use Rattle.gc_graph.specs.State.{State, RegionSlot}
use Rattle.cross_thread_region.specs.declared.chronicle.PlacedEntry.{PlacedEntry}
use Rattle.cross_thread_region.specs.Calls.{placed_entry_of}
use Rattle.cross_thread_region.specs.Histories.{entries_of, is_started, slots_of, IsPlacedBy}
use Rattle.cross_thread_region.specs.NextEntries.{started_next}
use Rattle.cross_thread_region.specs.OrdersStay.{placed_after, slots_on, started_on}
use Rattle.cross_thread_region.specs.PlacedNodes.{placed_next}
use Rattle.heap_cycle.specs.FieldNodes.{holders_same}
use Rattle.heap_cycle.specs.Calls.{HasEntered, TakesMore}
use Rattle.heap_cycle.specs.Changes.{with_taken}
use Rattle.heap_cycle.specs.Handled.{IsHandled, LooksAgain}
use Rattle.heap_cycle.specs.Marks.{HasMarks}
use Rattle.heap_cycle.specs.Nodes.{place_of}
use Rattle.heap_cycle.specs.Objects.{ObjectsView, setup_of_objects}
use Rattle.heap_cycle.specs.Owned.{OwnedView, piece_of, untold_of}
use Rattle.heap_cycle.specs.declared.parts.Parts.{Parts}
use Rattle.heap_cycle.specs.Parts.{moment_of, setup_of, state_of, AreTied, IsReady}
use Rattle.heap_cycle.specs.Region.{HasRegion}
use Rattle.heap_cycle.specs.Sweeping.{cursor_at}
use Rattle.heap_cycle.specs.Ties.{tied_nodes}
use Rattle.heap_cycle.specs.Took.{took_is}

-- the slots of parts that are ready are handles of their nodes
pub handled : (s : Parts) → IsReady s → HasRegion s → IsHandled s.objects.nodes s.region.taken
handled s ready region = record { live = ready.valid.region; placed = region.placed }

-- the operations that were found are orders
pub orders_of : (running : List ℕ) (others : List PlacedEntry) → All (λ (e : Entry). Contains running e.thread × IsThreadOp e.op) (entries_of others)
    → All (λ (p : PlacedEntry). IsThreadOp p.entry.op) others
orders_of running [] all = λ k d low. absurd (omega (arith, low))
orders_of running (x ∷ xs) all = All-cons (λ (p : PlacedEntry). IsThreadOp p.entry.op) x xs (All-head Is x.entry (entries_of xs) all).1 (orders_of running xs (All-tail Is x.entry (entries_of xs) all)) where
  Is : Entry → Type 0
  Is e = Contains running e.thread × IsThreadOp e.op

-- the parts once a history was taken so far, and the objects were at most looked at
abbrev pub taken_parts : Parts → ObjectsView → OwnedView → Parts
taken_parts s o r = record s { objects = o; region = r; cycle = record s.cycle { rest = with_taken (moment_of s) r.taken s.cycle.rest } }

-- ---- a longer history

module _ (s : Parts) (o : ObjectsView) (r : OwnedView) (more : List PlacedEntry) (is : r.taken ≡ s.region.taken ++ more)
    (told : s.region.printed ≤ length s.region.taken) (looked : LooksAgain s.objects s.region r o) where
  -- what was taken
  pub piece_taken : piece_of s.region r ≡ entries_of more
  piece_taken = ap (λ l. entries_of (drop (length s.region.taken) l)) is ∙ ap entries_of (drop_at s.region.taken more (length s.region.taken) refl)

  -- the state took it, where nothing else is other
  pub state_taken : r ≡ record s.region { taken = r.taken } → state_of (taken_parts s o r) ≡ took (state_of s) (piece_of s.region r)
  state_taken rest =
      let piece : List Entry = piece_of s.region r in
      let may : List Bool = (took (state_of s) piece).may in
      let build : List RegionSlot → List Entry → State = λ region unprinted. record (state_of s) { region = region; may = may; unprinted = unprinted } in
      let slots : slots_of r.taken ≡ replayed (slots_of s.region.taken) piece =
      ap slots_of is ∙ slots_on s.region.taken more ∙ ap (replayed (slots_of s.region.taken)) (sym piece_taken) in
      let untold : entries_of (drop s.region.printed r.taken) ≡ untold_of s.region ++ piece =
      ap (λ l. entries_of (drop s.region.printed l)) is ∙ ap entries_of (drop-append-le s.region.printed s.region.taken more told)
      ∙ map-append (λ (p : PlacedEntry). p.entry) (drop s.region.printed s.region.taken) more ∙ ap (λ l. untold_of s.region ++ l) (sym piece_taken) in
      ap (λ (v : OwnedView). state_of (record s { objects = o; region = v; cycle = record s.cycle { rest = with_taken (moment_of s) r.taken s.cycle.rest } })) rest
      ∙ ap (λ (x : ObjectsView). record (build (slots_of r.taken) (entries_of (drop s.region.printed r.taken))) { nodes = x.nodes }) looked.others
      ∙ ap (λ l. build l (entries_of (drop s.region.printed r.taken))) slots ∙ ap (build (replayed (slots_of s.region.taken) piece)) untold
      ∙ sym (took_is (state_of s) piece)

  -- the parts stay tied
  pub tied_taken : AreTied s → AreTied (taken_parts s o r)
  tied_taken tied =
      let marks : HasMarks s.cycle.phase (cursor_at s.objects.shape s.cycle.sweep) (took (state_of s) (piece_of s.region r)).may o =
      looked.marks (state_of s) (cursor_at s.objects.shape s.cycle.sweep) refl refl tied.marks in
      let with_seat : ObjectsView = record s.objects { seat = o.seat } in
      let whole : AreTied (taken_parts s with_seat r) =
      still_tied (tied_nodes s with_seat (record s.cycle { rest = with_taken (moment_of s) r.taken s.cycle.rest }) tied (λ n. (refl, refl)) refl refl
      (holders_same s.objects.nodes) refl tied.sweep (subst (HasMarks s.cycle.phase (cursor_at s.objects.shape s.cycle.sweep) (took (state_of s) (piece_of s.region r)).may) looked.others marks) tied.traced tied.made) in
      subst (λ (x : ObjectsView). AreTied (taken_parts s x r)) (sym looked.others) whole
    where
      still_tied : {t : Parts} → AreTied t → AreTied (record t { region = r })
      still_tied tied = record {
        slots = tied.slots;
        weak = tied.weak;
        stack = tied.stack;
        registered = tied.registered;
        weakly = tied.weakly;
        sweep = tied.sweep;
        marks = tied.marks;
        traced = tied.traced;
        made = tied.made;
      }

-- ---- an entry of the owner

-- what a call of the owner took: what it found, and then its own entry
pub record HasTaken (op : Op) (old new : Parts) : Type 0 where
  pub before : List Entry
  pub takes : TakesOwn (state_of old) op (piece_of old.region new.region) before
  pub state : state_of new ≡ took (state_of old) (piece_of old.region new.region)
  pub grown : TakesMore old.region new.region
  pub region : HasRegion new
  pub tied : AreTied new
  pub nodes : new.objects.nodes ≡ old.objects.nodes
  pub setup : setup_of new ≡ setup_of old
  pub grey : new.objects.grey ≡ old.objects.grey
  pub handles : new.handles ≡ old.handles
  pub ordinal : new.cycle.rest.ordinal ≡ old.cycle.rest.ordinal

module _ (op : Op) (place : ℕ) (s : Parts) (o : ObjectsView) (r : OwnedView) (ready : IsReady s) (region : HasRegion s)
    (entered : HasEntered op place s.region r) (looked : LooksAgain s.objects s.region r o) where
  abbrev es : List Entry
  es = entries_of entered.others

  abbrev found_history : List PlacedEntry
  found_history = s.region.taken ++ entered.others

  abbrev own : PlacedEntry
  own = placed_entry_of 0 found_history op place

  longer : r.taken ≡ s.region.taken ++ (entered.others ++ own ∷ [])
  longer = entered.taken ∙ append_assoc s.region.taken entered.others (own ∷ [])

  -- the slots that the call found are those of the state, once the entries found are taken
  pub found_slots : (took (state_of s) es).region ≡ slots_of found_history
  found_slots = ap (λ (t : State). t.region) (took_is (state_of s) es) ∙ sym (slots_on s.region.taken entered.others)

  piece_is : piece_of s.region r ≡ es ++ owner_entry (took (state_of s) es) op ∷ []
  piece_is =
      piece_taken s o r (entered.others ++ own ∷ []) longer entered.found.told looked ∙ map-append (λ (p : PlacedEntry). p.entry) entered.others (own ∷ [])
      ∙ ap (λ region. es ++ (let e : Entry = record { thread = 0; op = op; reply = reply_of region op } in e) ∷ []) (sym found_slots)

  placed_now : ((x n : ℕ) → op ≡ O.Export x n → place ≡ place_of s.objects.nodes n) → IsPlacedBy (place_of s.objects.nodes) r.taken
  placed_now given =
      let others : IsPlacedBy (place_of s.objects.nodes) found_history =
      placed_after s.objects.nodes (place_of s.objects.nodes) s.region.taken entered.others ready.valid.region region.placed
      (orders_of s.region.running entered.others entered.found.orders) in
      subst (IsPlacedBy (place_of s.objects.nodes)) (sym entered.taken) (placed_next (place_of s.objects.nodes) found_history own others given)

  legal_now : ((region : List RegionSlot) (started : Bool) → MayPause region started op) → IsLegalFrom (state_of s).region (is_marking s.cycle.phase) (piece_of s.region r)
  legal_now may =
      let began : IsLegalFrom (slots_of s.region.taken) (is_marking s.cycle.phase) es =
      subst (λ started. IsLegalFrom (slots_of s.region.taken) started es) region.started entered.found.legal in
      subst (IsLegalFrom (slots_of s.region.taken) (is_marking s.cycle.phase)) (sym piece_is)
      (legal-append (slots_of s.region.taken) (is_marking s.cycle.phase) es (owner_entry (took (state_of s) es) op ∷ []) began
      (ap (λ region. reply_of region op) (ap (λ (t : State). t.region) (took_is (state_of s) es)), may _ _, tt))

  pub takes_more : TakesMore s.region r
  takes_more = record {
    begins = ap (take (length s.region.taken)) longer ∙ take-append_seam s.region.taken (entered.others ++ own ∷ []);
    rest = entered.rest;
  }

  pub has_taken : ((region : List RegionSlot) (started : Bool) → MayPause region started op) → ((started : Bool) → started_after started op ≡ started)
      → ((x n : ℕ) → op ≡ O.Export x n → place ≡ place_of s.objects.nodes n) → HasTaken op s (taken_parts s o r)
  has_taken may calm given = record {
    before = es;
    takes = record { others = entered.found.orders; piece_is = piece_is; legal = legal_now may };
    state = state_taken s o r (entered.others ++ own ∷ []) longer entered.found.told looked entered.rest;
    grown = takes_more;
    region = record {
      opened = ap (λ (v : OwnedView). v.closed) entered.rest ∙ region.opened;
      placed = λ x n named. placed_now given x n named ∙ sym (ap (λ (v : ObjectsView). place_of v.nodes n) looked.others);
      started = ap is_started entered.taken ∙ started_next found_history own ∙ calm (is_started found_history)
          ∙ started_on s.region.taken entered.others (orders_of s.region.running entered.others entered.found.orders) ∙ region.started;
    };
    tied = tied_taken s o r (entered.others ++ own ∷ []) longer entered.found.told looked ready.tied;
    nodes = ap (λ (v : ObjectsView). v.nodes) looked.others;
    setup = ap (λ (v : ObjectsView). setup_of_objects v) looked.others;
    grey = ap (λ (v : ObjectsView). v.grey) looked.others;
    handles = refl;
    ordinal = refl;
  }
