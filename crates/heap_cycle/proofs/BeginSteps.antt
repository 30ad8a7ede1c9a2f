-- A cycle begins: the parts between the start entry and the beginning of marking.
use Rattle.std.proofs.Common.{◌≡◌, ℕ, ◌*◌, ◌≤◌, Bool, false, List, [], ◌∷◌, ◌++◌, Option, Some, None, length, refl, sym, ap, ◌∙◌, subst}
use Rattle.std.proofs.lemmas.Bool.{true≢false}
use Rattle.gc_graph.specs.declared.phase.Phase.{Phase}
use Rattle.gc_graph.specs.declared.phase.Phase.TheVariants.{Idle, Marking, Sweeping}
use Rattle.gc_graph.specs.declared.region.Entry.{Entry}
use Rattle.gc_graph.specs.declared.region.Op.TheVariants as O
use Rattle.gc_graph.specs.CycleSteps.{IsStart, is_marking}
use Rattle.gc_graph.specs.Graph.{Object}
use Rattle.gc_graph.specs.History.{read_by, IsLegalFrom}
use Rattle.gc_graph.specs.May.{marking, may_with_read}
use Rattle.gc_graph.specs.Outcomes.{may_with_entry, owner_entry, took, with_entry}
use Rattle.gc_graph.specs.State.{Shape, State, graph_of}
use Rattle.gc_graph.specs.Sweep.{SweepsInPhase, SweepsToEnd}
use Rattle.gc_graph.specs.Valid.{IsValid}
use Rattle.gc_graph.specs.ValidLaw.{OrdersKeepValid}
use Rattle.heap_roots.specs.FieldNodes.{holders_same}
use Rattle.heap_roots.specs.Sweeping.{cursor_at}
use Rattle.cross_thread_region.specs.declared.chronicle.PlacedEntry.{PlacedEntry}
use Rattle.cross_thread_region.specs.Histories.{entries_of, slots_of, IsPlacedBy}
use Rattle.heap_roots.specs.Calls.{HasEntered}
use Rattle.heap_roots.specs.Handled.{LooksAgain}
use Rattle.heap_roots.specs.Marks.{HasMarks}
use Rattle.heap_roots.specs.Nodes.{place_of}
use Rattle.heap_roots.specs.Objects.{ObjectsView}
use Rattle.heap_roots.specs.Owned.{OwnedView, piece_of, with_region}
use Rattle.heap_roots.specs.SweptNodes.{place-finalised}
use Rattle.heap_cycle.specs.declared.parts.Parts.{Parts}
use Rattle.heap_cycle.specs.Parts.{setup_of, state_of, AreTied, IsReady}
use Rattle.heap_cycle.specs.Region.{HasRegion}
use Rattle.heap_cycle.specs.Ties.{tied_nodes}
use Rattle.heap_roots.specs.Took.{took_append}
use Rattle.heap_cycle.proofs.EnteredRegion.{placed_entered}
use Rattle.heap_cycle.proofs.Pieces.{GoesOn, entered_entries, goes_on, others_of, own, piece_is, state_taken}
use Rattle.heap_cycle.proofs.StartSteps.{starts_after, unprinted_apart}

-- ---- while no marking goes on

read_calm : (phase : Phase) (graph : List Object) (may : List Bool) (n : ℕ) → is_marking phase ≡ false → may_with_read phase graph may n ≡ may
read_calm Idle graph may n calm = refl
read_calm Marking graph may n calm = absurd (true≢false calm)
read_calm Sweeping graph may n calm = refl

entry_calm : (s : State) (read : Option ℕ) → is_marking s.phase ≡ false → may_with_entry s read ≡ s.may
entry_calm s None calm = refl
entry_calm s (Some n) calm = read_calm s.phase (graph_of s.nodes) s.may n calm

-- entries change nothing of what may be kept
may_calm : (s : State) (es : List Entry) → is_marking s.phase ≡ false → (took s es).may ≡ s.may
may_calm s [] calm = refl
may_calm s (e ∷ es) calm = may_calm (with_entry s e) es calm ∙ entry_calm s (read_by s.region e.op) calm

-- so the state takes a piece once the region has it
calm_taken : (s : Parts) (r : OwnedView) (xs : List PlacedEntry) → GoesOn s.region xs r → s.region.printed ≤ length s.region.taken
    → is_marking s.cycle.phase ≡ false → state_of (record s { region = r }) ≡ took (state_of s) (piece_of s.region r)
calm_taken s r xs goes low calm =
    sym (ap (λ m. with_region r (record (others_of s) { may = m })) (may_calm (state_of s) (entries_of xs) calm))
    ∙ state_taken s.region r xs goes (others_of s) low ∙ ap (took (state_of s)) (sym (piece_is s.region r xs goes))

-- ---- a sweep leaves the region

sweeps_beside : (phase : Phase) (r other : OwnedView) (shape : Shape) (a b : State) (pages : ℕ) (numbers : List ℕ)
    → SweepsInPhase phase shape (with_region r a) pages numbers (with_region r b) → SweepsInPhase phase shape (with_region other a) pages numbers (with_region other b)
sweeps_beside Idle r other shape a b pages numbers is = (is.0, ap (with_region other) is.1)
sweeps_beside Marking r other shape a b pages numbers is = (is.0, ap (with_region other) is.1)
sweeps_beside Sweeping r other shape a b pages numbers is = record { finalised = is.finalised; after = ap (with_region other) is.after }

swept_places : (phase : Phase) (shape : Shape) (old : State) (pages : ℕ) (numbers : List ℕ) (new : State) → SweepsInPhase phase shape old pages numbers new
    → (n : ℕ) → place_of new.nodes n ≡ place_of old.nodes n
swept_places Idle shape old pages numbers new is n = ap (λ (s : State). place_of s.nodes n) is.1
swept_places Marking shape old pages numbers new is n = ap (λ (s : State). place_of s.nodes n) is.1
swept_places Sweeping shape old pages numbers new is n =
    ap (λ (s : State). place_of s.nodes n) is.after ∙ place-finalised (pages * shape.page_words) old.nodes n

-- ---- once the start entry was made

tied_region : (s : Parts) (r : OwnedView) → AreTied s → AreTied (record s { region = r })
tied_region s r tied = record {
  slots = tied.slots;
  weak = tied.weak;
  stack = tied.stack;
  registered = tied.registered;
  weakly = tied.weakly;
  sweep = tied.sweep;
  marks = tied.marks;
  traced = tied.traced;
  made = tied.made;
}

module _ (s : Parts) (o : ObjectsView) (r : OwnedView) (ready : IsReady s) (region : HasRegion s) (calm : is_marking s.cycle.phase ≡ false)
    (entered : HasEntered O.Start 0 s.region r) (looked : LooksAgain s.objects s.region r o) where
  abbrev entries : List Entry
  entries = entries_of entered.others

  abbrev xs : List PlacedEntry
  xs = entered.others ++ own O.Start 0 s.region r entered ∷ []

  abbrev entered_parts : Parts
  entered_parts = record s { objects = o; region = r }

  goes : GoesOn s.region xs r
  goes = goes_on O.Start 0 s.region r entered

  pub start_piece : (t : State) → t.region ≡ slots_of s.region.taken → piece_of s.region r ≡ entries ++ owner_entry (took t entries) O.Start ∷ []
  start_piece t slots = piece_is s.region r xs goes ∙ entered_entries O.Start 0 s.region r entered t slots

  entered_valid : OrdersKeepValid → IsValid (setup_of s) (took (state_of s) (piece_of s.region r))
  entered_valid law =
      let u : State = took (state_of s) entries in
      let e : Entry = owner_entry u O.Start in
      let valid : IsValid (setup_of s) u = law (setup_of s) (state_of s) entries entered.found.orders ready.valid in
      subst (IsValid (setup_of s)) (sym (ap (took (state_of s)) (start_piece (state_of s) refl) ∙ took_append (state_of s) entries (e ∷ [])))
      (unprinted_apart (setup_of s) (with_entry u e) u.unprinted valid)

  entered_tied : AreTied (record s { objects = record s.objects { seat = o.seat } })
  entered_tied =
      let now : ObjectsView = record s.objects { seat = o.seat } in
      let limit : ℕ = cursor_at s.objects.shape s.cycle.sweep in
      let marks : HasMarks s.cycle.phase limit s.cycle.rest.may o =
      subst (λ may. HasMarks s.cycle.phase limit may o) (may_calm (state_of s) (piece_of s.region r) calm)
      (looked.marks (state_of s) limit refl refl ready.tied.marks) in
      tied_nodes s now s.cycle ready.tied (λ n. (refl, refl)) refl refl (holders_same s.objects.nodes) refl ready.tied.sweep
      (subst (HasMarks s.cycle.phase limit s.cycle.rest.may) looked.others marks) ready.tied.traced ready.tied.made

  pub entered_ready : OrdersKeepValid → IsReady entered_parts
  entered_ready law =
      subst (λ (x : ObjectsView). IsReady (record s { objects = x; region = r })) (sym looked.others) (record {
        valid = subst (IsValid (setup_of s)) (sym (calm_taken s r xs goes entered.found.told calm)) (entered_valid law);
        called = ready.called;
        tied = tied_region (record s { objects = record s.objects { seat = o.seat } }) r entered_tied;
      })

  -- ---- once the open sweep was ended

  module _ (swept : Parts) (numbers : List ℕ) (idle : swept.cycle.phase ≡ Idle) (same : swept.region ≡ r)
      (ended : SweepsToEnd o.shape (state_of entered_parts) numbers (state_of swept)) where
    -- the parts as the sweep alone would have left them
    abbrev pub swept_alone : Parts
    swept_alone = record swept { region = s.region }

    pub ended_alone : SweepsToEnd s.objects.shape (state_of s) numbers (state_of swept_alone)
    ended_alone =
        subst (λ (x : ObjectsView). SweepsToEnd x.shape (state_of (record s { objects = x })) numbers (state_of swept_alone)) looked.others
        (sweeps_beside s.cycle.phase r s.region o.shape (others_of entered_parts) (others_of swept) o.shape.pages numbers
        (subst (λ v. SweepsToEnd o.shape (state_of entered_parts) numbers (with_region v (others_of swept))) same ended))

    pub placed_swept : IsPlacedBy (place_of swept.objects.nodes) swept.region.taken
    placed_swept =
        let placed : IsPlacedBy (place_of s.objects.nodes) r.taken =
        placed_entered O.Start 0 s.region r entered s.objects.nodes ready.valid.region region.placed (λ x n e. cc) in
        subst (λ (v : OwnedView). IsPlacedBy (place_of swept.objects.nodes) v.taken) (sym same)
        (λ x n named. placed x n named
        ∙ sym (swept_places s.cycle.phase s.objects.shape (state_of s) s.objects.shape.pages numbers (state_of swept_alone) ended_alone n))

    pub starts_swept : (new : Parts) → new.region ≡ r → state_of new ≡ marking (state_of swept)
        → IsStart (setup_of s) (state_of swept_alone) (piece_of s.region new.region) (state_of new)
    starts_swept new kept begun =
        let started : state_of new ≡ marking (took (state_of swept_alone) (piece_of s.region r)) =
        begun
        ∙ ap (λ v. marking (with_region v (others_of swept))) same
        ∙ ap marking (calm_taken swept_alone r xs goes entered.found.told (ap is_marking idle)) in
        subst (λ (v : OwnedView). IsStart (setup_of s) (state_of swept_alone) (piece_of s.region v) (state_of new)) (sym kept)
        (starts_after (setup_of s) (state_of swept_alone) (state_of new) entries (piece_of s.region r) entered.found.orders
        (subst (λ started. IsLegalFrom (slots_of s.region.taken) started entries) (region.started ∙ calm) entered.found.legal)
        (start_piece (state_of swept_alone) refl) started)
