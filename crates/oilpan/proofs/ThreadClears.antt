-- What a thread does with orders that clear slots.
use Rattle.std.proofs.Common.{◌≡◌, ◌≢◌, ◌+◌, ◌-◌, ◌==◌, ℕ, Bool, true, false, true≢false, List, [], ◌∷◌, ◌++◌, length, map, Some, None, refl, sym, ap, ◌∙◌, subst, inl, inr, get_or, set as slice_set, arith, All, Contains, if◌then◌else◌}
use Rattle.std.specs.List.{flat_map}
use Rattle.std.proofs.lemmas.Bool.{cases_eq, cases_Bool, cases_lt, eqb-true, eq-eqb}
use Rattle.std.proofs.lemmas.List.{get_or-set_same, get_or-set_other, get_or_past, length-set, append-nil, append_assoc}
use Rattle.std.proofs.lemmas.List.Elements.{All-nil, All-cons, All-head, All-tail, All-append, All-contains, All-same, Contains-append_right, Contains-append_cases, Contains-get_or}
use Rattle.gc_graph.specs.declared.command.Command.TheVariants as C
use Rattle.gc_graph.specs.declared.command.Order.{Order}
use Rattle.gc_graph.specs.declared.command.Order.TheVariants as Q
use Rattle.gc_graph.specs.declared.line.Line.{Line}
use Rattle.gc_graph.specs.declared.line.Line.TheVariants as L
use Rattle.gc_graph.specs.declared.region.Entry.{Entry}
use Rattle.gc_graph.specs.declared.region.Op.{Op}
use Rattle.gc_graph.specs.declared.region.Op.TheVariants as O
use Rattle.gc_graph.specs.declared.region.Reply.TheVariants as P
use Rattle.gc_graph.specs.State.{Setup, State, RegionSlot}
use Rattle.gc_graph.specs.State.RegionSlot.{Vacant}
use Rattle.gc_graph.specs.Outcomes.{answered, took, with_entry}
use Rattle.gc_graph.specs.History.{region_slot, region_after, replayed}
use Rattle.gc_graph.specs.RegionSteps.{queue_of, Answer, HasDone, op_of, entry_of, entries_by, reply_line, StepThreadsJoin, threads_with_orders}
use Rattle.gc_graph.specs.RegionSteps.Answer.{Replied, Told}
use Rattle.gc_graph.specs.RegionLaw.{CallsChangeTheirSlot}
use Rattle.gc_graph.specs.JoinLaw.{IsThread, AreThreads, AreStarted, JoinsTellAll, LeavesNone, ThreadsWithOrdersGo}
use Rattle.gc_graph.specs.Members.{Contains-cons_cases, Contains-map_some, stays_in}
use Rattle.gc_graph.specs.Commands.{family_of}
use Rattle.gc_graph.specs.Families.{StaysInFamily, StepsStayInTheirFamily}
use Rattle.gc_graph.specs.Step.{Step}
use Rattle.oilpan.specs.declared.sharing.Sharing.{Sharing}
use Rattle.oilpan.specs.declared.sharing.Sharing.TheVariants.{Free, Released}
use Rattle.oilpan.specs.Rest.{IsOwners, ClearsReleased, IsRegionAtRest}
use Rattle.oilpan.proofs.Pieces.{no_others, none_running}
use Rattle.oilpan.proofs.Regions.{clears_from, clears_to}
use Rattle.oilpan.specs.Clearing.{AreQueued, slot_cleared, told_cleared, HaveRun}

-- ---- an order is queued

-- each queue is one of the eight, or empty
pub each_queue : (s : State) → length s.queues ≡ 8 → (P : List Order → Type 0) → P [] → ((j : ℕ) → IsThread j → P (queue_of s j)) → (j : ℕ)
    → P (queue_of s j)
each_queue s whole P none each j = elim (cases_lt (j - 1) 8) [
  | inl low ↦
      (let same : j - 1 + 1 - 1 ≡ j - 1 = omega arith in
      subst (λ i. P (get_or s.queues i [])) same (each (j - 1 + 1) (omega arith, omega (arith, low))))
  | inr past ↦ subst P (sym (get_or_past s.queues (j - 1) [] (omega (arith, past, whole)))) none
]

module _ (setup : Setup) (old s new : State) (shared : List Sharing) (x : ℕ) (piece : List Entry) (lines : List Line)
    (step : Step setup s (C.At 1 (Q.Clear x)) piece lines new) (q : AreQueued old s shared) (released : get_or shared x Free ≡ Released) where
  all_behind : All (ClearsReleased shared) (queue_of s 1 ++ Q.Clear x ∷ [])
  all_behind =
      All-append (ClearsReleased shared) (queue_of s 1) (Q.Clear x ∷ []) (q.orders 1)
      (All-cons (ClearsReleased shared) (Q.Clear x) [] (clears_to shared x released) (All-nil (ClearsReleased shared)))

  orders_after : (j : ℕ) → All (ClearsReleased shared) (get_or (slice_set s.queues 0 (queue_of s 1 ++ Q.Clear x ∷ [])) (j - 1) [])
  orders_after j = elim (cases_eq (j - 1) 0) [
    | inl same ↦
        subst (All (ClearsReleased shared))
        (sym (ap (λ i. get_or (slice_set s.queues 0 (queue_of s 1 ++ Q.Clear x ∷ [])) i []) same
        ∙ get_or-set_same s.queues 0 (queue_of s 1 ++ Q.Clear x ∷ []) [] (omega (arith, q.queues))))
        all_behind
    | inr other ↦
        subst (All (ClearsReleased shared)) (sym (get_or-set_other s.queues 0 (j - 1) (queue_of s 1 ++ Q.Clear x ∷ []) [] other)) (q.orders j)
  ]

  -- one order more waits, or memory was wanting for it
  pub queued_more : AreQueued old new shared
  queued_more = elim step.1 [
    | inl memory ↦
        subst (λ t. AreQueued old t shared) (sym memory.1)
        (record { same = ap answered q.same; queues = q.queues; orders = q.orders })
    | inr done ↦
        subst (λ t. AreQueued old t shared) (sym done.1)
        (record {
          same = ap (λ (t : State). record t { queues = slice_set s.queues 0 (queue_of s 1 ++ Q.Clear x ∷ []); ordinal = s.ordinal + 1 }) q.same;
          queues = length-set s.queues 0 (queue_of s 1 ++ Q.Clear x ∷ []) ∙ q.queues;
          orders = orders_after;
        })
  ]

-- ---- what threads do

module _ (shared : List Sharing) where
  -- it clears a slot that was given back
  abbrev IsReleasing : Op → Type 0
  IsReleasing (O.Clear x) = get_or shared x Free ≡ Released
  IsReleasing op = ⊥

  abbrev Releases : Entry → Type 0
  Releases entry = IsReleasing entry.op

  one_releases : (j : ℕ) (order : Order) (answer : Answer) → ClearsReleased shared order → All Releases (entry_of j (op_of order) answer)
  one_releases j (Q.Clear x) (Replied P.NoMemory) h = All-nil Releases
  one_releases j (Q.Clear x) (Replied P.Done) h = All-cons Releases _ [] (clears_from shared x h) (All-nil Releases)
  one_releases j (Q.Clear x) (Replied (P.Node n)) h = All-cons Releases _ [] (clears_from shared x h) (All-nil Releases)
  one_releases j (Q.Clear x) (Replied P.Null) h = All-cons Releases _ [] (clears_from shared x h) (All-nil Releases)
  one_releases j (Q.Clear x) (Told o n u f) h = All-nil Releases
  one_releases j order answer h = absurd (true≢false (sym h))

  -- so do the entries of a thread whose orders clear slots that were given back
  all_release : (j : ℕ) (orders : List Order) (answers : List Answer) (entries : List Entry) → HasDone j orders answers entries
      → All (ClearsReleased shared) orders → All Releases entries
  all_release j [] [] entries h clear = All-same Releases entries [] h (All-nil Releases)
  all_release j [] (answer ∷ answers) entries h clear = absurd h
  all_release j (order ∷ orders) [] entries h clear = absurd h
  all_release j (order ∷ orders) (answer ∷ answers) entries h clear =
      All-same Releases entries _ h.2
      (All-append Releases (entry_of j (op_of order) answer) h.0 (one_releases j order answer (All-head (ClearsReleased shared) order orders clear))
      (all_release j orders answers h.0 h.3 (All-tail (ClearsReleased shared) order orders clear)))

  -- ---- what such entries leave of the slots

  module _ (change : CallsChangeTheirSlot) where
    one_spares : (region : List RegionSlot) (op : Op) → IsReleasing op → (z : ℕ) → get_or shared z Free ≢ Released
        → region_slot (region_after region op) z ≡ region_slot region z
    one_spares region (O.Clear x) h z other = (change region).others (O.Clear x) z (λ same. other (subst (λ i. get_or shared i Free ≡ Released) (sym same) h))
    one_spares region op h z other = absurd h

    one_nulls : (region : List RegionSlot) (op : Op) → IsReleasing op → (z : ℕ) → region_slot region z ≡ Vacant → region_slot (region_after region op) z ≡ Vacant
    one_nulls region (O.Clear x) h z null = elim (cases_eq z x) [
      | inl same ↦ ap (region_slot (region_after region (O.Clear x))) same ∙ (change region).cleared x
      | inr other ↦ (change region).others (O.Clear x) z other ∙ null
    ]
    one_nulls region op h z null = absurd h

    one_clears : (region : List RegionSlot) (op : Op) (x : ℕ) → slot_cleared op ≡ Some x → region_slot (region_after region op) x ≡ Vacant
    one_clears region (O.Clear y) x is = (let same : y ≡ x = cc in ap (region_slot (region_after region (O.Clear y))) (sym same) ∙ (change region).cleared y)
    one_clears region op x is = absurd (let no : ⊥ = cc in no)

    replay_count : (region : List RegionSlot) (entries : List Entry) → length (replayed region entries) ≡ length region
    replay_count region [] = refl
    replay_count region (entry ∷ entries) = replay_count (region_after region entry.op) entries ∙ (change region).whole entry.op

    replay_spares : (region : List RegionSlot) (entries : List Entry) → All Releases entries → (z : ℕ) → get_or shared z Free ≢ Released
        → region_slot (replayed region entries) z ≡ region_slot region z
    replay_spares region [] all z other = refl
    replay_spares region (entry ∷ entries) all z other =
        replay_spares (region_after region entry.op) entries (All-tail Releases entry entries all) z other
        ∙ one_spares region entry.op (All-head Releases entry entries all) z other

    replay_nulls : (region : List RegionSlot) (entries : List Entry) → All Releases entries → (z : ℕ) → region_slot region z ≡ Vacant
        → region_slot (replayed region entries) z ≡ Vacant
    replay_nulls region [] all z null = null
    replay_nulls region (entry ∷ entries) all z null =
        replay_nulls (region_after region entry.op) entries (All-tail Releases entry entries all) z
        (one_nulls region entry.op (All-head Releases entry entries all) z null)

    replay_clears : (region : List RegionSlot) (entries : List Entry) → All Releases entries → (entry : Entry) (x : ℕ) → Contains entries entry
        → slot_cleared entry.op ≡ Some x → region_slot (replayed region entries) x ≡ Vacant
    replay_clears region [] all entry x c is = absurd (omega (arith, c.1))
    replay_clears region (first ∷ entries) all entry x c is = elim (Contains-cons_cases first entries entry c) [
      | inl here ↦
          replay_nulls (region_after region first.op) entries (All-tail Releases first entries all) x
          (one_clears region first.op x (ap (λ (e : Entry). slot_cleared e.op) here ∙ is))
      | inr later ↦ replay_clears (region_after region first.op) entries (All-tail Releases first entries all) entry x later is
    ]

    -- ---- a start of threads, and their join

    took_region : (s : State) (entries : List Entry) → (took s entries).region ≡ replayed s.region entries
    took_region s [] = refl
    took_region s (entry ∷ entries) = took_region (with_entry s entry) entries

    took_unprinted : (s : State) (entries : List Entry) → (took s entries).unprinted ≡ s.unprinted ++ entries
    took_unprinted s [] = sym (append-nil s.unprinted)
    took_unprinted s (entry ∷ entries) = took_unprinted (with_entry s entry) entries ∙ append_assoc s.unprinted (entry ∷ []) entries

    took_queues : (s : State) (entries : List Entry) → (took s entries).queues ≡ s.queues
    took_queues s [] = refl
    took_queues s (entry ∷ entries) = took_queues (with_entry s entry) entries

    -- the entries that a join takes clear slots that were given back
    piece_releases : (mid new : State) (piece : List Entry) (lines : List Line) → StepThreadsJoin mid piece lines new
        → ((j : ℕ) → All (ClearsReleased shared) (queue_of mid j)) → All Releases piece
    piece_releases mid new piece lines h clear k d low =
        let entry : Entry = get_or piece k d in
        let here : Contains (mid.unprinted ++ piece) entry = Contains-append_right mid.unprinted piece entry (Contains-get_or piece k d low) in
        let own : Contains (entries_by entry.thread (took mid piece).unprinted) entry =
        stays_in (λ (e : Entry). e.thread == entry.thread) (took mid piece).unprinted entry
        (subst (λ es. Contains es entry) (sym (took_unprinted mid piece)) here) (eq-eqb entry.thread entry.thread refl) in
        All-contains Releases (entries_by entry.thread (took mid piece).unprinted) entry
        (all_release entry.thread (queue_of mid entry.thread) (h.answers entry.thread) (entries_by entry.thread (took mid piece).unprinted)
        (h.done entry.thread (h.others k d low).0) (clear entry.thread))
        own

    -- a line of a join that tells a slot as cleared is that of an entry
    answer_tells_none : (j : ℕ) (answer : Answer) → told_cleared (reply_line j answer) ≡ None
    answer_tells_none j (Replied reply) = refl
    answer_tells_none j (Told o n u f) = refl

    answers_tell_none : (answers : ℕ → List Answer) (js : List ℕ) (line : Line) → Contains (flat_map (λ j. map (reply_line j) (answers j)) js) line
        → told_cleared line ≡ None
    answers_tell_none answers [] told c = absurd (omega (arith, c.1))
    answers_tell_none answers (j ∷ js) told c =
        elim (Contains-append_cases (map (reply_line j) (answers j)) (flat_map (λ i. map (reply_line i) (answers i)) js) told c) [
          | inl here ↦ (let w = Contains-map_some (reply_line j) (answers j) told here in ap told_cleared (sym w.2) ∙ answer_tells_none j w.0)
          | inr later ↦ answers_tell_none answers js told later
        ]

    -- it is then the entry of thread 1, which clears the slot
    record TellsEntry (entries : List Entry) (x : ℕ) : Type 0 where
      entry : Entry
      there : Contains entries entry
      thread : entry.thread ≡ 1
      clears : slot_cleared entry.op ≡ Some x

    entry_tells : (entries : List Entry) (entry : Entry) (x : ℕ) → Contains entries entry → told_cleared (L.Entry entry) ≡ Some x → TellsEntry entries x
    entry_tells entries entry x c is = elim (cases_Bool (entry.thread == 1)) [
      | inl one ↦ record { entry = entry; there = c; thread = eqb-true entry.thread 1 one; clears = sym (ap (λ b. if b then slot_cleared entry.op else None) one) ∙ is }
      | inr not ↦ (let none : None ≡ Some x = sym (ap (λ b. if b then slot_cleared entry.op else None) not) ∙ is in absurd (let no : ⊥ = cc in no))
    ]

    line_tells : (mid new : State) (piece : List Entry) (lines : List Line) → StepThreadsJoin mid piece lines new → (line : Line) (x : ℕ)
        → Contains lines line → told_cleared line ≡ Some x → TellsEntry (took mid piece).unprinted x
    line_tells mid new piece lines h line x c is =
        let answers : List Line = flat_map (λ j. map (reply_line j) (h.answers j)) mid.running in
        let entries : List Line = map (λ entry. L.Entry entry) (took mid piece).unprinted in
        elim (Contains-append_cases (answers ++ entries) (L.Joined (length mid.running) ∷ []) line (subst (λ ls. Contains ls line) h.lines_are c)) [
          | inl before ↦ elim (Contains-append_cases answers entries line before) [
            | inl here ↦ absurd (let none : told_cleared line ≡ None = answers_tell_none h.answers mid.running line here in let no : ⊥ = cc in no)
            | inr mine ↦
                (let w = Contains-map_some (λ entry. L.Entry entry) (took mid piece).unprinted line mine in
                entry_tells (took mid piece).unprinted w.0 x w.1 (ap told_cleared w.2 ∙ is))
          ]
          | inr last ↦ elim (Contains-cons_cases (L.Joined (length mid.running)) [] line last) [
            | inl joined ↦ absurd (let none : told_cleared line ≡ None = ap told_cleared (sym joined) in let no : ⊥ = cc in no)
            | inr past ↦ absurd (omega (arith, past.1))
          ]
        ]

    -- no entry of thread 1 was yet to be told before
    told_since : (mid : State) (piece : List Entry) (x : ℕ) → All IsOwners mid.unprinted → TellsEntry (took mid piece).unprinted x → TellsEntry piece x
    told_since mid piece x own t =
        elim (Contains-append_cases mid.unprinted piece t.entry (subst (λ es. Contains es t.entry) (took_unprinted mid piece) t.there)) [
          | inl before ↦ absurd (let zeroth : t.entry.thread ≡ 0 = All-contains IsOwners mid.unprinted t.entry own before in let one = t.thread in omega (arith, zeroth, one))
          | inr since ↦ record { entry = t.entry; there = since; thread = t.thread; clears = t.clears }
        ]

    releasing : (op : Op) (x : ℕ) → IsReleasing op → slot_cleared op ≡ Some x → get_or shared x Free ≡ Released
    releasing (O.Clear y) x h is = (let same : y ≡ x = cc in subst (λ i. get_or shared i Free ≡ Released) same h)
    releasing op x h is = absurd h

    -- ---- both together

    -- but for what threads may change the state is as it was
    abbrev ThreadsElse : State → State → Type 0
    ThreadsElse old new =
        new ≡ record old {
          region = new.region;
          may = new.may;
          queues = new.queues;
          running = new.running;
          awaiting = new.awaiting;
          unprinted = new.unprinted;
          ordinal = new.ordinal;
        }

    module _ (stay : StepsStayInTheirFamily) (joins : JoinsTellAll) (setup : Setup) (old s mid new : State) (piece : List Entry) (lines : List Line)
        (rest : IsRegionAtRest old shared) (none : old.running ≡ []) (q : AreQueued old s shared)
        (join : Step setup mid C.ThreadsJoin piece lines new) where
      join_else : ThreadsElse mid new
      join_else =
          let h : StaysInFamily (family_of C.ThreadsJoin) mid piece lines new = stay setup mid C.ThreadsJoin piece lines new join in
          h.rest ∙ ap (λ n. record mid {
            region = replayed mid.region piece;
            may = new.may;
            queues = new.queues;
            running = new.running;
            awaiting = new.awaiting;
            unprinted = new.unprinted;
            ordinal = n;
          }) (sym (ap (λ (t : State). t.ordinal) h.rest)) ∙ ap (λ r. record mid {
            region = r;
            may = new.may;
            queues = new.queues;
            running = new.running;
            awaiting = new.awaiting;
            unprinted = new.unprinted;
            ordinal = new.ordinal;
          }) (sym (ap (λ (t : State). t.region) h.rest))

      region_after_join : new.region ≡ replayed mid.region piece
      region_after_join =
          let h : StaysInFamily (family_of C.ThreadsJoin) mid piece lines new = stay setup mid C.ThreadsJoin piece lines new join in
          ap (λ (t : State). t.region) h.rest

      after_join : (go : mid ≡ record s { running = mid.running; awaiting = mid.awaiting; ordinal = mid.ordinal }) → LeavesNone mid new
          → new ≡ record old { region = new.region; may = new.may; queues = new.queues; unprinted = []; ordinal = new.ordinal }
      after_join go left =
          let Ends : State → List ℕ → Bool → List Entry → Type 0 = λ t running awaiting unprinted. new ≡ record t {
            region = new.region;
            may = new.may;
            queues = new.queues;
            running = running;
            awaiting = awaiting;
            unprinted = unprinted;
            ordinal = new.ordinal;
          } in
          let told : Ends mid [] false [] =
          subst (λ r. Ends mid r false []) left.none_runs
          (subst (λ a. Ends mid new.running a []) left.none_awaited (subst (λ u. Ends mid new.running new.awaiting u) left.all_told join_else)) in
          let far : Ends old [] false [] = subst (λ t. Ends t [] false []) q.same (subst (λ t. Ends t [] false []) go told) in
          subst (λ r. Ends old r old.awaiting []) (sym none) (subst (λ a. Ends old [] a []) (sym rest.awaiting) far)

      -- the threads that run are of the eight, in order, and left these orders
      runs : (go : mid ≡ record s { running = mid.running; awaiting = mid.awaiting; ordinal = mid.ordinal }) → LeavesNone mid new
          → ((j : ℕ) → All (ClearsReleased shared) (queue_of new j)) → ((x : ℕ) → TellsEntry piece x → (j : ℕ) → queue_of new j ≡ [])
          → HaveRun old shared lines new
      runs go left after done =
          let region : mid.region ≡ old.region = ap (λ (t : State). t.region) go ∙ ap (λ (t : State). t.region) q.same in
          let unprinted : mid.unprinted ≡ old.unprinted = ap (λ (t : State). t.unprinted) go ∙ ap (λ (t : State). t.unprinted) q.same in
          let own : All IsOwners mid.unprinted = subst (All IsOwners) (sym unprinted) rest.told in
          let clear : (j : ℕ) → All (ClearsReleased shared) (queue_of mid j) = λ j.
          subst (λ qs. All (ClearsReleased shared) (get_or qs (j - 1) [])) (sym (ap (λ (t : State). t.queues) go)) (q.orders j) in
          let released : All Releases piece = piece_releases mid new piece lines join clear in
          record {
            same = after_join go left;
            slots = ap length region_after_join ∙ replay_count mid.region piece ∙ ap length region;
            others = λ z other.
                ap (λ r. region_slot r z) region_after_join ∙ replay_spares mid.region piece released z other ∙ ap (λ r. region_slot r z) region;
            queues = ap (λ (t : State). length t.queues) join.after;
            orders = after;
            cleared = λ x line c is.
                let t : TellsEntry piece x = told_since mid piece x own (line_tells mid new piece lines join line x c is) in
                record {
                  released = releasing t.entry.op x (All-contains Releases piece t.entry released t.there) t.clears;
                  null = ap (λ r. region_slot r x) region_after_join ∙ replay_clears mid.region piece released t.entry x t.there t.clears;
                  done = done x t;
                };
          }

      -- ---- no thread was started

      abbrev Wanting : Type 0
      Wanting = mid ≡ answered (record s { awaiting = true })

      idle : Wanting → mid.running ≡ []
      idle is = ap (λ (t : State). t.running) is ∙ ap (λ (t : State). t.running) q.same ∙ none

      idle_threads : Wanting → AreThreads mid.running
      idle_threads is = subst AreThreads (sym (idle is)) (record { each = λ j c. absurd (omega (arith, c.1)); ascending = λ k low. absurd (omega (arith, low)) })

      ran_none : Wanting → HaveRun old shared lines new
      ran_none is =
          let left : LeavesNone mid new = (joins setup mid new piece lines (idle_threads is) join).1 in
          let nothing : piece ≡ [] = no_others mid.running mid piece refl (idle is) join.others in
          runs (subst (λ (t : State). t ≡ record s { running = t.running; awaiting = t.awaiting; ordinal = t.ordinal }) (sym is) refl) left
          (each_queue new (ap (λ (t : State). length t.queues) join.after) (All (ClearsReleased shared)) (All-nil (ClearsReleased shared))
          (λ j thread.
          subst (All (ClearsReleased shared))
          (sym (left.kept j thread (λ c. none_running j (subst (λ js. Contains js j) (idle is) c)) ∙ ap (λ (t : State). queue_of t j) is)) (q.orders j)))
          (λ x t. absurd (let c = subst (λ es. Contains es t.entry) nothing t.there in omega (arith, c.1)))

      -- ---- all threads with orders were started

      abbrev Going : Type 0
      Going = mid ≡ answered (record s { running = threads_with_orders s; awaiting = true })

      emptied : Going → (m : ℕ) → AreStarted s m mid → LeavesNone mid new → (j : ℕ) → IsThread j → (orders : List Order) → queue_of s j ≡ orders → queue_of new j ≡ []
      emptied is m started left j thread [] e =
          left.kept j thread (λ c. started.no_others j c e) ∙ ap (λ (t : State). queue_of t j) is ∙ e
      emptied is m started left j thread (order ∷ orders) e =
          left.emptied j thread (started.with_orders j thread (λ no. let clash : [] ≡ order ∷ orders = sym no ∙ e in cc))

      ran_all : Going → (m : ℕ) → AreStarted s m mid → HaveRun old shared lines new
      ran_all is m started =
          let left : LeavesNone mid new = (joins setup mid new piece lines started.threads join).1 in
          let empty : (j : ℕ) → queue_of new j ≡ [] =
          each_queue new (ap (λ (t : State). length t.queues) join.after) (λ orders. orders ≡ []) refl
          (λ j thread. emptied is m started left j thread (queue_of s j) refl) in
          runs (subst (λ (t : State). t ≡ record s { running = t.running; awaiting = t.awaiting; ordinal = t.ordinal }) (sym is) refl) left
          (λ j. subst (All (ClearsReleased shared)) (sym (empty j)) (All-nil (ClearsReleased shared))) (λ x t. empty)

      -- the thread did what it could
      pub have_run : (starts : ThreadsWithOrdersGo) (first : List Entry) (told : List Line) → Step setup s C.ThreadsGo first told mid → HaveRun old shared lines new
      have_run starts first told go = elim go.1 [
        | inl memory ↦ ran_none memory.1
        | inr done ↦ ran_all done.1 (length (threads_with_orders s)) (starts setup s mid first told (length (threads_with_orders s)) go done.0)
      ]
