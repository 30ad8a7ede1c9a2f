-- Pieces of a region's history, as its owner takes them.
use Rattle.std.proofs.Common.{◌≡◌, ℕ, ◌-◌, ◌≤◌, Bool, List, [], ◌∷◌, ◌++◌, length, take, drop, refl, sym, ap, ◌∙◌, arith}
use Rattle.std.specs.Prelude.{Contains}
use Rattle.std.proofs.Math.Seq.{take-append_seam}
use Rattle.std.proofs.lemmas.List.{append_assoc, drop_at, drop-append-le, length-append, map-append, take-append-drop}
use Rattle.std.proofs.lemmas.List.Elements.{All-head, All-tail}
use Rattle.gc_graph.specs.declared.region.Entry.{Entry}
use Rattle.gc_graph.specs.declared.region.Op.{Op}
use Rattle.gc_graph.specs.declared.region.Op.TheVariants as O
use Rattle.gc_graph.specs.History.{replayed, reply_of, started_after, started_through}
use Rattle.gc_graph.specs.Outcomes.{AreOthers, IsThreadOp, owner_entry, took}
use Rattle.gc_graph.specs.State.{State, RegionSlot}
use Rattle.callback_table.specs.Registry.{registrations_of}
use Rattle.cross_thread_region.specs.declared.chronicle.PlacedEntry.{PlacedEntry}
use Rattle.cross_thread_region.specs.Calls.{Begins, placed_entry_of}
use Rattle.cross_thread_region.specs.Histories.{entries_of, slots_of}
use Rattle.cross_thread_region.specs.OrdersStay.{slots_on}
use Rattle.heap_roots.specs.Calls.{HasEntered, TakesMore}
use Rattle.heap_roots.specs.Owned.{OwnedView, found_of, piece_of, untold_of, with_region}
use Rattle.heap_cycle.specs.declared.parts.Parts.{Parts}
use Rattle.heap_roots.specs.Took.{took_is}

-- what the parts besides the region hold of the state
abbrev pub others_of : Parts → State
others_of s = record s.cycle.rest {
  nodes = s.objects.nodes;
  slots = s.handles.slots;
  weak = s.handles.weak;
  stack = s.handles.stack.words;
  registrations = registrations_of s.cycle.registered;
  phase = s.cycle.phase;
}

-- ---- beginnings

pub begins_on : (xs ys : List PlacedEntry) → Begins xs (xs ++ ys)
begins_on xs ys = take-append_seam xs ys

-- what begins a history has the rest of it behind it
pub begun_by : (xs zs : List PlacedEntry) → Begins xs zs → zs ≡ xs ++ drop (length xs) zs
begun_by xs zs begins = sym (take-append-drop (length xs) zs) ∙ ap (λ l. l ++ drop (length xs) zs) begins

-- ---- a piece more

-- the owner took this piece of the history, and changed nothing else
pub record GoesOn (old : OwnedView) (xs : List PlacedEntry) (new : OwnedView) : Type 0 where
  pub taken : new.taken ≡ old.taken ++ xs
  pub rest : new ≡ record old { taken = new.taken }

module _ (old new : OwnedView) (xs : List PlacedEntry) (is : GoesOn old xs new) where
  pub piece_is : piece_of old new ≡ entries_of xs
  piece_is =
      ap (λ l. entries_of (drop (length old.taken) l)) is.taken ∙ ap entries_of (drop_at old.taken xs (length old.taken) refl)

  untold_is : old.printed ≤ length old.taken → untold_of new ≡ untold_of old ++ entries_of xs
  untold_is low =
      ap (λ (v : OwnedView). entries_of (drop v.printed new.taken)) is.rest ∙ ap (λ l. entries_of (drop old.printed l)) is.taken
      ∙ ap entries_of (drop-append-le old.printed old.taken xs low)
      ∙ map-append (λ (p : PlacedEntry). p.entry) (drop old.printed old.taken) xs

  -- the state gets its slots and what is to be printed from it
  pub state_on : (s : State) → old.printed ≤ length old.taken
      → with_region new s
      ≡ record (with_region old s) { region = replayed (slots_of old.taken) (entries_of xs); unprinted = untold_of old ++ entries_of xs }
  state_on s low =
      let build : List RegionSlot → OwnedView → List Entry → State = λ region v es.
      record s { region = region; queues = v.queues; running = v.running; awaiting = v.awaiting; unprinted = es } in
      ap (λ (v : OwnedView). build (slots_of new.taken) v (untold_of new)) is.rest
      ∙ ap (λ region. build region old (untold_of new)) (ap slots_of is.taken ∙ slots_on old.taken xs)
      ∙ ap (build (replayed (slots_of old.taken) (entries_of xs)) old) (untold_is low)

  -- so it is the state that took the piece, where it has what may be kept then
  pub state_taken : (s : State) → old.printed ≤ length old.taken
      → with_region new (record s { may = (took (with_region old s) (entries_of xs)).may }) ≡ took (with_region old s) (entries_of xs)
  state_taken s low =
      state_on (record s { may = (took (with_region old s) (entries_of xs)).may }) low ∙ sym (took_is (with_region old s) (entries_of xs))

-- ---- an entry of the owner behind those of threads

module _ (op : Op) (place : ℕ) (old new : OwnedView) (is : HasEntered op place old new) where
  abbrev pub own : PlacedEntry
  own = placed_entry_of 0 (old.taken ++ is.others) op place

  pub goes_on : GoesOn old (is.others ++ own ∷ []) new
  goes_on = record {
    taken = is.taken ∙ append_assoc old.taken is.others (own ∷ []);
    rest = is.rest;
  }

  pub own_entry : (s : State) → s.region ≡ slots_of old.taken → own.entry ≡ owner_entry (took s (entries_of is.others)) op
  own_entry s slots =
      let made : List RegionSlot → Entry = λ region. record { thread = 0; op = op; reply = reply_of region op } in
      ap made (slots_on old.taken is.others ∙ ap (λ region. replayed region (entries_of is.others)) (sym slots)
      ∙ sym (ap (λ (t : State). t.region) (took_is s (entries_of is.others))))

  pub entered_entries : (s : State) → s.region ≡ slots_of old.taken
      → entries_of (is.others ++ own ∷ []) ≡ entries_of is.others ++ owner_entry (took s (entries_of is.others)) op ∷ []
  entered_entries s slots =
      map-append (λ (p : PlacedEntry). p.entry) is.others (own ∷ []) ∙ ap (λ e. entries_of is.others ++ e ∷ []) (own_entry s slots)

  -- what it found is all but its own entry
  pub found_is : found_of new ≡ old.taken ++ is.others
  found_is =
      let found : List PlacedEntry = old.taken ++ is.others in
      ap (λ l. take (length l - 1) l) is.taken
      ∙ ap (λ n. take n (found ++ own ∷ [])) (let e : length (found ++ own ∷ []) - 1 ≡ length found = omega (arith, length-append found (own ∷ [])) in e)
      ∙ take-append_seam found (own ∷ [])

-- ---- one command after another

behind_both : (xs ys zs : List PlacedEntry) → Begins xs ys → Begins ys zs → zs ≡ xs ++ (drop (length xs) ys ++ drop (length ys) zs)
behind_both xs ys zs first second =
    begun_by ys zs second ∙ ap (λ l. l ++ drop (length ys) zs) (begun_by xs ys first) ∙ append_assoc xs (drop (length xs) ys) (drop (length ys) zs)

-- what both took is what the one took, and then what the other did
pub piece_both : (a b c : OwnedView) → TakesMore a b → TakesMore b c → piece_of a c ≡ piece_of a b ++ piece_of b c
piece_both a b c first second =
    ap (λ l. entries_of (drop (length a.taken) l)) (behind_both a.taken b.taken c.taken first.begins second.begins)
    ∙ ap entries_of (drop_at a.taken (drop (length a.taken) b.taken ++ drop (length b.taken) c.taken) (length a.taken) refl)
    ∙ map-append (λ (p : PlacedEntry). p.entry) (drop (length a.taken) b.taken) (drop (length b.taken) c.taken)

-- and both changed nothing else
pub takes_both : (a b c : OwnedView) → TakesMore a b → TakesMore b c → TakesMore a c
takes_both a b c first second = record {
  begins = ap (take (length a.taken)) (behind_both a.taken b.taken c.taken first.begins second.begins) ∙ begins_on a.taken _;
  rest = second.rest ∙ ap (λ (v : OwnedView). record v { taken = c.taken }) first.rest;
}

-- ---- entries of threads

-- entries of threads start no collection and end none
pub others_start_nothing : (s : State) (started : Bool) (es : List Entry) → AreOthers s es → started_through started es ≡ started
others_start_nothing s started [] others = refl
others_start_nothing s started (e ∷ es) others =
    let Is : Entry → Type 0 = λ (entry : Entry). Contains s.running entry.thread × IsThreadOp entry.op in
    others_start_nothing s (started_after started e.op) es (All-tail Is e es others)
    ∙ first started e.op (All-head Is e es others).1
  where
    first : (started : Bool) (op : Op) → IsThreadOp op → started_after started op ≡ started
    first started (O.Export x n) is = absurd is
    first started (O.Import x) is = absurd is
    first started O.Start is = absurd is
    first started (O.Pause cleared) is = absurd is
    first started (O.Copy x y) is = refl
    first started (O.Clear x) is = refl
    first started (O.Weaken x) is = refl
    first started (O.Upgrade x y) is = refl
