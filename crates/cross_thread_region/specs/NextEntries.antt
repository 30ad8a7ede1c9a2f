-- For crates above: what one more entry at the end of a history does.
use Rattle.std.specs.Prelude.{◌≡◌, ℕ, List, [], ◌∷◌, ◌++◌, length, replicate, refl}
use Rattle.std.proofs.Common.{false, sym, ap, ◌∙◌, subst}
use Rattle.std.proofs.lemmas.List.{map-append}
use Rattle.gc_graph.specs.State.RegionSlot.{Vacant}
use Rattle.gc_graph.specs.History.{region_after, replayed, reply_of, started_after, started_through, MayPause, IsLegal}
use Rattle.gc_graph.specs.Replays.{replayed-append, started-append, legal-append, replayed_length}
use Rattle.cross_thread_region.specs.declared.chronicle.PlacedEntry.{PlacedEntry}
use Rattle.cross_thread_region.specs.Histories.{entries_of, slots_of, places_in_history, places_with, places_through, is_started}

places_on : (places : List ℕ) (history : List PlacedEntry) (placed : PlacedEntry)
    → places_through places (history ++ placed ∷ []) ≡ places_with (places_through places history) placed.entry.op placed.place
places_on places [] placed = refl
places_on places (x ∷ xs) placed = places_on (places_with places x.entry.op x.place) xs placed

entries_on : (history : List PlacedEntry) (placed : PlacedEntry) → entries_of (history ++ placed ∷ []) ≡ entries_of history ++ placed.entry ∷ []
entries_on history placed = map-append (λ (p : PlacedEntry). p.entry) history (placed ∷ [])

-- the slots after the next entry
pub slots_next : (history : List PlacedEntry) (placed : PlacedEntry) → slots_of (history ++ placed ∷ []) ≡ region_after (slots_of history) placed.entry.op
slots_next history placed = ap (replayed (replicate 32 Vacant)) (entries_on history placed) ∙ replayed-append (replicate 32 Vacant) (entries_of history) (placed.entry ∷ [])

-- the places after the next entry
pub places_next : (history : List PlacedEntry) (placed : PlacedEntry)
    → places_in_history (history ++ placed ∷ []) ≡ places_with (places_in_history history) placed.entry.op placed.place
places_next history placed = places_on (replicate 32 0) history placed

-- the next entry starts a collection, ends one, or neither
pub started_next : (history : List PlacedEntry) (placed : PlacedEntry) → is_started (history ++ placed ∷ []) ≡ started_after (is_started history) placed.entry.op
started_next history placed = ap (started_through false) (entries_on history placed) ∙ started-append false (entries_of history) (placed.entry ∷ [])

-- a history with a next entry is legal where that entry's reply is right, and it may be a pause if it is one
pub legal_next : (history : List PlacedEntry) (placed : PlacedEntry) → IsLegal (entries_of history) → placed.entry.reply ≡ reply_of (slots_of history) placed.entry.op
    → MayPause (slots_of history) (is_started history) placed.entry.op → IsLegal (entries_of (history ++ placed ∷ []))
legal_next history placed l reply may =
    subst IsLegal (sym (entries_on history placed)) (legal-append (replicate 32 Vacant) false (entries_of history) (placed.entry ∷ []) l (reply, may, tt))

-- a region has 32 slots after each history
pub slots_len : (history : List PlacedEntry) → length (slots_of history) ≡ 32
slots_len history = replayed_length (replicate 32 Vacant) (entries_of history)
