-- The entries of one thread among those that its pass has seen.
use Rattle.std.proofs.Common.{◌≡◌, ◌≢◌, ℕ, List, [], ◌∷◌, ◌++◌, refl, ap, ◌∙◌, cond, eqb}
use Rattle.std.specs.List.{All}
use Rattle.std.proofs.lemmas.Bool.{eq-eqb, ne_eqb}
use Rattle.std.proofs.lemmas.List.{map-append}
use Rattle.std.proofs.lemmas.List.Elements.{All-head, All-tail, filter-append}
use Rattle.gc_graph.specs.declared.region.Entry.{Entry}
use Rattle.gc_graph.specs.RegionSteps.{entries_by}
use Rattle.cross_thread_region.specs.declared.chronicle.PlacedEntry.{PlacedEntry}
use Rattle.cross_thread_region.specs.Histories.{entries_of}
use Rattle.cross_thread_region.specs.Calls.{named}

-- none of these entries is the thread's
pub none_by : (j : ℕ) (rest : List PlacedEntry) → All (λ (p : PlacedEntry). named p ≢ j) rest → entries_by j (entries_of rest) ≡ []
none_by j [] others = refl
none_by j (p ∷ rest) others =
    ap (λ b. cond b (p.entry ∷ entries_by j (entries_of rest)) (entries_by j (entries_of rest)))
    (ne_eqb p.entry.thread j (All-head (λ (q : PlacedEntry). named q ≢ j) p rest others))
    ∙ none_by j rest (All-tail (λ (q : PlacedEntry). named q ≢ j) p rest others)

-- the entries of a thread, of two parts
pub by_append : (j : ℕ) (m n : List PlacedEntry) → entries_by j (entries_of (m ++ n)) ≡ entries_by j (entries_of m) ++ entries_by j (entries_of n)
by_append j m n =
    ap (entries_by j) (map-append (λ (placed : PlacedEntry). placed.entry) m n)
    ∙ filter-append (λ (entry : Entry). eqb entry.thread j) (entries_of m) (entries_of n)

-- just the last one of these is the thread's
pub last_by : (j : ℕ) (rest : List PlacedEntry) (placed : PlacedEntry) → All (λ (p : PlacedEntry). named p ≢ j) rest → named placed ≡ j
    → entries_by j (entries_of (rest ++ placed ∷ [])) ≡ placed.entry ∷ []
last_by j rest placed others own =
    by_append j rest (placed ∷ []) ∙ ap (λ l. l ++ entries_by j (placed.entry ∷ [])) (none_by j rest others)
    ∙ ap (λ b. cond b (placed.entry ∷ []) []) (eq-eqb placed.entry.thread j own)
