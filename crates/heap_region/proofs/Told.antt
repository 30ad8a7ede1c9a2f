-- Which line stands where among those that a join tells.
use Rattle.std.proofs.Common.{◌≡◌, ℕ, zero, suc, ◌+◌, ◌-◌, ◌<◌, ◌≤◌, Bool, true, false, List, [], ◌∷◌, ◌++◌, length, drop, map, Some, refl, sym, ap, ◌∙◌, arith}
use Rattle.std.specs.Prelude.{option_map}
use Rattle.std.specs.List.{slice_get}
use Rattle.std.proofs.lemmas.List.{length-append, length-drop, length-map}
use Rattle.std.proofs.lemmas.Option.{slice_get-map}
use Rattle.gc_graph.specs.declared.line.Line.{Line}
use Rattle.gc_graph.specs.declared.line.Line.TheVariants as L
use Rattle.gc_graph.specs.declared.region.Entry.{Entry}
use Rattle.cross_thread_region.specs.declared.chronicle.PlacedEntry.{PlacedEntry}
use Rattle.cross_thread_region.specs.Histories.{entries_of}
use Rattle.heap_region.specs.Inside.{lines_told}

get_later : {X : Type 0} (xs ys : List X) (k : ℕ) → slice_get (xs ++ ys) (length xs + k) ≡ slice_get ys k
get_later [] ys k = ap (slice_get ys) (let same : 0 + k ≡ k = omega arith in same)
get_later (x ∷ xs) ys k = ap (slice_get (x ∷ xs ++ ys)) (let same : suc (length xs) + k ≡ suc (length xs + k) = omega arith in same) ∙ get_later xs ys k

get_dropped : {X : Type 0} (n : ℕ) (xs : List X) (k : ℕ) → slice_get (drop n xs) k ≡ slice_get xs (n + k)
get_dropped zero xs k = ap (slice_get xs) (let same : k ≡ 0 + k = omega arith in same)
get_dropped (suc n) [] k = refl
get_dropped (suc n) (x ∷ xs) k = get_dropped n xs k ∙ ap (slice_get (x ∷ xs)) (let same : suc (n + k) ≡ suc n + k = omega arith in same)

-- the lines of the entries that were taken behind the first ones
abbrev entry_lines : ℕ → List PlacedEntry → List Line
entry_lines shown taken = map (λ entry. L.Entry entry) (entries_of (drop shown taken))

entry_lines_len : (shown : ℕ) (taken : List PlacedEntry) → length (entry_lines shown taken) ≡ length taken - shown
entry_lines_len shown taken =
    length-map (entries_of (drop shown taken)) (λ entry. L.Entry entry) ∙ length-map (drop shown taken) (λ (p : PlacedEntry). p.entry) ∙ length-drop shown taken

-- some lines are told
pub lines_len : (telling : Bool) (replies : List Line) (shown : ℕ) (taken : List PlacedEntry) → 0 < length (lines_told telling replies shown taken)
    → length (lines_told telling replies shown taken) ≡ length replies + (length taken - shown)
lines_len true replies shown taken some = omega (arith, length-append replies (entry_lines shown taken), entry_lines_len shown taken)
lines_len false replies shown taken some = absurd (omega (arith, some))

-- behind the replies stand the entries
pub entry_told : (telling : Bool) (replies : List Line) (shown : ℕ) (taken : List PlacedEntry) (entries : List Entry) (index : ℕ) (e : Entry)
    → index < length (lines_told telling replies shown taken) → length replies ≤ index → entries ≡ entries_of taken
    → slice_get entries (shown + (index - length replies)) ≡ Some e → slice_get (lines_told telling replies shown taken) index ≡ Some (L.Entry e)
entry_told false replies shown taken entries index e low past kept at = absurd (omega (arith, low))
entry_told true replies shown taken entries index e low past kept at =
    let k : ℕ = index - length replies in
    let here : index ≡ length replies + k = omega (arith, past) in
    let entry : slice_get (entries_of (drop shown taken)) k ≡ Some e =
    slice_get-map (λ (p : PlacedEntry). p.entry) (drop shown taken) k ∙ ap (option_map (λ (p : PlacedEntry). p.entry)) (get_dropped shown taken k)
    ∙ sym (slice_get-map (λ (p : PlacedEntry). p.entry) taken (shown + k)) ∙ ap (λ es. slice_get es (shown + k)) (sym kept) ∙ at in
    ap (slice_get (replies ++ entry_lines shown taken)) here ∙ get_later replies (entry_lines shown taken) k
    ∙ slice_get-map (λ entry. L.Entry entry) (entries_of (drop shown taken)) k ∙ ap (option_map (λ entry. L.Entry entry)) entry
