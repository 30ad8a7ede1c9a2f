-- The markers of a crew begin one after another.
use Rattle.std.proofs.Common.{◌≡◌, suc, ◌+◌, ◌<◌, List, [], ◌∷◌, ◌++◌, length, map, take, drop, get_or, refl, sym, ap, ◌∙◌, arith}
use Rattle.std.specs.List.{All, remove}
use Rattle.std.proofs.lemmas.List.{append-nil, append_assoc, map-append}
use Rattle.pair_notes.specs.Notes.{NotesState}
use Rattle.page_words.specs.Markers.{MarkerSeatView}
use Rattle.mark_worklist.specs.Shares.{ShareState}
use Rattle.marker_crew.specs.Crews.{Marker, begun_with}
use Rattle.marker_crew.specs.declared.runners.Runner.{Runner}
use Rattle.marker_crew.specs.Runners.{began_as}

-- the first seat, the first share and the first group of a marker's notes are one marker's
begun_next : (seats : List MarkerSeatView) (shares : List ShareState) (notes : List NotesState) (v : MarkerSeatView) (h : ShareState) (n : NotesState)
    → 0 < length seats → 0 < length shares → 1 < length notes → v ≡ get_or seats 0 v → h ≡ get_or shares 0 h → n ≡ get_or notes 1 n
    → begun_with seats shares (drop 1 notes)
    ≡ record { seat = v; share = h; notes = n } ∷ begun_with (remove seats 0) (remove shares 0) (drop 1 (remove notes 1))
begun_next [] shares notes v h n some more two x y z = absurd (omega (arith, some))
begun_next (w ∷ seats) [] notes v h n some more two x y z = absurd (omega (arith, more))
begun_next (w ∷ seats) (g ∷ shares) [] v h n some more two x y z = absurd (omega (arith, two))
begun_next (w ∷ seats) (g ∷ shares) (o ∷ []) v h n some more two x y z = absurd (omega (arith, two))
begun_next (w ∷ seats) (g ∷ shares) (o ∷ m ∷ notes) v h n some more two x y z =
    ap (λ (b : Marker). b ∷ begun_with seats shares notes)
    (ap (λ s. record { seat = s; share = g; notes = m }) (sym x) ∙ ap (λ s. record { seat = v; share = s; notes = m }) (sym y)
    ∙ ap (λ s. record { seat = v; share = h; notes = s }) (sym z))

pub begun_more : (runners : List Runner) (runner : Runner) (all : List Marker) (seats : List MarkerSeatView) (shares : List ShareState) (notes : List NotesState)
    (v : MarkerSeatView) (h : ShareState) (n : NotesState)
    → 0 < length seats → 0 < length shares → 1 < length notes → v ≡ get_or seats 0 v → h ≡ get_or shares 0 h → n ≡ get_or notes 1 n
    → began_as runner ≡ record { seat = v; share = h; notes = n }
    → map began_as runners ++ begun_with seats shares (drop 1 notes) ≡ all
    → map began_as (runners ++ runner ∷ []) ++ begun_with (remove seats 0) (remove shares 0) (drop 1 (remove notes 1)) ≡ all
begun_more runners runner all seats shares notes v h n some more two x y z is whole =
    let rest : List Marker = begun_with (remove seats 0) (remove shares 0) (drop 1 (remove notes 1)) in
    ap (λ l. l ++ rest) (map-append began_as runners (runner ∷ []))
    ∙ append_assoc (map began_as runners) (began_as runner ∷ []) rest
    ∙ ap (λ m. map began_as runners ++ m ∷ rest) is
    ∙ ap (λ l. map began_as runners ++ l) (sym (begun_next seats shares notes v h n some more two x y z))
    ∙ whole

-- the owner's group stays
pub own_stays : (notes : List NotesState) → 1 < length notes → take 1 (remove notes 1) ≡ take 1 notes
own_stays [] two = absurd (omega (arith, two))
own_stays (o ∷ notes) two = refl

pub all_rest : {X : Type 0} (P : X → Type 0) (xs : List X) → All P xs → All P (remove xs 0)
all_rest P [] all k d low = absurd (omega (arith, low))
all_rest P (x ∷ xs) all k d low = all (suc k) d (omega (arith, low))

pub first_less : {X : Type 0} (xs : List X) → 0 < length xs → length (remove xs 0) + 1 ≡ length xs
first_less [] some = absurd (omega (arith, some))
first_less (x ∷ xs) some = omega arith

pub second_less : {X : Type 0} (xs : List X) → 1 < length xs → length (remove xs 1) + 1 ≡ length xs
second_less [] some = absurd (omega (arith, some))
second_less (x ∷ []) some = absurd (omega (arith, some))
second_less (x ∷ y ∷ xs) some = omega arith

-- at the end nothing is left to begin
pub none_left : (all begun : List Marker) (seats : List MarkerSeatView) (shares : List ShareState) (notes : List NotesState) → length seats ≡ 0
    → begun ++ begun_with seats shares notes ≡ all → begun ≡ all
none_left all begun [] shares notes none whole = sym (append-nil begun) ∙ whole
none_left all begun (v ∷ seats) shares notes none whole = absurd (omega (arith, none))

pub take_all : {X : Type 0} (xs : List X) → length xs ≡ 1 → take 1 xs ≡ xs
take_all [] one = refl
take_all (x ∷ []) one = refl
take_all (x ∷ y ∷ xs) one = absurd (omega (arith, one))
