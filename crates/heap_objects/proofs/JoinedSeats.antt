-- The seat once markers joined it, and sums over what they leave.
use Rattle.std.proofs.Common.{◌≡◌, ℕ, zero, suc, ◌+◌, ◌-◌, ◌<◌, ◌≤◌, Bool, true, false, List, [], ◌∷◌, ◌++◌, length, map, get_or, refl, sym, ap, ap₂, ◌∙◌, ◌||◌, arith}
use Rattle.std.specs.List.{All, flat_map, sum_by}
use Rattle.std.proofs.lemmas.List.{append-nil, append_assoc}
use Rattle.std.proofs.lemmas.List.Concat.{flat_map-cons}
use Rattle.std.proofs.lemmas.List.Elements.{All-head, All-tail}
use Rattle.std.proofs.lemmas.List.Sums.{sum_by-cons}
use Rattle.page_words.specs.Markers.{MarkerSeatView, joined_with}
use Rattle.page_words.specs.Seat.{SeatView}
use Rattle.mark_worklist.specs.Ends.{OtherState}
use Rattle.mark_worklist.specs.Families.{at, IsFresh}
use Rattle.mark_worklist.specs.Joining.{refused_by}
use Rattle.mark_worklist.specs.Shares.{ShareState, taken_by_share}
use Rattle.marker_crew.specs.Crews.{joined_with_all}

-- ---- the seats

-- what the seats marked, traced, noted and found traced follows what the owner's had, and so many seats fewer are lent
abbrev pub with_seats : SeatView → List MarkerSeatView → SeatView
with_seats v seats = record v {
  mutator = record v.mutator {
    marked = v.marked ++ flat_map (λ m. m.marked) seats;
    traced = v.traced ++ flat_map (λ m. m.traced) seats;
    noted = v.noted ++ flat_map (λ m. m.noted) seats;
    done = v.done ++ flat_map (λ m. m.done) seats;
    missed = v.missed ++ flat_map (λ m. m.missed) seats;
    lent = v.lent - length seats;
  };
}

pub follow : {X : Type 0} (f : MarkerSeatView → List X) (xs : List X) (m : MarkerSeatView) (seats : List MarkerSeatView)
    → (xs ++ f m) ++ flat_map f seats ≡ xs ++ flat_map f (m ∷ seats)
follow f xs m seats = append_assoc xs (f m) (flat_map f seats) ∙ ap (λ l. xs ++ l) (sym (flat_map-cons f m seats))

pub joined_is : (v : SeatView) (seats : List MarkerSeatView) → joined_with_all v seats ≡ with_seats v seats
joined_is v [] =
    ap (λ l. record v { mutator = record v.mutator { marked = l } }) (sym (append-nil v.marked))
    ∙ ap (λ l. record v { mutator = record v.mutator { marked = v.marked ++ []; traced = l } }) (sym (append-nil v.traced))
    ∙ ap (λ l. record v { mutator = record v.mutator { marked = v.marked ++ []; traced = v.traced ++ []; noted = l } }) (sym (append-nil v.noted))
    ∙ ap (λ l. record v { mutator = record v.mutator { marked = v.marked ++ []; traced = v.traced ++ []; noted = v.noted ++ []; done = l } }) (sym (append-nil v.done))
    ∙ ap (λ l. record v { mutator = record v.mutator { marked = v.marked ++ []; traced = v.traced ++ []; noted = v.noted ++ []; done = v.done ++ []; missed = l } }) (sym (append-nil v.missed))
    ∙ ap (λ n. record v { mutator = record v.mutator { marked = v.marked ++ []; traced = v.traced ++ []; noted = v.noted ++ []; done = v.done ++ []; missed = v.missed ++ []; lent = n } })
    (let none : v.lent ≡ v.lent - 0 = omega arith in none)
joined_is v (m ∷ seats) =
    let w : SeatView = joined_with v m in
    let marks = follow (λ s. s.marked) v.marked m seats in
    let traces = follow (λ s. s.traced) v.traced m seats in
    let notes = follow (λ s. s.noted) v.noted m seats in
    let done = follow (λ s. s.done) v.done m seats in
    let missed = follow (λ s. s.missed) v.missed m seats in
    let lent : v.lent - 1 - length seats ≡ v.lent - length (m ∷ seats) = omega arith in
    joined_is w seats
    ∙ ap (λ l. record (with_seats w seats) { mutator = record (with_seats w seats).mutator { marked = l } }) marks
    ∙ ap (λ l. record (with_seats w seats) { mutator = record (with_seats w seats).mutator { marked = v.marked ++ flat_map (λ s. s.marked) (m ∷ seats); traced = l } }) traces
    ∙ ap (λ l. record (with_seats w seats) { mutator = record (with_seats w seats).mutator { marked = v.marked ++ flat_map (λ s. s.marked) (m ∷ seats); traced = v.traced ++ flat_map (λ s. s.traced) (m ∷ seats); noted = l } }) notes
    ∙ ap (λ l. record (with_seats w seats) { mutator = record (with_seats w seats).mutator { marked = v.marked ++ flat_map (λ s. s.marked) (m ∷ seats); traced = v.traced ++ flat_map (λ s. s.traced) (m ∷ seats); noted = v.noted ++ flat_map (λ s. s.noted) (m ∷ seats); done = l } }) done
    ∙ ap (λ l. record (with_seats v (m ∷ seats)) { mutator = record (with_seats v (m ∷ seats)).mutator { missed = l; lent = v.lent - 1 - length seats } }) missed
    ∙ ap (λ n. record (with_seats v (m ∷ seats)) { mutator = record (with_seats v (m ∷ seats)).mutator { lent = n } }) lent

pub or_false : (b : Bool) → (b || false) ≡ b
or_false true = refl
or_false false = refl

-- ---- sums

pub sum_mapped : {X Y : Type 0} (f : Y → ℕ) (h : X → Y) (xs : List X) → sum_by f (map h xs) ≡ sum_by (λ x. f (h x)) xs
sum_mapped f h [] = refl
sum_mapped f h (x ∷ xs) = sum_by-cons f (h x) (map h xs) ∙ ap (λ c. f (h x) + c) (sum_mapped f h xs) ∙ sym (sum_by-cons (λ y. f (h y)) x xs)

pub sum_alike : {X : Type 0} (f h : X → ℕ) (xs : List X) (d : X) → ((k : ℕ) → k < length xs → f (get_or xs k d) ≡ h (get_or xs k d)) → sum_by f xs ≡ sum_by h xs
sum_alike f h [] d same = refl
sum_alike f h (x ∷ xs) d same =
    sum_by-cons f x xs ∙ ap₂ (λ a b. a + b) (same 0 (omega arith)) (sum_alike f h xs d (λ k low. same (suc k) (omega (arith, low)))) ∙ sym (sum_by-cons h x xs)

pub one_of_sum : {X : Type 0} (f : X → ℕ) (xs : List X) (k : ℕ) (d : X) → k < length xs → f (get_or xs k d) ≤ sum_by f xs
one_of_sum f [] k d low = absurd (omega (arith, low))
one_of_sum f (x ∷ xs) zero d low = omega (arith, sum_by-cons f x xs)
one_of_sum f (x ∷ xs) (suc k) d low = omega (arith, sum_by-cons f x xs, one_of_sum f xs k d (omega (arith, low)))

pub single : (shares : List ShareState) → length shares ≡ 1 → refused_by shares ≡ (at shares 0).refused
single [] one = absurd (omega (arith, one))
single (s ∷ []) one = sum_by-cons (λ (x : ShareState). x.refused) s [] ∙ omega arith
single (s ∷ t ∷ shares) one = absurd (omega (arith, one))

-- a share of which no call was made took nothing
pub nothing_taken : (s : ShareState) → IsFresh s → taken_by_share s ≡ []
nothing_taken s fresh = ap (λ l. l ++ flat_map (λ (e : OtherState). e.taken) s.others) fresh.taken ∙ none s.others fresh.stolen
  where
    none : (others : List OtherState) → All (λ e. e.taken ≡ []) others → flat_map (λ (e : OtherState). e.taken) others ≡ []
    none [] empty = refl
    none (e ∷ others) empty =
        flat_map-cons (λ (o : OtherState). o.taken) e others
        ∙ ap₂ (λ a b. a ++ b) (All-head (λ (o : OtherState). o.taken ≡ []) e others empty) (none others (All-tail (λ (o : OtherState). o.taken ≡ []) e others empty))
