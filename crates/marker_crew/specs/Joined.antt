-- Lemmas that the crates above cite too: what begins with a crew, and what the mutator's view holds once its seats were joined.
use Rattle.std.proofs.Common.{◌≡◌, ℕ, zero, suc, ◌+◌, ◌-◌, ◌<◌, true, List, [], ◌∷◌, ◌++◌, length, map, get_or, refl, sym, ap, ◌∙◌, subst, inl, inr, arith}
use mathlib.Core.Logic.{◌⊎◌}
use Rattle.std.specs.List.{Contains, All, flat_map, sum_by}
use Rattle.std.proofs.lemmas.List.{append-nil, append_assoc, length-append}
use Rattle.std.proofs.lemmas.List.Concat.{length-flat_map}
use Rattle.std.proofs.lemmas.List.Sums.{sum_by-cons}
use Rattle.std.proofs.lemmas.List.Elements.{Contains-append_left, Contains-append_right, Contains-append_cases}
use Rattle.gc_graph.specs.Members.{Contains-cons, Contains-head, Contains-cons_cases, holds_from, in_from_holds}
use Rattle.pair_notes.specs.Notes.{NotesState}
use Rattle.marker_core.specs.Bodies.{holds}
use Rattle.page_words.specs.Markers.{MarkerSeatView, joined_with}
use Rattle.page_words.specs.Seat.{SeatView, with_mutator}
use Rattle.mark_worklist.specs.Families.{at}
use Rattle.mark_worklist.specs.Shares.{ShareState, IsSameShare}
use Rattle.marker_crew.specs.Crews.{Marker, Ending, HasDrained, begun_with, joined_with_all}

-- ---- the markers that begin

-- with as many shares and groups of notes as seats, as many markers begin as there are seats
pub begun_many : (seats : List MarkerSeatView) (shares : List ShareState) (notes : List NotesState) → length shares ≡ length seats → length notes ≡ length seats
    → length (begun_with seats shares notes) ≡ length seats
begun_many [] shares notes s n = refl
begun_many (v ∷ seats) [] notes s n = absurd (omega (arith, s))
begun_many (v ∷ seats) (h ∷ shares) [] s n = absurd (omega (arith, n))
begun_many (v ∷ seats) (h ∷ shares) (o ∷ notes) s n = ap suc (begun_many seats shares notes (omega (arith, s)) (omega (arith, n)))

pub begun_seats : (seats : List MarkerSeatView) (shares : List ShareState) (notes : List NotesState) → length shares ≡ length seats → length notes ≡ length seats
    → map (λ (m : Marker). m.seat) (begun_with seats shares notes) ≡ seats
begun_seats [] shares notes s n = refl
begun_seats (v ∷ seats) [] notes s n = absurd (omega (arith, s))
begun_seats (v ∷ seats) (h ∷ shares) [] s n = absurd (omega (arith, n))
begun_seats (v ∷ seats) (h ∷ shares) (o ∷ notes) s n = ap (λ xs. v ∷ xs) (begun_seats seats shares notes (omega (arith, s)) (omega (arith, n)))

-- with as many shares and groups of notes as seats, the markers that begin have these shares, in their order
pub begun_shares : (seats : List MarkerSeatView) (shares : List ShareState) (notes : List NotesState) → length shares ≡ length seats → length notes ≡ length seats
    → map (λ (m : Marker). m.share) (begun_with seats shares notes) ≡ shares
begun_shares [] [] notes s n = refl
begun_shares [] (h ∷ shares) notes s n = absurd (omega (arith, s))
begun_shares (v ∷ seats) [] notes s n = absurd (omega (arith, s))
begun_shares (v ∷ seats) (h ∷ shares) [] s n = absurd (omega (arith, n))
begun_shares (v ∷ seats) (h ∷ shares) (o ∷ notes) s n = ap (λ xs. h ∷ xs) (begun_shares seats shares notes (omega (arith, s)) (omega (arith, n)))

pub begun_notes : (seats : List MarkerSeatView) (shares : List ShareState) (notes : List NotesState) → length shares ≡ length seats → length notes ≡ length seats
    → map (λ (m : Marker). m.notes) (begun_with seats shares notes) ≡ notes
begun_notes [] shares [] s n = refl
begun_notes [] shares (o ∷ notes) s n = absurd (omega (arith, n))
begun_notes (v ∷ seats) [] notes s n = absurd (omega (arith, s))
begun_notes (v ∷ seats) (h ∷ shares) [] s n = absurd (omega (arith, n))
begun_notes (v ∷ seats) (h ∷ shares) (o ∷ notes) s n = ap (λ xs. o ∷ xs) (begun_notes seats shares notes (omega (arith, s)) (omega (arith, n)))

-- the marker at a position began with the seat, the share and the notes at that position
pub begun_at : (seats : List MarkerSeatView) (shares : List ShareState) (notes : List NotesState) (k : ℕ) (m : Marker) → k < length seats
    → length shares ≡ length seats → length notes ≡ length seats
    → get_or (begun_with seats shares notes) k m
    ≡ record { seat = get_or seats k m.seat; share = get_or shares k m.share; notes = get_or notes k m.notes }
begun_at [] shares notes k m low s n = absurd (omega (arith, low))
begun_at (v ∷ seats) [] notes k m low s n = absurd (omega (arith, s))
begun_at (v ∷ seats) (h ∷ shares) [] k m low s n = absurd (omega (arith, n))
begun_at (v ∷ seats) (h ∷ shares) (o ∷ notes) zero m low s n = refl
begun_at (v ∷ seats) (h ∷ shares) (o ∷ notes) (suc k) m low s n = begun_at seats shares notes k m (omega (arith, low)) (omega (arith, s)) (omega (arith, n))

-- what is true of each seat is true of each marker's
pub all_begun : (P : MarkerSeatView → Type 0) (seats : List MarkerSeatView) (shares : List ShareState) (notes : List NotesState) → All P seats
    → All (λ (m : Marker). P m.seat) (begun_with seats shares notes)
all_begun P [] shares notes all k d low = absurd (omega (arith, low))
all_begun P (v ∷ seats) [] notes all k d low = absurd (omega (arith, low))
all_begun P (v ∷ seats) (h ∷ shares) [] all k d low = absurd (omega (arith, low))
all_begun P (v ∷ seats) (h ∷ shares) (o ∷ notes) all zero d low = all 0 v (omega arith)
all_begun P (v ∷ seats) (h ∷ shares) (o ∷ notes) all (suc k) d low =
    all_begun P seats shares notes (λ i w l. all (suc i) w (omega (arith, l))) k d (omega (arith, low))

-- ---- seats that were joined

pub joined_last : (v : SeatView) (seats : List MarkerSeatView) (m : MarkerSeatView) → joined_with_all v (seats ++ m ∷ []) ≡ joined_with (joined_with_all v seats) m
joined_last v [] m = refl
joined_last v (n ∷ seats) m = joined_last (joined_with v n) seats m

-- what joining one seat leaves, joining all of them leaves
pub joined_same : {X : Type 0} (f : SeatView → X) → ((w : SeatView) (m : MarkerSeatView) → f (joined_with w m) ≡ f w) → (v : SeatView) (seats : List MarkerSeatView)
    → f (joined_with_all v seats) ≡ f v
joined_same f stays v [] = refl
joined_same f stays v (m ∷ seats) = joined_same f stays (joined_with v m) seats ∙ stays v m

-- what joining one seat adds, joining all of them adds
pub joined_adds : {X : Type 0} (f : SeatView → List X) (g : MarkerSeatView → List X) → ((w : SeatView) (m : MarkerSeatView) → f (joined_with w m) ≡ f w ++ g m)
    → (v : SeatView) (seats : List MarkerSeatView) → f (joined_with_all v seats) ≡ f v ++ flat_map g seats
joined_adds f g adds v [] = sym (append-nil (f v))
joined_adds f g adds v (m ∷ seats) =
    joined_adds f g adds (joined_with v m) seats ∙ ap (λ xs. xs ++ flat_map g seats) (adds v m) ∙ append_assoc (f v) (g m) (flat_map g seats)

-- the view before, with these marked, traced, noted, done and missed, and so many seats out
abbrev pub with_parts : SeatView → List ℕ → List ℕ → List (ℕ × ℕ) → List ℕ → List ℕ → ℕ → SeatView
with_parts v marked traced noted done missed lent =
    with_mutator v (record v.mutator { marked = marked; traced = traced; noted = noted; done = done; missed = missed; lent = lent })

-- nothing else has changed
pub joined_parts : (v : SeatView) (seats : List MarkerSeatView) → (w : SeatView) → w ≡ joined_with_all v seats
    → w ≡ with_parts v w.marked w.traced w.noted w.done w.missed w.lent
joined_parts v [] w is = subst (λ (x : SeatView). x ≡ with_parts v x.marked x.traced x.noted x.done x.missed x.lent) (sym is) refl
joined_parts v (m ∷ seats) w is = joined_parts (joined_with v m) seats w is

module _ (v : SeatView) (seats : List MarkerSeatView) where
  pub joined_heap : (joined_with_all v seats).heap ≡ v.heap
  joined_heap = joined_same (λ w. w.heap) (λ w m. refl) v seats

  pub joined_types : (joined_with_all v seats).types ≡ v.types
  joined_types = joined_same (λ w. w.types) (λ w m. refl) v seats

  pub joined_marked : (joined_with_all v seats).marked ≡ v.marked ++ flat_map (λ (m : MarkerSeatView). m.marked) seats
  joined_marked = joined_adds (λ w. w.marked) (λ (m : MarkerSeatView). m.marked) (λ w m. refl) v seats

  pub joined_traced : (joined_with_all v seats).traced ≡ v.traced ++ flat_map (λ (m : MarkerSeatView). m.traced) seats
  joined_traced = joined_adds (λ w. w.traced) (λ (m : MarkerSeatView). m.traced) (λ w m. refl) v seats

  pub joined_noted : (joined_with_all v seats).noted ≡ v.noted ++ flat_map (λ (m : MarkerSeatView). m.noted) seats
  joined_noted = joined_adds (λ w. w.noted) (λ (m : MarkerSeatView). m.noted) (λ w m. refl) v seats

  pub joined_done : (joined_with_all v seats).done ≡ v.done ++ flat_map (λ (m : MarkerSeatView). m.done) seats
  joined_done = joined_adds (λ w. w.done) (λ (m : MarkerSeatView). m.done) (λ w m. refl) v seats

  pub joined_missed : (joined_with_all v seats).missed ≡ v.missed ++ flat_map (λ (m : MarkerSeatView). m.missed) seats
  joined_missed = joined_adds (λ w. w.missed) (λ (m : MarkerSeatView). m.missed) (λ w m. refl) v seats

  pub joined_length : length (joined_with_all v seats).traced ≡ length v.traced + sum_by (λ (m : MarkerSeatView). length m.traced) seats
  joined_length =
      ap length joined_traced ∙ length-append v.traced (flat_map (λ (m : MarkerSeatView). m.traced) seats)
      ∙ ap (λ n. length v.traced + n) (length-flat_map (λ (m : MarkerSeatView). m.traced) seats)

pub joined_lent : (v : SeatView) (seats : List MarkerSeatView) → (joined_with_all v seats).lent ≡ v.lent - length seats
joined_lent v [] = omega arith
joined_lent v (m ∷ seats) = joined_lent (joined_with v m) seats ∙ omega arith

-- ---- what is in the lists of all

pub in_all : {X Y : Type 0} (f : Y → List X) (ys : List Y) (y : Y) (x : X) → Contains ys y → Contains (f y) x → Contains (flat_map f ys) x
in_all f [] y x there has = absurd (omega (arith, there.1))
in_all f (z ∷ ys) y x there has = elim (Contains-cons_cases z ys y there) [
  | inl is ↦ Contains-append_left (f z) (flat_map f ys) x (subst (λ w. Contains (f w) x) (sym is) has)
  | inr later ↦ Contains-append_right (f z) (flat_map f ys) x (in_all f ys y x later has)
]

pub of_all : {X Y : Type 0} (f : Y → List X) (ys : List Y) (x : X) → Contains (flat_map f ys) x → (y : Y) × Contains ys y × Contains (f y) x
of_all f [] x there = absurd (omega (arith, there.1))
of_all f (y ∷ ys) x there = elim (Contains-append_cases (f y) (flat_map f ys) x there) [
  | inl here ↦ (y, Contains-head y ys, here)
  | inr later ↦ (let w = of_all f ys x later in (w.0, Contains-cons y ys w.0 w.1, w.2))
]

-- what a view has after the seats were joined, it had before, or one of them has
pub joined_has : {X : Type 0} (before after : List X) (f : MarkerSeatView → List X) (seats : List MarkerSeatView) (x : X) → after ≡ before ++ flat_map f seats
    → Contains after x → Contains before x ⊎ ((m : MarkerSeatView) × Contains seats m × Contains (f m) x)
joined_has before after f seats x is there = elim (Contains-append_cases before (flat_map f seats) x (subst (λ xs. Contains xs x) is there)) [
  | inl was ↦ inl was
  | inr new ↦ inr (of_all f seats x new)
]

pub joined_keeps : {X : Type 0} (before after : List X) (f : MarkerSeatView → List X) (seats : List MarkerSeatView) (x : X) → after ≡ before ++ flat_map f seats
    → Contains before x → Contains after x
joined_keeps before after f seats x is was = subst (λ xs. Contains xs x) (sym is) (Contains-append_left before (flat_map f seats) x was)

pub joined_gets : {X : Type 0} (before after : List X) (f : MarkerSeatView → List X) (seats : List MarkerSeatView) (m : MarkerSeatView) (x : X)
    → after ≡ before ++ flat_map f seats → Contains seats m → Contains (f m) x → Contains after x
joined_gets before after f seats m x is there has =
    subst (λ xs. Contains xs x) (sym is) (Contains-append_right before (flat_map f seats) x (in_all f seats m x there has))

-- the same of places, as the views' own words ask for them
pub joined_holds : (before after : List ℕ) (f : MarkerSeatView → List ℕ) (seats : List MarkerSeatView) (a : ℕ) → after ≡ before ++ flat_map f seats
    → holds after a ≡ true → (holds before a ≡ true) ⊎ ((m : MarkerSeatView) × Contains seats m × (holds (f m) a ≡ true))
joined_holds before after f seats a is held = elim (joined_has before after f seats a is (in_from_holds after a held)) [
  | inl was ↦ inl (holds_from before a was)
  | inr new ↦ inr (new.0, new.1, holds_from (f new.0) a new.2)
]

pub joined_still_holds : (before after : List ℕ) (f : MarkerSeatView → List ℕ) (seats : List MarkerSeatView) (a : ℕ) → after ≡ before ++ flat_map f seats
    → holds before a ≡ true → holds after a ≡ true
joined_still_holds before after f seats a is held = holds_from after a (joined_keeps before after f seats a is (in_from_holds before a held))

pub joined_then_holds : (before after : List ℕ) (f : MarkerSeatView → List ℕ) (seats : List MarkerSeatView) (m : MarkerSeatView) (a : ℕ)
    → after ≡ before ++ flat_map f seats → Contains seats m → holds (f m) a ≡ true → holds after a ≡ true
joined_then_holds before after f seats m a is there held =
    holds_from after a (joined_gets before after f seats m a is there (in_from_holds (f m) a held))

-- ---- as many are counted as were traced

pub traced_counted : (began : List Marker) (ends : List Ending) → length ends ≡ length began
    → ((k : ℕ) (m : Marker) (e : Ending) → k < length ends → HasDrained (get_or began k m) (get_or ends k e))
    → sum_by (λ (e : Ending). e.drained.traced) ends + sum_by (λ (m : Marker). length m.seat.traced) began ≡ sum_by (λ (e : Ending). length e.seat.traced) ends
traced_counted [] [] many each = refl
traced_counted [] (e ∷ ends) many each = absurd (omega (arith, many))
traced_counted (m ∷ began) [] many each = absurd (omega (arith, many))
traced_counted (m ∷ began) (e ∷ ends) many each =
    omega (
      arith,
      (each 0 m e (omega arith)).works.counted,
      traced_counted began ends (omega (arith, many)) (λ k n f low. each (suc k) n f (omega (arith, low))),
      sum_by-cons (λ (x : Ending). x.drained.traced) e ends,
      sum_by-cons (λ (x : Marker). length x.seat.traced) m began,
      sum_by-cons (λ (x : Ending). length x.seat.traced) e ends,
    )

-- ---- the share of each marker is still one of its family

-- where each marker drained, each share still has the lists with which it began, and is even if it was
pub same_shares : (began : List Marker) (ends : List Ending) → length ends ≡ length began
    → ((k : ℕ) (m : Marker) (e : Ending) → k < length ends → HasDrained (get_or began k m) (get_or ends k e))
    → (k : ℕ) → k < length began → IsSameShare (at (map (λ (m : Marker). m.share) began) k) (at (map (λ (e : Ending). e.share) ends) k)
same_shares [] ends many each k low = absurd (omega (arith, low))
same_shares (m ∷ began) [] many each k low = absurd (omega (arith, many))
same_shares (m ∷ began) (e ∷ ends) many each zero low = (each 0 m e (omega arith)).works.later.lists
same_shares (m ∷ began) (e ∷ ends) many each (suc k) low =
    same_shares began ends (omega (arith, many)) (λ i n f l. each (suc i) n f (omega (arith, l))) k (omega (arith, low))
