-- Seats that are lent on the heap of two objects, and what stays while they are out.
use Rattle.std.proofs.Common.{◌≡◌, ℕ, ◌+◌, true, List, [], ◌∷◌, ◌++◌, length, map, drop, replicate, sym, ap, ◌∙◌, subst, arith}
use Rattle.std.specs.List.{All}
use Rattle.std.proofs.lemmas.List.{replicate-append-replicate, get_or-replicate, length-replicate, length-map, length-drop}
use Rattle.gc_graph.specs.State.{ObjectType}
use Rattle.marker_core.specs.Bodies.{IsPlace}
use Rattle.page_words.specs.Markers.{MarkerSeatView, new_marker, lent_from, joined_with}
use Rattle.page_words.specs.Seat.{SeatView}
use Rattle.page_space.specs.Space.{SpaceView}
use Rattle.pair_notes.specs.Notes.{no_notes}
use Rattle.mark_worklist.specs.Families.{at}
use Rattle.mark_worklist.specs.Joining.{AreAllShares}
use Rattle.mark_worklist.specs.Kept.{all-shares}
use Rattle.mark_worklist.specs.Shares.{ShareState, IsSameShare}
use Rattle.marker_crew.specs.declared.crew.CrewResult.{CrewResult}
use Rattle.marker_crew.specs.Crews.{CrewState, Ending, HasJoined, Marker, begun_with, started_with}
use Rattle.marker_crew.specs.Joined.{begun_many, begun_shares, same_shares}
use Rattle.marking_trials.specs.SmallHeap.{IsMarkingSmallHeap}
use Rattle.marking_trials.specs.Seats.{AreSharesOf, AreSameShares, IsNewSeat, new_crew}

pub one_more : (n : ℕ) (v w : SeatView) (m : MarkerSeatView) (xs : List MarkerSeatView) → xs ≡ replicate n (new_marker v) → m ≡ new_marker w → w.heap ≡ v.heap
    → w.types ≡ v.types → xs ++ m ∷ [] ≡ replicate (n + 1) (new_marker v)
one_more n v w m xs so_far is heap types =
    let same : m ≡ new_marker v =
    is ∙ ap (λ h. new_marker (record w { heap = h })) heap ∙ ap (λ t. new_marker (record w { heap = v.heap; types = t })) types in
    ap (λ ys. ys ++ m ∷ []) so_far ∙ ap (λ k. replicate n (new_marker v) ++ k ∷ []) same ∙ replicate-append-replicate n 1 (new_marker v)

-- each of the seats is new
pub all_new : (P : MarkerSeatView → Type 0) (n : ℕ) (v : SeatView) (seats : List MarkerSeatView) → seats ≡ replicate n (new_marker v) → P (new_marker v) → All P seats
all_new P n v seats are holds =
    subst (All P) (sym are) (λ k d low. subst P (sym (get_or-replicate n k (new_marker v) d (omega (arith, low, length-replicate n (new_marker v))))) holds)

pub as_many : (n : ℕ) (v : SeatView) (seats : List MarkerSeatView) → seats ≡ replicate n (new_marker v) → length seats ≡ n
as_many n v seats are = ap length are ∙ length-replicate n (new_marker v)

-- the crew brought the shares back that it began with
pub shares_back : (n : ℕ) (shares : List ShareState) (v : SeatView) (seats : List MarkerSeatView) (crew started new : CrewState) (before after : SeatView)
    (r : CrewResult) → length shares ≡ n → seats ≡ replicate n (new_marker v) → crew ≡ new_crew n → started ≡ started_with crew seats shares
    → HasJoined started before new after r → AreSameShares shares new.shares
shares_back n shares v seats crew started new before after r enough are fresh begun joined =
    let run : started.running ≡ begun_with seats shares (drop 1 crew.notes) = ap (λ (s : CrewState). s.running) begun in
    let many : length seats ≡ n = as_many n v seats are in
    let shares-many : length shares ≡ length seats = enough ∙ sym many in
    let groups-many : length (drop 1 crew.notes) ≡ length seats =
    omega (
      arith,
      many,
      ap (λ (s : CrewState). length (drop 1 s.notes)) fresh,
      length-drop 1 (replicate (n + 1) no_notes),
      length-replicate (n + 1) no_notes,
    ) in
    let began : List Marker = started.running in
    let long : length began ≡ length seats = ap length run ∙ begun_many seats shares (drop 1 crew.notes) shares-many groups-many in
    let are-shares : map (λ (m : Marker). m.share) began ≡ shares =
    ap (map (λ (m : Marker). m.share)) run ∙ begun_shares seats shares (drop 1 crew.notes) shares-many groups-many in
    let now : new.shares ≡ map (λ (e : Ending). e.share) joined.ends =
    joined.shares ∙ ap (λ (s : CrewState). s.shares ++ map (λ (e : Ending). e.share) joined.ends) begun in
    record {
      as_many = omega (arith, ap length now, length-map joined.ends (λ (e : Ending). e.share), joined.many, long, shares-many);
      each = λ k low.
          subst (λ xs. IsSameShare (at xs k) (at new.shares k)) are-shares
          (subst (λ xs. IsSameShare (at (map (λ (m : Marker). m.share) began) k) (at xs k)) (sym now)
          (same_shares began joined.ends joined.many joined.each k (omega (arith, low, long, shares-many))));
    }

-- these are all shares of the list
pub all_back : (n : ℕ) (list shares back : List ShareState) → AreSharesOf n list shares → AreSameShares shares back → AreAllShares list back
all_back n list shares back of same = all-shares n of.first shares list back of.fresh of.same same.as_many same.each

-- ---- marking goes on

pub still_marking : (space : SpaceView) (types : List ObjectType) (v w : SeatView) → w.heap ≡ v.heap → w.types ≡ v.types → w.on ≡ true → w.bodies ≡ v.bodies
    → IsMarkingSmallHeap space types v → IsMarkingSmallHeap space types w
still_marking space types v w heap same on bodies is = record {
  heap = heap ∙ is.heap;
  known = is.known ∙ sym same;
  on = on;
  other = subst (λ bs. IsPlace bs 256) (sym bodies) is.other;
}

pub lent_marking : (space : SpaceView) (types : List ObjectType) (v w : SeatView) → w ≡ lent_from v → IsMarkingSmallHeap space types v → IsMarkingSmallHeap space types w
lent_marking space types v w lent is =
    still_marking space types v w (ap (λ (x : SeatView). x.heap) lent) (ap (λ (x : SeatView). x.types) lent) (ap (λ (x : SeatView). x.on) lent ∙ is.on)
    (ap (λ (x : SeatView). x.bodies) lent) is

pub joined_marking : (space : SpaceView) (types : List ObjectType) (v w : SeatView) (m : MarkerSeatView) → w ≡ joined_with v m → IsMarkingSmallHeap space types v
    → IsMarkingSmallHeap space types w
joined_marking space types v w m joined is =
    still_marking space types v w (ap (λ (x : SeatView). x.heap) joined) (ap (λ (x : SeatView). x.types) joined) (ap (λ (x : SeatView). x.on) joined ∙ is.on)
    (ap (λ (x : SeatView). x.bodies) joined) is

-- a seat that was lent before
pub new_seat : (v w : SeatView) (m : MarkerSeatView) → m ≡ new_marker v → w.heap ≡ v.heap → w.types ≡ v.types → IsNewSeat w m
new_seat v w m is heap types = record {
  heap = ap (λ (x : MarkerSeatView). x.heap) is ∙ sym heap;
  types = ap (λ (x : MarkerSeatView). x.types) is ∙ sym types;
  hand = ap (λ (x : MarkerSeatView). x.hand) is;
}
